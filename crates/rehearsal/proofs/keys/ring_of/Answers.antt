use Rattle.std.proofs.Common.{◌+◌, Err, subst}
use Rattle.fed_base.specs.declared.algorithm.Alg.TheVariants.{Small}
use Rattle.key_ring.specs.Files.{IsFirstFile}
use Rattle.rehearsal.specs.Moments.{lifetime, moment}
use Rattle.rehearsal.proofs.RingLaws.{made}
use Rattle.rehearsal.proofs.keys.ring_of.Goals as goal

pub wanting-requires : goal.wanting-requires
wanting-requires c = made c.args.key c.in-Err.fault (subst (λ seeds. IsFirstFile Small seeds moment (moment + lifetime) (Err c.in-Err.fault)) c.seeds_of.ensures c.in-Err.ensures)
