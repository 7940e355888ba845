use Rattle.std.proofs.Common.{Ok, Err, subst}
use Rattle.key_ring.specs.Files.{Opens}
use Rattle.rehearsal.proofs.RingLaws.{opened, opens}
use Rattle.rehearsal.proofs.keys.open_first.Goals as goal

pub returns-in-Ok : goal.returns-in-Ok
returns-in-Ok c = opened c.args.key c.args.file.now c.in-Ok.ring c.requires (subst (λ bytes. Opens bytes (Ok c.in-Ok.ring)) c.as_slice.ensures c.in-Ok.ensures)

pub wanting-requires : goal.wanting-requires
wanting-requires c = opens c.args.key c.args.file.now c.in-Err.fault c.requires (subst (λ bytes. Opens bytes (Err c.in-Err.fault)) c.as_slice.ensures c.in-Err.ensures)
