use Rattle.std.proofs.Common.{Err, subst}
use Rattle.key_ring.specs.Files.{Opens}
use Rattle.node_files.proofs.NodeLaws.{not_opened}
use Rattle.node_files.proofs.opening.read_ring.Goals as goal

pub returns-clause-ring : goal.returns-clause-ring
returns-clause-ring c = λ files.
    rw c.fault_of.ensures (not_opened c.args.bytes c.in-Err.fault files (subst (λ bytes. Opens bytes (Err c.in-Err.fault)) c.as_slice.ensures c.in-Err.ensures))
