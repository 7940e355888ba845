use Rattle.key_ring.proofs.FileLaws.{read-is}
use Rattle.key_ring.proofs.reading.read_keys.Goals as goal

pub returns-in-Ok : goal.returns-in-Ok
returns-in-Ok c = read-is c.keys_of.result c.args.file.now c.in-Ok.tree c.in-Ok.ensures.tree c.keys_of.ensures
