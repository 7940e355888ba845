use Rattle.key_ring.proofs.FileLaws.{migrated}
use Rattle.key_ring.proofs.laws.migrates.Goals as goal

pub returns : goal.returns
returns c = migrated
