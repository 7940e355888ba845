use Rattle.std.proofs.Common.{rules}
use Rattle.key_ring.proofs.key.may_follow.Goals as goal

pub returns-in-Revoked : goal.returns-in-Revoked
returns-in-Revoked c = search rules
