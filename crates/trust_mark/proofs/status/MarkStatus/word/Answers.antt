use Rattle.std.proofs.Common.{rules}
use Rattle.trust_mark.proofs.status.MarkStatus.word.Goals as goal

pub returns-in-Revoked : goal.returns-in-Revoked
returns-in-Revoked c = search rules
