use Rattle.std.proofs.Common.{rules}
use Rattle.http_messages.proofs.plan.body_length.Goals as goal

pub returns-then-is_get-2 : goal.returns-then-is_get-2
returns-then-is_get-2 c = search rules
