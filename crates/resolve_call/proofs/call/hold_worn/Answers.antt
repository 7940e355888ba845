use Rattle.std.proofs.Common.{refl, ◌∙◌, sym}
use Rattle.resolve_call.proofs.CallLaws.{held-worn, none-worn}
use Rattle.resolve_call.proofs.call.hold_worn.Goals as goal

pub returns-then-is_worn : goal.returns-then-is_worn
returns-then-is_worn c = held-worn c.args.outcome.now.result c.args.pass _ (sym c.is_worn.ensures ∙ c.if-is_worn.true) c.requires.only refl

pub returns-else-is_worn : goal.returns-else-is_worn
returns-else-is_worn c = none-worn c.args.outcome.now.result _ (sym c.is_worn.ensures ∙ c.if-is_worn.false) c.requires.none
