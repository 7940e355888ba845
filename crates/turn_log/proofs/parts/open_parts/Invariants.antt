use Rattle.std.proofs.Common.{◌≡◌, ℕ, length}
use Rattle.turn_log.specs.Parts.{AllOwned, ArePasses, account_at}
use Rattle.turn_log.specs.Passes.{unused}
use Rattle.turn_log.proofs.parts.open_parts.Given as goal

abbrev pub invariant-loop : goal.invariant-loop
invariant-loop g l = ArePasses g.T.Sequential.steps g.T.Opening.opening l.objects.items l.passes.items × AllOwned l.passes.items × (length l.objects.items ≡ l.counter) × ((n : ℕ) → account_at l.passes.items n ≡ unused)
