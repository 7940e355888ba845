use Rattle.std.proofs.Common.{◌≡◌, drop}
use Rattle.sealed.specs.Seals.{pair_of}
use Rattle.resolve_round.specs.Knowing.{answer_in}
use Rattle.resolve_round.proofs.known.checked.Given as goal

abbrev pub invariant-loop-check : goal.invariant-loop-check
invariant-loop-check l = answer_in l.checks (pair_of l.text l.public) ≡ answer_in (drop l.check-index l.checks) (pair_of l.text l.public)
