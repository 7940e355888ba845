use Rattle.std.proofs.Common.{◌≡◌, not, drop}
use Rattle.std.specs.List.{find}
use Rattle.std.specs.Option.{option_copied}
use Rattle.policy_merge.specs.Combining.{Pair, stand}
use Rattle.policy_merge.proofs.combining.first_apart.Given as goal

abbrev pub invariant-loop-first : goal.invariant-loop-first
invariant-loop-first l =
    let p = λ (pair : Pair). not (stand (record { operators = l.operators; value_members = option_copied l.fn.value_members; default_members = option_copied l.fn.default_members }) pair.0 pair.1) in
    find p l.pairs ≡ find p (drop l.first-index l.pairs)
