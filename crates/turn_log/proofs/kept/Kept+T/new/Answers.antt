use Rattle.std.proofs.Common.{sym, ap, subst, List, [], ◌∷◌, Some}
use Rattle.turn_log.specs.Rule.{TurnInvariant}
use Rattle.turn_log.specs.Views.{first_view}
use Rattle.atomic_table.specs.Table.{opening}
use Rattle.turn_log.proofs.Steps.{starts}
use Rattle.turn_log.proofs.kept.Kept+T.new.Goals as goal

pub new-requires : goal.new-requires
new-requires g c =
    subst (λ (xs : List _). TurnInvariant g.T.Sequential.steps (opening (0 ∷ 0 ∷ []) xs (first_view c.of-origin.result.value))) (sym c.in_ok-slots.ensures) (starts g.T.Sequential.steps c.of-origin.result.value _ (ap Some (sym c.of-origin.ensures)))
