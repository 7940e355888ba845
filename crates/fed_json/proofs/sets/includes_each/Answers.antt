use Rattle.std.proofs.Common.{◌≡◌, ◌∙◌, Bool, sym, ap, subst}
use Rattle.std.specs.Bool.{Decides}
use Rattle.std.specs.List.{All, Contains}
use Rattle.std.proofs.lemmas.Result.{IfOk-weaker}
use Rattle.fed_json.specs.Sets.{are_among}
use Rattle.fed_json.proofs.Among.{are_among-Decides}
use Rattle.fed_json.proofs.sets.includes_each.Goals as goal

pub returns-clause-members : goal.returns-clause-members
returns-clause-members c =
    IfOk-weaker c.holds_all.result (λ all. all ≡ are_among c.args.list.now c.as_slice.result.now) (λ all. Decides all (All (Contains c.args.list.now) c.args.part.now))
    (λ all is. subst (λ (b : Bool). Decides b (All (Contains c.args.list.now) c.args.part.now)) (sym (is ∙ ap (are_among c.args.list.now) c.as_slice.ensures)) (are_among-Decides c.args.list.now c.args.part.now))
    c.holds_all.ensures
