use Rattle.std.proofs.Common.{◌≡◌, ◌∙◌, sym, ap, subst, true}
use Rattle.policy_merge.specs.Policies.{types_formed}
use Rattle.fed_base.specs.Answers.{unless}
use Rattle.policy_merge.specs.Combining.{Gives, conflict_in}
use Rattle.policy_merge.proofs.Least.{combined_first}
use Rattle.policy_merge.proofs.ConflictNames.{combined-utf8}
use Rattle.policy_merge.proofs.policy.Policy.combined.Goals as goal

pub returns-clause-first : goal.returns-clause-first
returns-clause-first c =
    combined_first c.args.self.now _ (ap types_formed (sym c.self.view_is) ∙ c.self.invariant)
    (subst (λ us. Gives c.types_combined.result (unless (conflict_in us) tt)) (c.as_slice.ensures ∙ c.self.view_is) c.types_combined.ensures)

pub returns-clause-utf8 : goal.returns-clause-utf8
returns-clause-utf8 c =
    let good : types_formed c.args.self.now ≡ true = ap types_formed (sym c.self.view_is) ∙ c.self.invariant in
    combined-utf8 c.args.self.now _ good (combined_first c.args.self.now _ good
    (subst (λ us. Gives c.types_combined.result (unless (conflict_in us) tt)) (c.as_slice.ensures ∙ c.self.view_is) c.types_combined.ensures))
