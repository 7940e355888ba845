use Rattle.std.proofs.Common.{◌++◌, ◌∷◌, [], sym, ap, ◌∙◌}
use Rattle.chain_check.proofs.Overrides.{over-end, over-more, over-same}
use Rattle.authority_core.proofs.metadata.members_over.Goals as goal

pub loop-side-preserved-in_ok-push : goal.loop-side-preserved-in_ok-push
loop-side-preserved-in_ok-push c =
    let side = c.in-Some.side in (
      over-more _ _ _ _ _ side.upper side.lower c.in-Some-or.member _ _ _ c.in-Some.ensures.side (sym c.or.ensures ∙ c.in-Some-or.is) c.loop-side.invariant.0
          (c.in_ok-push.ensures.ok ∙ ap (λ x. c.loop-side.all ++ x ∷ []) c.in_ok-copy.ensures),
      c.in-Some.ensures.upper_rises,
      c.in-Some.ensures.lower_rises,
    )

pub loop-side-preserved : goal.loop-side-preserved
loop-side-preserved c =
    let side = c.in-Some.side in (
      over-same _ _ _ _ _ side.upper side.lower _ _ c.in-Some.ensures.side (sym c.or.ensures ∙ c.in_default-or.is) c.loop-side.invariant.0,
      c.in-Some.ensures.upper_rises,
      c.in-Some.ensures.lower_rises,
    )

pub returns : goal.returns
returns c = over-end _ _ _ _ c.in_default.ensures.side c.loop-side.invariant.0
