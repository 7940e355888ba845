use Rattle.std.proofs.Common.{◌≡◌, ℕ, List, [], ◌∷◌, ◌++◌, length, Bool, refl, ap, ◌∙◌}
use Rattle.std.specs.Prelude.{slice_set}
use Rattle.sealed.specs.Seals.{pair_of}
use Rattle.resolve_round.specs.declared.trace.Check.{Check}
use Rattle.resolve_round.specs.Testing.{check_of, is_yes}
use Rattle.resolve_round.proofs.Lasts.{last-within, popped-last, put-last}
use Rattle.resolve_round.proofs.TestingLaws.{counts-none, counts-one}
use Rattle.resolve_round.proofs.tests.test.Goals as goal

-- the check stands in the room that was taken
added : (old pushed new : List Check) (x : Check) (at : ℕ) (text whole public : List ℕ) (good said : Bool) → at ≡ length old → pushed ≡ old ++ x ∷ [] → new ≡ slice_set pushed at (check_of (pair_of text public) good)
    → text ≡ whole → good ≡ said → new ≡ old ++ check_of (pair_of whole public) said ∷ []
added old pushed new x at text whole public good said place push is same answer =
    put-last old pushed new x (check_of (pair_of text public) good) at place push is ∙ ap (λ t. old ++ check_of (pair_of t public) good ∷ []) same ∙ ap (λ b. old ++ check_of (pair_of whole public) b ∷ []) answer

pub set-requires : goal.set-requires
set-requires g c = last-within c.args.checks.now c.push.new.self _ c.len-at.result c.len-at.ensures c.in_ok-push.ensures.ok

pub returns-in_err-text-clause-counted : goal.returns-in_err-text-clause-counted
returns-in_err-text-clause-counted g c = counts-none c.args.checks.now c.args.checks.now _ _ refl refl

pub returns-in_err-push-clause-counted : goal.returns-in_err-push-clause-counted
returns-in_err-push-clause-counted g c = counts-none c.args.checks.now c.push.new.self _ _ c.in_err-push.ensures.err refl

pub returns-in-Ok-clause-ok : goal.returns-in-Ok-clause-ok
returns-in-Ok-clause-ok g c =
    added c.args.checks.now c.push.new.self c.set.new.self _ c.len-at.result c.in_ok-text.text c.args.compact.now.whole c.args.public.now c.is_good-good.result (is_yes c.in-Ok.tested) c.len-at.ensures
    c.in_ok-push.ensures.ok c.set.ensures c.in_ok-text.ensures c.is_good-good.ensures

pub returns-in-Ok-clause-counted : goal.returns-in-Ok-clause-counted
returns-in-Ok-clause-counted g c =
    counts-one c.args.checks.now c.set.new.self (check_of (pair_of c.args.compact.now.whole c.args.public.now) (is_yes c.in-Ok.tested)) _ _
    (added c.args.checks.now c.push.new.self c.set.new.self _ c.len-at.result c.in_ok-text.text c.args.compact.now.whole c.args.public.now c.is_good-good.result (is_yes c.in-Ok.tested) c.len-at.ensures
    c.in_ok-push.ensures.ok c.set.ensures c.in_ok-text.ensures c.is_good-good.ensures)
    c.in-Ok.ensures.counted

pub returns-in-Err-clause-err : goal.returns-in-Err-clause-err
returns-in-Err-clause-err g c = popped-last c.args.checks.now c.push.new.self c.pop.new.self _ c.pop.result c.in_ok-push.ensures.ok c.pop.ensures

pub returns-in-Err-clause-counted : goal.returns-in-Err-clause-counted
returns-in-Err-clause-counted g c =
    counts-none c.args.checks.now c.pop.new.self _ _ (popped-last c.args.checks.now c.push.new.self c.pop.new.self _ c.pop.result c.in_ok-push.ensures.ok c.pop.ensures) c.in-Err.ensures.counted
