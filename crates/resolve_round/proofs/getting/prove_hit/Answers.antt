use Rattle.std.proofs.Common.{◌≡◌, take, refl, ◌∙◌, inl, inr, rules}
use Rattle.std.proofs.lemmas.Result.{IfOk-weaker}
use Rattle.resolve_round.specs.Placing.{some_placed}
use Rattle.resolve_round.proofs.CallLaws.{cache-none}
use Rattle.resolve_round.proofs.PlacingLaws.{placed-some}
use Rattle.resolve_round.proofs.ProvingLaws.{adds-none}
use Rattle.resolve_round.proofs.getting.prove_hit.Goals as goal

pub returns-then-is_placed-clause-uses : goal.returns-then-is_placed-clause-uses
returns-then-is_placed-clause-uses g c = cache-none c.args.call.now _ c.requires.of

pub returns-then-is_placed-clause-only : goal.returns-then-is_placed-clause-only
returns-then-is_placed-clause-only g c = adds-none c.args.call.now.trace.now.checks c.args.call.now.trace.now.events c.args.call.now.trace.now.events refl

pub returns-then-is_placed-clause-proved : goal.returns-then-is_placed-clause-proved
returns-then-is_placed-clause-proved g c =
    let some : some_placed c.args.url.now c.args.text.now (take c.args.before c.args.call.now.trace.now.events) ≡ c.is_placed.result = search rules in
    inl (placed-some c.args.url.now c.args.text.now (take c.args.before c.args.call.now.trace.now.events) (some ∙ c.if-is_placed.true), refl)

pub returns-clause-proved : goal.returns-clause-proved
returns-clause-proved g c = IfOk-weaker c.prove_tested.result _ _ (λ _ each. inr each) c.prove_tested.ensures.proved
