use Rattle.std.proofs.Common.{◌≡◌, IfOk, true, subst}
use Rattle.std.proofs.lemmas.Result.{IfOk-weaker, err_from_is_err_and}
use Rattle.jws_form.proofs.Laws.{IsCompact-whole}
use Rattle.sealed.specs.Seals.{pair_of}
use Rattle.resolve_round.specs.Knowing.{IsAnswer, IsKnownGood}
use Rattle.resolve_round.specs.Testing.{StaysProved, StaysTrue}
use Rattle.resolve_round.proofs.CallLaws.{tests-none, tests-stop}
use Rattle.resolve_search.proofs.judging.text_verifies.Goals as goal

-- ---- memory was wanting as the text was taken apart

pub returns-in_err-compact-clause-tests : goal.returns-in_err-compact-clause-tests
returns-in_err-compact-clause-tests g c =
    let p = err_from_is_err_and c.from_residual.result c.from_residual.ensures.1 in
    rw (p.1, p.2) (tests-stop g.G.Ledger.count c.args.call.now c.args.call.now true (tests-none g.G.Ledger.count c.args.call.now true c.requires.of))

pub returns-in_err-compact-clause-stays_known : goal.returns-in_err-compact-clause-stays_known
returns-in_err-compact-clause-stays_known g c = λ pair known. known

pub returns-in_err-compact-clause-stays_true : goal.returns-in_err-compact-clause-stays_true
returns-in_err-compact-clause-stays_true g c = λ age search may holds. holds

-- ---- it was tested, or is known

pub verifies-requires-clause-compact : goal.verifies-requires-clause-compact
verifies-requires-clause-compact g c = IsCompact-whole c.args.text.now c.in_ok-compact.compact c.in_ok-compact.ensures

pub returns-clause-answer : goal.returns-clause-answer
returns-clause-answer g c = subst (λ t. IfOk c.verifies.result (IsAnswer (pair_of t c.args.public.now))) c.in_ok-compact.ensures.whole_is c.verifies.ensures.answer

pub returns-clause-good : goal.returns-clause-good
returns-clause-good g c =
    subst (λ t. IfOk c.verifies.result (λ good. good ≡ true → IsKnownGood c.verifies.new.call.trace.now (pair_of t c.args.public.now))) c.in_ok-compact.ensures.whole_is c.verifies.ensures.good

pub returns-clause-stays_true : goal.returns-clause-stays_true
returns-clause-stays_true g c =
    subst (λ t. StaysTrue c.args.url.now (pair_of t c.args.public.now) c.args.call.now.trace.now c.verifies.new.call.trace.now) c.in_ok-compact.ensures.whole_is c.verifies.ensures.stays_true

pub returns-clause-proved : goal.returns-clause-proved
returns-clause-proved g c =
    IfOk-weaker c.verifies.result _ _
    (λ _ stays. subst (λ t. StaysProved c.args.url.now (pair_of t c.args.public.now) c.args.call.now.trace.now c.verifies.new.call.trace.now) c.in_ok-compact.ensures.whole_is stays) c.verifies.ensures.proved
