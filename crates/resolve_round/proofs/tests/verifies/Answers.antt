use Rattle.std.proofs.Common.{◌≡◌, List, ℕ, Bool, true, false, Option, Some, None, refl, sym, ap, ◌∙◌}
use Rattle.std.proofs.lemmas.Result.{err_from_is_err_and}
use Rattle.sealed.specs.Answers.{IsTested}
use Rattle.sealed.specs.Seals.{pair_of}
use Rattle.sealed.specs.declared.tested.Tested.TheVariants.{Yes, No}
use Rattle.statement_shelf.specs.declared.calls.ShelfCall.TheVariants.{Prove}
use Rattle.resolve_round.specs.declared.trace.Trace.{Trace}
use Rattle.resolve_round.specs.Knowing.{known_of}
use Rattle.resolve_round.specs.Testing.{check_of}
use Rattle.resolve_round.proofs.CallLaws.{acted-still, tests-none}
use Rattle.resolve_round.proofs.KnowingLaws.{known-is, unknown-is}
use Rattle.resolve_round.proofs.ProvingLaws.{prove-recorded}
use Rattle.resolve_round.proofs.TestingLaws.{known-both, known-check, known-more, known-none, only-both, only-check, only-none, proved-bad, proved-both, same-trace, tested-answer, true-both, true-check, true-none}
use Rattle.resolve_round.proofs.TraceLaws.{with_check, with_prove}
use Rattle.resolve_round.proofs.tests.verifies.Goals as goal

-- what the trace shows of the pair, by the text as it was lent
shown : (t : Trace) (text whole public : List ℕ) (found : Option Bool) (is : Option Bool) → found ≡ known_of t (pair_of text public) → text ≡ whole → found ≡ is → known_of t (pair_of whole public) ≡ is
shown t text whole public found is exact same gives = ap (λ x. known_of t (pair_of x public)) (sym same) ∙ sym exact ∙ gives

-- ---- what is known

pub returns-in-Some-clause-tests : goal.returns-in-Some-clause-tests
returns-in-Some-clause-tests g c = tests-none g.G.Ledger.count c.args.call.now c.in-Some.good c.requires.of

pub returns-in-Some-clause-answer : goal.returns-in-Some-clause-answer
returns-in-Some-clause-answer g c =
    let gives = shown c.args.call.now.trace.now c.as_slice.result.now c.args.compact.now.whole c.args.public.now c.known_answer.result (Some c.in-Some.good) c.known_answer.ensures c.as_slice.ensures c.in-Some.is in
    (known-is c.args.call.now.trace.now c.args.compact.now c.args.public.now c.requires.compact c.requires.answers c.in-Some.good gives).0

pub returns-in-Some-clause-good : goal.returns-in-Some-clause-good
returns-in-Some-clause-good g c =
    let gives = shown c.args.call.now.trace.now c.as_slice.result.now c.args.compact.now.whole c.args.public.now c.known_answer.result (Some c.in-Some.good) c.known_answer.ensures c.as_slice.ensures c.in-Some.is in
    (known-is c.args.call.now.trace.now c.args.compact.now c.args.public.now c.requires.compact c.requires.answers c.in-Some.good gives).1

pub returns-in-Some-clause-stays_true : goal.returns-in-Some-clause-stays_true
returns-in-Some-clause-stays_true g c = λ age search may holds. holds

pub returns-in-Some-clause-stays_known : goal.returns-in-Some-clause-stays_known
returns-in-Some-clause-stays_known g c = λ pair known. known

pub returns-in-Some-clause-proved : goal.returns-in-Some-clause-proved
returns-in-Some-clause-proved g c = λ search obtained good. good

-- ---- memory was wanting in the test

pub returns-in_err-seal-clause-tests : goal.returns-in_err-seal-clause-tests
returns-in_err-seal-clause-tests g c =
    let p = err_from_is_err_and c.from_residual.result c.from_residual.ensures.1 in
    rw (p.1, p.2) (record {
      acts = (acted-still c.args.call.now _ (record { commons = refl; pass = refl; trace = refl; steps = refl }) c.requires.of refl refl, tt);
      only = only-none c.args.call.now.trace.now c.args.url.now (pair_of c.args.compact.now.whole c.args.public.now) _ (same-trace _ c.args.call.now.trace.now refl refl refl refl refl c.in_err-seal.ensures.err refl);
      counted = c.in_err-seal.ensures.counted;
    })

pub returns-in_err-seal-clause-stays_true : goal.returns-in_err-seal-clause-stays_true
returns-in_err-seal-clause-stays_true g c =
    true-none c.args.call.now.trace.now c.args.url.now (pair_of c.args.compact.now.whole c.args.public.now) _ (same-trace _ c.args.call.now.trace.now refl refl refl refl refl c.in_err-seal.ensures.err refl)

pub returns-in_err-seal-clause-stays_known : goal.returns-in_err-seal-clause-stays_known
returns-in_err-seal-clause-stays_known g c =
    known-none c.args.call.now.trace.now c.args.url.now (pair_of c.args.compact.now.whole c.args.public.now) _ (same-trace _ c.args.call.now.trace.now refl refl refl refl refl c.in_err-seal.ensures.err refl)

-- ---- it verifies

pub returns-in_err-url-in-Yes-clause-tests : goal.returns-in_err-url-in-Yes-clause-tests
returns-in_err-url-in-Yes-clause-tests g c =
    let p = err_from_is_err_and c.from_residual-in_err-url-in-Yes.result c.from_residual-in_err-url-in-Yes.ensures.1 in
    let pair = pair_of c.args.compact.now.whole c.args.public.now in
    let checks = rw c.in-Yes.is at c.in_ok-seal.ensures.ok in
    rw (p.1, p.2) (record {
      acts = (acted-still c.args.call.now _ (record { commons = refl; pass = refl; trace = refl; steps = refl }) c.requires.of refl refl, tt);
      only = only-check c.args.call.now.trace.now c.args.url.now pair _ true (same-trace _ (with_check c.args.call.now.trace.now (check_of pair true)) refl refl refl refl refl checks refl);
      counted = c.in_ok-seal.ensures.counted;
    })

pub returns-in_err-url-in-Yes-clause-stays_true : goal.returns-in_err-url-in-Yes-clause-stays_true
returns-in_err-url-in-Yes-clause-stays_true g c =
    let pair = pair_of c.args.compact.now.whole c.args.public.now in
    let checks = rw c.in-Yes.is at c.in_ok-seal.ensures.ok in
    let tested : IsTested c.args.compact.now c.args.public.now (Yes c.in-Yes.seal) = rw c.in-Yes.is at c.in_ok-seal.ensures.tested in
    let gives = shown c.args.call.now.trace.now c.as_slice.result.now c.args.compact.now.whole c.args.public.now c.known_answer.result None c.known_answer.ensures c.as_slice.ensures c.in_default.is in
    let unknown = unknown-is c.args.call.now.trace.now c.args.compact.now c.args.public.now c.requires.compact c.requires.answers gives in
    true-check c.args.call.now.trace.now c.args.url.now pair _ true (same-trace _ (with_check c.args.call.now.trace.now (check_of pair true)) refl refl refl refl refl checks refl)
    (tested-answer c.args.compact.now c.args.public.now (Yes c.in-Yes.seal) c.requires.compact tested) unknown.0 unknown.1

pub returns-in_err-url-in-Yes-clause-stays_known : goal.returns-in_err-url-in-Yes-clause-stays_known
returns-in_err-url-in-Yes-clause-stays_known g c =
    let pair = pair_of c.args.compact.now.whole c.args.public.now in
    let checks = rw c.in-Yes.is at c.in_ok-seal.ensures.ok in
    known-check c.args.call.now.trace.now c.args.url.now pair _ true (same-trace _ (with_check c.args.call.now.trace.now (check_of pair true)) refl refl refl refl refl checks refl)

pub returns-in_err-record_call-in-Yes-clause-tests : goal.returns-in_err-record_call-in-Yes-clause-tests
returns-in_err-record_call-in-Yes-clause-tests g c =
    let p = err_from_is_err_and c.from_residual-in_err-record_call-in-Yes.result c.from_residual-in_err-record_call-in-Yes.ensures.1 in
    let pair = pair_of c.args.compact.now.whole c.args.public.now in
    let checks = rw c.in-Yes.is at c.in_ok-seal.ensures.ok in
    rw (p.1, p.2) (record {
      acts = (record { parts = record { commons = refl; pass = refl; trace = refl; steps = refl }; kept = c.in_err-record_call-in-Yes.ensures.kept; continues = c.in_err-record_call-in-Yes.ensures.continues }, c.in_err-record_call-in-Yes.ensures.halt);
      only =
          only-check c.args.call.now.trace.now c.args.url.now pair _ true
          (same-trace _ (with_check c.args.call.now.trace.now (check_of pair true)) refl refl refl refl refl checks c.in_err-record_call-in-Yes.ensures.err);
      counted = c.in_ok-seal.ensures.counted;
    })

pub returns-in_err-record_call-in-Yes-clause-stays_true : goal.returns-in_err-record_call-in-Yes-clause-stays_true
returns-in_err-record_call-in-Yes-clause-stays_true g c =
    let pair = pair_of c.args.compact.now.whole c.args.public.now in
    let checks = rw c.in-Yes.is at c.in_ok-seal.ensures.ok in
    let tested : IsTested c.args.compact.now c.args.public.now (Yes c.in-Yes.seal) = rw c.in-Yes.is at c.in_ok-seal.ensures.tested in
    let gives = shown c.args.call.now.trace.now c.as_slice.result.now c.args.compact.now.whole c.args.public.now c.known_answer.result None c.known_answer.ensures c.as_slice.ensures c.in_default.is in
    let unknown = unknown-is c.args.call.now.trace.now c.args.compact.now c.args.public.now c.requires.compact c.requires.answers gives in
    true-check c.args.call.now.trace.now c.args.url.now pair _ true
    (same-trace _ (with_check c.args.call.now.trace.now (check_of pair true)) refl refl refl refl refl checks c.in_err-record_call-in-Yes.ensures.err)
    (tested-answer c.args.compact.now c.args.public.now (Yes c.in-Yes.seal) c.requires.compact tested) unknown.0 unknown.1

pub returns-in_err-record_call-in-Yes-clause-stays_known : goal.returns-in_err-record_call-in-Yes-clause-stays_known
returns-in_err-record_call-in-Yes-clause-stays_known g c =
    let pair = pair_of c.args.compact.now.whole c.args.public.now in
    let checks = rw c.in-Yes.is at c.in_ok-seal.ensures.ok in
    known-check c.args.call.now.trace.now c.args.url.now pair _ true
    (same-trace _ (with_check c.args.call.now.trace.now (check_of pair true)) refl refl refl refl refl checks c.in_err-record_call-in-Yes.ensures.err)

pub returns-in-Yes-clause-answer : goal.returns-in-Yes-clause-answer
returns-in-Yes-clause-answer g c =
    let tested : IsTested c.args.compact.now c.args.public.now (Yes c.in-Yes.seal) = rw c.in-Yes.is at c.in_ok-seal.ensures.tested in
    tested-answer c.args.compact.now c.args.public.now (Yes c.in-Yes.seal) c.requires.compact tested

pub returns-in-Yes-clause-good : goal.returns-in-Yes-clause-good
returns-in-Yes-clause-good g c =
    let pair = pair_of c.args.compact.now.whole c.args.public.now in
    let checks = rw c.in-Yes.is at c.in_ok-seal.ensures.ok in
    let tested : IsTested c.args.compact.now c.args.public.now (Yes c.in-Yes.seal) = rw c.in-Yes.is at c.in_ok-seal.ensures.tested in
    let proved = prove-recorded c.args.call.now.trace.now.events c.record_call.new.events c.args.url.now c.in_ok-url-in-Yes.url c.in-Yes.seal (check_of pair true) (Prove c.in_ok-url-in-Yes.url c.in-Yes.seal) c.in_ok-url-in-Yes.ensures tested.0 refl c.in_ok-record_call-in-Yes.ensures.ok in
    λ aye. known-both c.args.call.now.trace.now c.args.url.now pair proved.0 _ (same-trace _ (with_prove (with_check c.args.call.now.trace.now (check_of pair true)) c.args.url.now pair proved.0) refl refl refl refl refl checks proved.1)

pub returns-in-Yes-clause-tests : goal.returns-in-Yes-clause-tests
returns-in-Yes-clause-tests g c =
    let pair = pair_of c.args.compact.now.whole c.args.public.now in
    let checks = rw c.in-Yes.is at c.in_ok-seal.ensures.ok in
    let tested : IsTested c.args.compact.now c.args.public.now (Yes c.in-Yes.seal) = rw c.in-Yes.is at c.in_ok-seal.ensures.tested in
    let proved = prove-recorded c.args.call.now.trace.now.events c.record_call.new.events c.args.url.now c.in_ok-url-in-Yes.url c.in-Yes.seal (check_of pair true) (Prove c.in_ok-url-in-Yes.url c.in-Yes.seal) c.in_ok-url-in-Yes.ensures tested.0 refl c.in_ok-record_call-in-Yes.ensures.ok in
    record {
      acts = record { parts = record { commons = refl; pass = refl; trace = refl; steps = refl }; kept = c.in_ok-record_call-in-Yes.ensures.kept; continues = c.in_ok-record_call-in-Yes.ensures.continues };
      only = only-both c.args.call.now.trace.now c.args.url.now pair proved.0 _ (same-trace _ (with_prove (with_check c.args.call.now.trace.now (check_of pair true)) c.args.url.now pair proved.0) refl refl refl refl refl checks proved.1);
      counted = c.in_ok-seal.ensures.counted;
    }

pub returns-in-Yes-clause-stays_true : goal.returns-in-Yes-clause-stays_true
returns-in-Yes-clause-stays_true g c =
    let pair = pair_of c.args.compact.now.whole c.args.public.now in
    let checks = rw c.in-Yes.is at c.in_ok-seal.ensures.ok in
    let tested : IsTested c.args.compact.now c.args.public.now (Yes c.in-Yes.seal) = rw c.in-Yes.is at c.in_ok-seal.ensures.tested in
    let proved = prove-recorded c.args.call.now.trace.now.events c.record_call.new.events c.args.url.now c.in_ok-url-in-Yes.url c.in-Yes.seal (check_of pair true) (Prove c.in_ok-url-in-Yes.url c.in-Yes.seal) c.in_ok-url-in-Yes.ensures tested.0 refl c.in_ok-record_call-in-Yes.ensures.ok in
    let gives = shown c.args.call.now.trace.now c.as_slice.result.now c.args.compact.now.whole c.args.public.now c.known_answer.result None c.known_answer.ensures c.as_slice.ensures c.in_default.is in
    let unknown = unknown-is c.args.call.now.trace.now c.args.compact.now c.args.public.now c.requires.compact c.requires.answers gives in
    true-both c.args.call.now.trace.now c.args.url.now pair proved.0 _ (same-trace _ (with_prove (with_check c.args.call.now.trace.now (check_of pair true)) c.args.url.now pair proved.0) refl refl refl refl refl checks proved.1)
    (tested-answer c.args.compact.now c.args.public.now (Yes c.in-Yes.seal) c.requires.compact tested) unknown.0 unknown.1

pub returns-in-Yes-clause-stays_known : goal.returns-in-Yes-clause-stays_known
returns-in-Yes-clause-stays_known g c =
    let pair = pair_of c.args.compact.now.whole c.args.public.now in
    let checks = rw c.in-Yes.is at c.in_ok-seal.ensures.ok in
    let tested : IsTested c.args.compact.now c.args.public.now (Yes c.in-Yes.seal) = rw c.in-Yes.is at c.in_ok-seal.ensures.tested in
    let proved = prove-recorded c.args.call.now.trace.now.events c.record_call.new.events c.args.url.now c.in_ok-url-in-Yes.url c.in-Yes.seal (check_of pair true) (Prove c.in_ok-url-in-Yes.url c.in-Yes.seal) c.in_ok-url-in-Yes.ensures tested.0 refl c.in_ok-record_call-in-Yes.ensures.ok in
    known-more c.args.call.now.trace.now c.args.url.now pair proved.0 _ (same-trace _ (with_prove (with_check c.args.call.now.trace.now (check_of pair true)) c.args.url.now pair proved.0) refl refl refl refl refl checks proved.1)

pub returns-in-Yes-clause-proved : goal.returns-in-Yes-clause-proved
returns-in-Yes-clause-proved g c =
    let pair = pair_of c.args.compact.now.whole c.args.public.now in
    let checks = rw c.in-Yes.is at c.in_ok-seal.ensures.ok in
    let tested : IsTested c.args.compact.now c.args.public.now (Yes c.in-Yes.seal) = rw c.in-Yes.is at c.in_ok-seal.ensures.tested in
    let proved = prove-recorded c.args.call.now.trace.now.events c.record_call.new.events c.args.url.now c.in_ok-url-in-Yes.url c.in-Yes.seal (check_of pair true) (Prove c.in_ok-url-in-Yes.url c.in-Yes.seal) c.in_ok-url-in-Yes.ensures tested.0 refl c.in_ok-record_call-in-Yes.ensures.ok in
    proved-both c.args.call.now.trace.now c.args.url.now pair proved.0 _ (same-trace _ (with_prove (with_check c.args.call.now.trace.now (check_of pair true)) c.args.url.now pair proved.0) refl refl refl refl refl checks proved.1)

-- ---- it doesn't verify

pub returns-clause-answer : goal.returns-clause-answer
returns-clause-answer g c =
    let tested : IsTested c.args.compact.now c.args.public.now (No c.in-No.field-0) = rw c.in-No.is at c.in_ok-seal.ensures.tested in
    tested-answer c.args.compact.now c.args.public.now (No c.in-No.field-0) c.requires.compact tested

pub returns-clause-tests : goal.returns-clause-tests
returns-clause-tests g c =
    let pair = pair_of c.args.compact.now.whole c.args.public.now in
    let checks = rw c.in-No.is at c.in_ok-seal.ensures.ok in
    record {
      acts = acted-still c.args.call.now _ (record { commons = refl; pass = refl; trace = refl; steps = refl }) c.requires.of refl refl;
      only = only-check c.args.call.now.trace.now c.args.url.now pair _ false (same-trace _ (with_check c.args.call.now.trace.now (check_of pair false)) refl refl refl refl refl checks refl);
      counted = c.in_ok-seal.ensures.counted;
    }

pub returns-clause-stays_true : goal.returns-clause-stays_true
returns-clause-stays_true g c =
    let pair = pair_of c.args.compact.now.whole c.args.public.now in
    let checks = rw c.in-No.is at c.in_ok-seal.ensures.ok in
    let tested : IsTested c.args.compact.now c.args.public.now (No c.in-No.field-0) = rw c.in-No.is at c.in_ok-seal.ensures.tested in
    let gives = shown c.args.call.now.trace.now c.as_slice.result.now c.args.compact.now.whole c.args.public.now c.known_answer.result None c.known_answer.ensures c.as_slice.ensures c.in_default.is in
    let unknown = unknown-is c.args.call.now.trace.now c.args.compact.now c.args.public.now c.requires.compact c.requires.answers gives in
    true-check c.args.call.now.trace.now c.args.url.now pair _ false (same-trace _ (with_check c.args.call.now.trace.now (check_of pair false)) refl refl refl refl refl checks refl)
    (tested-answer c.args.compact.now c.args.public.now (No c.in-No.field-0) c.requires.compact tested) unknown.0 unknown.1

pub returns-clause-stays_known : goal.returns-clause-stays_known
returns-clause-stays_known g c =
    let pair = pair_of c.args.compact.now.whole c.args.public.now in
    let checks = rw c.in-No.is at c.in_ok-seal.ensures.ok in
    known-check c.args.call.now.trace.now c.args.url.now pair _ false (same-trace _ (with_check c.args.call.now.trace.now (check_of pair false)) refl refl refl refl refl checks refl)

pub returns-clause-proved : goal.returns-clause-proved
returns-clause-proved g c =
    let pair = pair_of c.args.compact.now.whole c.args.public.now in
    let checks = rw c.in-No.is at c.in_ok-seal.ensures.ok in
    proved-bad c.args.call.now.trace.now c.args.url.now pair _ (same-trace _ (with_check c.args.call.now.trace.now (check_of pair false)) refl refl refl refl refl checks refl)
