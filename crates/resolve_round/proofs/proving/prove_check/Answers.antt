use Rattle.std.proofs.Common.{◌<◌, length, get_or, Some, None, refl, sym, ap, ◌∙◌, subst, inl, inr}
use Rattle.std.proofs.lemmas.Result.{IfOk-weaker, err_from_is_err_and}
use Rattle.statement_shelf.specs.declared.calls.ShelfCall.TheVariants.{Prove}
use Rattle.resolve_round.specs.Proving.{IsGoodSeal}
use Rattle.resolve_round.proofs.CallLaws.{acts-by, cache-none, cache-stop}
use Rattle.resolve_round.proofs.Elements.{among-get}
use Rattle.resolve_round.proofs.ProvingLaws.{prove-recorded}
use Rattle.resolve_round.proofs.proving.prove_check.Goals as goal

pub bounds-as_slice-at : goal.bounds-as_slice-at
bounds-as_slice-at g c = subst (λ l. c.args.at < length l) (sym c.as_slice.ensures) c.requires.within

pub good_seal-requires : goal.good_seal-requires
good_seal-requires g c =
    let check = c.index-as_slice-at.result in
    let there = c.index-as_slice-at.is ∙ ap (λ l. get_or l c.args.at check) c.as_slice.ensures in
    c.requires.answers check (among-get c.args.call.now.trace.now.checks c.args.at check c.requires.within there)

pub returns-in_err-seal-clause-uses : goal.returns-in_err-seal-clause-uses
returns-in_err-seal-clause-uses g c =
    let p = err_from_is_err_and c.from_residual.result c.from_residual.ensures.1 in
    rw (p.1, p.2) (cache-stop c.args.call.now c.requires.of)

pub returns-in_err-url-in-Some-clause-uses : goal.returns-in_err-url-in-Some-clause-uses
returns-in_err-url-in-Some-clause-uses g c =
    let p = err_from_is_err_and c.from_residual-in_err-url-in-Some.result c.from_residual-in_err-url-in-Some.ensures.1 in
    rw (p.1, p.2) (cache-stop c.args.call.now c.requires.of)

pub returns-in_ok-url-in-Some-clause-uses : goal.returns-in_ok-url-in-Some-clause-uses
returns-in_ok-url-in-Some-clause-uses g c = record {
  acts = acts-by _ _ c.record_call.result (record { parts = record { commons = refl; pass = refl; trace = refl; steps = refl }; kept = c.record_call.ensures.kept; continues = c.record_call.ensures.continues }) c.record_call.ensures.halt;
  only = refl;
  steps = refl;
}

pub returns-in_ok-url-in-Some-clause-ok : goal.returns-in_ok-url-in-Some-clause-ok
returns-in_ok-url-in-Some-clause-ok g c =
    let check = c.index-as_slice-at.result in
    let there = c.index-as_slice-at.is ∙ ap (λ l. get_or l c.args.at check) c.as_slice.ensures in
    let seal : IsGoodSeal check c.args.text.now (Some c.in-Some.seal) = rw c.in-Some.is at c.in_ok-seal.ensures in
    IfOk-weaker c.record_call.result _ _
    (λ _ recorded.
    let proved = prove-recorded c.args.call.now.trace.now.events c.record_call.new.events c.args.url.now c.in_ok-url-in-Some.url c.in-Some.seal check (Prove c.in_ok-url-in-Some.url c.in-Some.seal) c.in_ok-url-in-Some.ensures seal.2 refl recorded in
    record { check = check; there = there; proves = inr (proved.0, seal.0, proved.1) })
    c.record_call.ensures.ok

pub returns-in-None-clause-uses : goal.returns-in-None-clause-uses
returns-in-None-clause-uses g c = cache-none c.args.call.now _ c.requires.of

pub returns-in-None-clause-ok : goal.returns-in-None-clause-ok
returns-in-None-clause-ok g c =
    let check = c.index-as_slice-at.result in
    let there = c.index-as_slice-at.is ∙ ap (λ l. get_or l c.args.at check) c.as_slice.ensures in
    let apart : IsGoodSeal check c.args.text.now None = rw c.in-None.is at c.in_ok-seal.ensures in
    record { check = check; there = there; proves = inl (apart, refl) }
