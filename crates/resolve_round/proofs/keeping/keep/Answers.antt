use Rattle.std.proofs.Common.{refl, sym, ◌∙◌, subst}
use Rattle.std.proofs.lemmas.Result.{IfOk-weaker, err_from_is_err_and}
use Rattle.entity_statement.specs.Told.{told}
use Rattle.statement_shelf.specs.declared.calls.ShelfCall.TheVariants.{Put}
use Rattle.resolve_round.specs.Knowing.{HoldsSoFar, with_search}
use Rattle.resolve_round.specs.Told.{ProvesGood}
use Rattle.resolve_round.specs.Traces.{kept_until}
use Rattle.resolve_round.proofs.CallLaws.{cache-none, cache-stop, cache-then}
use Rattle.resolve_round.proofs.KeepingLaws.{good-kept, holds-kept, puts-kept, puts-none, put-recorded}
use Rattle.resolve_round.proofs.keeping.keep.Goals as goal

-- ---- it isn't current

pub returns-then-not-is_current-clause-uses : goal.returns-then-not-is_current-clause-uses
returns-then-not-is_current-clause-uses g c = cache-none c.args.call.now _ c.requires.of

pub returns-then-not-is_current-clause-holds : goal.returns-then-not-is_current-clause-holds
returns-then-not-is_current-clause-holds g c = λ search page holds. holds

pub returns-then-not-is_current-clause-good : goal.returns-then-not-is_current-clause-good
returns-then-not-is_current-clause-good g c = λ search page good. good

pub returns-then-not-is_current-clause-puts : goal.returns-then-not-is_current-clause-puts
returns-then-not-is_current-clause-puts g c =
    puts-none c.args.call.now.trace.now c.args.age c.args.url.now c.args.signed.now.compact.whole (told c.args.signed.now.statement) (sym c.is_current.ensures ∙ c.if-not-is_current.true)

-- ---- memory was wanting before the Put

pub returns-in_err-copy-clause-uses : goal.returns-in_err-copy-clause-uses
returns-in_err-copy-clause-uses g c =
    let p = err_from_is_err_and c.from_residual.result c.from_residual.ensures.1 in
    rw (p.1, p.2) (cache-stop c.args.call.now c.requires.of)

pub returns-in_err-copy-2-clause-uses : goal.returns-in_err-copy-2-clause-uses
returns-in_err-copy-2-clause-uses g c =
    let p = err_from_is_err_and c.from_residual-in_err-copy-2.result c.from_residual-in_err-copy-2.ensures.1 in
    rw (p.1, p.2) (cache-stop c.args.call.now c.requires.of)

pub returns-in_err-copy-clause-holds : goal.returns-in_err-copy-clause-holds
returns-in_err-copy-clause-holds g c = λ search page holds. holds

pub returns-in_err-copy-2-clause-holds : goal.returns-in_err-copy-2-clause-holds
returns-in_err-copy-2-clause-holds g c = λ search page holds. holds

-- ---- the Put wasn't made

pub returns-in_err-record_call-clause-uses : goal.returns-in_err-record_call-clause-uses
returns-in_err-record_call-clause-uses g c =
    let p = err_from_is_err_and c.from_residual-in_err-record_call.result c.from_residual-in_err-record_call.ensures.1 in
    rw (p.1, p.2) (record {
      acts = (record { parts = record { commons = refl; pass = refl; trace = refl; steps = refl }; kept = c.in_err-record_call.ensures.kept; continues = c.in_err-record_call.ensures.continues }, c.in_err-record_call.ensures.halt);
      only = refl;
      steps = refl;
    })

pub returns-in_err-record_call-clause-holds : goal.returns-in_err-record_call-clause-holds
returns-in_err-record_call-clause-holds g c = λ search page holds. subst (λ es. HoldsSoFar c.args.age search (record c.args.call.now.trace.now { events = es })) (sym c.in_err-record_call.ensures.err) holds

-- ---- it was put

pub returns-clause-uses : goal.returns-clause-uses
returns-clause-uses g c =
    cache-then {B = Unit {0}} c.args.call.now _ c.prove_tested.new.call tt c.prove_tested.result
    (record { acts = record { parts = record { commons = refl; pass = refl; trace = refl; steps = refl }; kept = c.in_ok-record_call.ensures.kept; continues = c.in_ok-record_call.ensures.continues }; only = refl; steps = refl })
    c.prove_tested.ensures.uses

pub returns-clause-holds : goal.returns-clause-holds
returns-clause-holds g c =
    let s = told c.args.signed.now.statement in
    let current = sym c.is_current.ensures ∙ c.if-not-is_current.false in
    let put = put-recorded c.args.call.now.trace.now.events c.record_call.new.events c.args.url.now c.args.signed.now.compact.whole c.in_ok-copy.field-0 c.in_ok-copy-2.field-0
    (kept_until c.args.call.now.trace.now.moment c.args.age s.exp) c.until.result (Put c.in_ok-copy.field-0 c.in_ok-copy-2.field-0 c.until.result) c.in_ok-copy.ensures c.in_ok-copy-2.ensures c.until.ensures refl
    c.in_ok-record_call.ensures.ok in
    let adds = c.prove_tested.ensures.only in
    λ search page holds.
    subst (HoldsSoFar c.args.age search) (sym c.prove_tested.ensures.uses.only)
    (holds-kept c.args.call.now.trace.now c.args.age c.args.url.now c.args.signed.now.compact.whole s current (kept_until c.args.call.now.trace.now.moment c.args.age s.exp) refl put.0 c.record_call.new.events put.1
    c.prove_tested.new.call.trace.now.events adds search page holds)

pub returns-clause-good : goal.returns-clause-good
returns-clause-good g c =
    let s = told c.args.signed.now.statement in
    let current = sym c.is_current.ensures ∙ c.if-not-is_current.false in
    let put = put-recorded c.args.call.now.trace.now.events c.record_call.new.events c.args.url.now c.args.signed.now.compact.whole c.in_ok-copy.field-0 c.in_ok-copy-2.field-0
    (kept_until c.args.call.now.trace.now.moment c.args.age s.exp) c.until.result (Put c.in_ok-copy.field-0 c.in_ok-copy-2.field-0 c.until.result) c.in_ok-copy.ensures c.in_ok-copy-2.ensures c.until.ensures refl
    c.in_ok-record_call.ensures.ok in
    let adds = c.prove_tested.ensures.only in
    IfOk-weaker c.prove_tested.result _ _
    (λ _ proved search page good.
    subst (λ t. ProvesGood (with_search t search)) (sym c.prove_tested.ensures.uses.only)
    (good-kept c.args.call.now.trace.now c.args.age c.args.url.now c.args.signed.now.compact.whole s current (kept_until c.args.call.now.trace.now.moment c.args.age s.exp) refl put.0 c.record_call.new.events put.1
    c.prove_tested.new.call.trace.now.events adds proved search page good))
    c.prove_tested.ensures.proved

pub returns-clause-puts : goal.returns-clause-puts
returns-clause-puts g c =
    let s = told c.args.signed.now.statement in
    let current = sym c.is_current.ensures ∙ c.if-not-is_current.false in
    let put = put-recorded c.args.call.now.trace.now.events c.record_call.new.events c.args.url.now c.args.signed.now.compact.whole c.in_ok-copy.field-0 c.in_ok-copy-2.field-0
    (kept_until c.args.call.now.trace.now.moment c.args.age s.exp) c.until.result (Put c.in_ok-copy.field-0 c.in_ok-copy-2.field-0 c.until.result) c.in_ok-copy.ensures c.in_ok-copy-2.ensures c.until.ensures refl
    c.in_ok-record_call.ensures.ok in
    let adds = c.prove_tested.ensures.only in
    IfOk-weaker c.prove_tested.result _ _
    (λ _ proved.
    puts-kept c.args.call.now.trace.now c.args.age c.args.url.now c.args.signed.now.compact.whole s current (kept_until c.args.call.now.trace.now.moment c.args.age s.exp) refl put.0 c.record_call.new.events put.1
    c.prove_tested.new.call.trace.now.events adds)
    c.prove_tested.ensures.proved
