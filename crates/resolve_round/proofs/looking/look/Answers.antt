use Rattle.std.proofs.Common.{◌<◌, length, get_or, refl, sym, ap, ◌∙◌, subst, inl, rules}
use Rattle.std.proofs.lemmas.Result.{IfErr-weaker, IfOk-weaker, err_from_is_err_and}
use Rattle.turn_log.specs.Groups.{known}
use Rattle.statement_shelf.specs.declared.calls.ShelfCall.TheVariants.{Look}
use Rattle.resolve_round.proofs.ActsLaws.{halt-memory}
use Rattle.resolve_round.proofs.CallLaws.{acts-by, cache-stop}
use Rattle.resolve_round.proofs.LookLaws.{look-can, look-tells, look-tried, look-within}
use Rattle.resolve_round.proofs.looking.look.Goals as goal

pub returns-in_err-copy-clause-uses : goal.returns-in_err-copy-clause-uses
returns-in_err-copy-clause-uses g c =
    let p = err_from_is_err_and c.from_residual.result c.from_residual.ensures.1 in
    rw (p.1, p.2) (cache-stop c.args.call.now c.requires.of)

pub returns-in_err-copy-clause-tried : goal.returns-in_err-copy-clause-tried
returns-in_err-copy-clause-tried g c = inl refl

pub returns-in_err-record_call-clause-uses : goal.returns-in_err-record_call-clause-uses
returns-in_err-record_call-clause-uses g c =
    let p = err_from_is_err_and c.from_residual-in_err-record_call.result c.from_residual-in_err-record_call.ensures.1 in
    rw (p.1, p.2) (record {
      acts = (record { parts = record { commons = refl; pass = refl; trace = refl; steps = refl }; kept = c.in_err-record_call.ensures.kept; continues = c.in_err-record_call.ensures.continues }, c.in_err-record_call.ensures.halt);
      only = refl;
      steps = refl;
    })

pub returns-in_err-record_call-clause-tried : goal.returns-in_err-record_call-clause-tried
returns-in_err-record_call-clause-tried g c = inl c.in_err-record_call.ensures.err

pub bounds-as_slice-at : goal.bounds-as_slice-at
bounds-as_slice-at g c =
    subst (λ l. c.len-at.result < length l) (sym c.as_slice.ensures)
    (look-within c.args.call.now.trace.now.events c.record_call.new.events c.args.url.now c.in_ok-copy.field-0 c.args.call.now.trace.now.moment c.args.call.now.trace.now.moment (Look c.in_ok-copy.field-0 c.args.call.now.trace.now.moment) refl c.in_ok-copy.ensures refl c.in_ok-record_call.ensures.ok
    c.len-at.result c.len-at.ensures)

pub offset_bounds-as_slice-at : goal.offset_bounds-as_slice-at
offset_bounds-as_slice-at g c =
    let less : c.len-at.result < length c.as_slice.result.now =
    subst (λ l. c.len-at.result < length l) (sym c.as_slice.ensures)
    (look-within c.args.call.now.trace.now.events c.record_call.new.events c.args.url.now c.in_ok-copy.field-0 c.args.call.now.trace.now.moment c.args.call.now.trace.now.moment (Look c.in_ok-copy.field-0 c.args.call.now.trace.now.moment) refl c.in_ok-copy.ensures refl c.in_ok-record_call.ensures.ok
    c.len-at.result c.len-at.ensures) in
    search rules

pub told_by-requires : goal.told_by-requires
told_by-requires g c =
    let event = c.index-as_slice-at.result in
    look-can c.args.call.now.trace.now.events c.record_call.new.events c.args.url.now c.in_ok-copy.field-0 c.args.call.now.trace.now.moment c.args.call.now.trace.now.moment (Look c.in_ok-copy.field-0 c.args.call.now.trace.now.moment) refl c.in_ok-copy.ensures refl c.in_ok-record_call.ensures.ok
    c.len-at.result c.len-at.ensures event (c.index-as_slice-at.is ∙ ap (λ l. get_or l c.len-at.result event) c.as_slice.ensures)

pub returns-clause-looked : goal.returns-clause-looked
returns-clause-looked g c =
    let event = c.index-as_slice-at.result in
    IfOk-weaker c.told_by.result _ _
    (λ told tells. look-tells c.args.call.now.trace.now.events c.record_call.new.events c.args.url.now c.in_ok-copy.field-0 c.args.call.now.trace.now.moment c.args.call.now.trace.now.moment (Look c.in_ok-copy.field-0 c.args.call.now.trace.now.moment) refl c.in_ok-copy.ensures refl
    c.in_ok-record_call.ensures.ok c.len-at.result c.len-at.ensures event (c.index-as_slice-at.is ∙ ap (λ l. get_or l c.len-at.result event) c.as_slice.ensures) told tells)
    c.told_by.ensures.tells

pub returns-clause-uses : goal.returns-clause-uses
returns-clause-uses g c = record {
  acts =
      acts-by _ _ c.told_by.result (record { parts = record { commons = refl; pass = refl; trace = refl; steps = refl }; kept = c.in_ok-record_call.ensures.kept; continues = c.in_ok-record_call.ensures.continues })
      (IfErr-weaker c.told_by.result _ _ (λ e is. halt-memory (known c.record_call.new.pass) e is) c.told_by.ensures.halt);
  only = refl;
  steps = refl;
}

pub returns-clause-tried : goal.returns-clause-tried
returns-clause-tried g c =
    look-tried c.args.call.now.trace.now.events c.record_call.new.events c.args.url.now c.in_ok-copy.field-0 c.args.call.now.trace.now.moment c.args.call.now.trace.now.moment (Look c.in_ok-copy.field-0 c.args.call.now.trace.now.moment) refl c.in_ok-copy.ensures refl c.in_ok-record_call.ensures.ok
