use Rattle.std.proofs.Common.{sym, subst}
use Rattle.std.proofs.lemmas.List.{map-id}
use Rattle.std.proofs.lemmas.Result.{err_from_is_err_and}
use Rattle.chain_check.specs.Reading.{AreRead}
use Rattle.chain_check.proofs.ResolveLaws.{Passes-err, Passes-weaker}
use Rattle.chain_check.proofs.Told.{counted-told, counted-unsigned, names-told, resolve-told, resolved-told, signature-told, times-told}
use Rattle.chain_check.proofs.checking.checked.Goals as goal

pub returns-in_err-check_names-clause-verdict : goal.returns-in_err-check_names-clause-verdict
returns-in_err-check_names-clause-verdict g c =
    let p = err_from_is_err_and c.from_residual-in_err-check_names.result c.from_residual-in_err-check_names.ensures.1 in
    let read = subst (AreRead c.args.texts.now) (sym c.as_slice-entries.ensures) (subst (λ texts. AreRead texts c.in_ok-entries.entries) (map-id c.args.texts.now) c.in_ok-entries.ensures) in
    rw (p.1, p.2) (Passes-err c.in_err-check_names.field-0.0 _ _ _ _ (names-told c.args.texts.now c.args.anchor.now c.args.keys.now.keys c.args.t _ read) c.in_err-check_names.ensures)

pub returns-in_err-check_times-clause-verdict : goal.returns-in_err-check_times-clause-verdict
returns-in_err-check_times-clause-verdict g c =
    let p = err_from_is_err_and c.from_residual-in_err-check_times.result c.from_residual-in_err-check_times.ensures.1 in
    let read = subst (AreRead c.args.texts.now) (sym c.as_slice-entries.ensures) (subst (λ texts. AreRead texts c.in_ok-entries.entries) (map-id c.args.texts.now) c.in_ok-entries.ensures) in
    rw (p.1, p.2) (Passes-err c.in_err-check_times.field-0.0 _ _ _ _ (times-told c.args.texts.now c.args.anchor.now c.args.keys.now.keys c.args.t _ read c.in_ok-check_names.ensures) c.in_err-check_times.ensures)

pub returns-in_err-check_signatures-clause-verdict : goal.returns-in_err-check_signatures-clause-verdict
returns-in_err-check_signatures-clause-verdict g c =
    let p = err_from_is_err_and c.from_residual-in_err-check_signatures.result c.from_residual-in_err-check_signatures.ensures.1 in
    let read = subst (AreRead c.args.texts.now) (sym c.as_slice-entries.ensures) (subst (λ texts. AreRead texts c.in_ok-entries.entries) (map-id c.args.texts.now) c.in_ok-entries.ensures) in
    rw (p.1, p.2) (Passes-err c.in_err-check_signatures.field-0.0 _ _ _ _
    (signature-told c.args.texts.now c.args.anchor.now c.args.keys.now.keys c.args.t _ read c.in_ok-check_names.ensures c.in_ok-check_times.ensures) c.in_err-check_signatures.ensures.signed)

pub returns-in_err-check_signatures-clause-counted : goal.returns-in_err-check_signatures-clause-counted
returns-in_err-check_signatures-clause-counted g c =
    let p = err_from_is_err_and c.from_residual-in_err-check_signatures.result c.from_residual-in_err-check_signatures.ensures.1 in
    let read = subst (AreRead c.args.texts.now) (sym c.as_slice-entries.ensures) (subst (λ texts. AreRead texts c.in_ok-entries.entries) (map-id c.args.texts.now) c.in_ok-entries.ensures) in
    rw (p.1, p.2) (counted-unsigned c.args.texts.now c.args.anchor.now c.args.keys.now.keys c.args.t _ read c.in_err-check_signatures.field-0.0 _ _ _ _ c.in_err-check_signatures.ensures.signed c.in_err-check_signatures.ensures.counted)

pub returns-clause-verdict : goal.returns-clause-verdict
returns-clause-verdict g c =
    let read = subst (AreRead c.args.texts.now) (sym c.as_slice-entries.ensures) (subst (λ texts. AreRead texts c.in_ok-entries.entries) (map-id c.args.texts.now) c.in_ok-entries.ensures) in
    Passes-weaker c.resolve.result _ _ _ _
    (resolved-told c.args.texts.now c.args.anchor.now c.args.keys.now.keys c.args.t _ read c.in_ok-check_names.ensures c.in_ok-check_times.ensures c.in_ok-check_signatures.ensures.signed)
    (resolve-told c.args.texts.now c.args.anchor.now c.args.keys.now.keys c.args.t _ read c.in_ok-check_names.ensures c.in_ok-check_times.ensures c.in_ok-check_signatures.ensures.signed)
    c.resolve.ensures.resolved

pub returns-clause-counted : goal.returns-clause-counted
returns-clause-counted g c =
    let read = subst (AreRead c.args.texts.now) (sym c.as_slice-entries.ensures) (subst (λ texts. AreRead texts c.in_ok-entries.entries) (map-id c.args.texts.now) c.in_ok-entries.ensures) in
    counted-told c.args.texts.now c.args.anchor.now c.args.keys.now.keys c.args.t _ read c.resolve.result _ _ _ c.resolve.ensures.resolved c.in_ok-check_signatures.ensures.counted
