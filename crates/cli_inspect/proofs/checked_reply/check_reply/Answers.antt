use Rattle.std.proofs.Common.{◌≡◌, ◌∙◌, Err, ap, refl, rules}
use Rattle.std.proofs.lemmas.Result.{err_from_is_err_and}
use Rattle.cli_inspect.proofs.SteadyLaws.{steady-read, steady-stop}
use Rattle.cli_inspect.proofs.checked_reply.check_reply.Goals as goal

pub returns-in_err-keys-clause-steady : goal.returns-in_err-keys-clause-steady
returns-in_err-keys-clause-steady g c =
    let faults = g.D.Store.store_faults in
    let p = err_from_is_err_and c.from_residual-in_err-keys.result c.from_residual-in_err-keys.ensures.1 in
    steady-stop c.from_residual-in_err-keys.result c.in_err-keys.field-0.0 (g.S.Source.read_faults c.args.input.now) (faults c.args.store.now) (faults c.keys_of_file.new.store) (faults c.keys_of_file-2.new.store)
    (p.1 ∙ ap Err p.2) (c.in_ok-resolver.ensures.steady 0) (c.in_err-keys.ensures.steady (g.S.Source.read_faults c.args.input.now))

pub returns-in-Some-Some-clause-steady : goal.returns-in-Some-Some-clause-steady
returns-in-Some-Some-clause-steady g c =
    let faults = g.D.Store.store_faults in
    let same : faults c.keys_of_file-2.new.store ≡ faults c.args.store.now = c.in_ok-keys.ensures.steady 0 ∙ c.in_ok-resolver.ensures.steady 0 in
    steady-read c.report_on.result (g.S.Source.read_faults c.args.input.now) (g.S.Source.read_faults c.report_on.new.input) (faults c.args.store.now) (faults c.keys_of_file-2.new.store) same
    (c.report_on.ensures.steady (faults c.args.store.now))

pub returns-in_err-plain-in_default-clause-steady : goal.returns-in_err-plain-in_default-clause-steady
returns-in_err-plain-in_default-clause-steady g c =
    let faults = g.D.Store.store_faults in
    let same : faults c.keys_of_file-2.new.store ≡ faults c.args.store.now = c.in_ok-keys.ensures.steady 0 ∙ c.in_ok-resolver.ensures.steady 0 in
    steady-read c.from_residual-in_err-plain-in_default.result (g.S.Source.read_faults c.args.input.now) (g.S.Source.read_faults c.args.input.now) (faults c.args.store.now) (faults c.keys_of_file-2.new.store) same (search rules)

pub returns-clause-steady : goal.returns-clause-steady
returns-clause-steady g c = (refl, c.in_ok-keys.ensures.steady 0 ∙ c.in_ok-resolver.ensures.steady 0)
