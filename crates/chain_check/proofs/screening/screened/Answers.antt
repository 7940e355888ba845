use Rattle.std.proofs.Common.{sym, subst}
use Rattle.std.proofs.lemmas.Result.{err_from_is_err_and}
use Rattle.chain_check.specs.Judging.{texts_of}
use Rattle.chain_check.proofs.ResolveLaws.{Passes-err}
use Rattle.chain_check.proofs.ScreeningLaws.{candidate-screened, form-screened, names-screened, times-screened}
use Rattle.chain_check.proofs.screening.screened.Goals as goal

pub returns-in_err-entries-clause-screening : goal.returns-in_err-entries-clause-screening
returns-in_err-entries-clause-screening c =
    let p = err_from_is_err_and c.from_residual.result c.from_residual.ensures.1 in
    rw (p.1, p.2) (Passes-err c.in_err-entries.field-0.0 _ _ _ _ (form-screened (texts_of c.args.chain.now) c.args.anchor.now c.args.t) c.in_err-entries.ensures)
