use Rattle.std.proofs.Common.{◌-◌, length, take, refl, subst}
use Rattle.std.proofs.lemmas.Result.{err_from_is_err_and}
use Rattle.chain_limits.specs.Limits.{FitsBelow}
use Rattle.chain_check.specs.Reading.{claims_in}
use Rattle.chain_check.proofs.ResolveLaws.{Passes-err, claims-below, limit-fails, places-are}
use Rattle.chain_check.proofs.resolving.metadata_of.Goals as goal

pub returns-in_err-check_limits-clause-resolved : goal.returns-in_err-check_limits-clause-resolved
returns-in_err-check_limits-clause-resolved c =
    let p = err_from_is_err_and c.from_residual-in_err-check_limits.result c.from_residual-in_err-check_limits.ensures.1 in
    let es = c.args.entries.now in
    let below = take (length es - 1) es in
    let is = claims-below es below (length es - 1) refl refl in
    rw (p.1, p.2) (Passes-err c.in_err-check_limits.field-0.0 _ _ _ _ (limit-fails (claims_in es) c.in_ok-places.places (places-are es below is c.in_ok-places.places c.in_ok-places.ensures)) c.in_err-check_limits.ensures)

pub metadata_within-requires-clause-places : goal.metadata_within-requires-clause-places
metadata_within-requires-clause-places c =
    let es = c.args.entries.now in
    let below = take (length es - 1) es in
    places-are es below (claims-below es below (length es - 1) refl refl) c.in_ok-places.places c.in_ok-places.ensures

pub metadata_within-requires-clause-within : goal.metadata_within-requires-clause-within
metadata_within-requires-clause-within c =
    let es = c.args.entries.now in
    let below = take (length es - 1) es in
    let is = claims-below es below (length es - 1) refl refl in
    subst (λ ps. FitsBelow ps (length ps)) (places-are es below is c.in_ok-places.places c.in_ok-places.ensures) c.in_ok-check_limits.ensures
