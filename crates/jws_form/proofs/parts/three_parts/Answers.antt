use Rattle.std.proofs.Common.{◌∷◌, length, sym, ap, ◌∙◌, arith, length-append}
use Rattle.jws_form.specs.Compact.{stop}
use Rattle.jws_form.proofs.Stops.{not_three, are_three, joined_parts, taken_parts}
use Rattle.jws_form.proofs.parts.three_parts.Goals as goal

pub returns-in_default-clause-parts : goal.returns-in_default-clause-parts
returns-in_default-clause-parts c = not_three _ _ _ _ _ _ _ c.in_ok-header.ensures c.in_ok-payload.ensures c.in_default.ensures

pub slice_bounds-signed-end : goal.slice_bounds-signed-end
slice_bounds-signed-end c =
    let is = joined_parts _ _ _ _ (are_three _ _ _ _ _ c.in_ok-header.ensures c.in_ok-payload.ensures c.in-None.ensures) in
    sym (ap length (taken_parts _ _ _ _ is) ∙ omega (arith, length-append c.in_ok-header.header.now (stop ∷ c.in_ok-payload.payload.now)))

pub returns-clause-signed : goal.returns-clause-signed
returns-clause-signed c = taken_parts _ _ _ _ (joined_parts _ _ _ _ (are_three _ _ _ _ _ c.in_ok-header.ensures c.in_ok-payload.ensures c.in-None.ensures))
