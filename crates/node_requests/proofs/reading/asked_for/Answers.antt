use Rattle.std.proofs.Common.{◌++◌, ap, sym, ◌∙◌}
use Rattle.node_requests.proofs.Asking.{answered, elsewhere}
use Rattle.node_requests.proofs.reading.asked_for.Goals as goal

pub returns-in-Some-clause-asked : goal.returns-in-Some-clause-asked
returns-in-Some-clause-asked c =
    let at = sym c.as_slice.ensures ∙ c.in-Some.ensures ∙ ap (λ path. path ++ c.in-Some.rest.now) c.as_slice-2.ensures in
    answered c.args.place.now c.in-Some.rest.now c.args.request.now c.kind_at.result c.asked_by.result at c.kind_at.ensures c.asked_by.ensures.asked

pub returns-in-None-clause-asked : goal.returns-in-None-clause-asked
returns-in-None-clause-asked c =
    elsewhere c.args.place.now c.args.request.now
    (λ rest is. c.in-None.ensures rest (c.as_slice.ensures ∙ is ∙ ap (λ path. path ++ rest) (sym c.as_slice-2.ensures)))
