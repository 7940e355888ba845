use Rattle.std.proofs.Common.{rules}
use Rattle.jws_form.proofs.Laws.{IsCompact-whole}
use Rattle.node_requests.specs.Changes.{IsAnchorChange}
use Rattle.node_requests.proofs.reading.rotate.Goals as goal

pub returns-in-Some-clause-formed : goal.returns-in-Some-clause-formed
returns-in-Some-clause-formed c =
    let is : IsAnchorChange c.args.body.now c.in-Some.change = search rules in
    IsCompact-whole c.args.body.now c.in-Some.change.body is.compact
