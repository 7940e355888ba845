use Rattle.std.proofs.Common.{◌≡◌, Some, codes, rules}
use Rattle.node_requests.specs.Parameters.{once, values_of}
use Rattle.node_requests.proofs.Utf8.{once_utf8}
use Rattle.node_requests.proofs.reading.status.Goals as goal

pub returns-in-Some-clause-formed : goal.returns-in-Some-clause-formed
returns-in-Some-clause-formed c =
    let is : Some c.in-Some.mark ≡ once (values_of (codes "trust_mark") c.in_ok-pairs.pairs) = search rules in
    once_utf8 (codes "trust_mark") c.in_ok-pairs.pairs (Some c.in-Some.mark) c.in_ok-pairs.ensures.utf8 is
