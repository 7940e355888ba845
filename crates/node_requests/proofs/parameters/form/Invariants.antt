use Rattle.std.proofs.Common.{◌≡◌, ◌++◌, map}
use Rattle.std.specs.List.{AllByRecursion}
use Rattle.form_urlencoded.specs.Parse.{pairs_left}
use Rattle.http_plain.specs.Requests.{pair_of, pairs_of}
use Rattle.node_requests.specs.Steps.{HasUtf8Value}
use Rattle.node_requests.proofs.parameters.form.Given as goal

abbrev pub invariant-loop-pair : goal.invariant-loop-pair
invariant-loop-pair l = record {
  read : l.pairs ++ map pair_of (pairs_left l.pair-iterator) ≡ pairs_of l.body;
  utf8 : AllByRecursion HasUtf8Value l.pairs;
}
