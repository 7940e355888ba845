use Rattle.std.proofs.Common.{◌≡◌, drop, ◌++◌}
use Rattle.node_requests.specs.Parameters.{values_of}
use Rattle.node_requests.proofs.parameters.values.Given as goal

abbrev pub invariant-loop-pair : goal.invariant-loop-pair
invariant-loop-pair l = l.values ++ values_of l.name (drop l.pair-index l.pairs) ≡ values_of l.name l.pairs
