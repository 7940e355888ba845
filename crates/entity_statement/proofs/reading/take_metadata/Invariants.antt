use Rattle.std.proofs.Common.{◌≡◌, codes}
use Rattle.std.specs.Vec.Iter.{into_iter_items}
use Rattle.fed_json.specs.Trees.{find}
use Rattle.entity_statement.proofs.reading.take_metadata.Given as goal

abbrev pub invariant-loop-claim : goal.invariant-loop-claim
invariant-loop-claim l = record { left : find (codes "metadata") l.fn.claims ≡ find (codes "metadata") (into_iter_items l.claim-iterator) }
