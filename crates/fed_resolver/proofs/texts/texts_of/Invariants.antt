use Rattle.std.proofs.Common.{◌≡◌, ◌++◌}
use Rattle.std.specs.Vec.Iter.{into_iter_items}
use Rattle.chain_check.specs.Judging.{texts_of}
use Rattle.fed_resolver.proofs.texts.texts_of.Given as goal

abbrev pub invariant-loop-tried : goal.invariant-loop-tried
invariant-loop-tried l = texts_of l.fn.chain ≡ l.texts ++ texts_of (into_iter_items l.tried-iterator)
