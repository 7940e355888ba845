use Rattle.std.proofs.Common.{◌≡◌, ◌++◌, take}
use Rattle.config_warnings.specs.Places.{each_from}
use Rattle.config_warnings.specs.Trees.{subordinate_at}
use Rattle.config_warnings.proofs.trees.each_subordinate.Given as goal

abbrev pub invariant-loop-item : goal.invariant-loop-item
invariant-loop-item l = record {
  out : l.out ≡ l.initial.out ++ each_from subordinate_at 0 (take l.item-index l.items);
  counted : l.index ≡ l.item-index;
}
