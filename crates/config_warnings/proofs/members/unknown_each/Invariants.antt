use Rattle.std.proofs.Common.{◌≡◌, ◌++◌, take}
use Rattle.config_warnings.specs.Places.{each_from}
use Rattle.config_warnings.specs.Trees.{unknown_item}
use Rattle.config_warnings.proofs.members.unknown_each.Given as goal

abbrev pub invariant-loop-item : goal.invariant-loop-item
invariant-loop-item l = record {
  out : l.out ≡ l.initial.out ++ each_from (unknown_item l.part l.place) 0 (take l.item-index l.items);
  counted : l.index ≡ l.item-index;
}
