use Rattle.std.proofs.Common.{◌≡◌, ◌++◌, take, map}
use Rattle.node_config.specs.Told.{told_subordinate}
use Rattle.config_warnings.specs.Places.{each_from}
use Rattle.config_warnings.specs.Warnings.{subordinate_key}
use Rattle.config_warnings.proofs.keys.each_subordinate.Given as goal

abbrev pub invariant-loop-s : goal.invariant-loop-s
invariant-loop-s l = record {
  out : l.out ≡ l.initial.out ++ each_from subordinate_key 0 (map told_subordinate (take l.s-index l.subordinates));
  counted : l.index ≡ l.s-index;
}
