use Rattle.std.proofs.Common.{◌≡◌, ◌++◌, ◌&&◌, true, map}
use Rattle.std.specs.List.{list_all}
use Rattle.std.specs.Str.{is_utf8}
use Rattle.std.specs.Vec.Iter.{into_iter_items}
use Rattle.fed_json.specs.Forms.{well_formed}
use Rattle.fed_json.proofs.Readings.{value_tree, entry_member}
use Rattle.fed_json.proofs.read.+tree.Given as goal

abbrev pub invariant-list-loop-item : goal.invariant-list-loop-item
invariant-list-loop-item l = record {
  left : l.fn.items.items ≡ l.yielded ++ into_iter_items l.item-iterator;
  made : l.list ≡ map value_tree l.yielded;
  formed : list_all well_formed l.list ≡ true;
}

abbrev pub invariant-object-loop-name : goal.invariant-object-loop-name
invariant-object-loop-name l = record {
  left : l.fn.entries.entries ≡ l.yielded ++ l.name-iterator;
  made : l.members ≡ map entry_member l.yielded;
  formed : list_all (λ m. is_utf8 m.name && well_formed m.value) l.members ≡ true;
}
