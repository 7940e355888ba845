use Rattle.std.proofs.Common.{◌≡◌, take, false, map}
use Rattle.std.specs.List.{list_any}
use Rattle.serde_json.specs.View.{members_view}
use Rattle.serde_json.specs.Written.{members_have_float}
use Rattle.fed_json.specs.Reading.{members_of}
use Rattle.fed_json.proofs.Readings.{value_tree}
use Rattle.fed_json.proofs.Written.{float_in}
use Rattle.fed_json.proofs.write.+value.Given as goal

abbrev pub invariant-array-loop-item : goal.invariant-array-loop-item
invariant-array-loop-item l = record {
  made : map value_tree l.values.items ≡ take l.item-index l.items;
  plain : list_any float_in l.values.items ≡ false;
}

abbrev pub invariant-map-loop-member : goal.invariant-map-loop-member
invariant-map-loop-member l = record {
  made : members_of (members_view l.map.entries) ≡ take l.member-index l.members;
  plain : members_have_float (members_view l.map.entries) ≡ false;
}
