use Rattle.std.proofs.Common.{◌<◌, take, length}
use Rattle.fed_json.specs.Codes.{HavePlaces}
use Rattle.fed_json.proofs.places.Places.put_all.Given as goal

abbrev pub invariant-loop-place : goal.invariant-loop-place
invariant-loop-place l = record {
  some : 0 < length l.self.slots.items;
  have : HavePlaces l.self l.list (take l.place l.list);
}
