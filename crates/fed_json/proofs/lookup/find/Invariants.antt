use Rattle.std.proofs.Common.{◌≡◌, drop}
use Rattle.fed_json.specs.Trees.{find}
use Rattle.fed_json.proofs.lookup.find.Given as goal

abbrev pub invariant-loop-member : goal.invariant-loop-member
invariant-loop-member l = find l.name l.members ≡ find l.name (drop l.member-index l.members)
