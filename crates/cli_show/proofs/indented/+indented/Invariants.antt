use Rattle.std.proofs.Common.{◌≡◌, ◌++◌, take, map, flat_map}
use Rattle.cli_show.specs.Indented.{indented, inset_by, led, level, member_text}
use Rattle.cli_show.proofs.BlockLaws.{next, opened}
use Rattle.cli_show.proofs.indented.+indented.Given as goal

abbrev pub invariant-append_list-loop-item : goal.invariant-append_list-loop-item
invariant-append_list-loop-item l = record {
  shown : l.text ≡ l.initial.text ++ inset_by (l.margin ++ level) (opened 91 (flat_map led (map indented (take l.item-index l.items))));
  before : l.before ≡ next 91 (flat_map led (map indented (take l.item-index l.items)));
}

abbrev pub invariant-append_object-loop-member : goal.invariant-append_object-loop-member
invariant-append_object-loop-member l = record {
  shown : l.text ≡ l.initial.text ++ inset_by (l.margin ++ level) (opened 123 (flat_map led (map member_text (take l.member-index l.members))));
  before : l.before ≡ next 123 (flat_map led (map member_text (take l.member-index l.members)));
}
