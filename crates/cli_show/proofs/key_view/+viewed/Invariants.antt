use Rattle.std.proofs.Common.{◌≡◌, take, map}
use Rattle.fed_json.specs.Reading.{member_of}
use Rattle.cli_show.specs.KeyViews.{view}
use Rattle.cli_show.proofs.key_view.+viewed.Given as goal

abbrev pub invariant-viewed_items-loop-item : goal.invariant-viewed_items-loop-item
invariant-viewed_items-loop-item l = l.seen ≡ map view (take l.item-index l.items)

abbrev pub invariant-viewed_members-loop-member : goal.invariant-viewed_members-loop-member
invariant-viewed_members-loop-member l = l.seen ≡ map (λ m. member_of m.name (view m.value)) (take l.member-index l.members)
