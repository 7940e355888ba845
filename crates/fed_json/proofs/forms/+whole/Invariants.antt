use Rattle.std.proofs.Common.{◌≡◌, ◌&&◌, take, true}
use Rattle.std.specs.List.{list_all}
use Rattle.std.specs.Str.{is_utf8}
use Rattle.fed_json.specs.Forms.{whole}
use Rattle.fed_json.proofs.forms.+whole.Given as goal

abbrev pub invariant-items_have_text-loop-item : goal.invariant-items_have_text-loop-item
invariant-items_have_text-loop-item l = list_all whole (take l.item-index l.items) ≡ true

abbrev pub invariant-members_have_text-loop-member : goal.invariant-members_have_text-loop-member
invariant-members_have_text-loop-member l = list_all (λ m. is_utf8 m.name && whole m.value) (take l.member-index l.members) ≡ true
