use Rattle.std.proofs.Common.{rules, ◌&&◌, ◌≡◌, ◌∙◌, sym, ap, take, take_all}
use Rattle.std.specs.List.{list_all}
use Rattle.std.specs.Str.{is_utf8}
use Rattle.std.proofs.lemmas.List.Sums.{AllPass-from_list_all}
use Rattle.std.proofs.lemmas.Str.{IsUtf8-from_is_utf8}
use Rattle.fed_json.specs.declared.tree.Json.{the_lemmas}
use Rattle.fed_json.specs.declared.tree.Member.{Member}
use Rattle.fed_json.specs.Forms.{whole, members_whole, rising}
use Rattle.fed_json.proofs.Layers.{whole-List, whole-Object, IsUtf8-whole_Text}
use Rattle.fed_json.proofs.Booleans.{left_true, right_true}
use Rattle.fed_json.proofs.Names.{names}
use Rattle.fed_json.proofs.Readings.{all_items}
use Rattle.fed_json.proofs.Written.{one_more_stands, items_have_float-items_view}
use Rattle.fed_json.proofs.write.+value.Goals as goal

pub value-string-requires : goal.value-string-requires
value-string-requires t c =
    rw c.as_slice.ensures (IsUtf8-whole_Text c.in-Text.text (rw (sym c.in-Text.is) c.requires))

pub value-array-requires : goal.value-array-requires
value-array-requires t c =
    (search (rules, the_lemmas), ap (list_all whole) c.as_slice-in-List.ensures ∙ sym (whole-List c.in-List.items) ∙ ap whole (sym c.in-List.is) ∙ c.requires)

pub value-map-requires : goal.value-map-requires
value-map-requires t c =
    (search (rules, the_lemmas), ap members_whole c.as_slice-in-Object.ensures ∙ sym (whole-Object c.in-Object.members) ∙ ap whole (sym c.in-Object.is) ∙ c.requires)

pub array-returns : goal.array-returns
array-returns t c =
    let all : take c.loop-item.item-index c.args.items.now ≡ c.args.items.now = take_all c.loop-item.item-index c.args.items.now c.loop-item-test.false in
    record {
      items_are = sym (all_items c.loop-item.values.items) ∙ c.loop-item.invariant.made ∙ all;
      no_float = sym (items_have_float-items_view c.loop-item.values.items) ∙ c.loop-item.invariant.plain;
    }

pub map-string-requires : goal.map-string-requires
map-string-requires t c =
    let each = right_true (rising (names c.args.members.now)) _ c.requires in
    let here = AllPass-from_list_all (λ (m : Member). is_utf8 m.name && whole m.value) c.args.members.now each c.loop-member.member-index c.member-item.result c.loop-member-test.true in
    IsUtf8-from_is_utf8 _ (ap is_utf8 (c.as_slice.ensures ∙ ap (λ (m : Member). m.name) c.member-item.is) ∙ left_true _ _ here)

pub map-loop-member-preserved : goal.map-loop-member-preserved
map-loop-member-preserved t c =
    let l = c.loop-member in
    let named = c.in_ok-name.ensures ∙ c.as_slice.ensures in
    let more = c.in_ok-insert.ensures.entries in
    let rise = left_true (rising (names c.args.members.now)) _ c.requires in
    let stands = one_more_stands l.map.entries c.insert.new.self.entries c.in_ok-name.name c.in_ok-value.value c.args.members.now l.member-index c.member-item.result
    more rise l.invariant.made l.invariant.plain c.loop-member-test.true c.member-item.is named c.in_ok-value.ensures.tree_is c.in_ok-value.ensures.no_float in
    record {
      made = stands.0;
      plain = stands.1;
    }
