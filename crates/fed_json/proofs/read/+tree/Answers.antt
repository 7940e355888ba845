use Rattle.std.proofs.Common.{String, Global, Vec, ℕ, ◌≡◌, ◌∙◌, ap, sym, ◌&&◌, ◌++◌, ◌∷◌, [], true, map, append-nil, append_assoc, string_bytes}
use Rattle.std.specs.List.{list_all}
use Rattle.std.specs.Str.{is_utf8}
use Rattle.std.proofs.lemmas.Str.{is_utf8-from_IsUtf8, IsUtf8-string_bytes}
use Rattle.std.proofs.lemmas.List.{nil_from_length}
use Rattle.std.specs.Vec.Iter.{into_iter_items}
use Rattle.serde_json.specs.declared.value.Value.{Value}
use Rattle.fed_json.specs.declared.tree.Member.{Member}
use Rattle.fed_json.specs.Forms.{well_formed, rising}
use Rattle.fed_json.proofs.Layers.{well_formed-Text, well_formed-List, well_formed-Object}
use Rattle.fed_json.proofs.Booleans.{both_true}
use Rattle.fed_json.proofs.Names.{names}
use Rattle.fed_json.proofs.Readings.{entry_member, value_tree, all_items, all_members, one_more, one_more_formed, rising-from_sorted}
use Rattle.fed_json.proofs.read.+tree.Goals as goal

pub tree-returns-in-String-clause-well_formed : goal.tree-returns-in-String-clause-well_formed
tree-returns-in-String-clause-well_formed t c =
    let utf8 : is_utf8 (string_bytes c.in-String.s) ≡ true = is_utf8-from_IsUtf8 _ (IsUtf8-string_bytes c.in-String.s) in
    rw (well_formed-Text _, c.from_vec.ensures, c.into_bytes.ensures.value) utf8

pub tree-returns-in_ok-list-in-Array-clause-well_formed : goal.tree-returns-in_ok-list-in-Array-clause-well_formed
tree-returns-in_ok-list-in-Array-clause-well_formed t c = rw (well_formed-List _) c.in_ok-list-in-Array.ensures.well_formed

pub tree-returns-in_ok-object-in-Object-clause-well_formed : goal.tree-returns-in_ok-object-in-Object-clause-well_formed
tree-returns-in_ok-object-in-Object-clause-well_formed t c = rw (well_formed-Object _) c.in_ok-object-in-Object.ensures.well_formed

pub list-returns-clause-items : goal.list-returns-clause-items
list-returns-clause-items t c =
    let l = c.loop-item.invariant in
    let none : into_iter_items c.loop-item.item-iterator ≡ [] = nil_from_length (into_iter_items c.loop-item.item-iterator) (sym c.loop-item.item-iterator.rest.ok.0 ∙ c.in-None.ensures.steps.0) in
    let all = l.left ∙ ap (λ vs. c.loop-item.yielded ++ vs) none ∙ append-nil _ in
    l.made ∙ ap (map value_tree) (sym all) ∙ all_items c.args.items.items

pub object-loop-name-preserved : goal.object-loop-name-preserved
object-loop-name-preserved t c =
    let l = c.loop-name.invariant in
    let entry : String Global × Value = (c.in-Some.name, c.in-Some.value) in
    let named : c.from_vec-name.result ≡ string_bytes c.in-Some.name = c.from_vec-name.ensures ∙ ap (λ (v : Vec ℕ Global). v.items) c.into_bytes.ensures.value in
    let utf8 : is_utf8 c.from_vec-name.result ≡ true = is_utf8-from_IsUtf8 _ (rw named (IsUtf8-string_bytes c.in-Some.name)) in
    record {
      left = l.left ∙ ap (λ es. c.loop-name.yielded ++ es) c.in-Some.ensures.steps ∙ sym (append_assoc c.loop-name.yielded (entry ∷ []) c.next.new.self);
      made = c.in_ok-push.ensures.ok ∙ one_more _ c.loop-name.yielded entry _ _ l.made named c.in_ok-value.ensures.tree;
      formed = ap (list_all (λ (m : Member). is_utf8 m.name && well_formed m.value)) c.in_ok-push.ensures.ok ∙ one_more_formed _ _ _ l.formed utf8 c.in_ok-value.ensures.well_formed;
    }

pub object-returns-clause-members : goal.object-returns-clause-members
object-returns-clause-members t c =
    let l = c.loop-name.invariant in
    let all : c.args.entries.entries ≡ c.loop-name.yielded = l.left ∙ ap (λ es. c.loop-name.yielded ++ es) c.in-None.ensures.steps.0 ∙ append-nil _ in
    l.made ∙ ap (map entry_member) (sym all) ∙ all_members _

pub object-returns-clause-well_formed : goal.object-returns-clause-well_formed
object-returns-clause-well_formed t c =
    let l = c.loop-name.invariant in
    let all : c.args.entries.entries ≡ c.loop-name.yielded = l.left ∙ ap (λ es. c.loop-name.yielded ++ es) c.in-None.ensures.steps.0 ∙ append-nil _ in
    let sorted = c.into_iter-name-iterator.ensures.into_iter_gives.5 in
    let rise = rising-from_sorted c.args.entries.entries sorted in
    both_true (ap (λ ms. rising (names ms)) l.made ∙ ap (λ es. rising (names (map entry_member es))) (sym all) ∙ rise) l.formed
