use Rattle.std.proofs.Common.{◌∙◌, sym, ap, ap₂, ◌&&◌}
use Rattle.std.specs.List.{list_all}
use Rattle.std.specs.Str.{is_utf8}
use Rattle.fed_json.specs.declared.tree.Member.{Member}
use Rattle.fed_json.specs.Forms.{whole, rising}
use Rattle.fed_json.proofs.Layers.{whole-List, whole-Object}
use Rattle.fed_json.proofs.Names.{names}
use Rattle.fed_json.proofs.forms.+whole.Goals as goal

pub has_text-returns-in-List : goal.has_text-returns-in-List
has_text-returns-in-List t c =
    c.items_have_text.ensures ∙ ap (list_all whole) c.as_slice-in-List.ensures ∙ sym (ap whole c.in-List.is ∙ whole-List c.in-List.items)

pub has_text-returns-then-names_rise : goal.has_text-returns-then-names_rise
has_text-returns-then-names_rise t c =
    let members = c.in-Object.members in
    let rise = c.if-names_rise.ensures {u = tt} ∙ ap (λ ms. rising (names ms)) c.as_slice-in-Object.ensures in
    c.members_have_text.ensures
    ∙ ap₂ (λ a ms. a && list_all (λ (m : Member). is_utf8 m.name && whole m.value) ms) rise c.as_slice-then-names_rise.ensures
    ∙ sym (ap whole c.in-Object.is ∙ whole-Object members)

pub has_text-returns-else-names_rise : goal.has_text-returns-else-names_rise
has_text-returns-else-names_rise t c =
    let members = c.in-Object.members in
    let rise = c.if-names_rise.ensures {u = tt} ∙ ap (λ ms. rising (names ms)) c.as_slice-in-Object.ensures in
    c.if-names_rise.false ∙ ap (λ a. a && list_all (λ (m : Member). is_utf8 m.name && whole m.value) members) rise ∙ sym (ap whole c.in-Object.is ∙ whole-Object members)
