use Rattle.std.proofs.Common.{◌≡◌, List, map, sym, ap, ◌∙◌, rules}
use Rattle.fed_json.specs.declared.tree.Json.{Object, the_lemmas}
use Rattle.fed_json.specs.declared.tree.Member.{Member}
use Rattle.fed_json.specs.Reading.{member_of}
use Rattle.cli_show.specs.KeyViews.{members_view, view}
use Rattle.cli_show.proofs.key_view.+viewed.Goals as goal

-- an object, one level
view-Object : (ms : List Member) → view (Object ms) ≡ Object (members_view (map (λ m. member_of m.name (view m.value)) ms))
view-Object ms = search (rules, the_lemmas)

pub viewed-returns-in_ok-members_view-in-Object : goal.viewed-returns-in_ok-members_view-in-Object
viewed-returns-in_ok-members_view-in-Object t c =
    let seen : c.in_ok-viewed_members-in-Object.field-0 ≡ map (λ m. member_of m.name (view m.value)) c.in-Object.members = search rules in
    ap Object (c.in_ok-members_view-in-Object.ensures ∙ ap members_view seen) ∙ sym (ap view c.in-Object.is ∙ view-Object c.in-Object.members)
