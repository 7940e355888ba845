use Rattle.std.proofs.Common.{◌≡◌, ℕ, List, [], ◌∷◌, ◌++◌, codes, Option, Some, Result, sym, ap, ◌∙◌, subst}
use Rattle.std.specs.Prelude.{OnOk}
use Rattle.fed_json.specs.declared.tree.Member.{Member}
use Rattle.fed_json.specs.Members.{text_member}
use Rattle.cli_show.specs.KeyViews.{thumbprint_members}
use Rattle.cli_show.proofs.key_view.add_thumbprint.Goals as goal

-- the thumbprint is added where there is one
added : {E : Type 0} → (members new : List Member) (given : Option (List ℕ)) (text slice : List ℕ) (m : Member) (result : Result Unit E) → given ≡ Some text → slice ≡ text
    → m ≡ text_member (codes "thumbprint") slice → OnOk result (new ≡ members ++ m ∷ []) → OnOk result (new ≡ members ++ thumbprint_members given)
added members new given text slice m result some same is pushed =
    let more : m ∷ [] ≡ thumbprint_members given = ap (λ x. x ∷ []) (is ∙ ap (text_member (codes "thumbprint")) same) ∙ ap thumbprint_members (sym some) in
    subst (λ tail. OnOk result (new ≡ members ++ tail)) more pushed

pub returns-in_ok-text_member-in-Some : goal.returns-in_ok-text_member-in-Some
returns-in_ok-text_member-in-Some c =
    added c.args.members.now c.push.new.self c.args.thumbprint c.in-Some.text c.as_slice.result.now c.in_ok-text_member-in-Some.field-0 c.push.result c.in-Some.is c.as_slice.ensures
    c.in_ok-text_member-in-Some.ensures c.push.ensures.ok
