-- The owners that a loop has gathered from the first members.
use Rattle.std.proofs.Common.{◌≡◌, ◌<◌, ℕ, suc, ◌+◌, List, [], ◌∷◌, ◌++◌, length, map, drop, get_or, Option, Some, None, option_map, refl, sym, ap, ◌∙◌, drop-cons, add-one, append_assoc}
use Rattle.std.specs.Option.{option_and_then}
use Rattle.std.proofs.lemmas.List.{map-append}
use Rattle.fed_json.specs.declared.tree.Member.{Member}
use Rattle.fed_json.specs.Trees.{each}
use Rattle.entity_statement.specs.declared.marks.Owner.{Owner}
use Rattle.entity_statement.specs.Claims.{OwnerClaims, told_owner}
use Rattle.entity_statement.specs.Forms.{owner_in}

abbrev pub Gathered : List Member → List Owner → ℕ → Type 0
Gathered members owners k = each owner_in members ≡ option_map (λ rest. map told_owner owners ++ rest) (each owner_in (drop k members))

one_more : (o : Option (List OwnerClaims)) (owners more : List Owner) (owner : Owner) → more ≡ owners ++ owner ∷ []
    → option_map (λ rest. map told_owner owners ++ rest) (option_map (λ rest. told_owner owner ∷ rest) o) ≡ option_map (λ rest. map told_owner more ++ rest) o
one_more None owners more owner made = refl
one_more (Some rest) owners more owner made =
    ap Some (sym (append_assoc (map told_owner owners) (told_owner owner ∷ []) rest) ∙ ap (λ xs. xs ++ rest) (sym (map-append told_owner owners (owner ∷ [])) ∙ ap (map told_owner) (sym made)))

pub gathered_more : (members : List Member) (owners more : List Owner) (k : ℕ) (member : Member) (owner : Owner) (o : Option Owner) → Gathered members owners k → k < length members
    → member ≡ get_or members k member → option_map told_owner o ≡ owner_in member → o ≡ Some owner → more ≡ owners ++ owner ∷ [] → Gathered members more (k + 1)
gathered_more members owners more k member owner o gathered within at reads is made =
    let next : drop k members ≡ member ∷ drop (k + 1) members =
    drop-cons members k member within ∙ ap (λ x. x ∷ drop (suc k) members) (sym at) ∙ ap (λ n. member ∷ drop n members) (sym (add-one k)) in
    let read : owner_in member ≡ Some (told_owner owner) = sym reads ∙ ap (option_map told_owner) is in
    let rest = each owner_in (drop (k + 1) members) in
    gathered
    ∙ ap (λ ms. option_map (λ xs. map told_owner owners ++ xs) (each owner_in ms)) next
    ∙ ap (λ r. option_map (λ xs. map told_owner owners ++ xs) (option_and_then (λ x. option_map (λ xs. x ∷ xs) rest) r)) read
    ∙ one_more rest owners more owner made
