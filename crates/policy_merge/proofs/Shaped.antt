-- Tables as they are read from objects.
use Rattle.std.proofs.Common.{◌≡◌, ◌<◌, ◌+◌, ℕ, List, [], ◌∷◌, ◌++◌, Option, Some, None, option_map, drop, length, get_or, refl, sym, ap, ◌∙◌, append_assoc}
use Rattle.std.specs.Option.{option_and_then}
use Rattle.std.proofs.lemmas.List.{drop_more}
use Rattle.fed_json.specs.declared.tree.Json.{Json}
use Rattle.fed_json.specs.declared.tree.Member.{Member}
use Rattle.fed_json.specs.declared.named.Named.{Named}
use Rattle.policy_merge.specs.Policies.{named}
use Rattle.policy_merge.specs.Shapes.{table_of}

module _ {T : Type 0} (shape : Json → Option T) (before : List (Named T)) where
  -- the tables that begin with those before
  abbrev pub onto : Option (List (Named T)) → Option (List (Named T))
  onto = option_map (λ rest. before ++ rest)

  moved : (x : Named T) (rest : Option (List (Named T))) → onto (option_map (λ xs. x ∷ xs) rest) ≡ option_map (λ xs. (before ++ x ∷ []) ++ xs) rest
  moved x None = refl
  moved x (Some xs) = ap Some (sym (append_assoc before (x ∷ []) xs))

  -- one member more, of the shape or not
  pub table_more : (ms : List Member) (i : ℕ) (m : Member) (value : T) → i < length ms → m ≡ get_or ms i m → shape m.value ≡ Some value
      → onto (table_of shape (drop i ms)) ≡ option_map (λ xs. (before ++ named m.name value ∷ []) ++ xs) (table_of shape (drop (i + 1) ms))
  table_more ms i m value lt is e =
      ap (λ xs. onto (table_of shape xs)) (drop_more ms i m lt ∙ ap (λ x. x ∷ drop (i + 1) ms) (sym is))
      ∙ ap (λ o. onto (option_and_then (λ x. option_map (λ xs. x ∷ xs) (table_of shape (drop (i + 1) ms))) (option_map (named m.name) o))) e
      ∙ moved (named m.name value) _

  pub table_fails : (ms : List Member) (i : ℕ) (m : Member) → i < length ms → m ≡ get_or ms i m → shape m.value ≡ None → onto (table_of shape (drop i ms)) ≡ None
  table_fails ms i m lt is e =
      ap (λ xs. onto (table_of shape xs)) (drop_more ms i m lt ∙ ap (λ x. x ∷ drop (i + 1) ms) (sym is))
      ∙ ap (λ o. onto (option_and_then (λ x. option_map (λ xs. x ∷ xs) (table_of shape (drop (i + 1) ms))) (option_map (named m.name) o))) e
