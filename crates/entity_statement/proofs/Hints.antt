-- Hints, each once.
use Rattle.std.proofs.Common.{◌≡◌, List, [], ◌∷◌, ◌++◌, Bool, true, false, ◌||◌, not, cond, bytes_eq, refl, sym, ap, ap₂, ◌∙◌}
use Rattle.std.specs.List.{list_any}
use Rattle.std.proofs.lemmas.Bool.{true≢false}
use Rattle.std.proofs.lemmas.List.Folds.{list_any-append}
use Rattle.fed_json.proofs.Booleans.{left_true, right_true, both_true, left_false, right_false}
use Rattle.fed_json.proofs.Order.{bytes_eq-itself, equal-bytes_eq}
use Rattle.entity_statement.specs.Claims.{Identifier}
use Rattle.entity_statement.specs.Forms.{all_differ, once_after}

not_true : (b : Bool) → not b ≡ true → b ≡ false
not_true true e = cc e
not_true false e = refl

-- texts that differ, the other way round
apart_back : (a b : Identifier) → bytes_eq a b ≡ false → bytes_eq b a ≡ false
apart_back a b apart = by_test (bytes_eq b a) refl
  where
    by_test : (r : Bool) → bytes_eq b a ≡ r → bytes_eq b a ≡ false
    by_test false is = is
    by_test true is = let same = equal-bytes_eq b a is in absurd (true≢false (sym (bytes_eq-itself a) ∙ ap (bytes_eq a) (sym same) ∙ apart))

all_differ-more : (ids : List Identifier) (id : Identifier) → all_differ ids ≡ true → list_any (bytes_eq id) ids ≡ false → all_differ (ids ++ id ∷ []) ≡ true
all_differ-more [] id differ new = refl
all_differ-more (x ∷ ids) id differ new =
    let others = not_true (list_any (bytes_eq x) ids) (left_true _ _ differ) in
    let apart : list_any (bytes_eq x) (ids ++ id ∷ []) ≡ false = list_any-append (bytes_eq x) ids (id ∷ []) ∙ ap₂ (λ a b. a || (b || false)) others (apart_back id x (left_false _ _ new)) in
    both_true (ap not apart) (all_differ-more ids id (right_true _ _ differ) (right_false _ _ new))

by_case : {X : Type 0} (P : X → Type 0) (b : Bool) (x y : X) → (b ≡ true → P x) → (b ≡ false → P y) → P (cond b x y)
by_case P true x y is not_is = is refl
by_case P false x y is not_is = not_is refl

pub once_after-differ : (ids kept : List Identifier) → all_differ kept ≡ true → all_differ (once_after kept ids) ≡ true
once_after-differ [] kept differ = differ
once_after-differ (id ∷ ids) kept differ =
    by_case (λ all. all_differ all ≡ true) (list_any (bytes_eq id) kept) _ _
    (λ old. once_after-differ ids kept differ)
    (λ new. once_after-differ ids (kept ++ id ∷ []) (all_differ-more kept id differ new))
