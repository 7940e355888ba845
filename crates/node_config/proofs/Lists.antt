-- What the code's lists say, as lists of the definitions.
use Rattle.std.proofs.Common.{◌≡◌, suc, List, [], ◌∷◌, length, map, Bool, ◌||◌, ◌&&◌, not, true, bytes_eq, nat_le, Result, Ok, Err, IfOk, refl, sym, ap, ap₂, ◌∙◌}
use Rattle.std.specs.List.{list_any}
use Rattle.fed_base.specs.declared.faults.Memory.{Memory}
use Rattle.entity_statement.specs.Claims.{Identifier}
use Rattle.entity_statement.specs.Forms.{all_differ}
use Rattle.node_config.specs.declared.entities.AnchorPart.{AnchorPart}
use Rattle.node_config.specs.declared.subordinates.SubordinateConfig.{SubordinateConfig}
use Rattle.node_config.specs.Nodes.{anchor_id, subordinate_id}
use Rattle.node_config.specs.Subordinates.{are_anchors, are_subordinates, is_anchor_count}
use Rattle.node_config.specs.Told.{told_anchor, told_subordinate}

lengths : {A B : Type 0} (f : A → B) (xs : List A) → length (map f xs) ≡ length xs
lengths f [] = refl
lengths f (x ∷ xs) = ap suc (lengths f xs)

twice : {A B C : Type 0} (f : B → C) (g : A → B) (xs : List A) → map f (map g xs) ≡ map (λ x. f (g x)) xs
twice f g [] = refl
twice f g (x ∷ xs) = ap (λ ys. f (g x) ∷ ys) (twice f g xs)

tested : {A B : Type 0} (test : B → Bool) (f : A → B) (xs : List A) → list_any test (map f xs) ≡ list_any (λ x. test (f x)) xs
tested test f [] = refl
tested test f (x ∷ xs) = ap (λ b. test (f x) || b) (tested test f xs)

pub anchors_are : (list : List AnchorPart) → are_anchors (map told_anchor list) ≡ (is_anchor_count (length list) && all_differ (map (λ (a : AnchorPart). a.anchor) list))
anchors_are list = ap₂ (λ n ids. is_anchor_count n && all_differ ids) (lengths told_anchor list) (twice anchor_id told_anchor list)

pub subordinates_are : (id : Identifier) (list : List SubordinateConfig) → are_subordinates id (map told_subordinate list)
    ≡ ((nat_le (length list) 10000 && not (list_any (λ (s : SubordinateConfig). bytes_eq id s.id) list)) && all_differ (map (λ (s : SubordinateConfig). s.id) list))
subordinates_are id list =
    let ids = twice subordinate_id told_subordinate list in
    ap₂ (λ n all. (nat_le n 10000 && not (list_any (bytes_eq id) all)) && all_differ all) (lengths told_subordinate list) ids
    ∙ ap (λ any. (nat_le (length list) 10000 && not any) && all_differ (map (λ (s : SubordinateConfig). s.id) list)) (tested (bytes_eq id) (λ (s : SubordinateConfig). s.id) list)

-- where there are few enough, and none is the node itself, only that all differ is left
pub differ_of : (id : Identifier) (list : List SubordinateConfig) (differ : Result Bool Memory)
    → (nat_le (length list) 10000 && not (list_any (λ (s : SubordinateConfig). bytes_eq id s.id) list)) ≡ true
    → IfOk differ (λ d. d ≡ all_differ (map (λ (s : SubordinateConfig). s.id) list)) → IfOk differ (λ d. d ≡ are_subordinates id (map told_subordinate list))
differ_of id list (Ok d) below differ =
    differ ∙ ap (λ b. b && all_differ (map (λ (s : SubordinateConfig). s.id) list)) (sym below) ∙ sym (subordinates_are id list)
differ_of id list (Err memory) below differ = tt
