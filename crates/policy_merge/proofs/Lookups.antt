-- What two tables side by side have under a name.
use Rattle.std.proofs.Common.{◌≡◌, List, [], ◌∷◌, Option, Some, None, option_map, Bool, true, false, ◌||◌, cond, map, bytes_eq, refl, sym, ap, ◌∙◌}
use Rattle.std.specs.Option.{option_map_or}
use Rattle.std.specs.List.{list_any}
use Rattle.fed_json.specs.declared.named.Named.{Named}
use Rattle.policy_merge.specs.declared.operators.Operators.{Operators}
use Rattle.fed_json.specs.Tables.{Name, names_of_both, item_of, Side, side_at, sides, first}
use Rattle.policy_merge.specs.Policies.{Parameters, Types, named, no_operators, parameters_at, operators_at}
use Rattle.policy_merge.specs.Combining.{clash, conflict_at, conflict_in_parameters, conflict_in, stand, judged, pairs}
use Rattle.policy_merge.specs.Merging.{name_of, value_or, beside, merged_operators, merge_clash, merged_parameters, merged, parameter_conflict, parameters_conflict, type_conflict, merge_conflict}
use Rattle.fed_json.proofs.NamesOfBoth.{is_name, side_at-absent, none_at}
use Rattle.fed_json.proofs.Options.{option_map_none}
use Rattle.fed_json.proofs.Order.{equal-bytes_eq, bytes_eq-back}

-- ---- a merged table at a name

module _ {S T : Type 0} (at : Name → S) (f : S → T) where
  made_at : (n : Name) (names : List Name) → item_of name_of n (map (λ m. named m (f (at m))) names) ≡ cond (is_name n names) (Some (named n (f (at n)))) None
  unfolding is_name
  made_at n [] = refl
  made_at n (m ∷ names) = by (bytes_eq m n) refl (made_at n names)
    where
      by : (b : Bool) → bytes_eq m n ≡ b → item_of name_of n (map (λ m. named m (f (at m))) names) ≡ cond (list_any (bytes_eq n) names) (Some (named n (f (at n)))) None
          → cond b (Some (named m (f (at m)))) (item_of name_of n (map (λ m. named m (f (at m))) names)) ≡ cond (bytes_eq n m || list_any (bytes_eq n) names) (Some (named n (f (at n)))) None
      by true is rest =
          ap (λ x. Some (named x (f (at x)))) (equal-bytes_eq m n is) ∙ sym (ap (λ b. cond (b || list_any (bytes_eq n) names) (Some (named n (f (at n)))) None) (bytes_eq-back true m n is))
      by false is rest = rest ∙ sym (ap (λ b. cond (b || list_any (bytes_eq n) names) (Some (named n (f (at n)))) None) (bytes_eq-back false m n is))

map-map : {X Y Z : Type 0} (g : Y → Z) (f : X → Y) (xs : List X) → map g (map f xs) ≡ map (λ x. g (f x)) xs
map-map g f [] = refl
map-map g f (x ∷ xs) = ap (λ ys. g (f x) ∷ ys) (map-map g f xs)

-- the merged value at each name comes of what both have there
pub merged_at : {T : Type 0} (f : Side (Named T) (Named T) → T) (none : T) (us ls : List (Named T)) (n : Name) → f (record { name = n; upper = None; lower = None }) ≡ none
    → value_or none (item_of name_of n (map (λ s. named s.name (f s)) (beside us ls))) ≡ f (side_at name_of name_of us ls n)
unfolding sides
merged_at f none us ls n empty =
    ap (λ xs. value_or none (item_of name_of n xs)) (map-map (λ s. named s.name (f s)) (side_at name_of name_of us ls) (names_of_both (map name_of us) (map name_of ls)))
    ∙ ap (value_or none) (made_at (side_at name_of name_of us ls) f n (names_of_both (map name_of us) (map name_of ls)))
    ∙ by (is_name n (names_of_both (map name_of us) (map name_of ls))) refl
  where
    by : (b : Bool) → is_name n (names_of_both (map name_of us) (map name_of ls)) ≡ b → value_or none (cond b (Some (named n (f (side_at name_of name_of us ls n)))) None) ≡ f (side_at name_of name_of us ls n)
    by true is = refl
    by false is = sym (ap f (side_at-absent name_of name_of us ls n is) ∙ empty)

nothing_merged : merged_parameters [] [] ≡ []
unfolding merged_parameters sides names_of_both
nothing_merged = refl

parameters_at-merged : (us ls : Types) (t : Name) → parameters_at (merged us ls) t ≡ merged_parameters (parameters_at us t) (parameters_at ls t)
unfolding merged
parameters_at-merged us ls t =
    merged_at (λ (s : Side (Named Parameters) (Named Parameters)). merged_parameters (value_or [] s.upper) (value_or [] s.lower)) [] us ls t nothing_merged

at_parameters : (p : Name) (us ls : Parameters) → value_or no_operators (item_of name_of p (merged_parameters us ls)) ≡ merged_operators (value_or no_operators (item_of name_of p us)) (value_or no_operators (item_of name_of p ls))
unfolding merged_parameters
at_parameters p us ls = merged_at (λ (s : Side (Named Operators) (Named Operators)). merged_operators (value_or no_operators s.upper) (value_or no_operators s.lower)) no_operators us ls p refl

-- the operators of a merged policy are those of both, merged
pub operators_at-merged : (us ls : Types) (t p : Name) → operators_at (merged us ls) t p ≡ merged_operators (operators_at us t p) (operators_at ls t p)
operators_at-merged us ls t p =
    ap (λ ps. value_or no_operators (item_of name_of p ps)) (parameters_at-merged us ls t) ∙ at_parameters p (parameters_at us t) (parameters_at ls t)

-- ---- no conflict at any name

pub clash-none : (p : Name) → clash p no_operators ≡ None
unfolding clash pairs stand judged
clash-none p = refl

pub merge_clash-empty : (p : Name) → merge_clash p no_operators no_operators ≡ None
unfolding merge_clash
merge_clash-empty p = clash-none p

pub nothing_conflicts : (t : Name) → parameters_conflict t [] [] ≡ None
unfolding parameters_conflict sides names_of_both
nothing_conflicts t = refl

pub clear_parameters : (t p : Name) (us ls : Parameters) → parameters_conflict t us ls ≡ None → merge_clash p (value_or no_operators (item_of name_of p us)) (value_or no_operators (item_of name_of p ls)) ≡ None
unfolding parameters_conflict
clear_parameters t p us ls none = option_map_none (conflict_at t p) _ (none_at name_of name_of (parameter_conflict t) us ls p none (ap (option_map (conflict_at t p)) (merge_clash-empty p)))

-- two policies that merge clash in no parameter
pub merge_clash-at : (us ls : Types) (t p : Name) → merge_conflict us ls ≡ None → merge_clash p (operators_at us t p) (operators_at ls t p) ≡ None
unfolding merge_conflict
merge_clash-at us ls t p none = clear_parameters t p (parameters_at us t) (parameters_at ls t) (none_at name_of name_of type_conflict us ls t none (nothing_conflicts t))

-- the first item under a name gives no answer where none does
found_none : {X F : Type 0} (name_of : X → Name) (f : X → Option F) (n : Name) (xs : List X) → first f xs ≡ None → (x : X) → item_of name_of n xs ≡ Some x → (name_of x ≡ n) × (f x ≡ None)
found_none name_of f n [] none x is = absurd (cc)
found_none {X} {F} name_of f n (y ∷ xs) none x is = by (f y) refl none (bytes_eq (name_of y) n) refl is (found_none name_of f n xs)
  where
    by : (o : Option F) → f y ≡ o → option_map_or Some o (first f xs) ≡ None → (b : Bool) → bytes_eq (name_of y) n ≡ b → cond b (Some y) (item_of name_of n xs) ≡ Some x
        → (first f xs ≡ None → (x : X) → item_of name_of n xs ≡ Some x → (name_of x ≡ n) × (f x ≡ None)) → (name_of x ≡ n) × (f x ≡ None)
    by (Some z) is_o none b is_b is later = absurd (cc)
    by None is_o none true is_b is later = let same : y ≡ x = (cc) in (ap name_of (sym same) ∙ equal-bytes_eq (name_of y) n is_b, ap f (sym same) ∙ is_o)
    by None is_o none false is_b is later = later none x is

clear_alone : (p m : Name) (ps : Parameters) → conflict_in_parameters m ps ≡ None → clash p (value_or no_operators (item_of name_of p ps)) ≡ None
unfolding conflict_in_parameters
clear_alone p m ps none = by (item_of name_of p ps) refl
  where
    by : (o : Option (Named Operators)) → item_of name_of p ps ≡ o → clash p (value_or no_operators o) ≡ None
    by None is = clash-none p
    by (Some x) is =
        let f = found_none name_of (λ (p : Named Operators). option_map (conflict_at m p.name) (clash p.name p.value)) p ps none x is in
        ap (λ n. clash n x.value) (sym f.0) ∙ option_map_none (conflict_at m x.name) _ f.1

-- the operators of each parameter of a policy that combines do
pub clash-at : (types : Types) (t p : Name) → conflict_in types ≡ None → clash p (operators_at types t p) ≡ None
unfolding conflict_in
clash-at types t p none = by (item_of name_of t types) refl
  where
    by : (o : Option (Named Parameters)) → item_of name_of t types ≡ o → clash p (value_or no_operators (item_of name_of p (value_or [] o))) ≡ None
    by None is = clash-none p
    by (Some x) is = clear_alone p x.name x.value (found_none name_of (λ (t : Named Parameters). conflict_in_parameters t.name t.value) t types none x is).1
