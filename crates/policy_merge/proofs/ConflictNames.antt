-- The names in a conflict are those of a policy, so they are UTF-8.
use Rattle.std.proofs.Common.{◌≡◌, ◌⊎◌, inl, inr, List, [], ◌∷◌, Option, Some, None, Result, Ok, Err, IfErr, Bool, true, false, ◌&&◌, cond, map, bytes_eq, refl, sym, ap, ap₂, ◌∙◌}
use Rattle.std.specs.List.{list_all}
use Rattle.std.specs.Str.{is_utf8}
use Rattle.fed_json.specs.Forms.{rising}
use Rattle.fed_json.specs.declared.named.Named.{Named}
use Rattle.policy_merge.specs.declared.operators.Operators.{Operators}
use Rattle.policy_merge.specs.declared.fault.PolicyFault.{PolicyFault}
use Rattle.policy_merge.specs.declared.fault.PolicyFault.TheVariants.{Conflict, Memory}
use Rattle.fed_json.specs.Tables.{Name, item_of}
use Rattle.policy_merge.specs.Policies.{Parameters, Types, no_operators, operators_formed, parameters_formed, types_formed, operators_at}
use Rattle.policy_merge.specs.Combining.{Pair, clash}
use Rattle.policy_merge.specs.Merging.{name_of, value_or, merge_clash, IsFirst, clash_in, merge_clash_in, NamesUtf8}
use Rattle.fed_json.proofs.Booleans.{left_true, right_true}
use Rattle.fed_json.proofs.Order.{equal-bytes_eq}
use Rattle.policy_merge.proofs.Lookups.{clash-none, merge_clash-empty}

-- the item that is found has the name
item-formed : {T : Type 0} (formed : T → Bool) (n : Name) (xs : List (Named T)) → list_all (λ e. is_utf8 e.name && formed e.value) xs ≡ true → (x : Named T) → item_of name_of n xs ≡ Some x
    → (is_utf8 n ≡ true) × (formed x.value ≡ true)
item-formed formed n [] all x is = absurd (cc)
item-formed {T} formed n (e ∷ xs) all x is =
    by (bytes_eq e.name n) refl is (left_true (is_utf8 e.name && formed e.value) _ all) (item-formed formed n xs (right_true (is_utf8 e.name && formed e.value) _ all) x)
  where
    by : (b : Bool) → bytes_eq e.name n ≡ b → cond b (Some e) (item_of name_of n xs) ≡ Some x → (is_utf8 e.name && formed e.value) ≡ true
        → (item_of name_of n xs ≡ Some x → (is_utf8 n ≡ true) × (formed x.value ≡ true)) → (is_utf8 n ≡ true) × (formed x.value ≡ true)
    by true is_b is here later =
        let same : e ≡ x = (cc) in
        (ap is_utf8 (sym (equal-bytes_eq e.name n is_b)) ∙ left_true (is_utf8 e.name) _ here, ap (λ (y : Named T). formed y.value) (sym same) ∙ right_true (is_utf8 e.name) _ here)
    by false is_b is here later = later is

-- a place of which a policy speaks has names that are UTF-8
place-utf8 : (types : Types) (t p : Name) → types_formed types ≡ true → (operators_at types t p ≡ no_operators) ⊎ ((is_utf8 t ≡ true) × (is_utf8 p ≡ true))
place-utf8 types t p good = of_type (item_of name_of t types) refl
  where
    of_parameter : (is_utf8 t ≡ true) → (ps : Parameters) → parameters_formed ps ≡ true → (o : Option (Named Operators)) → item_of name_of p ps ≡ o
        → (value_or no_operators o ≡ no_operators) ⊎ ((is_utf8 t ≡ true) × (is_utf8 p ≡ true))
    of_parameter utf8 ps formed None is = inl refl
    of_parameter utf8 ps formed (Some x) is =
        inr (utf8, (item-formed operators_formed p ps (right_true (rising (map name_of ps)) _ formed) x is).0)

    of_type : (o : Option (Named Parameters)) → item_of name_of t types ≡ o
        → (value_or no_operators (item_of name_of p (value_or [] o)) ≡ no_operators) ⊎ ((is_utf8 t ≡ true) × (is_utf8 p ≡ true))
    of_type None is = inl refl
    of_type (Some x) is =
        let l = item-formed parameters_formed t types (right_true (rising (map name_of types)) _ good) x is in
        of_parameter l.0 x.value l.1 (item_of name_of p x.value) refl

-- where the operators of both are none, nothing clashes
merge_place-utf8 : (us ls : Types) (t p : Name) (pair : Pair) → types_formed us ≡ true → types_formed ls ≡ true → merge_clash_in us ls t p ≡ Some pair → (is_utf8 t ≡ true) × (is_utf8 p ≡ true)
merge_place-utf8 us ls t p pair good_u good_l e = by (place-utf8 us t p good_u) (place-utf8 ls t p good_l)
  where
    by : (operators_at us t p ≡ no_operators) ⊎ ((is_utf8 t ≡ true) × (is_utf8 p ≡ true)) → (operators_at ls t p ≡ no_operators) ⊎ ((is_utf8 t ≡ true) × (is_utf8 p ≡ true))
        → (is_utf8 t ≡ true) × (is_utf8 p ≡ true)
    by (inr utf8) l = utf8
    by (inl no_u) (inr utf8) = utf8
    by (inl no_u) (inl no_l) = let none : ◌≡◌ {A = Option Pair} None (Some pair) = sym (ap₂ (merge_clash p) no_u no_l ∙ merge_clash-empty p) ∙ e in absurd (cc)

pub merging-utf8 : (us ls : Types) (f : PolicyFault) → types_formed us ≡ true → types_formed ls ≡ true → IsFirst (merge_clash_in us ls) f → NamesUtf8 f
merging-utf8 us ls Memory good_u good_l is = tt
merging-utf8 us ls (Conflict t p g s) good_u good_l is = merge_place-utf8 us ls t p (g, s) good_u good_l is.0

combining-utf8 : (us : Types) (f : PolicyFault) → types_formed us ≡ true → IsFirst (clash_in us) f → NamesUtf8 f
combining-utf8 us Memory good is = tt
combining-utf8 us (Conflict t p g s) good is = by (place-utf8 us t p good)
  where
    by : (operators_at us t p ≡ no_operators) ⊎ ((is_utf8 t ≡ true) × (is_utf8 p ≡ true)) → (is_utf8 t ≡ true) × (is_utf8 p ≡ true)
    by (inr utf8) = utf8
    by (inl nothing) = let none : ◌≡◌ {A = Option Pair} None (Some (g, s)) = sym (ap (clash p) nothing ∙ clash-none p) ∙ is.0 in absurd (cc)

pub combined-utf8 : (us : Types) (r : Result (Unit {0}) PolicyFault) → types_formed us ≡ true → IfErr r (IsFirst (clash_in us)) → IfErr r NamesUtf8
combined-utf8 us (Ok x) good is = tt
combined-utf8 us (Err f) good is = combining-utf8 us f good is
