-- The operators of a parameter that combine, pair by pair.
use Rattle.std.proofs.Common.{◌≡◌, List, [], ◌∷◌, Option, Some, None, Bool, true, false, ◌&&◌, not, cond, refl, ap₂}
use Rattle.std.specs.Option.{option_and_then}
use Rattle.std.specs.List.{find, list_all}
use Rattle.fed_json.specs.declared.tree.Json.{Json}
use Rattle.policy_merge.specs.declared.operator.Operator.{Operator}
use Rattle.policy_merge.specs.declared.operator.Operator.TheVariants.{Value, Add, Default, OneOf, SubsetOf, SupersetOf, Essential}
use Rattle.policy_merge.specs.declared.operators.Operators.{Operators}
use Rattle.fed_json.specs.Tables.{Name}
use Rattle.policy_merge.specs.Scope.{members_of}
use Rattle.fed_json.specs.Trees.{is_null}
use Rattle.policy_merge.specs.Combining.{Pair, if_both, have_members, judged, stand, pairs, clash}
use Rattle.fed_json.specs.Sets.{are_among}
use Rattle.fed_json.proofs.Booleans.{left_true, right_true}

none_found : (q : Pair → Bool) (xs : List Pair) → find q xs ≡ None → list_all (λ x. not (q x)) xs ≡ true
none_found q [] none = refl
none_found q (x ∷ xs) none = by (q x) refl none (none_found q xs)
  where
    by : (b : Bool) → q x ≡ b → cond b (Some x) (find q xs) ≡ None → (find q xs ≡ None → list_all (λ x. not (q x)) xs ≡ true) → (not (q x) && list_all (λ x. not (q x)) xs) ≡ true
    by true is none later = absurd (cc)
    by false is none later = ap₂ (λ a b. not a && b) is (later none)

not_twice : (b : Bool) → not (not b) ≡ true → b ≡ true
not_twice true e = refl
not_twice false e = absurd (cc)

-- the pairs that the laws need
pub record Stands (p : Name) (o : Operators) : Type 0 where
  pub value_add : if_both (λ v list. have_members (λ members. are_among members list) (members_of p v)) o.value o.add ≡ true
  pub value_default : if_both (λ v d. not (is_null v)) o.value o.default ≡ true
  pub value_subset_of : if_both (λ v list. have_members (λ members. are_among list members) (members_of p v)) o.value o.subset_of ≡ true
  pub add_one_of : if_both (λ list others. false) o.add o.one_of ≡ true
  pub add_subset_of : if_both (λ list others. are_among others list) o.add o.subset_of ≡ true
  pub one_of_subset_of : if_both (λ list others. false) o.one_of o.subset_of ≡ true

pub stands : (p : Name) (o : Operators) → clash p o ≡ None → Stands p o
unfolding clash pairs stand judged
stands p o none =
    let all = none_found (λ (pair : Pair). not (stand (judged p o) pair.0 pair.1)) pairs none in
    let st = λ (a b : Operator). not (not (stand (judged p o) a b)) in
    let r1 = right_true (st OneOf OneOf) _ all in
    let r2 = right_true (st Value Add) _ r1 in
    let r3 = right_true (st Value Default) _ r2 in
    let r4 = right_true (st Value OneOf) _ r3 in
    let r5 = right_true (st Value SubsetOf) _ r4 in
    let r6 = right_true (st Value SupersetOf) _ r5 in
    let r7 = right_true (st Value Essential) _ r6 in
    let r8 = right_true (st Add OneOf) _ r7 in
    let r9 = right_true (st Add SubsetOf) _ r8 in
    let r10 = right_true (st Default OneOf) _ r9 in
    let r11 = right_true (st Default SubsetOf) _ r10 in
    let r12 = right_true (st Default SupersetOf) _ r11 in
    record {
      value_add = value_pair (λ list members. are_among members list) o.value o.add (not_twice _ (left_true (st Value Add) _ r1));
      value_default = not_twice _ (left_true (st Value Default) _ r2);
      value_subset_of = value_pair (λ list members. are_among list members) o.value o.subset_of (not_twice _ (left_true (st Value SubsetOf) _ r4));
      add_one_of = not_twice _ (left_true (st Add OneOf) _ r7);
      add_subset_of = not_twice _ (left_true (st Add SubsetOf) _ r8);
      one_of_subset_of = not_twice _ (left_true (st OneOf SubsetOf) _ r12);
    }
  where
    value_pair : (test : List Json → List Json → Bool) (v : Option Json) (l : Option (List Json)) → if_both (λ value list. have_members (test list) (option_and_then (members_of p) v)) v l ≡ true
        → if_both (λ v list. have_members (test list) (members_of p v)) v l ≡ true
    value_pair test (Some v) (Some l) e = e
    value_pair test (Some v) None e = refl
    value_pair test None l e = refl
