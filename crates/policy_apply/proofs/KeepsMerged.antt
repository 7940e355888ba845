-- What keeps within merged operators keeps within those of both sides.
use Rattle.std.proofs.Common.{◌≡◌, List, [], ◌∷◌, Option, Some, None, Ok, Bool, true, false, ◌||◌, not, cond, refl, sym, ap, ◌∙◌, subst}
use Rattle.std.specs.Option.{option_map_or}
use Rattle.fed_json.specs.Sets.{same, is_among, union_of, intersection_of}
use Rattle.fed_json.specs.declared.tree.Json.{Json}
use Rattle.fed_json.proofs.Sames.{same-Decides}
use Rattle.policy_merge.specs.declared.operators.Operators.{Operators}
use Rattle.fed_json.specs.Tables.{Name}
use Rattle.policy_merge.specs.Scope.{members_of}
use Rattle.policy_merge.specs.Policies.{Types, operators_at}
use Rattle.fed_json.specs.Trees.{is_null}
use Rattle.fed_base.specs.Values.{if_there}
use Rattle.policy_merge.specs.Combining.{if_both, have_members}
use Rattle.fed_json.specs.Sets.{are_among}
use Rattle.policy_merge.specs.Merging.{met, merged_operators, merge_clash, merging}
use Rattle.policy_merge.proofs.Neutral.{merge_clash-agree}
use Rattle.policy_merge.proofs.MergeWalk.{merging-ok, merging-clear}
use Rattle.policy_merge.proofs.Lookups.{operators_at-merged, merge_clash-at}
use Rattle.policy_apply.specs.Acting.{has_all, is_there}
use Rattle.policy_apply.specs.Keeping.{is_value, is_within, KeepsWithin, IsMergedOf, OfEach}
use Rattle.fed_json.proofs.SetLaws.{Within, within-all, all-within, within-trans, left-union, right-union, intersection-left, intersection-right}

-- ---- one operator

-- what a test of the merged value says of both
module _ {X : Type 0} (both : X → X → X) (test : X → Bool) where
  met-upper : ((a b : X) → test (both a b) ≡ true → test a ≡ true) → (u l : Option X) → if_there test (met both u l) ≡ true → if_there test u ≡ true
  met-upper each None l e = refl
  met-upper each (Some a) None e = e
  met-upper each (Some a) (Some b) e = each a b e

  met-lower : ((a b : X) → test (both a b) ≡ true → test b ≡ true) → (u l : Option X) → if_there test (met both u l) ≡ true → if_there test l ≡ true
  met-lower each u None e = refl
  met-lower each None (Some b) e = e
  met-lower each (Some a) (Some b) e = each a b e

-- a value with all of a list has all of its part
weaker-has : (p : Name) (list part : List Json) → Within part list → (v : Json) → has_all p list v ≡ true → has_all p part v ≡ true
weaker-has p list part within v e = by (members_of p v) e
  where
    by : (m : Option (List Json)) → have_members (λ members. are_among members list) m ≡ true → have_members (λ members. are_among members part) m ≡ true
    by None e = e
    by (Some members) e = within-all members part (within-trans part list members within (all-within members list e))

weaker-within : (p : Name) (part list : List Json) → Within part list → (v : Json) → is_within p part v ≡ true → is_within p list v ≡ true
weaker-within p part list within v e = by (members_of p v) e
  where
    by : (m : Option (List Json)) → have_members (are_among part) m ≡ true → have_members (are_among list) m ≡ true
    by None e = e
    by (Some members) e = within-all list members (within-trans members part list (all-within part members e) within)

there-weaker : (f g : Json → Bool) → ((v : Json) → f v ≡ true → g v ≡ true) → (y : Option Json) → if_there f y ≡ true → if_there g y ≡ true
there-weaker f g each None e = refl
there-weaker f g each (Some v) e = each v e

must-weaker : (f g : Json → Bool) → ((v : Json) → f v ≡ true → g v ≡ true) → (y : Option Json) → option_map_or f y false ≡ true → option_map_or g y false ≡ true
must-weaker f g each None e = e
must-weaker f g each (Some v) e = each v e

required-upper : (a b there : Bool) → (not (a || b) || there) ≡ true → (not a || there) ≡ true
required-upper true b there e = e
required-upper false b there e = refl

required-lower : (a b there : Bool) → (not (a || b) || there) ≡ true → (not b || there) ≡ true
required-lower true true there e = e
required-lower true false there e = refl
required-lower false b there e = e

-- the lower value is the upper one, where both have one
value-lower : (test : Json → Bool) (u l : Option Json) → if_both same u l ≡ true → if_there test (met (λ u l. u) u l) ≡ true → if_there test l ≡ true
value-lower test u None agree e = refl
value-lower test None (Some b) agree e = e
value-lower test (Some a) (Some b) agree e = ap test (sym ((same-Decides a b).0 agree)) ∙ e

-- ---- all of them

module _ (p : Name) (u l : Operators) (y : Option Json) (none : merge_clash p u l ≡ None) (k : KeepsWithin p (merged_operators u l) y) where
  keeps-upper : KeepsWithin p u y
  keeps-upper = record {
    value = met-upper (λ u l. u) (λ v. cond (is_null v) (not (is_there y)) (option_map_or (is_value p v) y false)) (λ a b e. e) u.value l.value k.value;
    add = met-upper union_of (λ list. option_map_or (has_all p list) y false) (λ a b. must-weaker (has_all p (union_of a b)) (has_all p a) (weaker-has p (union_of a b) a (left-union a b)) y) u.add l.add k.add;
    one_of = met-upper intersection_of (λ list. if_there (is_among list) y) (λ a b. there-weaker (is_among (intersection_of a b)) (is_among a) (intersection-left a b) y) u.one_of l.one_of k.one_of;
    subset_of = met-upper intersection_of (λ list. if_there (is_within p list) y) (λ a b. there-weaker (is_within p (intersection_of a b)) (is_within p a) (weaker-within p (intersection_of a b) a (intersection-left a b)) y) u.subset_of l.subset_of k.subset_of;
    superset_of = met-upper union_of (λ list. if_there (has_all p list) y) (λ a b. there-weaker (has_all p (union_of a b)) (has_all p a) (weaker-has p (union_of a b) a (left-union a b)) y) u.superset_of l.superset_of k.superset_of;
    essential = met-upper (λ u l. u || l) (λ required. not required || is_there y) (λ a b. required-upper a b (is_there y)) u.essential l.essential k.essential;
  }

  keeps-lower : KeepsWithin p l y
  keeps-lower = record {
    value = value-lower (λ v. cond (is_null v) (not (is_there y)) (option_map_or (is_value p v) y false)) u.value l.value (merge_clash-agree p u l none) k.value;
    add = met-lower union_of (λ list. option_map_or (has_all p list) y false) (λ a b. must-weaker (has_all p (union_of a b)) (has_all p b) (weaker-has p (union_of a b) b (right-union a b)) y) u.add l.add k.add;
    one_of = met-lower intersection_of (λ list. if_there (is_among list) y) (λ a b. there-weaker (is_among (intersection_of a b)) (is_among b) (intersection-right a b) y) u.one_of l.one_of k.one_of;
    subset_of = met-lower intersection_of (λ list. if_there (is_within p list) y) (λ a b. there-weaker (is_within p (intersection_of a b)) (is_within p b) (weaker-within p (intersection_of a b) b (intersection-right a b)) y) u.subset_of l.subset_of k.subset_of;
    superset_of = met-lower union_of (λ list. if_there (has_all p list) y) (λ a b. there-weaker (has_all p (union_of a b)) (has_all p b) (weaker-has p (union_of a b) b (right-union a b)) y) u.superset_of l.superset_of k.superset_of;
    essential = met-lower (λ u l. u || l) (λ required. not required || is_there y) (λ a b. required-lower a b (is_there y)) u.essential l.essential k.essential;
  }

-- ---- policies

pub keeps-both : (upper lower policy : Types) → merging upper lower ≡ Ok policy → (t p : Name) (y : Option Json) → KeepsWithin p (operators_at policy t p) y
    → KeepsWithin p (operators_at upper t p) y × KeepsWithin p (operators_at lower t p) y
keeps-both upper lower policy ok t p y k =
    let is : operators_at policy t p ≡ merged_operators (operators_at upper t p) (operators_at lower t p) =
    ap (λ types. operators_at types t p) (merging-ok upper lower policy ok) ∙ operators_at-merged upper lower t p in
    let none = merge_clash-at upper lower t p (merging-clear upper lower policy ok) in
    let k' = subst (λ o. KeepsWithin p o y) is k in
    (keeps-upper p (operators_at upper t p) (operators_at lower t p) y none k', keeps-lower p (operators_at upper t p) (operators_at lower t p) y none k')

pub keeps-all : (top : Types) (lowers : List Types) (policy : Types) → IsMergedOf top lowers policy → (t p : Name) (y : Option Json) → KeepsWithin p (operators_at policy t p) y
    → OfEach (λ one. KeepsWithin p (operators_at one t p) y) (top ∷ lowers)
keeps-all top [] policy is t p y k = (subst (λ types. KeepsWithin p (operators_at types t p) y) is k, tt)
keeps-all top (lower ∷ lowers) policy is t p y k =
    let rest = keeps-all is.0 lowers policy is.2 t p y k in
    let two = keeps-both top lower is.0 is.1 t p y rest.0 in
    (two.0, (two.1, rest.1))
