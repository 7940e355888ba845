-- What operators that combine leave of a parameter keeps within them, and stays as it is under them.
use Rattle.std.proofs.Common.{◌≡◌, List, [], ◌++◌, Option, Some, None, option_map, Ok, Err, Bool, true, false, ◌&&◌, ◌||◌, not, cond, filter, refl, sym, ap, ap₂, ◌∙◌, subst}
use Rattle.std.specs.Option.{option_map_or, option_or}
use Rattle.fed_json.specs.Trees.{text_in, list_in}
use Rattle.fed_json.specs.Sets.{same, is_among, once, union_of, intersection_of}
use Rattle.fed_json.specs.declared.tree.Json.{Json, out-Json}
use Rattle.fed_json.specs.declared.tree.Json.TheOpen.{Json-F}
use Rattle.fed_json.specs.declared.tree.Member.{Member}
use Rattle.fed_json.proofs.Sames.{same-Decides}
use Rattle.policy_merge.specs.declared.operator.Operator.TheVariants.{Add, SubsetOf}
use Rattle.policy_merge.specs.declared.operators.Operators.{Operators}
use Rattle.fed_json.specs.Tables.{Name}
use Rattle.policy_merge.specs.Scope.{is_scope, word_members, members_of}
use Rattle.fed_json.specs.Trees.{is_null}
use Rattle.fed_base.specs.Values.{if_there}
use Rattle.policy_merge.specs.Combining.{if_both, have_members, clash}
use Rattle.fed_json.specs.Sets.{are_among}
use Rattle.policy_merge.specs.Shapes.{as_default}
use Rattle.fed_json.proofs.Booleans.{both_true}
use Rattle.policy_apply.specs.Acting.{made, by_add, by_subset_of, with_added, with_kept, has_all, is_there, is_one_of, acted}
use Rattle.policy_apply.specs.Keeping.{is_value, is_within, KeepsWithin, AddsWords}
use Rattle.policy_apply.proofs.Courses.{Course, course, acted-course, set_first}
use Rattle.policy_apply.proofs.Made.{Has, Fresh, made-again, add-absent, add-present, add-nothing, kept-absent, kept-present, kept-nothing}
use Rattle.fed_json.proofs.SetLaws.{Within, within-all, all-within, within-trans, left-union, right-union, union-within, intersection-left, intersection-right, within-intersection, union-known, intersection-known}
use Rattle.policy_apply.proofs.Standing.{Stands, stands}

-- ---- members

-- a test on members that a value has
have : (test : List Json → Bool) (m : Option (List Json)) → have_members test m ≡ true → (members : List Json) × (m ≡ Some members) × (test members ≡ true)
have test None e = absurd (cc)
have test (Some members) e = (members, refl, e)

has : (test : List Json → Bool) (p : Name) (v : Json) (members : List Json) → members_of p v ≡ Some members → test members ≡ true → have_members test (members_of p v) ≡ true
has test p v members is e = ap (have_members test) is ∙ e

one_list : (p : Name) (v : Json) (a b : List Json) → members_of p v ≡ Some a → members_of p v ≡ Some b → a ≡ b
one_list p v a b e f = let same : Some a ≡ Some b = sym e ∙ f in (cc)

-- null has no members
abbrev null_at : Json-F Json Member → Bool
null_at Json-F.Null = true
null_at _ = false

null-members : (p : Name) (v : Json) → is_null v ≡ true → members_of p v ≡ None
null-members p v null = by (out-Json v) refl null
  where
    by : (l : Json-F Json Member) → out-Json v ≡ l → is_null v ≡ true → members_of p v ≡ None
    by Json-F.Null is null =
        ap₂ (λ text list. option_or (cond (is_scope p) (option_map word_members text) None) list) (ap text_in is) (ap list_in is) ∙ no_words (is_scope p)
      where
        no_words : (b : Bool) → option_or {T = List Json} (cond b None None) None ≡ None
        no_words true = refl
        no_words false = refl
    by (Json-F.Bool b) is null = let never : false ≡ true = sym (ap null_at is) ∙ null in absurd (cc)
    by (Json-F.Int n) is null = let never : false ≡ true = sym (ap null_at is) ∙ null in absurd (cc)
    by Json-F.Odd is null = let never : false ≡ true = sym (ap null_at is) ∙ null in absurd (cc)
    by (Json-F.Text text) is null = let never : false ≡ true = sym (ap null_at is) ∙ null in absurd (cc)
    by (Json-F.List list) is null = let never : false ≡ true = sym (ap null_at is) ∙ null in absurd (cc)
    by (Json-F.Object members) is null = let never : false ≡ true = sym (ap null_at is) ∙ null in absurd (cc)

-- what a part of the members becomes under `subset_of`
carried : (p : Name) (o : Operators) (x y : Option Json) → by_subset_of p o x ≡ Ok y → (us : List Json) → Has p x us → (part : List Json) → Within part us
    → ((list : List Json) → o.subset_of ≡ Some list → Within part list) → (ms : List Json) × Has p y ms × Within part ms × Within ms us
carried p o x y e us h part within each = by o.subset_of refl
  where
    by : (l : Option (List Json)) → o.subset_of ≡ l → (ms : List Json) × Has p y ms × Within part ms × Within ms us
    by None is = (us, subst (λ z. Has p z us) (sym (kept-nothing p o x y is e)) h, within, λ z there. there)
    by (Some list) is =
        let k = kept-present p o list h.0 y is (ap (by_subset_of p o) (sym h.1) ∙ e) in
        let same : k.0 ≡ us = one_list p h.0 k.0 us k.1 h.2 in (
          intersection_of k.0 list,
          k.2.2,
          within-intersection k.0 list part (subst (Within part) (sym same) within) (each list is),
          subst (Within (intersection_of k.0 list)) same (intersection-left k.0 list),
        )

has_all-members : (p : Name) (list : List Json) (y : Option Json) (ms : List Json) → Has p y ms → Within list ms → option_map_or (has_all p list) y false ≡ true
has_all-members p list y ms h within = ap (λ o. option_map_or (has_all p list) o false) h.1 ∙ has (λ members. are_among members list) p h.0 ms h.2 (within-all ms list within)

is_value-members : (p : Name) (v : Json) (y : Option Json) (vs ms : List Json) → members_of p v ≡ Some vs → Has p y ms → Within vs ms → Within ms vs → option_map_or (is_value p v) y false ≡ true
is_value-members p v y vs ms is h f g =
    ap (λ o. option_map_or (is_value p v) o false) h.1
    ∙ or_second (same h.0 v) (have_members (λ members. have_members (λ others. are_among members others && are_among others members) (members_of p v)) (members_of p h.0))
    (has (λ members. have_members (λ others. are_among members others && are_among others members) (members_of p v)) p h.0 ms h.2
    (has (λ others. are_among ms others && are_among others ms) p v vs is (both_true (within-all ms vs f) (within-all vs ms g))))
  where
    or_second : (a b : Bool) → b ≡ true → (a || b) ≡ true
    or_second true b e = refl
    or_second false b e = e

module _ (p : Name) (o : Operators) (x y : Option Json) (none : clash p o ≡ None) (words : AddsWords p o) (e : acted p o x ≡ Ok y) where
  c : Course p o x y
  c = course p o x y e

  s : Stands p o
  s = stands p o none

  -- what `add` leaves has members, all of its list among them
  added : (list : List Json) → o.add ≡ Some list → (us : List Json) × Fresh p c.added us × Within list us
  added list is = by (set_first o x) refl
    where
      by : (z : Option Json) → set_first o x ≡ z → (us : List Json) × Fresh p c.added us × Within list us
      by None is_z = (union_of list [], add-absent p o list c.added is words (ap (by_add p o) (sym is_z) ∙ c.add), left-union list [])
      by (Some v) is_z = let a = add-present p o list v c.added is words (ap (by_add p o) (sym is_z) ∙ c.add) in (union_of a.0 list, a.2, right-union a.0 list)

  -- and is what `subset_of` sees
  defaulted : (us : List Json) → Has p c.added us → Has p (option_or c.added o.default) us
  defaulted us h = (h.0, ap (λ z. option_or z o.default) h.1, h.2)

  added_kept : (list : List Json) → o.add ≡ Some list → (sl : List Json) → o.subset_of ≡ Some sl → Within list sl
  added_kept list is sl is_s = all-within sl list (sym (ap₂ (if_both (λ list others. are_among others list)) is is_s) ∙ s.add_subset_of)

  keeps-add : if_there (λ list. option_map_or (has_all p list) y false) o.add ≡ true
  keeps-add = by o.add refl
    where
      by : (l : Option (List Json)) → o.add ≡ l → if_there (λ list. option_map_or (has_all p list) y false) l ≡ true
      by None is = refl
      by (Some list) is =
          let a = added list is in
          let k = carried p o (option_or c.added o.default) y c.subset_of a.0 (defaulted a.0 a.1.2) list a.2 (added_kept list is) in
          has_all-members p list y k.0 k.1 k.2

  keeps-one_of : is_one_of o.one_of y ≡ true
  keeps-one_of = by o.one_of o.subset_of refl refl
    where
      by : (l k : Option (List Json)) → o.one_of ≡ l → o.subset_of ≡ k → is_one_of o.one_of y ≡ true
      by None k is is_k = ap (λ l. is_one_of l y) is
      by (Some list) None is is_k = ap (is_one_of o.one_of) (kept-nothing p o _ y is_k c.subset_of) ∙ c.one_of
      by (Some list) (Some sl) is is_k = let never : false ≡ true = sym (ap₂ (if_both (λ list others. false)) is is_k) ∙ s.one_of_subset_of in absurd (cc)

  keeps-subset_of : if_there (λ list. if_there (is_within p list) y) o.subset_of ≡ true
  keeps-subset_of = by o.subset_of refl (option_or c.added o.default) refl
    where
      by : (l : Option (List Json)) → o.subset_of ≡ l → (z : Option Json) → option_or c.added o.default ≡ z → if_there (λ list. if_there (is_within p list) y) l ≡ true
      by None is z is_z = refl
      by (Some list) is None is_z = ap (if_there (is_within p list)) (kept-absent p o y (ap (by_subset_of p o) (sym is_z) ∙ c.subset_of))
      by (Some list) is (Some v) is_z =
          let k = kept-present p o list v y is (ap (by_subset_of p o) (sym is_z) ∙ c.subset_of) in
          ap (if_there (is_within p list)) k.2.2.1
          ∙ has (are_among list) p k.2.2.0 (intersection_of k.0 list) k.2.2.2 (within-all list (intersection_of k.0 list) (intersection-right k.0 list))

  -- under a null value nothing is there
  null-absent : (v : Json) → o.value ≡ Some v → is_null v ≡ true → y ≡ None
  null-absent v is null =
      let first : set_first o x ≡ None = ap (λ w. option_map_or as_default w x) is ∙ ap (λ b. cond b None (Some v)) null in
      let no_add : o.add ≡ None = by_add_none o.add refl in
      let no_default : o.default ≡ None = by_default_none o.default refl in
      let still : option_or c.added o.default ≡ None = ap₂ option_or (add-nothing p o _ c.added no_add c.add ∙ first) no_default in
      kept-absent p o y (ap (by_subset_of p o) (sym still) ∙ c.subset_of)
    where
      by_add_none : (l : Option (List Json)) → o.add ≡ l → o.add ≡ None
      by_add_none None is_l = is_l
      by_add_none (Some list) is_l =
          let fact : have_members (λ members. are_among members list) (members_of p v) ≡ true = sym (ap₂ (if_both (λ v list. have_members (λ members. are_among members list) (members_of p v))) is is_l) ∙ s.value_add in
          let never : false ≡ true = sym (ap (have_members (λ members. are_among members list)) (null-members p v null)) ∙ fact in absurd (cc)

      by_default_none : (d : Option Json) → o.default ≡ d → o.default ≡ None
      by_default_none None is_d = is_d
      by_default_none (Some d) is_d =
          let never : false ≡ true = sym (ap not null) ∙ sym (ap₂ (if_both (λ v d. not (is_null v))) is is_d) ∙ s.value_default in absurd (cc)

  value_kept : (v : Json) → o.value ≡ Some v → (vs : List Json) → members_of p v ≡ Some vs → (sl : List Json) → o.subset_of ≡ Some sl → Within vs sl
  value_kept v is vs is_vs sl is_s =
      all-within sl vs
      (sym (ap (have_members (λ members. are_among sl members)) is_vs) ∙ sym (ap₂ (if_both (λ v list. have_members (λ members. are_among list members) (members_of p v))) is is_s) ∙ s.value_subset_of)

  value-there : (v : Json) → o.value ≡ Some v → is_null v ≡ false → option_map_or (is_value p v) y false ≡ true
  value-there v is null = by o.add o.subset_of refl refl
    where
      first : set_first o x ≡ Some v
      first = ap (λ w. option_map_or as_default w x) is ∙ ap (λ b. cond b None (Some v)) null

      unchanged : o.add ≡ None → option_or c.added o.default ≡ Some v
      unchanged is_a = ap (λ z. option_or z o.default) (add-nothing p o _ c.added is_a c.add ∙ first)

      by : (a k : Option (List Json)) → o.add ≡ a → o.subset_of ≡ k → option_map_or (is_value p v) y false ≡ true
      by None None is_a is_k =
          ap (λ z. option_map_or (is_value p v) z false) (kept-nothing p o _ y is_k c.subset_of ∙ unchanged is_a)
          ∙ ap (λ b. b || have_members (λ members. have_members (λ others. are_among members others && are_among others members) (members_of p v)) (members_of p v)) ((same-Decides v v).1 refl)
      by None (Some sl) is_a is_k =
          let m = have (λ members. are_among sl members) (members_of p v) (sym (ap₂ (if_both (λ v list. have_members (λ members. are_among list members) (members_of p v))) is is_k) ∙ s.value_subset_of) in
          let k = carried p o (option_or c.added o.default) y c.subset_of m.0 (v, unchanged is_a, m.1) m.0 (λ z there. there) (value_kept v is m.0 m.1) in
          is_value-members p v y m.0 k.0 m.1 k.1 k.2 k.3
      by (Some list) k is_a is_k =
          let a = add-present p o list v c.added is_a words (ap (by_add p o) (sym first) ∙ c.add) in
          let vs = a.0 in
          let added_in : Within list vs =
          all-within vs list (sym (ap (have_members (λ members. are_among members list)) a.1) ∙ sym (ap₂ (if_both (λ v list. have_members (λ members. are_among members list) (members_of p v))) is is_a) ∙ s.value_add) in
          let k = carried p o (option_or c.added o.default) y c.subset_of (union_of vs list) (defaulted (union_of vs list) a.2.2) vs (left-union vs list) (value_kept v is vs a.1) in
          is_value-members p v y vs k.0 a.1 k.1 k.2 (within-trans k.0 (union_of vs list) vs k.3 (union-within vs list vs (λ z there. there) added_in))

  keeps-value : if_there (λ v. cond (is_null v) (not (is_there y)) (option_map_or (is_value p v) y false)) o.value ≡ true
  keeps-value = by o.value refl
    where
      with_value : (v : Json) → o.value ≡ Some v → (b : Bool) → is_null v ≡ b → cond b (not (is_there y)) (option_map_or (is_value p v) y false) ≡ true
      with_value v is true null = ap (λ z. not (is_there z)) (null-absent v is null)
      with_value v is false null = value-there v is null

      by : (w : Option Json) → o.value ≡ w → if_there (λ v. cond (is_null v) (not (is_there y)) (option_map_or (is_value p v) y false)) w ≡ true
      by None is = refl
      by (Some v) is = with_value v is (is_null v) refl

  pub keeps : KeepsWithin p o y
  keeps = record {
    value = keeps-value;
    add = keeps-add;
    one_of = keeps-one_of;
    subset_of = keeps-subset_of;
    superset_of = c.superset_of;
    essential = c.essential;
  }

  -- ---- again

  -- what is absent in the end was so before `subset_of`
  absent-before : y ≡ None → option_or c.added o.default ≡ None
  absent-before is = by (option_or c.added o.default) refl o.subset_of refl
    where
      by : (z : Option Json) → option_or c.added o.default ≡ z → (k : Option (List Json)) → o.subset_of ≡ k → option_or c.added o.default ≡ None
      by None is_z k is_k = is_z
      by (Some v) is_z None is_k = sym (kept-nothing p o _ y is_k c.subset_of) ∙ is
      by (Some v) is_z (Some list) is_k =
          let k = kept-present p o list v y is_k (ap (by_subset_of p o) (sym is_z) ∙ c.subset_of) in
          let never : None ≡ Some k.2.2.0 = sym is ∙ k.2.2.1 in absurd (cc)

  no-default : (z d : Option Json) → option_or z d ≡ None → d ≡ None
  no-default None d is = is
  no-default (Some v) d is = absurd (cc)

  -- `default` leaves what came out
  default-again : option_or y o.default ≡ y
  default-again = by y refl
    where
      by : (z : Option Json) → y ≡ z → option_or z o.default ≡ z
      by (Some v) is = refl
      by None is = no-default c.added o.default (absent-before is)

  -- what came out of `add` or `subset_of`, as a list of which each value is there once
  subset-again : by_subset_of p o y ≡ Ok y
  unfolding by_subset_of
  subset-again = by o.subset_of refl y refl
    where
      with_list : (list : List Json) → o.subset_of ≡ Some list → (w : Json) → y ≡ Some w → with_kept p list (Some w) ≡ Ok (Some w)
      with_list list is w is_y = seen (option_or c.added o.default) refl
        where
          seen : (z : Option Json) → option_or c.added o.default ≡ z → with_kept p list (Some w) ≡ Ok (Some w)
          seen None is_z = let never : None ≡ Some w = sym (kept-absent p o y (ap (by_subset_of p o) (sym is_z) ∙ c.subset_of)) ∙ is_y in absurd (cc)
          seen (Some v) is_z =
              let k = kept-present p o list v y is (ap (by_subset_of p o) (sym is_z) ∙ c.subset_of) in
              let kept = intersection_of k.0 list in
              let f : Fresh p (Some w) kept = subst (λ z. Fresh p z kept) is_y k.2 in
              let same : f.2.0 ≡ w = (cc) in
              ap (λ m. option_map_or (λ members. made p SubsetOf (Some w) (intersection_of members list)) m (Err SubsetOf)) (ap (members_of p) (sym same) ∙ f.2.2)
              ∙ ap (made p SubsetOf (Some w)) (intersection-known (filter (is_among list) k.0) list (within-all list kept (intersection-right k.0 list)))
              ∙ made-again p SubsetOf f.0 kept w f.1

      by : (l : Option (List Json)) → o.subset_of ≡ l → (z : Option Json) → y ≡ z → option_map_or (λ list. with_kept p list z) l (Ok z) ≡ Ok z
      by None is z is_y = refl
      by (Some list) is None is_y = refl
      by (Some list) is (Some w) is_y = with_list list is w is_y

  -- adding to what was made of a list that has it all
  add_to : (list zs : List Json) → (w : Json) → Fresh p (Some w) (once zs) → Within list (once zs) → with_added p list (Some w) ≡ Ok (Some w)
  add_to list zs w f within =
      let same : f.2.0 ≡ w = (cc) in
      ap (λ m. option_map_or (λ members. made p Add (Some w) (union_of members list)) m (Err Add)) (ap (members_of p) (sym same) ∙ f.2.2)
      ∙ ap (made p Add (Some w)) (union-known zs list (within-all (once zs) list within)) ∙ made-again p Add f.0 (once zs) w f.1

  -- `add` after no `value`
  add-again : by_add p o y ≡ Ok y
  unfolding by_add defaulted
  add-again = by o.add refl
    where
      after_kept : (list : List Json) → o.add ≡ Some list → (sl : List Json) → o.subset_of ≡ Some sl → with_added p list y ≡ Ok y
      after_kept list is sl is_k =
          let a = added list is in
          let d = defaulted a.0 a.1.2 in
          let k = kept-present p o sl d.0 y is_k (ap (by_subset_of p o) (sym d.1) ∙ c.subset_of) in
          let same : k.0 ≡ a.0 = one_list p d.0 k.0 a.0 k.1 d.2 in
          let w = k.2.2.0 in
          let f : Fresh p (Some w) (intersection_of k.0 sl) = subst (λ z. Fresh p z (intersection_of k.0 sl)) k.2.2.1 k.2 in
          ap (with_added p list) k.2.2.1
          ∙ add_to list (filter (is_among sl) k.0) w f (within-intersection k.0 sl list (subst (Within list) (sym same) a.2) (added_kept list is sl is_k)) ∙ ap Ok (sym k.2.2.1)

      after_none : (list : List Json) → o.add ≡ Some list → o.subset_of ≡ None → with_added p list y ≡ Ok y
      after_none list is is_k = seen (set_first o x) refl
        where
          -- of a list that `add` made
          of_list : (zs : List Json) → Fresh p c.added (once zs) → Within list (once zs) → with_added p list y ≡ Ok y
          of_list zs f within =
              let d = defaulted (once zs) f.2 in
              let is_y : y ≡ Some f.2.0 = kept-nothing p o _ y is_k c.subset_of ∙ d.1 in
              ap (with_added p list) is_y ∙ add_to list zs f.2.0 (subst (λ z. Fresh p z (once zs)) f.2.1 f) within ∙ ap Ok (sym is_y)

          seen : (z : Option Json) → set_first o x ≡ z → with_added p list y ≡ Ok y
          seen None is_z = of_list (list ++ []) (add-absent p o list c.added is words (ap (by_add p o) (sym is_z) ∙ c.add)) (left-union list [])
          seen (Some v) is_z = let a = add-present p o list v c.added is words (ap (by_add p o) (sym is_z) ∙ c.add) in of_list (a.0 ++ list) a.2 (right-union a.0 list)

      with_list : (list : List Json) → o.add ≡ Some list → (k : Option (List Json)) → o.subset_of ≡ k → with_added p list y ≡ Ok y
      with_list list is None is_k = after_none list is is_k
      with_list list is (Some sl) is_k = after_kept list is sl is_k

      by : (l : Option (List Json)) → o.add ≡ l → option_map_or (λ list. with_added p list y) l (Ok y) ≡ Ok y
      by None is = refl
      by (Some list) is = with_list list is o.subset_of refl

  pub again : acted p o y ≡ Ok y
  again = by o.value refl
    where
      by : (v : Option Json) → o.value ≡ v → acted p o y ≡ Ok y
      by (Some v) is =
          let first : set_first o y ≡ set_first o x = ap (λ w. option_map_or as_default w y) is ∙ sym (ap (λ w. option_map_or as_default w x) is) in
          acted-course p o y y (record {
            added = c.added;
            add = ap (by_add p o) first ∙ c.add;
            one_of = c.one_of;
            subset_of = c.subset_of;
            superset_of = c.superset_of;
            essential = c.essential;
          })
      by None is =
          let first : set_first o y ≡ y = ap (λ w. option_map_or as_default w y) is in
          acted-course p o y y (record {
            added = y;
            add = ap (by_add p o) first ∙ add-again;
            one_of = ap (is_one_of o.one_of) default-again ∙ keeps-one_of;
            subset_of = ap (by_subset_of p o) default-again ∙ subset-again;
            superset_of = c.superset_of;
            essential = c.essential;
          })
