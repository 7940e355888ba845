-- Two lists side by side, one name at a time.
use Rattle.std.proofs.Common.{◌≡◌, List, [], ◌∷◌, Option, Some, None, Bool, true, map, refl, sym, ap, ap₂, ◌∙◌, Ordering, Less, Equal, Greater, nat_cmp}
use Rattle.std.specs.Ordering.{match_ordering}
use Rattle.std.specs.List.{list_all}
use Rattle.std.specs.Cmp.Lexicographic.{slice_cmp}
use Rattle.fed_json.specs.Forms.{is_before, rising}
use Rattle.fed_json.specs.Tables.{Name, with_name, names_of_both, item_of, Side, side_at, sides}
use Rattle.std.proofs.Common.{length, subst}
use Rattle.std.proofs.lemmas.List.{nil_from_length}
use Rattle.fed_json.proofs.Booleans.{left_true, right_true, both_true}
use Rattle.fed_json.proofs.Order.{equal-cmp, cmp-before, cmp-behind, cmp-itself, before-cmp_less, before-cmp_greater, other_before, other_behind, bytes_eq-itself, all_behind, first_before}

-- ---- names

pub with_name-before : (a : Name) (names : List Name) → list_all (is_before a) names ≡ true → with_name a names ≡ a ∷ names
with_name-before a [] all = refl
with_name-before a (b ∷ names) all = rw (cmp-before a b (left_true (is_before a b) _ all)) refl

pub all_with_name : (p : Name → Bool) (a : Name) (names : List Name) → p a ≡ true → list_all p names ≡ true → list_all p (with_name a names) ≡ true
all_with_name p a [] here all = both_true here refl
all_with_name p a (b ∷ names) here all = by (slice_cmp nat_cmp a b) (all_with_name p a names here (right_true (p b) _ all))
  where
    by : (o : Ordering) → list_all p (with_name a names) ≡ true → list_all p (match_ordering o (a ∷ b ∷ names) (b ∷ names) (b ∷ with_name a names)) ≡ true
    by Less rest = both_true here all
    by Equal rest = all
    by Greater rest = both_true (left_true (p b) _ all) rest

pub all_names_of_both : (p : Name → Bool) (us bs : List Name) → list_all p us ≡ true → list_all p bs ≡ true → list_all p (names_of_both us bs) ≡ true
unfolding names_of_both
all_names_of_both p [] bs all_as all_bs = all_bs
all_names_of_both p (a ∷ us) bs all_as all_bs = all_with_name p a _ (left_true (p a) _ all_as) (all_names_of_both p us bs (right_true (p a) _ all_as) all_bs)

-- the first name of the upper list stands before all others
pub upper_first : (a : Name) (us bs : List Name) → list_all (is_before a) us ≡ true → list_all (is_before a) bs ≡ true → names_of_both (a ∷ us) bs ≡ a ∷ names_of_both us bs
unfolding names_of_both
upper_first a us bs all_as all_bs = with_name-before a _ (all_names_of_both (is_before a) us bs all_as all_bs)

-- the first name of the lower list does
pub lower_first : (b : Name) (us bs : List Name) → list_all (is_before b) us ≡ true → names_of_both us (b ∷ bs) ≡ b ∷ names_of_both us bs
unfolding names_of_both
lower_first b [] bs all = refl
lower_first b (a ∷ us) bs all =
    rw (lower_first b us bs (right_true (is_before b a) _ all), cmp-behind a b (left_true (is_before b a) _ all)) refl

-- both begin with that name
pub both_first : (a : Name) (us bs : List Name) → list_all (is_before a) us ≡ true → names_of_both (a ∷ us) (a ∷ bs) ≡ a ∷ names_of_both us bs
unfolding names_of_both
both_first a us bs all = rw (lower_first a us bs all, cmp-itself a) refl

-- ---- items

pub item_of-none : {X : Type 0} (name_of : X → Name) (a : Name) (xs : List X) → list_all (is_before a) (map name_of xs) ≡ true → item_of name_of a xs ≡ None
item_of-none name_of a [] all = refl
item_of-none name_of a (x ∷ xs) all =
    rw (other_behind (name_of x) a (left_true (is_before a (name_of x)) _ all)) (item_of-none name_of a xs (right_true (is_before a (name_of x)) _ all))

pub item_of-first : {X : Type 0} (name_of : X → Name) (x : X) (xs : List X) → item_of name_of (name_of x) (x ∷ xs) ≡ Some x
item_of-first name_of x xs = rw (bytes_eq-itself (name_of x)) refl

-- further names don't see the first item
pub item_of-rest : {X : Type 0} (name_of : X → Name) (x : X) (xs : List X) (name : Name) → is_before (name_of x) name ≡ true → item_of name_of name (x ∷ xs) ≡ item_of name_of name xs
item_of-rest name_of x xs name e = rw (other_before (name_of x) name e) refl

-- ---- sides

module _ {U L : Type 0} (u : U → Name) (l : L → Name) where
  upper_passed : (x : U) (xs : List U) (ys : List L) (names : List Name) → list_all (is_before (u x)) names ≡ true
      → map (side_at u l (x ∷ xs) ys) names ≡ map (side_at u l xs ys) names
  upper_passed x xs ys [] all = refl
  upper_passed x xs ys (n ∷ names) all =
      ap₂ (λ (o : Option U) rest. record { name = n; upper = o; lower = item_of l n ys } ∷ rest)
      (item_of-rest u x xs n (left_true (is_before (u x) n) _ all)) (upper_passed x xs ys names (right_true (is_before (u x) n) _ all))

  lower_passed : (xs : List U) (y : L) (ys : List L) (names : List Name) → list_all (is_before (l y)) names ≡ true
      → map (side_at u l xs (y ∷ ys)) names ≡ map (side_at u l xs ys) names
  lower_passed xs y ys [] all = refl
  lower_passed xs y ys (n ∷ names) all =
      ap₂ (λ (o : Option L) rest. record { name = n; upper = item_of u n xs; lower = o } ∷ rest)
      (item_of-rest l y ys n (left_true (is_before (l y) n) _ all)) (lower_passed xs y ys names (right_true (is_before (l y) n) _ all))

  pub sides-upper : (x : U) (xs : List U) (ys : List L) → rising (map u (x ∷ xs)) ≡ true → list_all (is_before (u x)) (map l ys) ≡ true
      → sides u l (x ∷ xs) ys ≡ record { name = u x; upper = Some x; lower = None } ∷ sides u l xs ys
  unfolding sides
  sides-upper x xs ys rise all =
      let above = first_before (u x) (map u xs) rise in
      ap (map (side_at u l (x ∷ xs) ys)) (upper_first (u x) (map u xs) (map l ys) above all)
      ∙ ap₂ (λ (s : Side U L) rest. s ∷ rest)
      (ap₂ (λ (a : Option U) (b : Option L). record { name = u x; upper = a; lower = b }) (item_of-first u x xs) (item_of-none l (u x) ys all))
      (upper_passed x xs ys _ (all_names_of_both (is_before (u x)) (map u xs) (map l ys) above all))

  pub sides-lower : (xs : List U) (y : L) (ys : List L) → rising (map l (y ∷ ys)) ≡ true → list_all (is_before (l y)) (map u xs) ≡ true
      → sides u l xs (y ∷ ys) ≡ record { name = l y; upper = None; lower = Some y } ∷ sides u l xs ys
  unfolding sides
  sides-lower xs y ys rise all =
      let above = first_before (l y) (map l ys) rise in
      ap (map (side_at u l xs (y ∷ ys))) (lower_first (l y) (map u xs) (map l ys) all)
      ∙ ap₂ (λ (s : Side U L) rest. s ∷ rest)
      (ap₂ (λ (a : Option U) (b : Option L). record { name = l y; upper = a; lower = b }) (item_of-none u (l y) xs all) (item_of-first l y ys))
      (lower_passed xs y ys _ (all_names_of_both (is_before (l y)) (map u xs) (map l ys) all above))

  pub sides-both : (x : U) (xs : List U) (y : L) (ys : List L) → u x ≡ l y → rising (map u (x ∷ xs)) ≡ true → rising (map l (y ∷ ys)) ≡ true
      → sides u l (x ∷ xs) (y ∷ ys) ≡ record { name = u x; upper = Some x; lower = Some y } ∷ sides u l xs ys
  unfolding sides
  sides-both x xs y ys same rise_u rise_l =
      let above = first_before (u x) (map u xs) rise_u in
      let below : list_all (is_before (u x)) (map l ys) ≡ true = rw same (first_before (l y) (map l ys) rise_l) in
      let behind = all_names_of_both (is_before (u x)) (map u xs) (map l ys) above below in
      ap (map (side_at u l (x ∷ xs) (y ∷ ys))) (ap (λ n. names_of_both (u x ∷ map u xs) (n ∷ map l ys)) (sym same) ∙ both_first (u x) (map u xs) (map l ys) above)
      ∙ ap₂ (λ (s : Side U L) rest. s ∷ rest)
      (ap₂ (λ (a : Option U) (b : Option L). record { name = u x; upper = a; lower = b }) (item_of-first u x xs) (ap (λ n. item_of l n (y ∷ ys)) same ∙ item_of-first l y ys))
      (upper_passed x xs (y ∷ ys) _ behind ∙ lower_passed xs y ys _ (rw (sym same) behind))

  pub sides-none : sides u l [] [] ≡ []
  unfolding sides names_of_both
  sides-none = refl

  -- what the two lists begin with says what stands first beside each other
  module _ (us : List U) (ls : List L) (rise_u : rising (map u us) ≡ true) (rise_l : rising (map l ls) ≡ true) (name : Name) (upper : Option U) (lower : Option L) where
    pub next-none : length us ≡ 0 → length ls ≡ 0 → sides u l us ls ≡ []
    unfolding sides names_of_both
    next-none no_us no_ls = rw (nil_from_length us no_us, nil_from_length ls no_ls) refl

    pub next-upper : (x : U) (xs : List U) → us ≡ x ∷ xs → length ls ≡ 0 → name ≡ u x → upper ≡ Some x → lower ≡ None
        → sides u l us ls ≡ record { name = name; upper = upper; lower = lower } ∷ sides u l xs ls
    next-upper x xs is none named is_u is_l =
        let e = nil_from_length ls none in
        let rise : rising (map u (x ∷ xs)) ≡ true = subst (λ list. rising (map u list) ≡ true) is rise_u in
        rw (named, is_u, is_l, is, e) (sides-upper x xs [] rise refl)

    pub next-lower : (y : L) (ys : List L) → ls ≡ y ∷ ys → length us ≡ 0 → name ≡ l y → upper ≡ None → lower ≡ Some y
        → sides u l us ls ≡ record { name = name; upper = upper; lower = lower } ∷ sides u l us ys
    next-lower y ys is none named is_u is_l =
        let e = nil_from_length us none in
        let rise : rising (map l (y ∷ ys)) ≡ true = subst (λ list. rising (map l list) ≡ true) is rise_l in
        rw (named, is_u, is_l, is, e) (sides-lower [] y ys rise refl)

    module _ (x : U) (xs : List U) (y : L) (ys : List L) (is_us : us ≡ x ∷ xs) (is_ls : ls ≡ y ∷ ys) where
      risen_u : rising (map u (x ∷ xs)) ≡ true
      risen_u = subst (λ list. rising (map u list) ≡ true) is_us rise_u

      risen_l : rising (map l (y ∷ ys)) ≡ true
      risen_l = subst (λ list. rising (map l list) ≡ true) is_ls rise_l

      pub next-less : (a b : Name) → a ≡ u x → b ≡ l y → Less ≡ slice_cmp nat_cmp a b → name ≡ u x → upper ≡ Some x → lower ≡ None
          → sides u l us ls ≡ record { name = name; upper = upper; lower = lower } ∷ sides u l xs ls
      next-less a b is_a is_b o named is_u is_l =
          let e = before-cmp_less (u x) (l y) (ap₂ (slice_cmp nat_cmp) (sym is_a) (sym is_b) ∙ sym o) in
          rw (named, is_u, is_l, is_us, is_ls)
          (sides-upper x xs (y ∷ ys) risen_u (both_true e (all_behind (u x) (l y) (map l ys) e (first_before (l y) (map l ys) risen_l))))

      pub next-greater : (a b : Name) → a ≡ u x → b ≡ l y → Greater ≡ slice_cmp nat_cmp a b → name ≡ l y → upper ≡ None → lower ≡ Some y
          → sides u l us ls ≡ record { name = name; upper = upper; lower = lower } ∷ sides u l us ys
      next-greater a b is_a is_b o named is_u is_l =
          let e = before-cmp_greater (u x) (l y) (ap₂ (slice_cmp nat_cmp) (sym is_a) (sym is_b) ∙ sym o) in
          rw (named, is_u, is_l, is_us, is_ls)
          (sides-lower (x ∷ xs) y ys risen_l (both_true e (all_behind (l y) (u x) (map u xs) e (first_before (u x) (map u xs) risen_u))))

      pub next-equal : (a b : Name) → a ≡ u x → b ≡ l y → Equal ≡ slice_cmp nat_cmp a b → name ≡ u x → upper ≡ Some x → lower ≡ Some y
          → sides u l us ls ≡ record { name = name; upper = upper; lower = lower } ∷ sides u l xs ys
      next-equal a b is_a is_b o named is_u is_l =
          let same : u x ≡ l y = sym is_a ∙ equal-cmp a b (sym o) ∙ is_b in
          rw (named, is_u, is_l, is_us, is_ls) (sides-both x xs y ys same risen_u risen_l)
