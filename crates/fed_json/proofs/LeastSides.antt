-- The first answer of two lists side by side stands at the least name that has one.
use Rattle.std.proofs.Common.{◌≡◌, List, [], ◌∷◌, Option, Some, None, Bool, true, false, ◌||◌, map, bytes_eq, refl, sym, ap, ◌∙◌, subst, true≢false}
use Rattle.std.specs.Option.{option_map_or}
use Rattle.std.specs.Ordering.{is_lt}
use Rattle.std.specs.List.{list_all, list_any}
use Rattle.fed_json.specs.Forms.{is_before, rising}
use Rattle.fed_json.specs.Tables.{Name, names_of_both, Side, side_at, sides, first}
use Rattle.fed_json.proofs.Booleans.{left_true, right_true}
use Rattle.fed_json.proofs.Names.{rising-tail}
use Rattle.fed_json.proofs.Order.{equal-bytes_eq, cmp-behind, first_before}
use Rattle.fed_json.proofs.NamesOfBoth.{is_name, side_at-absent, rising-names_of_both}

-- a name doesn't stand before itself, nor before one that stands before it
not_both : (a b : Name) → is_before a b ≡ true → is_before b a ≡ true → ⊥
not_both a b e f = true≢false (sym (sym (ap is_lt (cmp-behind a b f)) ∙ e))

not_itself : (a : Name) → is_before a a ≡ true → ⊥
not_itself a e = not_both a a e e

among_all : (p : Name → Bool) (n : Name) (names : List Name) → list_all p names ≡ true → is_name n names ≡ true → p n ≡ true
unfolding is_name
among_all p n [] all is = absurd (cc)
among_all p n (m ∷ names) all is = by (bytes_eq n m) refl is (among_all p n names (right_true (p m) _ all))
  where
    by : (b : Bool) → bytes_eq n m ≡ b → (b || list_any (bytes_eq n) names) ≡ true → (list_any (bytes_eq n) names ≡ true → p n ≡ true) → p n ≡ true
    by true is_b is later = ap p (equal-bytes_eq n m is_b) ∙ left_true (p m) _ all
    by false is_b is later = later is

-- the first answer of names that rise, and that no name before it gives one
record Least {S F : Type 0} (f : S → Option F) (at : Name → S) (names : List Name) (y : F) : Type 0 where
  name : Name
  here : f (at name) ≡ Some y
  before : (u : Name) → is_before u name ≡ true → is_name u names ≡ true → f (at u) ≡ None

least : {S F : Type 0} (f : S → Option F) (at : Name → S) (names : List Name) (y : F) → rising names ≡ true → first f (map at names) ≡ Some y → Least f at names y
unfolding is_name
least f at [] y rise e = absurd (cc)
least {F = F} f at (m ∷ names) y rise e = by (f (at m)) refl e (least f at names y (rising-tail m names rise))
  where
    by : (o : Option F) → f (at m) ≡ o → option_map_or Some o (first f (map at names)) ≡ Some y → (first f (map at names) ≡ Some y → Least f at names y) → Least f at (m ∷ names) y
    by (Some z) is e later = record {
      name = m;
      here = is ∙ e;
      before = λ u early there. early_case u early (bytes_eq u m) refl there;
    }
      where
        early_case : (u : Name) → is_before u m ≡ true → (b : Bool) → bytes_eq u m ≡ b → (b || list_any (bytes_eq u) names) ≡ true → f (at u) ≡ None
        early_case u early true is_b there = absurd (not_itself m (subst (λ x. is_before x m ≡ true) (equal-bytes_eq u m is_b) early))
        early_case u early false is_b there = absurd (not_both u m early (among_all (is_before m) u names (first_before m names rise) there))
    by None is e later =
        let l = later e in
        record {
          name = l.name;
          here = l.here;
          before = λ u early there. rest_case l u early (bytes_eq u m) refl there;
        }
      where
        rest_case : (l : Least f at names y) (u : Name) → is_before u l.name ≡ true → (b : Bool) → bytes_eq u m ≡ b → (b || list_any (bytes_eq u) names) ≡ true → f (at u) ≡ None
        rest_case l u early true is_b there = ap (λ x. f (at x)) (equal-bytes_eq u m is_b) ∙ is
        rest_case l u early false is_b there = l.before u early there

-- the same of two lists side by side, also at names that neither has
pub record LeastSide {U L F : Type 0} (u : U → Name) (l : L → Name) (f : Side U L → Option F) (us : List U) (ls : List L) (y : F) : Type 0 where
  pub name : Name
  pub here : f (side_at u l us ls name) ≡ Some y
  pub before : (n : Name) → is_before n name ≡ true → f (side_at u l us ls n) ≡ None

pub least_side : {U L F : Type 0} (u : U → Name) (l : L → Name) (f : Side U L → Option F) (us : List U) (ls : List L) (y : F) → rising (map l ls) ≡ true
    → ((n : Name) → f (record { name = n; upper = None; lower = None }) ≡ None) → first f (sides u l us ls) ≡ Some y → LeastSide u l f us ls y
unfolding sides
least_side u l f us ls y rise empty e =
    let least_one = least f (side_at u l us ls) (names_of_both (map u us) (map l ls)) y (rising-names_of_both (map u us) (map l ls) rise) e in
    record {
      name = least_one.name;
      here = least_one.here;
      before = λ n early. by n (is_name n (names_of_both (map u us) (map l ls))) refl (least_one.before n early);
    }
  where
    by : (n : Name) (b : Bool) → is_name n (names_of_both (map u us) (map l ls)) ≡ b → (is_name n (names_of_both (map u us) (map l ls)) ≡ true → f (side_at u l us ls n) ≡ None) → f (side_at u l us ls n) ≡ None
    by n true is there = there is
    by n false is there = ap f (side_at-absent u l us ls n is) ∙ empty n
