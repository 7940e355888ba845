-- Two lists that are gone through side by side, as far as the walk has come.
use Rattle.std.proofs.Common.{◌≡◌, List, [], ◌∷◌, ◌++◌, Option, Some, None, Bool, true, map, refl, sym, ap, ◌∙◌, append_assoc, append-nil}
use Rattle.std.specs.Option.{option_map_or}
use Rattle.std.specs.List.{list_all, filter_map, cons_option}
use Rattle.std.proofs.lemmas.List.Folds.{list_all-append}
use Rattle.std.proofs.lemmas.List.{map-append}
use Rattle.std.proofs.lemmas.List.Elements.{filter_map-append}
use Rattle.fed_json.specs.Forms.{rising}
use Rattle.fed_json.specs.Tables.{Name, Side, sides, first}
use Rattle.fed_json.proofs.Booleans.{left_true, right_true}
use Rattle.fed_json.proofs.Firsts.{first-append, first-append_none}

-- the sides that were passed, none of which gives a fault, and what was collected of them; the names of what is left rise
pub record Passed {U L F Y : Type 0} (u : U → Name) (l : L → Name) (fault : Side U L → Option F) (collect : List (Side U L) → List Y) (us : List U) (ls : List L) (xs : List U) (ys : List L) (got : List Y) : Type 0 where
  pub done : List (Side U L)
  pub all : sides u l us ls ≡ done ++ sides u l xs ys
  pub none : first fault done ≡ None
  pub got_is : got ≡ collect done
  pub upper_rises : rising (map u xs) ≡ true
  pub lower_rises : rising (map l ys) ≡ true

-- one more in a list that is made item by item
pub map-more : {X Y : Type 0} (f : X → Y) (x : X) (got got' : List Y) → got' ≡ got ++ f x ∷ [] → (done : List X) → got ≡ map f done → got' ≡ map f (done ++ x ∷ [])
map-more f x got got' more done is = more ∙ ap (λ ys. ys ++ f x ∷ []) is ∙ sym (map-append f done (x ∷ []))

-- one more that gives something
pub given-more : {X Y : Type 0} (answer : X → Option Y) (x : X) (y : Y) (got got' : List Y) → answer x ≡ Some y → got' ≡ got ++ y ∷ [] → (done : List X) → got ≡ filter_map answer done → got' ≡ filter_map answer (done ++ x ∷ [])
given-more answer x y got got' some more done is =
    more ∙ ap (λ ys. ys ++ y ∷ []) is ∙ sym (filter_map-append answer done (x ∷ []) ∙ ap (λ o. filter_map answer done ++ cons_option o []) some)

-- one more that gives nothing
pub given-none : {X Y : Type 0} (answer : X → Option Y) (x : X) (got : List Y) → answer x ≡ None → (done : List X) → got ≡ filter_map answer done → got ≡ filter_map answer (done ++ x ∷ [])
given-none answer x got none done is =
    is ∙ sym (filter_map-append answer done (x ∷ []) ∙ ap (λ o. filter_map answer done ++ cons_option o []) none ∙ append-nil (filter_map answer done))

module _ {U L F Y : Type 0} (u : U → Name) (l : L → Name) (fault : Side U L → Option F) (collect : List (Side U L) → List Y) (us : List U) (ls : List L) where
  pub passed-start : (got : List Y) → got ≡ collect [] → rising (map u us) ≡ true → rising (map l ls) ≡ true → Passed u l fault collect us ls us ls got
  passed-start got is rise_u rise_l = record { done = []; all = refl; none = refl; got_is = is; upper_rises = rise_u; lower_rises = rise_l }

  module _ (xs : List U) (ys : List L) (got : List Y) (p : Passed u l fault collect us ls xs ys got) where
    module _ (s : Side U L) (xs' : List U) (ys' : List L) (next : sides u l xs ys ≡ s ∷ sides u l xs' ys') where
      pub all_with : sides u l us ls ≡ p.done ++ s ∷ sides u l xs' ys'
      all_with = p.all ∙ ap (λ rest. p.done ++ rest) next

      pub passed-more : fault s ≡ None → (got' : List Y) → ((done : List (Side U L)) → got ≡ collect done → got' ≡ collect (done ++ s ∷ []))
          → rising (map u xs') ≡ true → rising (map l ys') ≡ true → Passed u l fault collect us ls xs' ys' got'
      passed-more clear got' more rise_u rise_l = record {
        done = p.done ++ s ∷ [];
        all = all_with ∙ sym (append_assoc p.done (s ∷ []) (sides u l xs' ys'));
        none = first-append_none fault p.done s p.none clear;
        got_is = more p.done p.got_is;
        upper_rises = rise_u;
        lower_rises = rise_l;
      }

      -- the first fault of all is this side's
      pub passed-found : (f : F) → fault s ≡ Some f → first fault (sides u l us ls) ≡ Some f
      passed-found f some =
          ap (first fault) all_with ∙ first-append fault p.done (s ∷ sides u l xs' ys') p.none ∙ ap (λ o. option_map_or Some o (first fault (sides u l xs' ys'))) some

      -- it passes a test that all sides pass
      pub passed-passes : (test : Side U L → Bool) → list_all test (sides u l us ls) ≡ true → test s ≡ true
      passed-passes test all =
          left_true (test s) _ (right_true (list_all test p.done) _ (sym (list_all-append test p.done (s ∷ sides u l xs' ys')) ∙ sym (ap (list_all test) all_with) ∙ all))

    pub passed-all : sides u l xs ys ≡ [] → (first fault (sides u l us ls) ≡ None) × (collect (sides u l us ls) ≡ got)
    passed-all end =
        let is : sides u l us ls ≡ p.done = p.all ∙ ap (λ rest. p.done ++ rest) end ∙ append-nil p.done in
        (ap (first fault) is ∙ p.none, ap collect is ∙ sym p.got_is)
