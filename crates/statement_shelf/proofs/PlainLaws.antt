-- Entries of a plain list, by their places.
use Rattle.std.proofs.Common.{◌≡◌, ◌<◌, ℕ, zero, suc, Bool, true, false, List, [], ◌∷◌, length, get_or, set, Option, Some, None, refl, sym, ap, ap₂, ◌∙◌, arith}
use Rattle.std.specs.Prelude.{bytes_eq}
use Rattle.std.specs.List.{insert, position, remove}
use Rattle.std.proofs.lemmas.List.Quantifiers.{position-Some}
use Rattle.std.proofs.lemmas.Map.Steps.{set_value_same}
use Rattle.fed_json.proofs.Order.{equal-bytes_eq}
use Rattle.turn_log.proofs.PartLists.{get_same}
use Rattle.statement_shelf.specs.Entries.{Entry, Part, entry_at, without, written}
use Rattle.statement_shelf.proofs.BookLaws.{none-passes}

module _ (url : List ℕ) where
  abbrev is_here : List ℕ × Entry → Bool
  is_here e = bytes_eq url e.0

  none_at : (part : Part) → ((k : ℕ) (d : List ℕ × Entry) → k < length part → is_here (get_or part k d) ≡ false) → (entry_at url part ≡ None) × (without url part ≡ part)
  none_at [] others = (refl, refl)
  none_at (p ∷ part) others =
      let first = others 0 p (omega arith) in
      let rest = none_at part (λ k d less. others (suc k) d (omega (arith, less))) in
      (rw first rest.0, rw first (ap (λ q. p ∷ q) rest.1))

  some_at : (part : Part) (i : ℕ) (d : List ℕ × Entry) → i < length part → is_here (get_or part i d) ≡ true → ((k : ℕ) → k < i → is_here (get_or part k d) ≡ false)
      → (entry_at url part ≡ Some (get_or part i d).1) × (remove part i ≡ without url part)
  some_at [] i d less here before = absurd (omega (arith, less))
  some_at (p ∷ part) zero d less here before = (rw here refl, rw here refl)
  some_at (p ∷ part) (suc i) d less here before =
      let first = before 0 (omega arith) in
      let rest = some_at part i d (omega (arith, less)) here (λ k l. before (suc k) (omega (arith, l))) in
      (rw first rest.0, rw first (ap (λ q. p ∷ q) rest.1))

  set_at : (part : Part) (i : ℕ) (d : List ℕ × Entry) (w : Entry) → i < length part → is_here (get_or part i d) ≡ true → ((k : ℕ) → k < i → is_here (get_or part k d) ≡ false)
      → set part i ((get_or part i d).0, w) ≡ written url w part
  set_at [] i d w less here before = absurd (omega (arith, less))
  set_at (p ∷ part) zero d w less here before = rw here refl
  set_at (p ∷ part) (suc i) d w less here before = rw (before 0 (omega arith)) (ap (λ q. p ∷ q) (set_at part i d w (omega (arith, less)) here (λ k l. before (suc k) (omega (arith, l)))))

  -- a URL that has no place has no entry
  pub absent : (part : Part) → position is_here part ≡ None → (entry_at url part ≡ None) × (without url part ≡ part)
  absent part h = none_at part (none-passes is_here part h)

  -- one that has a place has the entry that stands there, and the part without it lacks that place
  pub present : (part : Part) (i : ℕ) (d : List ℕ × Entry) → position is_here part ≡ Some i → (i < length part) × (entry_at url part ≡ Some (get_or part i d).1) × (remove part i ≡ without url part)
  present part i d h = let at = position-Some is_here part i d h in let is = some_at part i d at.0 at.1 at.2 in (at.0, is.0, is.1)

  -- a place that was found is one of the items
  pub plain-within : (part items : Part) (found : Option ℕ) (at : ℕ) → found ≡ position is_here part → found ≡ Some at → items ≡ part → at < length items
  plain-within [] items found at is some same = let e = sym is ∙ some in cc
  plain-within (p ∷ part) items found at is some same = let less = (present (p ∷ part) at p (sym is ∙ some)).0 in omega (arith, less, ap length same)

  pub rewritten : (part : Part) (i : ℕ) (d : List ℕ × Entry) (w : Entry) → position is_here part ≡ Some i → set part i ((get_or part i d).0, w) ≡ written url w part
  rewritten part i d w h = let at = position-Some is_here part i d h in set_at part i d w at.0 at.1 at.2

  -- ---- the replies

  pub plain-absent : (part : Part) (found : Option ℕ) → found ≡ position is_here part → found ≡ None → entry_at url part ≡ None
  plain-absent part found is none = (absent part (sym is ∙ none)).0

  pub plain-present : (part items : Part) (found : Option ℕ) (at : ℕ) (p : List ℕ × Entry) → found ≡ position is_here part → found ≡ Some at → items ≡ part → p ≡ get_or items at p → entry_at url part ≡ Some p.1
  plain-present part items found at p is some same here = (present part at p (sym is ∙ some)).1 ∙ ap (λ q. Some q.1) (sym (here ∙ ap (λ l. get_or l at p) same))

  pub plain-out : (part items new : Part) (found : Option ℕ) (at : ℕ) (d : List ℕ × Entry) → found ≡ position is_here part → found ≡ Some at → items ≡ part → new ≡ remove items at → new ≡ without url part
  plain-out part items new found at d is some same out = out ∙ ap (λ l. remove l at) same ∙ (present part at d (sym is ∙ some)).2

  pub plain-kept : (part : Part) (found : Option ℕ) → found ≡ position is_here part → found ≡ None → part ≡ without url part
  plain-kept part found is none = sym (absent part (sym is ∙ none)).1

  pub plain-written : (part items : Part) (found : Option ℕ) (at : ℕ) (p : List ℕ × Entry) (w : Entry) → found ≡ position is_here part → found ≡ Some at → items ≡ part → p ≡ get_or items at p
      → set items at (p.0, w) ≡ written url w part
  plain-written part items found at p w is some same here =
      ap (λ l. set l at (p.0, w)) same ∙ ap (λ q. set part at (q.0, w)) (here ∙ ap (λ l. get_or l at p) same) ∙ rewritten part at p w (sym is ∙ some)

  pub plain-unwritten : (part items : Part) (found : Option ℕ) (at : ℕ) (p : List ℕ × Entry) → found ≡ position is_here part → found ≡ Some at → items ≡ part → p ≡ get_or items at p
      → set items at (p.0, p.1) ≡ part
  plain-unwritten part items found at p is some same here =
      plain-written part items found at p p.1 is some same here ∙ set_value_same (bytes_eq url) part p.1 (plain-present part items found at p is some same here)

  pub plain-looked : (part items removed new : Part) (found : Option ℕ) (at : ℕ) (p first : List ℕ × Entry) → found ≡ position is_here part → found ≡ Some at → items ≡ part → p ≡ get_or items at p
      → removed ≡ remove items at → first ≡ get_or items at first → new ≡ insert removed 0 first → new ≡ (url, p.1) ∷ without url part
  plain-looked part items removed new found at p first is some same here out taken in_front =
      let place = position-Some is_here part at p (sym is ∙ some) in
      let one : first ≡ get_or part at p = taken ∙ ap (λ l. get_or l at first) same ∙ get_same part at first p place.0 in
      let own : p ≡ get_or part at p = here ∙ ap (λ l. get_or l at p) same in
      let key : url ≡ (get_or part at p).0 = equal-bytes_eq url (get_or part at p).0 place.1 in
      in_front ∙ ap (λ l. insert l 0 first) (plain-out part items removed found at p is some same out)
      ∙ ap (λ q. q ∷ without url part) (one ∙ ap₂ (λ k v. (k, v)) (sym key) (ap (λ q. q.1) (sym own)))
