-- Values that have a place by their codes.
use Rattle.std.proofs.Common.{◌≡◌, ◌<◌, ◌+◌, ℕ, List, [], ◌∷◌, ◌++◌, Bool, true, false, cond, Option, Some, None, Ordering, Less, Equal, Greater, nat_cmp, inl, inr, refl, sym, ap, ◌∙◌, ap₂, subst, true≢false, Bor, Vec, take, length, get_or, set, arith}
use Rattle.std.specs.BTreeMap.{BTreeMap, insert_entry}
use Rattle.std.specs.Cmp.Lexicographic.{slice_cmp}
use Rattle.std.specs.List.{Contains, slice_get}
use Rattle.std.specs.Map.{lookup}
use Rattle.std.specs.Option.{is_some, option_copied}
use Rattle.std.specs.Ordering.{is_eq, match_ordering}
use Rattle.std.proofs.lemmas.List.{take_more, length-append, length-set, get_or_append_left, get_or-set_same, get_or-set_other}
use Rattle.std.proofs.lemmas.Bool.{cases_eq}
use Rattle.std.proofs.lemmas.List.Elements.{Contains-push_cases}
use Rattle.std.proofs.lemmas.Map.Text.{is_eq-slice_cmp}
use Rattle.std.proofs.lemmas.Option.{get_or_from_slice_get, slice_get-get_or, slice_get_read, slice_get_within}
use Rattle.std.proofs.lemmas.Slice.Eq.{bytes_eq-Decides}
use Rattle.fed_json.specs.declared.tree.Json.{Json}
use Rattle.fed_json.specs.declared.places.Places.{Places}
use Rattle.fed_json.specs.Codes.{code_of, has_place, slot_of, place_at, IsAt, HavePlaces}

-- ---- what a test finds among entries, once one more was put

module _ {K X : Type 0} (cmp : K → K → Ordering) (test : K → Bool) (k : K) (v : X) where
  later : (b : Bool) (x y : X) (o p : Option X) → (is_some o ≡ true → is_some p ≡ true) → is_some (cond b (Some x) o) ≡ true → is_some (cond b (Some y) p) ≡ true
  later true x y o p rest e = refl
  later false x y o p rest e = rest e

  behind : (b : Bool) (x : X) (o : Option X) → is_some o ≡ true → is_some (cond b (Some x) o) ≡ true
  behind true x o e = refl
  behind false x o e = e

  -- what it found before it finds
  found_still : (es : List (K × X)) → is_some (lookup test es) ≡ true → is_some (lookup test (insert_entry cmp es k v)) ≡ true
  found_still [] e = absurd (cc)
  found_still (x ∷ es) e = by (cmp k x.0) (found_still es)
    where
      by : (o : Ordering) → (is_some (lookup test es) ≡ true → is_some (lookup test (insert_entry cmp es k v)) ≡ true)
          → is_some (lookup test (match_ordering o ((k, v) ∷ x ∷ es) ((x.0, v) ∷ es) (x ∷ insert_entry cmp es k v))) ≡ true
      by Less rest = behind (test k) v (lookup test (x ∷ es)) e
      by Equal rest = later (test x.0) x.1 v (lookup test es) (lookup test es) (λ h. h) e
      by Greater rest = later (test x.0) x.1 x.1 (lookup test es) (lookup test (insert_entry cmp es k v)) rest e

  -- it finds the new one
  found_new : test k ≡ true → ((q : K) → cmp k q ≡ Equal → test q ≡ true) → (es : List (K × X)) → is_some (lookup test (insert_entry cmp es k v)) ≡ true
  found_new here alike [] = ap (λ b. is_some (cond b (Some v) None)) here
  found_new here alike (x ∷ es) = by (cmp k x.0) refl (found_new here alike es)
    where
      by : (o : Ordering) → cmp k x.0 ≡ o → is_some (lookup test (insert_entry cmp es k v)) ≡ true
          → is_some (lookup test (match_ordering o ((k, v) ∷ x ∷ es) ((x.0, v) ∷ es) (x ∷ insert_entry cmp es k v))) ≡ true
      by Less is rest = ap (λ b. is_some (cond b (Some v) (lookup test (x ∷ es)))) here
      by Equal is rest = ap (λ b. is_some (cond b (Some v) (lookup test es))) (alike x.0 is)
      by Greater is rest = behind (test x.0) x.1 (lookup test (insert_entry cmp es k v)) rest

-- ---- places by codes

-- the order of a map's keys
abbrev pub key_cmp : {Z : Type 0} → Vec ℕ Z → Vec ℕ Z → Ordering
key_cmp x y = slice_cmp nat_cmp x.items y.items

-- a code that has a place has one once a further was put
pub code-still : {Z : Type 0} (m n : BTreeMap (Vec ℕ Z) ℕ) (key : Vec ℕ Z) (place : ℕ) (code : List ℕ)
    → n.entries ≡ insert_entry key_cmp m.entries key place → has_place m code ≡ true → has_place n code ≡ true
code-still m n key place code put held =
    ap (λ es. is_some (lookup (λ k. is_eq (slice_cmp nat_cmp code k.items)) es)) put
    ∙ found_still key_cmp (λ k. is_eq (slice_cmp nat_cmp code k.items)) key place m.entries held

-- the code that was put has a place
pub code-new : {Z : Type 0} (m n : BTreeMap (Vec ℕ Z) ℕ) (key : Vec ℕ Z) (place : ℕ) (code : List ℕ)
    → n.entries ≡ insert_entry key_cmp m.entries key place → key.items ≡ code → has_place n code ≡ true
code-new m n key place code put is =
    ap (has_place n) (sym is)
    ∙ ap (λ es. is_some (lookup (λ k. is_eq (slice_cmp nat_cmp key.items k.items)) es)) put
    ∙ found_new key_cmp (λ k. is_eq (slice_cmp nat_cmp key.items k.items)) key place (is_eq-slice_cmp key.items key.items ∙ (bytes_eq-Decides key.items key.items).1 refl)
    (λ q same. ap is_eq same) m.entries

-- what a look-up answers where there is no place
pub place-none : (found : Option (Bor ℕ)) (o : Option ℕ) → option_copied found ≡ o → is_some found ≡ false → is_some o ≡ false
place-none None o is none = ap is_some (sym is)
place-none (Some x) o is none = absurd (true≢false none)

-- ---- slots

-- what a slot has, however it is read
pub read-at : (slots : List (Option ℕ)) (i : ℕ) (o : Option ℕ) → i < length slots → o ≡ get_or slots i o → get_or slots i None ≡ o
read-at slots i o within is = get_or_from_slice_get slots i o None (slice_get_read slots (length slots) i o refl within is)

pub none-of : (o : Option ℕ) → is_some o ≡ false → o ≡ None
none-of None e = refl
none-of (Some x) e = absurd (true≢false e)

-- ---- places of a list

-- a value that stands at a place is in the list
pub stands-there : (list : List Json) (place : ℕ) (tree : Json) → slice_get list place ≡ Some tree → Contains list tree
stands-there list place tree is = (place, slice_get_within list place tree is, get_or_from_slice_get list place tree tree is)

-- it stands there in a longer list too
stands-still : (list more : List Json) (place : ℕ) (tree : Json) → slice_get list place ≡ Some tree → slice_get (list ++ more) place ≡ Some tree
stands-still list more place tree is =
    let within = slice_get_within list place tree is in
    slice_get-get_or (list ++ more) place tree (omega (arith, within, length-append list more))
    ∙ ap (λ x. Some x) (get_or_append_left list more tree place within ∙ get_or_from_slice_get list place tree tree is)

-- the last value of a list
pub stands-last : (list : List Json) (tree : Json) → slice_get (list ++ tree ∷ []) (length list) ≡ Some tree
stands-last [] tree = refl
stands-last (x ∷ list) tree = stands-last list tree

-- no value of no list wants a place
pub places-none : (places : Places) (list : List Json) → HavePlaces places list []
places-none places list x there = absurd (omega (arith, there.1))

-- a value whose slot has no place isn't in the list
pub slot-free : (places : Places) (list : List Json) (tree : Json) (slot : ℕ) → slot ≡ slot_of (length places.slots.items) tree
    → get_or places.slots.items slot None ≡ None → HavePlaces places list list → ¬ (Contains list tree)
slot-free places list tree slot is none known there =
    subst (IsAt places list tree) (ap (λ s. get_or places.slots.items s None) (sym is) ∙ none) (known tree there)

-- nor is one behind the value that has its slot, where its code has no place
pub slot-taken : (places : Places) (list : List Json) (tree : Json) (slot place : ℕ) → slot ≡ slot_of (length places.slots.items) tree
    → get_or places.slots.items slot None ≡ Some place → ¬ (slice_get list place ≡ Some tree) → has_place places.by_code (code_of tree) ≡ false
    → HavePlaces places list list → ¬ (Contains list tree)
slot-taken places list tree slot place is at other none known there =
    elim (subst (IsAt places list tree) (ap (λ s. get_or places.slots.items s None) (sym is) ∙ at) (known tree there)) [
      | inl e ↦ other e
      | inr e ↦ true≢false (sym e ∙ none)
    ]

-- the same places in a longer list
still-at : (places : Places) (list more : List Json) (x : Json) (o : Option ℕ) → IsAt places list x o → IsAt places (list ++ more) x o
still-at places list more x None at = at
still-at places list more x (Some place) at = elim at [
  | inl e ↦ inl (stands-still list more place x e)
  | inr e ↦ inr e
]

pub places-longer : (places : Places) (list more part : List Json) → HavePlaces places list part → HavePlaces places (list ++ more) part
places-longer places list more part known x there = still-at places list more x (place_at places x) (known x there)

-- ---- one value more

-- the value has a free slot
module _ (old new : Places) (list part : List Json) (tree : Json) (slot place : ℕ) (put : new.slots.items ≡ set old.slots.items slot (Some place))
    (codes : new.by_code ≡ old.by_code) (is : slot ≡ slot_of (length old.slots.items) tree) (within : slot < length old.slots.items) (free : get_or old.slots.items slot None ≡ None)
    (stands : slice_get list place ≡ Some tree) (known : HavePlaces old list part) where
  same_size : length new.slots.items ≡ length old.slots.items
  same_size = ap length put ∙ length-set old.slots.items slot (Some place)

  moved : (x : Json) → place_at new x ≡ get_or (set old.slots.items slot (Some place)) (slot_of (length old.slots.items) x) None
  moved x = ap₂ (λ xs n. get_or xs (slot_of n x) None) put same_size

  as_before : (x : Json) (o : Option ℕ) → IsAt old list x o → IsAt new list x o
  as_before x None at = at
  as_before x (Some p) at = elim at [
    | inl e ↦ inl e
    | inr e ↦ inr (ap (λ m. has_place m (code_of x)) codes ∙ e)
  ]

  before : (x : Json) → Contains part x → ¬ (slot_of (length old.slots.items) x ≡ slot) → IsAt new list x (place_at new x)
  before x there other =
      subst (IsAt new list x) (sym (moved x ∙ get_or-set_other old.slots.items slot (slot_of (length old.slots.items) x) (Some place) None other))
      (as_before x (place_at old x) (known x there))

  never : (x : Json) → Contains part x → ¬ (slot_of (length old.slots.items) x ≡ slot)
  never x there same = subst (IsAt old list x) (ap (λ s. get_or old.slots.items s None) same ∙ free) (known x there)

  itself : IsAt new list tree (place_at new tree)
  itself =
      subst (IsAt new list tree) (sym (moved tree ∙ ap (λ s. get_or (set old.slots.items slot (Some place)) s None) (sym is) ∙ get_or-set_same old.slots.items slot (Some place) None within))
      (inl stands)

  pub places-slot : HavePlaces new list (part ++ tree ∷ [])
  places-slot x there = elim (Contains-push_cases part tree x there) [
    | inl h ↦ elim (cases_eq (slot_of (length old.slots.items) x) slot) [
      | inl same ↦ absurd (never x h same)
      | inr other ↦ before x h other
    ]
    | inr e ↦ subst (λ y. IsAt new list y (place_at new y)) e itself
  ]

-- the value's slot is another's
module _ (old new : Places) (list part : List Json) (tree : Json) (slot : ℕ) (same : new.slots.items ≡ old.slots.items)
    (still : (code : List ℕ) → has_place old.by_code code ≡ true → has_place new.by_code code ≡ true) (here : has_place new.by_code (code_of tree) ≡ true)
    (is : slot ≡ slot_of (length old.slots.items) tree) (taken : is_some (get_or old.slots.items slot None) ≡ true) (known : HavePlaces old list part) where
  moved_behind : (x : Json) → place_at new x ≡ place_at old x
  moved_behind x = ap (λ xs. get_or xs (slot_of (length xs) x) None) same

  as_before_behind : (x : Json) (o : Option ℕ) → IsAt old list x o → IsAt new list x o
  as_before_behind x None at = at
  as_before_behind x (Some p) at = elim at [
    | inl e ↦ inl e
    | inr e ↦ inr (still (code_of x) e)
  ]

  behind_it : (o : Option ℕ) → is_some o ≡ true → IsAt new list tree o
  behind_it None e = absurd (true≢false (sym e))
  behind_it (Some p) e = inr here

  itself_behind : IsAt new list tree (place_at new tree)
  itself_behind = behind_it (place_at new tree) (ap is_some (moved_behind tree ∙ ap (λ s. get_or old.slots.items s None) (sym is)) ∙ taken)

  pub places-code : HavePlaces new list (part ++ tree ∷ [])
  places-code x there = elim (Contains-push_cases part tree x there) [
    | inl h ↦ subst (IsAt new list x) (sym (moved_behind x)) (as_before_behind x (place_at old x) (known x h))
    | inr e ↦ subst (λ y. IsAt new list y (place_at new y)) e itself_behind
  ]

-- one more value of a list, as a loop puts it
pub places-next : (places : Places) (list items : List Json) (i : ℕ) (tree : Json) → items ≡ list → i < length items → tree ≡ get_or items i tree
    → HavePlaces places list (take i list ++ tree ∷ []) → HavePlaces places list (take (i + 1) list)
places-next places list items i tree same within at =
    subst (HavePlaces places list) (sym (ap (take (i + 1)) (sym same) ∙ take_more items i tree within ∙ ap₂ (λ xs y. take i xs ++ y ∷ []) same (sym at)))
