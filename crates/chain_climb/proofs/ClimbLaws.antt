-- The paths that a search judges: each that goes from the leaf up to the anchor, in their order.
use Rattle.std.proofs.Common.{◌≡◌, ◌≤◌, ◌<◌, ℕ, zero, suc, List, [], ◌∷◌, ◌++◌, length, flat_map, Bool, true, false, cond, Option, Some, None, refl, sym, ap, ◌∙◌, subst, inl, inr, true≢false, bytes_eq, nat_le, ◌||◌, arith}
use Rattle.std.specs.List.{list_any}
use Rattle.std.specs.Option.{option_map_or}
use Rattle.fed_json.proofs.Order.{bytes_eq-itself, equal-bytes_eq}
use Rattle.entity_statement.specs.Claims.{Claims, Identifier}
use Rattle.entity_statement.specs.Use.{fetch_endpoint_in}
use Rattle.chain_climb.specs.Elements.{Among, NoneTwice, Ordered}
use Rattle.chain_climb.proofs.Elements.{ComesFrom, among-flat_map, filter_map-flat_map, flat_map-among, ordered-flat_map}
use Rattle.chain_climb.specs.declared.path.Path.{Path}
use Rattle.chain_climb.specs.Climbs.{Findings, Need, Step, add, added, added_by, alone, configuration_of, hints_at, judge, judged, judged_by, last_in, last_of, longer, look_at, need, statement_about, through_hint, through_superior}
use Rattle.chain_climb.specs.Paths.{ComesBefore, HintsDiffer, hint_places, place_in}

-- ---- tests

pub both_ways : (b : Bool) → b ≡ true → b ≡ false → ⊥
both_ways b is_true is_false = true≢false (sym is_true ∙ is_false)

or-true : (a b : Bool) → b ≡ true → (a || b) ≡ true
or-true true b is_true = refl
or-true false b is_true = is_true

pub any-among : (e : Identifier) (es : List Identifier) → Among e es → list_any (bytes_eq e) es ≡ true
any-among e [] among = absurd among
any-among e (x ∷ es) (inl same) = ap (λ b. b || list_any (bytes_eq e) es) (ap (bytes_eq e) (sym same) ∙ bytes_eq-itself e)
any-among e (x ∷ es) (inr among) = or-true (bytes_eq e x) (list_any (bytes_eq e) es) (any-among e es among)

any-here : (b : Bool) (e x : Identifier) (es : List Identifier) → bytes_eq e x ≡ b → (list_any (bytes_eq e) es ≡ true → Among e es) → (b || list_any (bytes_eq e) es) ≡ true → Among e (x ∷ es)
any-here true e x es is later any = inl (equal-bytes_eq e x is)
any-here false e x es is later any = inr (later any)

pub among-any : (e : Identifier) (es : List Identifier) → list_any (bytes_eq e) es ≡ true → Among e es
among-any e [] any = absurd (true≢false (sym any))
among-any e (x ∷ es) any = any-here (bytes_eq e x) e x es refl (among-any e es) any

pub false-from : (b : Bool) → (b ≡ true → ⊥) → b ≡ false
false-from true never = absurd (never refl)
false-from false never = refl

-- ---- one hint

module _ (found : Findings) (path : Path) where
  -- the longer path that a hint leads to, and what makes it good
  pub record Child (superior : Identifier) (q : Path) : Type 0 where
    pub fresh : list_any (bytes_eq superior) path.entities ≡ false
    pub own : Claims
    pub own_good : found (configuration_of superior) ≡ Some own
    pub endpoint : List ℕ
    pub fetches : fetch_endpoint_in own.metadata ≡ Some endpoint
    pub claims : Claims
    pub good : found (statement_about superior (last_of path) endpoint) ≡ Some claims
    pub is : q ≡ longer path (statement_about superior (last_of path) endpoint)

  by_statement : (statement : Need) (q : Path) (o : Option Claims) → Among q (added (need statement ∷ option_map_or (λ _. add (longer path statement) ∷ []) o []))
      → (claims : Claims) × (o ≡ Some claims) × (q ≡ longer path statement)
  by_statement statement q None among = absurd among
  by_statement statement q (Some claims) (inl same) = (claims, refl, same)
  by_statement statement q (Some claims) (inr none) = absurd none

  by_endpoint : (superior : Identifier) (q : Path) (e : Option (List ℕ)) → Among q (added (through_superior found path superior e))
      → (at : List ℕ) × (e ≡ Some at) × ((claims : Claims) × (found (statement_about superior (last_of path) at) ≡ Some claims) × (q ≡ longer path (statement_about superior (last_of path) at)))
  by_endpoint superior q None among = absurd among
  by_endpoint superior q (Some at) among = (at, refl, by_statement (statement_about superior (last_of path) at) q (found (statement_about superior (last_of path) at)) among)

  abbrev after_own : Identifier → Option Claims → List Step
  after_own superior o = need (configuration_of superior) ∷ option_map_or (λ own. through_superior found path superior (fetch_endpoint_in own.metadata)) o []

  by_own : (superior : Identifier) (q : Path) (o : Option Claims) → list_any (bytes_eq superior) path.entities ≡ false → found (configuration_of superior) ≡ o
      → Among q (added (after_own superior o)) → Child superior q
  by_own superior q None fresh is among = absurd among
  by_own superior q (Some own) fresh is among =
      let rest = by_endpoint superior q (fetch_endpoint_in own.metadata) among in
      record { fresh = fresh; own = own; own_good = is; endpoint = rest.0; fetches = rest.1; claims = rest.2.0; good = rest.2.1; is = rest.2.2 }

  by_fresh : (b : Bool) (superior : Identifier) (q : Path) → list_any (bytes_eq superior) path.entities ≡ b
      → Among q (added (cond b [] (after_own superior (found (configuration_of superior))))) → Child superior q
  by_fresh true superior q is among = absurd among
  by_fresh false superior q is among = by_own superior q (found (configuration_of superior)) is refl among

  pub hint-child : (superior : Identifier) (q : Path) → Among q (added (through_hint found path superior)) → Child superior q
  hint-child superior q among = by_fresh (list_any (bytes_eq superior) path.entities) superior q refl among

  pub child-hint : (superior : Identifier) (q : Path) → Child superior q → Among q (added (through_hint found path superior))
  child-hint superior q child = rw (child.fresh, child.own_good, child.fetches, child.good) (inl child.is)

  -- a hint adds one path at most
  module _ (R : Path → Path → Type 0) where
    one_statement : (statement : Need) (o : Option Claims) → Ordered R (added (need statement ∷ option_map_or (λ _. add (longer path statement) ∷ []) o []))
    one_statement statement None = tt
    one_statement statement (Some claims) = ((λ y none. absurd none), tt)

    one_endpoint : (superior : Identifier) (e : Option (List ℕ)) → Ordered R (added (through_superior found path superior e))
    one_endpoint superior None = tt
    one_endpoint superior (Some at) = one_statement (statement_about superior (last_of path) at) (found (statement_about superior (last_of path) at))

    one_own : (superior : Identifier) (o : Option Claims) → Ordered R (added (after_own superior o))
    one_own superior None = tt
    one_own superior (Some own) = one_endpoint superior (fetch_endpoint_in own.metadata)

    one_fresh : (b : Bool) (superior : Identifier) → Ordered R (added (cond b [] (after_own superior (found (configuration_of superior)))))
    one_fresh true superior = tt
    one_fresh false superior = one_own superior (found (configuration_of superior))

    pub one-hint : (superior : Identifier) → Ordered R (added (through_hint found path superior))
    one-hint superior = one_fresh (list_any (bytes_eq superior) path.entities) superior

  -- and judges none
  no_statement : (statement : Need) (q : Path) (o : Option Claims) → ¬ Among q (judged (need statement ∷ option_map_or (λ _. add (longer path statement) ∷ []) o []))
  no_statement statement q None among = among
  no_statement statement q (Some claims) among = among

  no_endpoint : (superior : Identifier) (q : Path) (e : Option (List ℕ)) → ¬ Among q (judged (through_superior found path superior e))
  no_endpoint superior q None among = among
  no_endpoint superior q (Some at) among = no_statement (statement_about superior (last_of path) at) q (found (statement_about superior (last_of path) at)) among

  no_own : (superior : Identifier) (q : Path) (o : Option Claims) → ¬ Among q (judged (after_own superior o))
  no_own superior q None among = among
  no_own superior q (Some own) among = no_endpoint superior q (fetch_endpoint_in own.metadata) among

  no_fresh : (b : Bool) (superior : Identifier) (q : Path) → ¬ Among q (judged (cond b [] (after_own superior (found (configuration_of superior)))))
  no_fresh true superior q among = among
  no_fresh false superior q among = no_own superior q (found (configuration_of superior)) among

  pub no-judge : (superior : Identifier) (q : Path) → ¬ Among q (judged (through_hint found path superior))
  no-judge superior q among = no_fresh (list_any (bytes_eq superior) path.entities) superior q among

pub none-ordered : (R : Path → Path → Type 0) (qs : List Path) → ((q : Path) → ¬ Among q qs) → Ordered R qs
none-ordered R [] none = tt
none-ordered R (q ∷ qs) none = absurd (none q (inl refl))

none-length : (qs : List Path) → ((q : Path) → ¬ Among q qs) → length qs ≡ 0
none-length [] none = refl
none-length (q ∷ qs) none = absurd (none q (inl refl))

-- ---- places of hints

pub before-append : (a b x y : List ℕ) → ComesBefore a b → ComesBefore (a ++ x) (b ++ y)
before-append [] b x y before = absurd before
before-append (i ∷ a) [] x y before = absurd before
before-append (i ∷ a) (j ∷ b) x y (inl less) = inl less
before-append (i ∷ a) (j ∷ b) x y (inr (same, before)) = inr (same, before-append a b x y before)

before-last : (a : List ℕ) (i j : ℕ) → i < j → ComesBefore (a ++ i ∷ []) (a ++ j ∷ [])
before-last [] i j less = inl less
before-last (k ∷ a) i j less = inr (refl, before-last a i j less)

pub last-append : (es : List Identifier) (h : Identifier) → last_in (es ++ h ∷ []) ≡ h
last-append [] h = refl
last-append (e ∷ []) h = refl
last-append (e ∷ d ∷ es) h = last-append (d ∷ es) h

ordered-more : {X : Type 0} (R S : X → X → Type 0) (xs : List X) → ((x y : X) → Among x xs → Among y xs → R x y → S x y) → Ordered R xs → Ordered S xs
ordered-more R S [] more ordered = tt
ordered-more R S (x ∷ xs) more ordered = (
  λ y among. more x y (inl refl) (inr among) (ordered.0 y among),
  ordered-more R S xs (λ u v here there. more u v (inr here) (inr there)) ordered.1,
)

place-here : (x : Identifier) (xs : List Identifier) → place_in x (x ∷ xs) ≡ zero
place-here x xs = rw (bytes_eq-itself x) refl

place-later : (x y : Identifier) (xs : List Identifier) → ¬ (x ≡ y) → place_in y (x ∷ xs) ≡ suc (place_in y xs)
place-later x y xs apart = rw (false-from (bytes_eq x y) (λ same. apart (equal-bytes_eq x y same))) refl

apart-from : (x y : Identifier) (xs : List Identifier) → ¬ Among x xs → Among y xs → ¬ (x ≡ y)
apart-from x y xs none among same = none (subst (λ e. Among e xs) (sym same) among)

abbrev InOrder : List Identifier → Identifier → Identifier → Type 0
InOrder hints a b = place_in a hints < place_in b hints

hints-ordered : (hints : List Identifier) → NoneTwice hints → Ordered (InOrder hints) hints
hints-ordered [] differ = tt
hints-ordered (x ∷ xs) differ = (
  λ y among. rw (place-here x xs, place-later x y xs (apart-from x y xs differ.0 among)) (omega arith),
  ordered-more (InOrder xs) (InOrder (x ∷ xs)) xs
      (λ u v here there less. rw (place-later x u xs (apart-from x u xs differ.0 here), place-later x v xs (apart-from x v xs differ.0 there)) (omega (arith, less)))
      (hints-ordered xs differ.1),
)

places-longer : (found : Findings) (es : List Identifier) (h : Identifier) → 0 < length es
    → hint_places found (es ++ h ∷ []) ≡ hint_places found es ++ place_in h (hints_at found (alone (last_in es))) ∷ []
places-longer found [] h some = absurd (omega (arith, some))
places-longer found (e ∷ []) h some = refl
places-longer found (e ∷ d ∷ es) h some = ap (λ places. place_in d (hints_at found (alone e)) ∷ places) (places-longer found (d ∷ es) h (omega arith))

-- ---- one path

module _ (found : Findings) (anchor : Identifier) (depth : ℕ) (path : Path) where
  abbrev hint_paths : Identifier → List Path
  hint_paths superior = added (through_hint found path superior)

  abbrev all_hints : List Step
  all_hints = flat_map (through_hint found path) (hints_at found path)

  abbrev at_room : Bool → List Step
  at_room b = cond b all_hints []

  abbrev at_last : Bool → List Step
  at_last b = cond b (judge path ∷ []) (at_room (nat_le (length path.entities) depth))

  -- a path that goes on
  pub record GoesOn (q : Path) : Type 0 where
    pub below : bytes_eq (last_of path) anchor ≡ false
    pub room : nat_le (length path.entities) depth ≡ true
    pub from : ComesFrom hint_paths (hints_at found path) q

  by_room : (b : Bool) (q : Path) → nat_le (length path.entities) depth ≡ b → bytes_eq (last_of path) anchor ≡ false → Among q (added (at_room b)) → GoesOn q
  by_room true q is below among = record {
    below = below;
    room = is;
    from = flat_map-among hint_paths q (hints_at found path) (subst (Among q) (filter_map-flat_map added_by (through_hint found path) (hints_at found path)) among);
  }
  by_room false q is below among = absurd among

  by_last : (b : Bool) (q : Path) → bytes_eq (last_of path) anchor ≡ b → Among q (added (at_last b)) → GoesOn q
  by_last true q is among = absurd among
  by_last false q is among = by_room (nat_le (length path.entities) depth) q refl is among

  pub added-goes_on : (q : Path) → Among q (added (look_at found anchor depth path)) → GoesOn q
  added-goes_on q among = by_last (bytes_eq (last_of path) anchor) q refl among

  pub goes_on-added : (q : Path) → GoesOn q → Among q (added (look_at found anchor depth path))
  goes_on-added q goes = rw (goes.below, goes.room)
      (subst (Among q) (sym (filter_map-flat_map added_by (through_hint found path) (hints_at found path)))
      (among-flat_map hint_paths goes.from.0 q (hints_at found path) goes.from.1 goes.from.2))

  no_room : (b : Bool) (q : Path) → ¬ Among q (judged (at_room b))
  no_room true q among =
      let from = flat_map-among (λ h. judged (through_hint found path h)) q (hints_at found path)
      (subst (Among q) (filter_map-flat_map judged_by (through_hint found path) (hints_at found path)) among) in
      no-judge found path from.0 q from.2
  no_room false q among = among

  judged_last : (b : Bool) (q : Path) → bytes_eq (last_of path) anchor ≡ b → Among q (judged (at_last b)) → (last_of path ≡ anchor) × (q ≡ path)
  judged_last true q is (inl same) = (equal-bytes_eq (last_of path) anchor is, same)
  judged_last true q is (inr none) = absurd none
  judged_last false q is among = absurd (no_room (nat_le (length path.entities) depth) q among)

  pub judged-here : (q : Path) → Among q (judged (look_at found anchor depth path)) → (last_of path ≡ anchor) × (q ≡ path)
  judged-here q among = judged_last (bytes_eq (last_of path) anchor) q refl among

  pub here-judged : last_of path ≡ anchor → Among path (judged (look_at found anchor depth path))
  here-judged ends = rw (ap (λ e. bytes_eq e anchor) ends ∙ bytes_eq-itself anchor) (inl refl)

  few_last : (b : Bool) → length (judged (at_last b)) ≤ 1
  few_last true = omega arith
  few_last false = let e = none-length (judged (at_room (nat_le (length path.entities) depth))) (no_room (nat_le (length path.entities) depth)) in omega (arith, e)

  -- one path is judged at most
  pub few-judged : length (judged (look_at found anchor depth path)) ≤ 1
  few-judged = few_last (bytes_eq (last_of path) anchor)

  ordered_last : (R : Path → Path → Type 0) (b : Bool) → Ordered R (judged (at_last b))
  ordered_last R true = ((λ y none. absurd none), tt)
  ordered_last R false = none-ordered R (judged (at_room (nat_le (length path.entities) depth))) (no_room (nat_le (length path.entities) depth))

  pub ordered-judged : (R : Path → Path → Type 0) → Ordered R (judged (look_at found anchor depth path))
  ordered-judged R = ordered_last R (bytes_eq (last_of path) anchor)

abbrev pub Earlier : Findings → Path → Path → Type 0
Earlier found p q = ComesBefore (hint_places found p.entities) (hint_places found q.entities)

-- the places of the hints of a path that a hint leads to
pub child-places : (found : Findings) (path : Path) (superior : Identifier) (q : Path) → 0 < length path.entities → Child found path superior q
    → hint_places found q.entities ≡ hint_places found path.entities ++ place_in superior (hints_at found (alone (last_of path))) ∷ []
child-places found path superior q some child = ap (λ (p : Path). hint_places found p.entities) child.is ∙ places-longer found path.entities superior some

module _ (found : Findings) (differ : HintsDiffer found) (anchor : Identifier) (depth : ℕ) (path : Path) (some : 0 < length path.entities) where
  hint_order : (a b : Identifier) (u v : Path) → InOrder (hints_at found path) a b → Among u (added (through_hint found path a)) → Among v (added (through_hint found path b)) → Earlier found u v
  hint_order a b u v less here there =
      let pu = child-places found path a u some (hint-child found path a u here) in
      let pv = child-places found path b v some (hint-child found path b v there) in
      rw (pu, pv) (before-last (hint_places found path.entities) (place_in a (hints_at found path)) (place_in b (hints_at found path)) less)

  ordered_room : (b : Bool) → Ordered (Earlier found) (added (at_room found anchor depth path b))
  ordered_room true = subst (Ordered (Earlier found)) (sym (filter_map-flat_map added_by (through_hint found path) (hints_at found path)))
      (ordered-flat_map (InOrder (hints_at found path)) (Earlier found) (λ h. added (through_hint found path h)) (hints_at found path)
      (hints-ordered (hints_at found path) (differ (last_of path)))
      (λ h among. one-hint found path (Earlier found) h)
      (λ a b u v here there less hu hv. hint_order a b u v less hu hv))
  ordered_room false = tt

  ordered_end : (b : Bool) → Ordered (Earlier found) (added (at_last found anchor depth path b))
  ordered_end true = tt
  ordered_end false = ordered_room (nat_le (length path.entities) depth)

  pub ordered-added : Ordered (Earlier found) (added (look_at found anchor depth path))
  ordered-added = ordered_end (bytes_eq (last_of path) anchor)
