-- A search takes the same steps over two findings, as long as they agree on the pages that these steps need.
use Rattle.std.proofs.Common.{◌≡◌, ◌⊎◌, ℕ, zero, suc, List, [], ◌∷◌, ◌++◌, length, flat_map, Bool, true, false, cond, Option, Some, None, refl, sym, ap, ◌∙◌, subst, inl, inr, ⊎_elim, append-nil, append_assoc, bytes_eq, nat_le}
use Rattle.std.specs.List.{list_any}
use Rattle.std.specs.Option.{option_map_or}
use Rattle.std.proofs.lemmas.List.Elements.{filter_map-append}
use Rattle.entity_statement.specs.Claims.{Claims, Identifier}
use Rattle.entity_statement.specs.Use.{fetch_endpoint_in}
use Rattle.chain_climb.specs.Elements.{Among}
use Rattle.chain_climb.proofs.Elements.{among-flat_map, among-left, among-right, filter_map-flat_map, flat_map-among}
use Rattle.chain_climb.specs.declared.path.Path.{Path}
use Rattle.chain_climb.specs.Climbs.{Findings, Need, Step, add, added, added_by, alone, climb, climb_from, configuration_of, hints_at, judge, last_of, longer, look_at, need, needed, needed_by, statement_about, through_hint, through_statement, through_superior}
use Rattle.chain_climb.proofs.ClimbLaws.{Child, added-goes_on, hint-child, last-append}

-- both lists are empty, or they begin with one element
abbrev pub SameHead : List Step → List Step → Type 0
SameHead [] [] = Unit {0}
SameHead [] (y ∷ ys) = ⊥
SameHead (x ∷ xs) [] = ⊥
SameHead (x ∷ xs) (y ∷ ys) = x ≡ y

same-head : (xs : List Step) → SameHead xs xs
same-head [] = tt
same-head (x ∷ xs) = refl

same-append : (l m us vs : List Step) → SameHead l m → (l ≡ [] → SameHead us vs) → SameHead (l ++ us) (m ++ vs)
same-append [] [] us vs same later = later refl
same-append [] (y ∷ m) us vs same later = absurd same
same-append (x ∷ l) [] us vs same later = absurd same
same-append (x ∷ l) (y ∷ m) us vs same later = same

pub same-none : (m : List Step) → SameHead [] m → m ≡ []
same-none [] same = refl
same-none (y ∷ m) same = absurd same

-- a beginning of two lists joined ends in the first, or takes the whole of it
abbrev pub Inside : List Step → List Step → List Step → List Step → Type 0
Inside xs us taken left = (l : List Step) × (xs ≡ taken ++ l) × (left ≡ l ++ us)

abbrev pub Beyond : List Step → List Step → List Step → List Step → Type 0
Beyond xs us taken left = (t : List Step) × (taken ≡ xs ++ t) × (us ≡ t ++ left)

cut-longer : (x y : Step) (xs us taken left : List Step) → x ≡ y → Inside xs us taken left ⊎ Beyond xs us taken left → Inside (x ∷ xs) us (y ∷ taken) left ⊎ Beyond (x ∷ xs) us (y ∷ taken) left
cut-longer x y xs us taken left one (inl (l, a, b)) = inl (l, ap (λ s. s ∷ xs) one ∙ ap (λ t. y ∷ t) a, b)
cut-longer x y xs us taken left one (inr (t, a, b)) = inr (t, ap (λ s. s ∷ taken) (sym one) ∙ ap (λ t. x ∷ t) a, b)

pub cut : (xs us taken left : List Step) → xs ++ us ≡ taken ++ left → Inside xs us taken left ⊎ Beyond xs us taken left
cut [] us taken left one = inr (taken, refl, one)
cut (x ∷ xs) us [] left one = inl (x ∷ xs, refl, sym one)
cut (x ∷ xs) us (y ∷ taken) left one =
    let head : x ≡ y = cc one in
    let tail : xs ++ us ≡ taken ++ left = cc one in
    cut-longer x y xs us taken left head (cut xs us taken left tail)

need-joined : (page : Need) (s : Step) (ys taken rest : List Step) → need page ≡ s → ys ≡ taken ++ rest → need page ∷ ys ≡ s ∷ (taken ++ rest)
need-joined page s ys taken rest one is = ap (λ l. need page ∷ l) is ∙ ap (λ x. x ∷ (taken ++ rest)) one

module _ (f g : Findings) where
  -- the two agree on each page that the steps need
  abbrev pub Agree : List Step → Type 0
  Agree steps = (page : Need) → Among page (needed steps) → f page ≡ g page

  agree-left : (xs ys : List Step) → Agree (xs ++ ys) → Agree xs
  agree-left xs ys agree page among = agree page (subst (Among page) (sym (filter_map-append needed_by xs ys)) (among-left page (needed xs) (needed ys) among))

  agree-right : (xs ys : List Step) → Agree (xs ++ ys) → Agree ys
  agree-right xs ys agree page among = agree page (subst (Among page) (sym (filter_map-append needed_by xs ys)) (among-right page (needed xs) (needed ys) among))

  -- each beginning of the first on which they agree begins the second, and the same step comes next
  abbrev pub Like : List Step → List Step → Type 0
  Like xs ys = (taken left : List Step) → xs ≡ taken ++ left → Agree taken → (rest : List Step) × (ys ≡ taken ++ rest) × SameHead left rest

  like-same : (xs : List Step) → Like xs xs
  like-same xs taken left split agree = (left, split, same-head left)

  like-need : (page : Need) (xs ys : List Step) → (f page ≡ g page → Like xs ys) → Like (need page ∷ xs) (need page ∷ ys)
  like-need page xs ys later [] [] split agree = cc split
  like-need page xs ys later [] (s ∷ left) split agree = let one : need page ≡ s = cc split in (need page ∷ ys, refl, sym one)
  like-need page xs ys later (s ∷ taken) left split agree =
      let one : need page ≡ s = cc split in
      let tail : xs ≡ taken ++ left = cc split in
      let whole : Agree (need page ∷ taken) = subst (λ x. Agree (x ∷ taken)) (sym one) agree in
      let rest = later (whole page (inl refl)) taken left tail (λ p among. whole p (inr among)) in
      (rest.0, need-joined page s ys taken rest.0 one rest.1, rest.2)

  -- the first lists are one where they agree on the whole of it
  pub like-whole : (xs ys : List Step) → Like xs ys → Agree xs → ys ≡ xs
  like-whole xs ys like agree =
      let rest = like xs [] (sym (append-nil xs)) agree in
      rest.1 ∙ ap (λ l. xs ++ l) (same-none rest.0 rest.2) ∙ append-nil xs

  like-append : (xs ys us vs : List Step) → Like xs ys → (ys ≡ xs → Agree xs → Like us vs) → Like (xs ++ us) (ys ++ vs)
  like-append xs ys us vs first second taken left split agree =
      ⊎_elim
      (λ (inside : Inside xs us taken left).
      let rest = first taken inside.0 inside.1 agree in
      let heads : inside.0 ≡ [] → SameHead us vs = λ none.
      let all : xs ≡ taken = inside.1 ∙ ap (λ l. taken ++ l) none ∙ append-nil taken in
      let whole : Agree xs = subst Agree (sym all) agree in
      let next = second (like-whole xs ys first whole) whole [] us refl (λ page none. absurd none) in
      subst (λ vs'. SameHead us vs') (sym next.1) next.2 in
      (rest.0 ++ vs, ap (λ l. l ++ vs) rest.1 ∙ append_assoc taken rest.0 vs, subst (λ l. SameHead l (rest.0 ++ vs)) (sym inside.2) (same-append inside.0 rest.0 us vs rest.2 heads)))
      (λ (beyond : Beyond xs us taken left).
      let both : Agree (xs ++ beyond.0) = subst Agree beyond.1 agree in
      let whole : Agree xs = agree-left xs beyond.0 both in
      let same : ys ≡ xs = like-whole xs ys first whole in
      let rest = second same whole beyond.0 left beyond.2 (agree-right xs beyond.0 both) in
      (rest.0, ap (λ l. l ++ vs) same ∙ ap (λ l. xs ++ l) rest.1 ∙ sym (append_assoc xs beyond.0 rest.0) ∙ ap (λ t. t ++ rest.0) (sym beyond.1), rest.2))
      (cut xs us taken left split)

  like-flat_map : {X : Type 0} (p q : X → List Step) (xs : List X) → ((x : X) → Among x xs → Like (p x) (q x)) → Like (flat_map p xs) (flat_map q xs)
  like-flat_map p q [] each = like-same []
  like-flat_map p q (x ∷ xs) each = like-append (p x) (q x) (flat_map p xs) (flat_map q xs) (each x (inl refl)) (λ same agree. like-flat_map p q xs (λ z among. each z (inr among)))

  -- ---- one hint, one path

  module _ (path : Path) where
    abbrev adds : Need → Option Claims → List Step
    adds statement o = option_map_or (λ _. add (longer path statement) ∷ []) o []

    like_statement : (statement : Need) → Like (through_statement f path statement) (through_statement g path statement)
    like_statement statement = like-need statement (adds statement (f statement)) (adds statement (g statement))
        (λ same. subst (λ o. Like (adds statement (f statement)) (adds statement o)) same (like-same (adds statement (f statement))))

    like_endpoint : (superior : Identifier) (e : Option (List ℕ)) → Like (through_superior f path superior e) (through_superior g path superior e)
    like_endpoint superior None = like-same []
    like_endpoint superior (Some at) = like_statement (statement_about superior (last_of path) at)

    abbrev owns : Findings → Identifier → Option Claims → List Step
    owns found superior o = option_map_or (λ own. through_superior found path superior (fetch_endpoint_in own.metadata)) o []

    like_own : (superior : Identifier) (o : Option Claims) → Like (owns f superior o) (owns g superior o)
    like_own superior None = like-same []
    like_own superior (Some own) = like_endpoint superior (fetch_endpoint_in own.metadata)

    like_fresh : (b : Bool) (superior : Identifier)
        → Like (cond b [] (need (configuration_of superior) ∷ owns f superior (f (configuration_of superior)))) (cond b [] (need (configuration_of superior) ∷ owns g superior (g (configuration_of superior))))
    like_fresh true superior = like-same []
    like_fresh false superior = like-need (configuration_of superior) (owns f superior (f (configuration_of superior))) (owns g superior (g (configuration_of superior)))
        (λ same. subst (λ o. Like (owns f superior (f (configuration_of superior))) (owns g superior o)) same (like_own superior (f (configuration_of superior))))

    like-hint : (superior : Identifier) → Like (through_hint f path superior) (through_hint g path superior)
    like-hint superior = like_fresh (list_any (bytes_eq superior) path.entities) superior

    -- the two agree on the last entity's configuration
    abbrev Known : Type 0
    Known = f (configuration_of (last_of path)) ≡ g (configuration_of (last_of path))

    hints-same : Known → hints_at f path ≡ hints_at g path
    hints-same known = ap (λ o. option_map_or (λ (own : Claims). own.hints) o []) known

    like_hints : Known → Like (flat_map (through_hint f path) (hints_at f path)) (flat_map (through_hint g path) (hints_at g path))
    like_hints known = subst (λ hs. Like (flat_map (through_hint f path) (hints_at f path)) (flat_map (through_hint g path) hs)) (hints-same known)
        (like-flat_map (through_hint f path) (through_hint g path) (hints_at f path) (λ h among. like-hint h))

    like_room : (b : Bool) → Known → Like (cond b (flat_map (through_hint f path) (hints_at f path)) []) (cond b (flat_map (through_hint g path) (hints_at g path)) [])
    like_room true known = like_hints known
    like_room false known = like-same []

    like_last : (anchor : Identifier) (depth : ℕ) (b : Bool) → Known
        → Like (cond b (judge path ∷ []) (cond (nat_le (length path.entities) depth) (flat_map (through_hint f path) (hints_at f path)) []))
        (cond b (judge path ∷ []) (cond (nat_le (length path.entities) depth) (flat_map (through_hint g path) (hints_at g path)) []))
    like_last anchor depth true known = like-same (judge path ∷ [])
    like_last anchor depth false known = like_room (nat_le (length path.entities) depth) known

    like-look : (anchor : Identifier) (depth : ℕ) → Known → Like (look_at f anchor depth path) (look_at g anchor depth path)
    like-look anchor depth known = like_last anchor depth (bytes_eq (last_of path) anchor) known

  -- ---- levels

  abbrev AllKnown : List Path → Type 0
  AllKnown paths = (path : Path) → Among path paths → Known path

  -- a path that a hint adds needed the hint's configuration
  hint_needs : (b : Bool) (path : Path) (superior : Identifier) → b ≡ false
      → Among (configuration_of superior) (needed (cond b [] (need (configuration_of superior) ∷ owns path f superior (f (configuration_of superior)))))
  hint_needs true path superior is = cc is
  hint_needs false path superior is = inl refl

  module _ (anchor : Identifier) (depth : ℕ) where
    abbrev looks : List Path → List Step
    looks paths = flat_map (look_at f anchor depth) paths

    new-known : (paths : List Path) → Agree (looks paths) → AllKnown (added (looks paths))
    new-known paths agree q among =
        let from = flat_map-among (λ p. added (look_at f anchor depth p)) q paths (subst (Among q) (filter_map-flat_map added_by (look_at f anchor depth) paths) among) in
        let goes = added-goes_on f anchor depth from.0 q from.2 in
        let superior = goes.from.0 in
        let child : Child f from.0 superior q = hint-child f from.0 superior q goes.from.2 in
        let hinted : Among (configuration_of superior) (needed (through_hint f from.0 superior)) = hint_needs (list_any (bytes_eq superior) (from.0).entities) from.0 superior child.fresh in
        let all_hints : Among (configuration_of superior) (needed (flat_map (through_hint f from.0) (hints_at f from.0))) =
        subst (Among (configuration_of superior)) (sym (filter_map-flat_map needed_by (through_hint f from.0) (hints_at f from.0)))
        (among-flat_map (λ h. needed (through_hint f from.0 h)) superior (configuration_of superior) (hints_at f from.0) goes.from.1 hinted) in
        let looked : Among (configuration_of superior) (needed (look_at f anchor depth from.0)) = rw (goes.below, goes.room) all_hints in
        let there : Among (configuration_of superior) (needed (looks paths)) =
        subst (Among (configuration_of superior)) (sym (filter_map-flat_map needed_by (look_at f anchor depth) paths))
        (among-flat_map (λ p. needed (look_at f anchor depth p)) from.0 (configuration_of superior) paths from.1 looked) in
        let last : last_of q ≡ superior = ap last_of child.is ∙ last-append (from.0).entities superior in
        subst (λ e. f (configuration_of e) ≡ g (configuration_of e)) (sym last) (agree (configuration_of superior) there)

    like-looks : (paths : List Path) → AllKnown paths → Like (looks paths) (flat_map (look_at g anchor depth) paths)
    like-looks paths known = like-flat_map (look_at f anchor depth) (look_at g anchor depth) paths (λ path among. like-look path anchor depth (known path among))

    like-from : (n : ℕ) (paths : List Path) → AllKnown paths → Like (climb_from f anchor depth n paths) (climb_from g anchor depth n paths)
    unfolding climb_from
    like-from zero paths known = like-looks paths known
    like-from (suc n) paths known =
        like-append (looks paths) (flat_map (look_at g anchor depth) paths) (climb_from f anchor depth n (added (looks paths))) (climb_from g anchor depth n (added (flat_map (look_at g anchor depth) paths)))
        (like-looks paths known)
        (λ same agree. subst (λ steps. Like (climb_from f anchor depth n (added (looks paths))) (climb_from g anchor depth n (added steps))) (sym same)
        (like-from n (added (looks paths)) (new-known paths agree)))

    module _ (leaf : Identifier) where
      abbrev starts : Findings → Option Claims → List Step
      starts found o = option_map_or (λ _. add (alone leaf) ∷ climb_from found anchor depth depth (alone leaf ∷ [])) o []

      like-add : (xs ys : List Step) → Like xs ys → Like (add (alone leaf) ∷ xs) (add (alone leaf) ∷ ys)
      like-add xs ys like = like-append (add (alone leaf) ∷ []) (add (alone leaf) ∷ []) xs ys (like-same (add (alone leaf) ∷ [])) (λ same agree. like)

      like_start : (o : Option Claims) → f (configuration_of leaf) ≡ g (configuration_of leaf) → Like (starts f o) (starts g o)
      like_start None same = like-same []
      like_start (Some own) same =
          like-add (climb_from f anchor depth depth (alone leaf ∷ [])) (climb_from g anchor depth depth (alone leaf ∷ []))
          (like-from depth (alone leaf ∷ []) (λ path among. ⊎_elim (λ one. subst Known (sym one) same) (λ none. absurd none) among))

      -- the whole search
      pub like-climb : Like (climb f leaf anchor depth) (climb g leaf anchor depth)
      unfolding climb
      like-climb = like-need (configuration_of leaf) (starts f (f (configuration_of leaf))) (starts g (g (configuration_of leaf)))
          (λ same. subst (λ o. Like (starts f (f (configuration_of leaf))) (starts g o)) same (like_start (f (configuration_of leaf)) same))
