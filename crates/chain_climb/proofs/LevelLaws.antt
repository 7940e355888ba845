-- Paths of one length after the other, and what a whole search judges.
use Rattle.std.proofs.Common.{◌≡◌, ◌≢◌, ◌≤◌, ◌<◌, ◌+◌, ◌⊎◌, ℕ, zero, suc, List, [], ◌∷◌, ◌++◌, length, filter_map, flat_map, Bool, true, false, cond, Option, Some, None, refl, sym, ap, ◌∙◌, subst, inl, inr, ⊎_elim, length-append, bytes_eq, nat_le, arith, eq-or-lt_of_le, le→leb, leb→le}
use Rattle.std.specs.List.{list_any}
use Rattle.std.proofs.lemmas.List.Elements.{filter_map-append}
use Rattle.fed_json.proofs.Order.{bytes_eq-itself, equal-bytes_eq}
use Rattle.entity_statement.specs.Claims.{Claims, Identifier}
use Rattle.chain_climb.specs.Elements.{Among, Ordered}
use Rattle.chain_climb.proofs.Elements.{among-flat_map, among-left, among-right, among-split, filter_map-flat_map, flat_map-among, ordered-append, ordered-flat_map}
use Rattle.chain_climb.specs.declared.path.Path.{Path}
use Rattle.chain_climb.specs.Climbs.{Findings, Need, Step, added, added_by, alone, climb, climb_from, configuration_of, hints_at, judged, judged_by, last_of, longer, look_at, statement_about}
use Rattle.chain_climb.specs.Paths.{HintsDiffer, IsPath, LeadsOn, Precedes, begins, goes_on, hint_places}
use Rattle.chain_climb.proofs.ClimbLaws.{Child, Earlier, GoesOn, added-goes_on, among-any, any-among, before-append, child-hint, child-places, false-from, goes_on-added, here-judged, hint-child, judged-here, last-append, none-ordered, ordered-added, ordered-judged}

length-longer : (path : Path) (statement : Need) → length (longer path statement).entities ≡ length path.entities + 1
length-longer path statement = length-append path.entities (statement.issuer ∷ [])

pub root-good : (found : Findings) (leaf anchor : Identifier) (depth : ℕ) {q : Path} → IsPath found leaf anchor depth q → (own : Claims) × (found (configuration_of leaf) ≡ Some own)
root-good found leaf anchor depth (begins own is) = (own, is)
root-good found leaf anchor depth (goes_on path statement from leads) = root-good found leaf anchor depth from

module _ (found : Findings) (leaf anchor : Identifier) (depth : ℕ) where
  abbrev look : Path → List Step
  look = look_at found anchor depth

  -- the paths of k + 1 entities
  unfoldable pub level : ℕ → List Path
  level zero = alone leaf ∷ []
  level (suc k) = added (flat_map look (level k))

  level-next : (k : ℕ) → level (suc k) ≡ flat_map (λ p. added (look p)) (level k)
  unfolding level
  level-next k = filter_map-flat_map added_by look (level k)

  -- the paths of k + 1 entities that are judged
  abbrev pub judged_at : ℕ → List Path
  judged_at k = judged (flat_map look (level k))

  judged_at-is : (k : ℕ) → judged_at k ≡ flat_map (λ p. judged (look p)) (level k)
  judged_at-is k = filter_map-flat_map judged_by look (level k)

  -- ---- each path of a level is one

  child-leads : (path : Path) (superior : Identifier) (q : Path) → bytes_eq (last_of path) anchor ≡ false → nat_le (length path.entities) depth ≡ true
      → Among superior (hints_at found path) → Child found path superior q → (statement : Need) × (q ≡ longer path statement) × LeadsOn found anchor depth path statement
  child-leads path superior q below room hinted child = (
    statement_about superior (last_of path) child.endpoint,
    child.is,
    record {
      below_anchor = λ same. absurd (Rattle.chain_climb.proofs.ClimbLaws.both_ways (bytes_eq (last_of path) anchor) (ap (λ e. bytes_eq e anchor) same ∙ bytes_eq-itself anchor) below);
      short = Rattle.std.proofs.Common.leb-true (length path.entities) depth room;
      hinted = hinted;
      fresh = λ among. absurd (Rattle.chain_climb.proofs.ClimbLaws.both_ways (list_any (bytes_eq superior) path.entities) (any-among superior path.entities among) child.fresh);
      superior = child.own;
      superior_good = child.own_good;
      endpoint = child.endpoint;
      fetches = child.fetches;
      is = refl;
      claims = child.claims;
      good = child.good;
    },
  )

  abbrev IsAt : ℕ → Path → Type 0
  IsAt k q = IsPath found leaf anchor depth q × (length q.entities ≡ k + 1)

  sound : (own : Claims) → found (configuration_of leaf) ≡ Some own → (k : ℕ) (q : Path) → Among q (level k) → IsAt k q
  unfolding level
  sound own is zero q (inl same) = (subst (IsPath found leaf anchor depth) (sym same) (begins own is), ap (λ (p : Path). length p.entities) same)
  sound own is zero q (inr none) = absurd none
  sound own is (suc k) q among =
      let from = flat_map-among (λ p. added (look p)) q (level k) (subst (Among q) (level-next k) among) in
      let here = sound own is k from.0 from.1 in
      let goes = added-goes_on found anchor depth from.0 q from.2 in
      let leads = child-leads from.0 goes.from.0 q goes.below goes.room goes.from.1 (hint-child found from.0 goes.from.0 q goes.from.2) in
      let size : length (longer from.0 leads.0).entities ≡ length from.0.entities + 1 = length-longer from.0 leads.0 in
      let same : length q.entities ≡ length (longer from.0 leads.0).entities = ap (λ (p : Path). length p.entities) leads.1 in
      (subst (IsPath found leaf anchor depth) (sym leads.1) (goes_on from.0 leads.0 here.0 leads.2), omega (arith, size, same, here.1))

  -- ---- each path stands in a level

  leads-child : (path : Path) (statement : Need) → LeadsOn found anchor depth path statement → Child found path statement.issuer (longer path statement)
  leads-child path statement leads = record {
    fresh = false-from (list_any (bytes_eq statement.issuer) path.entities) (λ any. leads.fresh (among-any statement.issuer path.entities any));
    own = leads.superior;
    own_good = leads.superior_good;
    endpoint = leads.endpoint;
    fetches = leads.fetches;
    claims = leads.claims;
    good = subst (λ s. found s ≡ Some leads.claims) leads.is leads.good;
    is = ap (longer path) leads.is;
  }

  complete : {q : Path} → IsPath found leaf anchor depth q → (k : ℕ) × Among q (level k) × (length q.entities ≡ k + 1) × (k ≤ depth)
  unfolding level
  complete (begins own is) = (zero, inl refl, refl, omega arith)
  complete (goes_on path statement from leads) =
      let here = complete from in
      let goes : GoesOn found anchor depth path (longer path statement) = record {
        below = false-from (bytes_eq (last_of path) anchor) (λ same. leads.below_anchor (equal-bytes_eq (last_of path) anchor same));
        room = Rattle.std.proofs.Common.le-leb (length path.entities) depth leads.short;
        from = (statement.issuer, leads.hinted, child-hint found path statement.issuer (longer path statement) (leads-child path statement leads));
      } in
      let size : length (longer path statement).entities ≡ length path.entities + 1 = length-longer path statement in
      let short = leads.short in (
        suc here.0,
        subst (Among (longer path statement)) (sym (level-next here.0))
            (among-flat_map (λ p. added (look p)) path (longer path statement) (level here.0) here.1 (goes_on-added found anchor depth path (longer path statement) goes)),
        omega (arith, size, here.2),
        omega (arith, size, here.2, short),
      )

  -- ---- what is judged

  judged-level : (k : ℕ) (q : Path) → Among q (judged_at k) → Among q (level k) × (last_of q ≡ anchor)
  judged-level k q among =
      let from = flat_map-among (λ p. judged (look p)) q (level k) (subst (Among q) (judged_at-is k) among) in
      let here = judged-here found anchor depth from.0 q from.2 in
      (subst (λ p. Among p (level k)) (sym here.1) from.1, ap last_of here.1 ∙ here.0)

  level-judged : (k : ℕ) (q : Path) → Among q (level k) → last_of q ≡ anchor → Among q (judged_at k)
  level-judged k q among ends = subst (Among q) (sym (judged_at-is k)) (among-flat_map (λ p. judged (look p)) q q (level k) among (here-judged found anchor depth q ends))

  rest-zero : (k : ℕ) → judged (climb_from found anchor depth zero (level k)) ≡ judged_at k
  unfolding climb_from
  rest-zero k = refl

  rest-next : (n k : ℕ) → judged (climb_from found anchor depth (suc n) (level k)) ≡ judged_at k ++ judged (climb_from found anchor depth n (level (suc k)))
  unfolding climb_from level
  rest-next n k = filter_map-append judged_by (flat_map look (level k)) (climb_from found anchor depth n (added (flat_map look (level k))))

  judged-rest : (q : Path) (m n k : ℕ) → k ≤ m → m ≤ n + k → Among q (judged_at m) → Among q (judged (climb_from found anchor depth n (level k)))
  judged-rest q m zero k low high among = let one : m ≡ k = omega (arith, low, high) in subst (Among q) (sym (rest-zero k)) (subst (λ i. Among q (judged_at i)) one among)
  judged-rest q m (suc n) k low high among =
      subst (Among q) (sym (rest-next n k))
      (⊎_elim
      (λ same. among-left q (judged_at k) (judged (climb_from found anchor depth n (level (suc k)))) (subst (λ i. Among q (judged_at i)) (sym same) among))
      (λ less. among-right q (judged_at k) (judged (climb_from found anchor depth n (level (suc k)))) (judged-rest q m n (suc k) (omega (arith, less)) (omega (arith, high)) among))
      (eq-or-lt_of_le low))

  rest-judged : (q : Path) (n k : ℕ) → Among q (judged (climb_from found anchor depth n (level k))) → (m : ℕ) × (k ≤ m) × Among q (judged_at m)
  rest-judged q zero k among = (k, omega arith, subst (Among q) (rest-zero k) among)
  rest-judged q (suc n) k among =
      ⊎_elim
      (λ here. (k, omega arith, here))
      (λ there. let later = rest-judged q n (suc k) there in let low = later.1 in (later.0, omega (arith, low), later.2))
      (among-split q (judged_at k) (judged (climb_from found anchor depth n (level (suc k)))) (subst (Among q) (rest-next n k) among))

  whole : (own : Claims) → found (configuration_of leaf) ≡ Some own → judged (climb found leaf anchor depth) ≡ judged (climb_from found anchor depth depth (level zero))
  unfolding climb level
  whole own is = rw is refl

  nothing : found (configuration_of leaf) ≡ None → (q : Path) → ¬ Among q (judged (climb found leaf anchor depth))
  unfolding climb
  nothing is q = rw is (λ among. among)

  -- each path that goes up to the anchor is judged
  pub path-judged : (q : Path) → IsPath found leaf anchor depth q → last_of q ≡ anchor → Among q (judged (climb found leaf anchor depth))
  path-judged q is_path ends =
      let root = root-good found leaf anchor depth is_path in
      let at = complete is_path in
      let high = at.3 in
      subst (Among q) (sym (whole root.0 root.1)) (judged-rest q at.0 depth zero (omega arith) (omega (arith, high)) (level-judged at.0 q at.1 ends))

  by_root : (o : Option Claims) (q : Path) → found (configuration_of leaf) ≡ o → Among q (judged (climb found leaf anchor depth)) → IsPath found leaf anchor depth q × (last_of q ≡ anchor)
  by_root None q is among = absurd (nothing is q among)
  by_root (Some own) q is among =
      let at = rest-judged q depth zero (subst (Among q) (whole own is) among) in
      let here = judged-level at.0 q at.2 in
      ((sound own is at.0 q here.0).0, here.1)

  -- and nothing else is
  pub judged-path : (q : Path) → Among q (judged (climb found leaf anchor depth)) → IsPath found leaf anchor depth q × (last_of q ≡ anchor)
  judged-path q among = by_root (found (configuration_of leaf)) q refl among

  -- ---- in which order

  module _ (differ : HintsDiffer found) (own : Claims) (is : found (configuration_of leaf) ≡ Some own) where
    some-at : (k : ℕ) (q : Path) → Among q (level k) → 0 < length q.entities
    some-at k q among = let size = (sound own is k q among).1 in omega (arith, size)

    step_order : (p r u v : Path) → 0 < length p.entities → 0 < length r.entities → Earlier found p r → Among u (added (look p)) → Among v (added (look r)) → Earlier found u v
    step_order p r u v some more earlier here there =
        let gu = added-goes_on found anchor depth p u here in
        let gv = added-goes_on found anchor depth r v there in
        let pu = child-places found p gu.from.0 u some (hint-child found p gu.from.0 u gu.from.2) in
        let pv = child-places found r gv.from.0 v more (hint-child found r gv.from.0 v gv.from.2) in
        rw (pu, pv) (before-append (hint_places found p.entities) (hint_places found r.entities) _ _ earlier)

    level-ordered : (k : ℕ) → Ordered (Earlier found) (level k)
    unfolding level
    level-ordered zero = ((λ y none. absurd none), tt)
    level-ordered (suc k) = subst (Ordered (Earlier found)) (sym (level-next k))
        (ordered-flat_map (Earlier found) (Earlier found) (λ p. added (look p)) (level k) (level-ordered k)
        (λ p among. ordered-added found differ anchor depth p (some-at k p among))
        (λ p r u v here there earlier hu hv. step_order p r u v (some-at k p here) (some-at k r there) earlier hu hv))

    one_level : (k : ℕ) (p r u v : Path) → Among p (level k) → Among r (level k) → Earlier found p r → Among u (judged (look p)) → Among v (judged (look r)) → Precedes found u v
    one_level k p r u v here there earlier hu hv =
        let first = (judged-here found anchor depth p u hu).1 in
        let second = (judged-here found anchor depth r v hv).1 in
        let a = (sound own is k p here).1 in
        let b = (sound own is k r there).1 in
        rw (first, second) (inr (a ∙ sym b, earlier))

    at-ordered : (k : ℕ) → Ordered (Precedes found) (judged_at k)
    at-ordered k = subst (Ordered (Precedes found)) (sym (judged_at-is k))
        (ordered-flat_map (Earlier found) (Precedes found) (λ p. judged (look p)) (level k) (level-ordered k)
        (λ p among. ordered-judged found anchor depth p (Precedes found))
        (one_level k))

    shorter : (k m : ℕ) (u v : Path) → k < m → Among u (judged_at k) → Among v (judged_at m) → Precedes found u v
    shorter k m u v less here there =
        let a = (sound own is k u (judged-level k u here).0).1 in
        let b = (sound own is m v (judged-level m v there).0).1 in
        inl (omega (arith, less, a, b))

    rest-ordered : (n k : ℕ) → Ordered (Precedes found) (judged (climb_from found anchor depth n (level k)))
    rest-ordered zero k = subst (Ordered (Precedes found)) (sym (rest-zero k)) (at-ordered k)
    rest-ordered (suc n) k = subst (Ordered (Precedes found)) (sym (rest-next n k))
        (ordered-append (Precedes found) (judged_at k) (judged (climb_from found anchor depth n (level (suc k)))) (at-ordered k) (rest-ordered n (suc k))
        (λ u v here there. let later = rest-judged v n (suc k) there in let low = later.1 in shorter k later.0 u v (omega (arith, low)) here later.2))

    climb-ordered : Ordered (Precedes found) (judged (climb found leaf anchor depth))
    climb-ordered = subst (Ordered (Precedes found)) (sym (whole own is)) (rest-ordered depth zero)

  ordered_by : (o : Option Claims) → found (configuration_of leaf) ≡ o → HintsDiffer found → Ordered (Precedes found) (judged (climb found leaf anchor depth))
  ordered_by None is differ = none-ordered (Precedes found) (judged (climb found leaf anchor depth)) (nothing is)
  ordered_by (Some own) is differ = climb-ordered differ own is

  -- the paths are judged in their order
  pub judged-ordered : HintsDiffer found → Ordered (Precedes found) (judged (climb found leaf anchor depth))
  judged-ordered differ = ordered_by (found (configuration_of leaf)) refl differ
