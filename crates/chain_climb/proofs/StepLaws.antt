-- How the steps of the code move along the search.
use Rattle.std.proofs.Common.{◌≡◌, ◌≢◌, ◌≤◌, ◌<◌, ◌+◌, ◌-◌, ℕ, zero, suc, List, [], ◌∷◌, ◌++◌, length, take, drop, get_or, flat_map, Bool, true, false, cond, Option, Some, None, refl, sym, ap, ◌∙◌, subst, inl, inr, arith, bytes_eq, nat_le, length-append, append_assoc}
use Rattle.std.specs.Option.{option_map_or}
use Rattle.std.proofs.lemmas.List.{drop_more, drop_all, take-append-le, get_or_default, get_or_read, get_or-take, length-take-le}
use Rattle.std.proofs.lemmas.Bool.Decides.{nat_tests}
use Rattle.std.proofs.Math.Seq.{take-length}
use Rattle.entity_statement.specs.Claims.{Claims, Identifier}
use Rattle.entity_statement.specs.declared.statement.Statement.{Statement}
use Rattle.chain_climb.specs.Elements.{Among}
use Rattle.chain_climb.specs.declared.want.Bounds.{Bounds}
use Rattle.chain_climb.specs.declared.path.Path.{Path}
use Rattle.chain_climb.specs.declared.facing.Facing.{Facing}
use Rattle.chain_climb.specs.declared.facing.Facing.TheVariants.{Passed, Adds}
use Rattle.chain_climb.specs.declared.answer.Origin.{Origin}
use Rattle.chain_climb.specs.declared.answer.Report.{Report}
use Rattle.chain_climb.specs.declared.answer.Report.TheVariants.{Good}
use Rattle.chain_climb.specs.declared.answer.PageAnswer.{PageAnswer}
use Rattle.chain_climb.specs.declared.place.Stage.{Stage}
use Rattle.chain_climb.specs.declared.place.Stage.TheVariants.{Leaf, Hint, Judge, Found, Ended}
use Rattle.chain_climb.specs.declared.place.Place.{Place}
use Rattle.chain_climb.specs.declared.walk.Look.{Look}
use Rattle.chain_climb.specs.declared.walk.Look.TheVariants.{Passed as PathPassed, Judge as ToJudge, Hint as AtHint}
use Rattle.chain_climb.specs.Climbs.{Findings, Step, add, added, alone, climb, climb_from, configuration_of, hints_at, last_of, longer, look_at, need, page_named, through_hint}
use Rattle.chain_climb.specs.Facings.{face_of}
use Rattle.chain_climb.specs.Sessions.{Extends, answer_to}
use Rattle.chain_climb.specs.Walks.{AllKnown, AreHints, Grows, HasPath, HasHint, HintTried, HintsTried, IsAdded, IsKnown, IsOpen, LeafReaches, LevelLooked, Looked, Reaches, RestTried, StopsAt, StopsAtHint, Walked, below, from_to, hint_rest, hints_from, hints_on, is_leaf_stop, is_stop, level_from, level_of, looks, no_path, onward, path_at, path_in, path_rest, rest_at, rest_from, route}
use Rattle.chain_climb.proofs.FacingLaws.{Faces, hint-faces}
use Rattle.chain_climb.proofs.WalkLaws.{append-nil, walked-add, walked-need, walked-none, walked-onward, walked-same, walked-then, walked-to, walked-within}

-- ---- hints

pub hints-arm : (pages : List PageAnswer) (path : Path) (last : Identifier) (own : Statement) (origin : Origin) (hints : List Identifier) → 0 < length path.entities → last ≡ last_of path
    → answer_to pages (configuration_of last) ≡ Some (Good own origin) → hints ≡ own.hints → AreHints pages path hints
hints-arm pages path last own origin hints some is good are = record {
  known = record {
    some = some;
    own = own;
    origin = origin;
    good = subst (λ l. answer_to pages (configuration_of l) ≡ Some (Good own origin)) is good;
  };
  are = are;
}

module _ (pages : List PageAnswer) (most : ℕ) (path : Path) (known : IsKnown pages path) (hint : Identifier) where
  pub try_arm-passed : (facing : Facing) (paths : List Path) → facing ≡ face_of pages path hint → facing ≡ Passed → Walked pages most [] (λ found. through_hint found path hint) (λ found. []) (from_to paths paths)
  try_arm-passed facing paths is passed =
      subst (Faces pages most path known hint (λ found. through_hint found path hint)) (sym is ∙ passed) (hint-faces pages most path known hint) paths

  pub try_arm-adds : (facing : Facing) (url : List ℕ) (new : Path) (before after : List Path) → facing ≡ face_of pages path hint → facing ≡ Adds url → new ≡ longer path (page_named hint hint url)
      → after ≡ before ++ new ∷ [] → length before < most → Walked pages most [] (λ found. through_hint found path hint) (λ found. []) (from_to before after)
  try_arm-adds facing url new before after is adds new_is after_is room =
      let faces = subst (Faces pages most path known hint (λ found. through_hint found path hint)) (sym is ∙ adds) (hint-faces pages most path known hint) in
      walked-then pages most [] [] (λ found. through_hint found path hint) (λ found. add (longer path (page_named hint hint url)) ∷ []) (λ found. []) before before after (faces.1 before)
      (walked-add pages most (longer path (page_named hint hint url)) (λ found. []) before after (after_is ∙ ap (λ p. before ++ p ∷ []) new_is) room faces.0)

  pub try_arm-added : (facing : Facing) (url : List ℕ) (before after : List Path) → facing ≡ face_of pages path hint → facing ≡ Adds url → (passed : Bool)
      → IsAdded most (longer path (page_named hint hint url)) (from_to before after) passed → HintTried pages most path hint (from_to before after) passed
  try_arm-added facing url before after is adds true added = try_arm-adds facing url (longer path (page_named hint hint url)) before after is adds refl added.1 added.0
  try_arm-added facing url before after is adds false added = (added.1, ap (λ f. is_stop f (nat_le most (length before))) (sym is ∙ adds) ∙ (let full = added.0 in grind (arith, nat_tests, full)))

-- the hints that an answer states
abbrev stated : Option Report → List Identifier
stated (Some (Good own origin)) = own.hints
stated answer = []

module _ (pages : List PageAnswer) (path : Path) (hints : List Identifier) (are : AreHints pages path hints) where
  pub has-within : (from : ℕ) → HasHint pages path from → from ≤ length hints
  has-within from has =
      let same : has.0 ≡ hints = (has.1).are ∙ sym (ap stated (has.1).known.good) ∙ ap stated are.known.good ∙ sym are.are in
      subst (λ hs. from ≤ length hs) same has.2

  pub hints-same : (found : Findings) → Extends found pages → hints_at found path ≡ hints
  hints-same found extends =
      ap (λ o. option_map_or (λ (own : Claims). own.hints) o []) (extends.agrees (configuration_of (last_of path)) (Good are.known.own are.known.origin) are.known.good tt) ∙ sym are.are

  pub hints_here : (k : ℕ) (h : Identifier) → k < length hints → h ≡ get_or hints k h → (found : Findings) → Extends found pages
      → hints_from path k found ≡ through_hint found path h ++ hints_from path (k + 1) found
  hints_here k h within is found extends =
      let same = hints-same found extends in
      ap (λ hs. flat_map (through_hint found path) (drop k hs)) same
      ∙ ap (flat_map (through_hint found path)) (drop_more hints k h within)
      ∙ ap (λ x. through_hint found path x ++ flat_map (through_hint found path) (drop (k + 1) hints)) (sym is)
      ∙ ap (λ hs. through_hint found path h ++ flat_map (through_hint found path) (drop (k + 1) hs)) (sym same)

  pub hints-step : (most k : ℕ) (h : Identifier) (before after : List Path) → k < length hints → h ≡ get_or hints k h
      → Walked pages most [] (λ found. through_hint found path h) (λ found. []) (from_to before after) → Walked pages most [] (hints_from path k) (hints_from path (k + 1)) (from_to before after)
  hints-step most k h before after within is w =
      walked-same pages most [] (λ found. through_hint found path h ++ hints_from path (k + 1) found) (hints_from path (k + 1)) (hints_from path k) before after (hints_here k h within is)
      (walked-within pages most [] (λ found. through_hint found path h) (λ found. []) (hints_from path (k + 1)) before after w)

  pub tries_arm-more : (most from k : ℕ) (h : Identifier) (first before after : List Path) (passed : Bool) → k < length hints → h ≡ get_or hints k h → passed ≡ true
      → HintTried pages most path h (from_to before after) passed
      → Walked pages most [] (hints_from path from) (hints_from path k) (from_to first before) → Walked pages most [] (hints_from path from) (hints_from path (k + 1)) (from_to first after)
  tries_arm-more most from k h first before after passed within is passes tried w =
      walked-then pages most [] [] (hints_from path from) (hints_from path k) (hints_from path (k + 1)) first before after w
      (hints-step most k h before after within is (subst (HintTried pages most path h (from_to before after)) passes tried))

  -- behind the last hint nothing is left
  pub hints-end : (k : ℕ) → length hints ≤ k → (found : Findings) → Extends found pages → hints_from path k found ≡ []
  hints-end k all found extends = ap (λ hs. flat_map (through_hint found path) (drop k hs)) (hints-same found extends) ∙ ap (flat_map (through_hint found path)) (drop_all k hints all)

  module _ (most from : ℕ) (before after : List Path) (at : ℕ) (tried : HintsTried pages most (hints_on path hints) from (from_to before after) at) where
    pub rest_arm-stop : at < length hints → RestTried pages most path from (from_to before after) (Some at)
    rest_arm-stop short = (tried.walked, record { hints = hints; are = are; within = short; stops = tried.stops short })

    pub rest_arm-none : length hints ≤ at → RestTried pages most path from (from_to before after) None
    rest_arm-none all = walked-to pages most [] (hints_from path from) (hints_from path at) (λ found. []) before after (hints-end at all) tried.walked

-- ---- one path

module _ (pages : List PageAnswer) (bounds : Bounds) (anchor : Identifier) (path : Path) where
  abbrev steps_at : Bool → Bool → Findings → List Step
  steps_at ends short found = cond ends (Rattle.chain_climb.specs.Climbs.judge path ∷ []) (cond short (hints_from path 0 found) [])

  pub look_steps : (ends short : Bool) → bytes_eq (last_of path) anchor ≡ ends → nat_le (length path.entities) bounds.depth ≡ short → (found : Findings) → look_at found anchor bounds.depth path ≡ steps_at ends short found
  look_steps ends short is_end is_short found =
      ap (λ b. cond b (Rattle.chain_climb.specs.Climbs.judge path ∷ []) (cond (nat_le (length path.entities) bounds.depth) (hints_from path 0 found) [])) is_end
      ∙ ap (λ b. steps_at ends b found) is_short

-- ---- one level

module _ (anchor : Identifier) (depth : ℕ) where
  -- the path at hand, then the others of its level
  pub level_here : (queue : List Path) (at level_end : ℕ) (path : Path) → at < level_end → level_end ≤ length queue → path ≡ get_or queue at path
      → level_from queue at level_end ≡ path ∷ level_from queue (at + 1) level_end
  level_here queue at level_end path less within is =
      drop_more (take level_end queue) at path (let e = length-take-le level_end queue within in omega (arith, e, less))
      ∙ ap (λ p. p ∷ level_from queue (at + 1) level_end) (get_or-take level_end queue at path less ∙ sym is)

  level_same : (before after : List Path) (at level_end : ℕ) → level_end ≤ length before → Grows before after → level_from before at level_end ≡ level_from after at level_end
  level_same before after at level_end within grows = ap (drop at) (sym (ap (take level_end) grows.1 ∙ take-append-le level_end before grows.0 within))

  module _ (pages : List PageAnswer) (most : ℕ) where
    -- a part of a path, then the others of its level, and the levels that follow
    pub level-walk : (A B : Findings → List Step) (before after : List Path) (at level_end left : ℕ) → level_end ≤ length before → Grows before after → Walked pages most [] A B (from_to before after)
        → Walked pages most [] (rest_from anchor depth before (λ found. A found ++ looks anchor depth (level_from before at level_end) found) level_end left) (rest_from anchor depth after (λ found. B found ++ looks anchor depth (level_from after at level_end) found) level_end left) (from_to before after)
    level-walk A B before after at level_end left within grows w =
        walked-onward pages most [] anchor depth (λ found. A found ++ looks anchor depth (level_from before at level_end) found) (λ found. B found ++ looks anchor depth (level_from after at level_end) found) before after level_end left within
        (walked-to pages most [] (λ found. A found ++ looks anchor depth (level_from before at level_end) found) (λ found. B found ++ looks anchor depth (level_from before at level_end) found)
        (λ found. B found ++ looks anchor depth (level_from after at level_end) found) before after
        (λ found extends. ap (λ ps. B found ++ looks anchor depth ps found) (level_same before after at level_end within grows))
        (walked-within pages most [] A B (looks anchor depth (level_from before at level_end)) before after w))

    pub path-walk : (path : Path) (B : Findings → List Step) (before after : List Path) (at level_end left : ℕ) → at < level_end → level_end ≤ length before → path ≡ get_or before at path → Grows before after
        → Walked pages most [] (λ found. look_at found anchor depth path) B (from_to before after)
        → Walked pages most [] (path_rest anchor depth before at level_end left) (rest_from anchor depth after (λ found. B found ++ looks anchor depth (level_from after (at + 1) level_end) found) level_end left) (from_to before after)
    path-walk path B before after at level_end left less within is grows w =
        walked-same pages most [] (rest_from anchor depth before (λ found. look_at found anchor depth path ++ looks anchor depth (level_from before (at + 1) level_end) found) level_end left)
        (rest_from anchor depth after (λ found. B found ++ looks anchor depth (level_from after (at + 1) level_end) found) level_end left) (path_rest anchor depth before at level_end left) before after
        (λ found extends. ap (λ ps. onward found anchor depth (looks anchor depth ps found) (drop level_end before) left) (level_here before at level_end path less within is))
        (level-walk (λ found. look_at found anchor depth path) B before after (at + 1) level_end left within grows w)

-- the path at a place is still there
pub read-grown : (before after : List Path) (at : ℕ) (path d : Path) → at < length before → path ≡ get_or before at path → Grows before after → path ≡ get_or after at d
read-grown before after at path d less is grows =
    get_or_read before at path less is d
    ∙ sym (get_or-take (length before) before at d less)
    ∙ ap (λ l. get_or l at d) (take-length before ∙ sym (ap (take (length before)) grows.1 ∙ take-append-le (length before) before grows.0 (omega arith) ∙ take-length before))
    ∙ get_or-take (length before) after at d less

-- ---- lists that grow

pub grows-then : (before between after : List Path) → Grows before between → Grows between after → Grows before after
grows-then before between after first second =
    (first.0 ++ second.0, second.1 ∙ ap (λ l. l ++ second.0) first.1 ∙ append_assoc before first.0 second.0)

pub grows-length : (before after : List Path) → Grows before after → length before ≤ length after
grows-length before after grows = let e = ap length grows.1 in let g = length-append before grows.0 in omega (arith, e, g)

among-get : (paths : List Path) (at : ℕ) (d : Path) → at < length paths → Among (get_or paths at d) paths
among-get [] at d less = absurd (omega (arith, less))
among-get (p ∷ paths) zero d less = inl refl
among-get (p ∷ paths) (suc at) d less = inr (among-get paths at d (omega arith))

pub known-at : (pages : List PageAnswer) (paths : List Path) (at : ℕ) (path : Path) → AllKnown pages paths → at < length paths → path ≡ get_or paths at path → IsKnown pages path
known-at pages paths at path known less is = known path (subst (λ p. Among p paths) (sym is) (among-get paths at path less))

-- ---- a level

module _ (pages : List PageAnswer) (bounds : Bounds) (anchor : Identifier) (from level_end left : ℕ) (first between : List Path) (grows : Grows first between) (within : level_end ≤ length first) where
  abbrev FromPath : List Path → ℕ → Type 0
  FromPath paths at = Walked pages bounds.paths [] (path_rest anchor bounds.depth first from level_end left) (path_rest anchor bounds.depth paths at level_end left) (from_to first paths)

  within_now : level_end ≤ length between
  within_now = let e = grows-length first between grows in omega (arith, e, within)

  module _ (at : ℕ) (less : at < level_end) (w : FromPath between at) where
    abbrev path : Path
    path = path_in between at

    pub level_less : at < length between
    level_less = let e = within_now in omega (arith, e, less)

    is : path ≡ get_or between at path
    is = get_or_default between at no_path path level_less

    pub level_arm-known : AllKnown pages first → IsKnown pages path
    level_arm-known known = known-at pages between at path (w.known known) level_less is

    pub level_arm-more : (look : Look) (after : List Path) → look ≡ PathPassed → Looked pages bounds anchor path (from_to between after) look → Grows between after → FromPath after (at + 1)
    level_arm-more look after passed looked more =
        walked-then pages bounds.paths [] [] (path_rest anchor bounds.depth first from level_end left) (path_rest anchor bounds.depth between at level_end left) (path_rest anchor bounds.depth after (at + 1) level_end left) first between after w
        (path-walk anchor bounds.depth pages bounds.paths path (λ found. []) between after at level_end left less within_now is more (subst (Looked pages bounds anchor path (from_to between after)) passed looked))

    pub level_arm-judge : (look : Look) (after : List Path) → look ≡ ToJudge → Looked pages bounds anchor path (from_to between after) look → Grows between after
        → Reaches anchor bounds pages (path_rest anchor bounds.depth first from level_end left) (from_to first after) (record { stage = Judge; at = at; hint = 0; level_end = level_end; left = left })
    level_arm-judge look after judges looked more =
        let here : (after ≡ between) × (bytes_eq (last_of path) anchor ≡ true) = subst (Looked pages bounds anchor path (from_to between after)) judges looked in
        let longer = grows-length between after more in
        record {
          is_open = tt;
          walked = subst (λ q. FromPath q at) (sym here.0) w;
          stops = (
            (less, let e = within_now in omega (arith, e, longer)),
            subst (λ p. bytes_eq (last_of p) anchor ≡ true) (read-grown between after at path no_path level_less is more) here.1,
          );
        }

    pub level_arm-hint : (look : Look) (hint : ℕ) (after : List Path) → look ≡ AtHint hint → Looked pages bounds anchor path (from_to between after) look → Grows between after
        → Reaches anchor bounds pages (path_rest anchor bounds.depth first from level_end left) (from_to first after) (record { stage = Hint; at = at; hint = hint; level_end = level_end; left = left })
    level_arm-hint look hint after stands looked more =
        let here : Walked pages bounds.paths [] (λ found. look_at found anchor bounds.depth path) (hints_from path hint) (from_to between after) × StopsAtHint pages bounds.paths after path hint =
        subst (Looked pages bounds anchor path (from_to between after)) stands looked in
        let longer = grows-length between after more in
        let same : path ≡ get_or after at no_path = read-grown between after at path no_path level_less is more in
        record {
          is_open = tt;
          walked = subst (λ p. Walked pages bounds.paths [] (path_rest anchor bounds.depth first from level_end left) (hint_rest anchor bounds.depth after p hint at level_end left) (from_to first after)) same
              (walked-then pages bounds.paths [] [] (path_rest anchor bounds.depth first from level_end left) (path_rest anchor bounds.depth between at level_end left) (hint_rest anchor bounds.depth after path hint at level_end left) first between after w
              (path-walk anchor bounds.depth pages bounds.paths path (hints_from path hint) between after at level_end left less within_now is more here.0));
          stops = (
            (less, let e = within_now in omega (arith, e, longer)),
            subst (λ p. StopsAtHint pages bounds.paths after p hint) same here.1,
          );
        }

-- ---- levels

module _ (anchor : Identifier) (depth : ℕ) where
  level_over : (queue : List Path) (level_end : ℕ) → level_from queue level_end level_end ≡ []
  level_over queue level_end = drop_all level_end (take level_end queue) (omega (arith, Rattle.std.proofs.lemmas.List.length-take level_end queue))

  over_rest : (queue : List Path) (level_end left : ℕ) (found : Findings) → path_rest anchor depth queue level_end level_end left found ≡ below found anchor depth left (drop level_end queue ++ [])
  over_rest queue level_end left found = ap (λ ps. onward found anchor depth (looks anchor depth ps found) (drop level_end queue) left) (level_over queue level_end)

  pub levels-over : (queue : List Path) (level_end : ℕ) (found : Findings) → path_rest anchor depth queue level_end level_end 0 found ≡ []
  levels-over queue level_end found = over_rest queue level_end 0 found

  pub from-onward : (n : ℕ) (paths : List Path) (found : Findings) → climb_from found anchor depth n paths ≡ onward found anchor depth (looks anchor depth paths found) [] n
  unfolding climb_from
  from-onward zero paths found = sym (append-nil (looks anchor depth paths found))
  from-onward (suc n) paths found = refl

  -- the next level
  next_level : (queue : List Path) (level_end n : ℕ) (found : Findings) → path_rest anchor depth queue level_end level_end (suc n) found ≡ path_rest anchor depth queue level_end (length queue) n found
  next_level queue level_end n found =
      over_rest queue level_end (suc n) found
      ∙ ap (climb_from found anchor depth n) (append-nil (drop level_end queue))
      ∙ from-onward n (drop level_end queue) found
      ∙ ap (λ q. onward found anchor depth (looks anchor depth (drop level_end q) found) [] n) (sym (take-length queue))
      ∙ ap (λ q. onward found anchor depth (looks anchor depth (level_from queue level_end (length queue)) found) q n) (sym (drop_all (length queue) queue (omega arith)))

  pub levels-next : (queue : List Path) (level_end left : ℕ) → (left ≡ 0 → ⊥) → (found : Findings) → path_rest anchor depth queue level_end level_end left found ≡ path_rest anchor depth queue level_end (length queue) (left - 1) found
  levels-next queue level_end zero some found = absurd (some refl)
  levels-next queue level_end (suc n) some found =
      let e : n ≡ suc n - 1 = omega arith in
      next_level queue level_end n found ∙ ap (λ m. path_rest anchor depth queue level_end (length queue) m found) e

  -- where a level has no path, none follows
  from-none : (n : ℕ) (found : Findings) → climb_from found anchor depth n [] ≡ []
  unfolding climb_from
  from-none zero found = refl
  from-none (suc n) found = from-none n found

  below-none : (left : ℕ) (found : Findings) → below found anchor depth left [] ≡ []
  below-none zero found = refl
  below-none (suc n) found = from-none n found

  pub levels-none : (queue : List Path) (level_end left : ℕ) → level_end ≡ length queue → (found : Findings) → path_rest anchor depth queue level_end level_end left found ≡ []
  levels-none queue level_end left all found =
      over_rest queue level_end left found
      ∙ ap (λ ps. below found anchor depth left (ps ++ [])) (drop_all level_end queue (omega (arith, all)))
      ∙ below-none left found

module _ (pages : List PageAnswer) (bounds : Bounds) (anchor : Identifier) (steps : Findings → List Step) (first between : List Path) where
  -- a place that is reached from where these steps led
  pub reaches-then : (B : Findings → List Step) (after : List Path) (place : Place) → Walked pages bounds.paths [] steps B (from_to first between) → Reaches anchor bounds pages B (from_to between after) place
      → Reaches anchor bounds pages steps (from_to first after) place
  reaches-then B after place w reaches = record {
    is_open = reaches.is_open;
    walked = walked-then pages bounds.paths [] [] steps B (rest_at place.stage [] anchor bounds.depth after place) first between after w reaches.walked;
    stops = reaches.stops;
  }

  module _ (from level_end left : ℕ) (w : Walked pages bounds.paths [] steps (path_rest anchor bounds.depth between from level_end left) (from_to first between)) (after : List Path) (found_place : Option Place)
      (looked : LevelLooked pages bounds anchor (level_of from level_end left) (from_to between after) found_place) where
    pub levels_arm-some : (place : Place) → found_place ≡ Some place → Reaches anchor bounds pages steps (from_to first after) place
    levels_arm-some place is =
        reaches-then (path_rest anchor bounds.depth between from level_end left) after place w (subst (LevelLooked pages bounds anchor (level_of from level_end left) (from_to between after)) is looked)

    passed : found_place ≡ None → Walked pages bounds.paths [] steps (path_rest anchor bounds.depth after level_end level_end left) (from_to first after)
    passed is =
        walked-then pages bounds.paths [] [] steps (path_rest anchor bounds.depth between from level_end left) (path_rest anchor bounds.depth after level_end level_end left) first between after w
        (subst (LevelLooked pages bounds anchor (level_of from level_end left) (from_to between after)) is looked)

    abbrev Ends : Type 0
    Ends = Reaches anchor bounds pages steps (from_to first after) (record { stage = Ended; at = 0; hint = 0; level_end = 0; left = 0 })

    ended : found_place ≡ None → ((found : Findings) → path_rest anchor bounds.depth after level_end level_end left found ≡ []) → Ends
    ended is over = record {
      is_open = tt;
      walked = walked-to pages bounds.paths [] steps (path_rest anchor bounds.depth after level_end level_end left) (λ found. []) first after (λ found extends. over found) (passed is);
      stops = tt;
    }

    pub levels_arm-ended : found_place ≡ None → left ≡ 0 → Ends
    levels_arm-ended is none = ended is (λ found. ap (λ n. path_rest anchor bounds.depth after level_end level_end n found) none ∙ levels-over anchor bounds.depth after level_end found)

    pub levels_arm-empty : found_place ≡ None → (last : ℕ) → last ≡ length after → last ≡ level_end → Ends
    levels_arm-empty is last all none = ended is (levels-none anchor bounds.depth after level_end left (sym none ∙ all))

    pub levels_arm-more : found_place ≡ None → (left ≡ 0 → ⊥) → (last : ℕ) → last ≡ length after → Walked pages bounds.paths [] steps (path_rest anchor bounds.depth after level_end last (left - 1)) (from_to first after)
    levels_arm-more is some last all =
        subst (λ n. Walked pages bounds.paths [] steps (path_rest anchor bounds.depth after level_end n (left - 1)) (from_to first after)) (sym all)
        (walked-to pages bounds.paths [] steps (path_rest anchor bounds.depth after level_end level_end left) (path_rest anchor bounds.depth after level_end (length after) (left - 1)) first after
        (λ found extends. levels-next anchor bounds.depth after level_end left some found) (passed is))

-- ---- from a hint

module _ (pages : List PageAnswer) (bounds : Bounds) (anchor : Identifier) (place : Place) (before between : List Path) (grows : Grows before between) (at : HasPath before place) (stop : Option ℕ)
    (tried : RestTried pages bounds.paths (path_at before place) place.hint (from_to before between) stop) where
  abbrev path_here : Path
  path_here = path_at before place

  abbrev from_here : Findings → List Step
  from_here = hint_rest anchor bounds.depth before path_here place.hint place.at place.level_end place.left

  less : place.at < length before
  less = omega (arith, at.0, at.1)

  pub hint_arm-stop : (hint : ℕ) → stop ≡ Some hint → Reaches anchor bounds pages from_here (from_to before between) (record { stage = Hint; at = place.at; hint = hint; level_end = place.level_end; left = place.left })
  hint_arm-stop hint stands =
      let here : RestTried pages bounds.paths path_here place.hint (from_to before between) (Some hint) = subst (RestTried pages bounds.paths path_here place.hint (from_to before between)) stands tried in
      let same : path_here ≡ path_in between place.at = read-grown before between place.at path_here no_path less (get_or_default before place.at no_path path_here less) grows in
      let longer = grows-length before between grows in
      record {
        is_open = tt;
        walked = subst (λ p. Walked pages bounds.paths [] from_here (hint_rest anchor bounds.depth between p hint place.at place.level_end place.left) (from_to before between)) same
            (level-walk anchor bounds.depth pages bounds.paths (hints_from path_here place.hint) (hints_from path_here hint) before between (place.at + 1) place.level_end place.left at.1 grows here.0);
        stops = (
          (at.0, omega (arith, at.1, longer)),
          subst (λ p. StopsAtHint pages bounds.paths between p hint) same here.1,
        );
      }

  pub hint_arm-end : stop ≡ None → (after : List Path) (reached : Place)
      → Reaches anchor bounds pages (path_rest anchor bounds.depth between (place.at + 1) place.level_end place.left) (from_to between after) reached
      → Reaches anchor bounds pages from_here (from_to before after) reached
  hint_arm-end none after reached reaches =
      reaches-then pages bounds anchor from_here before between (path_rest anchor bounds.depth between (place.at + 1) place.level_end place.left) after reached
      (level-walk anchor bounds.depth pages bounds.paths (hints_from path_here place.hint) (λ found. []) before between (place.at + 1) place.level_end place.left at.1 grows
      (subst (RestTried pages bounds.paths path_here place.hint (from_to before between)) none tried))
      reaches

-- ---- from the leaf

module _ (leaf anchor : Identifier) (depth : ℕ) where
  pub open_rest : (stage : Stage) (queue : List Path) (place : Place) (pages : List PageAnswer) (most : ℕ) (steps : Findings → List Step) (before : List Path) → IsOpen stage
      → Walked pages most [] steps (rest_at stage [] anchor depth queue place) (from_to before queue) → Walked pages most [] steps (rest_at stage leaf anchor depth queue place) (from_to before queue)
  open_rest Leaf queue place pages most steps before is w = absurd is
  open_rest Hint queue place pages most steps before is w = w
  open_rest Judge queue place pages most steps before is w = w
  open_rest Found queue place pages most steps before is w = absurd is
  open_rest Ended queue place pages most steps before is w = w

pub open_stops : (leaf anchor : Identifier) (bounds : Bounds) (stage : Stage) (pages : List PageAnswer) (queue : List Path) (place : Place) → IsOpen stage → StopsAt stage (route [] anchor) bounds pages queue place → StopsAt stage (route leaf anchor) bounds pages queue place
open_stops leaf anchor bounds Leaf pages queue place is stops = absurd is
open_stops leaf anchor bounds Hint pages queue place is stops = stops
open_stops leaf anchor bounds Judge pages queue place is stops = stops
open_stops leaf anchor bounds Found pages queue place is stops = absurd is
open_stops leaf anchor bounds Ended pages queue place is stops = stops

pub open-not_found : (stage : Stage) → IsOpen stage → stage ≢ Found
open-not_found Leaf is same = is
open-not_found Hint is same = cc
open-not_found Judge is same = cc
open-not_found Found is same = is
open-not_found Ended is same = cc

module _ (pages : List PageAnswer) (leaf anchor : Identifier) (bounds : Bounds) where
  abbrev whole : Findings → List Step
  whole found = climb found leaf anchor bounds.depth

  -- from the steps of the whole search to a place
  pub leaf_reaches : (steps : Findings → List Step) (between after : List Path) (place : Place) → Walked pages bounds.paths [] whole steps (from_to [] between) → Reaches anchor bounds pages steps (from_to between after) place
      → LeafReaches leaf anchor bounds pages after place
  leaf_reaches steps between after place w reaches =
      let all = reaches-then pages bounds anchor whole [] between steps after place w reaches in
      record {
        not_found = open-not_found place.stage all.is_open;
        walked = open_rest leaf anchor bounds.depth place.stage after place pages bounds.paths whole [] all.is_open all.walked;
        stops = open_stops leaf anchor bounds place.stage pages after place all.is_open all.stops;
      }

  module _ (queue : List Path) (none : queue ≡ []) where
    pub leaf_arm-stays : (o : Option Report) → answer_to pages (configuration_of leaf) ≡ o → is_leaf_stop o (nat_le bounds.paths 0) ≡ true
        → LeafReaches leaf anchor bounds pages queue (record { stage = Leaf; at = 0; hint = 0; level_end = 0; left = 0 })
    leaf_arm-stays o is stop = record {
      not_found = λ e. cc;
      walked = subst (λ q. Walked pages bounds.paths [] whole whole (from_to [] q)) (sym none) (walked-none pages bounds.paths whole []);
      stops = (none, ap (λ r. is_leaf_stop r (nat_le bounds.paths 0)) is ∙ stop);
    }

    abbrev leaf_rest : Findings → Option Claims → List Step
    leaf_rest found o = option_map_or (λ _. add (alone leaf) ∷ climb_from found anchor bounds.depth bounds.depth (alone leaf ∷ [])) o []

    pub whole_steps : (found : Findings) → whole found ≡ need (configuration_of leaf) ∷ leaf_rest found (found (configuration_of leaf))
    unfolding climb
    whole_steps found = refl

    behind_leaf : (answer : Report) → answer_to pages (configuration_of leaf) ≡ Some answer → Rattle.chain_climb.specs.Sessions.IsPageAnswer answer
        → Walked pages bounds.paths [] whole (λ found. leaf_rest found (Rattle.chain_climb.specs.Sessions.finding_in answer)) (from_to [] [])
    behind_leaf answer is good =
        walked-same pages bounds.paths [] (λ found. need (configuration_of leaf) ∷ leaf_rest found (found (configuration_of leaf))) (λ found. leaf_rest found (Rattle.chain_climb.specs.Sessions.finding_in answer)) whole [] []
        (λ found extends. whole_steps found)
        (walked-to pages bounds.paths [] (λ found. need (configuration_of leaf) ∷ leaf_rest found (found (configuration_of leaf))) (λ found. leaf_rest found (found (configuration_of leaf)))
        (λ found. leaf_rest found (Rattle.chain_climb.specs.Sessions.finding_in answer)) [] []
        (λ found extends. ap (leaf_rest found) (extends.agrees (configuration_of leaf) answer is good))
        (walked-need pages bounds.paths (configuration_of leaf) (λ found. leaf_rest found (found (configuration_of leaf))) [] (answer, is, good)))

    pub leaf_arm-ended : (answer : Report) → answer_to pages (configuration_of leaf) ≡ Some answer → Rattle.chain_climb.specs.Sessions.IsPageAnswer answer → Rattle.chain_climb.specs.Sessions.finding_in answer ≡ None
        → LeafReaches leaf anchor bounds pages queue (record { stage = Ended; at = 0; hint = 0; level_end = 0; left = 0 })
    leaf_arm-ended answer is good nothing = record {
      not_found = λ e. cc;
      walked = subst (λ q. Walked pages bounds.paths [] whole (λ found. []) (from_to [] q)) (sym none)
          (walked-to pages bounds.paths [] whole (λ found. leaf_rest found (Rattle.chain_climb.specs.Sessions.finding_in answer)) (λ found. []) [] [] (λ found extends. ap (leaf_rest found) nothing) (behind_leaf answer is good));
      stops = tt;
    }

    module _ (own : Statement) (origin : Origin) (good : answer_to pages (configuration_of leaf) ≡ Some (Good own origin)) (path : Path) (path_is : path ≡ alone leaf) (pushed : List Path) (pushed_is : pushed ≡ queue ++ path ∷ []) where
      pushed_alone : pushed ≡ alone leaf ∷ []
      pushed_alone = pushed_is ∙ ap (λ q. q ++ path ∷ []) none ∙ ap (λ p. p ∷ []) path_is

      known_leaf : IsKnown pages (alone leaf)
      known_leaf = record { some = omega arith; own = own; origin = origin; good = good }

      pub leaf_arm-known : AllKnown pages pushed
      leaf_arm-known = subst (AllKnown pages) (sym pushed_alone) (λ p among. elim among [ inl same ↦ subst (IsKnown pages) (sym same) known_leaf | inr none ↦ absurd none ])

      rest_is : (found : Findings) → climb_from found anchor bounds.depth bounds.depth (alone leaf ∷ []) ≡ path_rest anchor bounds.depth (alone leaf ∷ []) 0 1 bounds.depth found
      rest_is found = from-onward anchor bounds.depth bounds.depth (alone leaf ∷ []) found

      pub leaf_arm-goes : (bounds.paths ≡ 0 → ⊥) → (after : List Path) (place : Place) → Reaches anchor bounds pages (path_rest anchor bounds.depth pushed 0 1 bounds.depth) (from_to pushed after) place
          → LeafReaches leaf anchor bounds pages after place
      leaf_arm-goes room after place reaches =
          let first : Walked pages bounds.paths [] whole (λ found. add (alone leaf) ∷ climb_from found anchor bounds.depth bounds.depth (alone leaf ∷ [])) (from_to [] []) = behind_leaf (Good own origin) good tt in
          let second : Walked pages bounds.paths [] (λ found. add (alone leaf) ∷ climb_from found anchor bounds.depth bounds.depth (alone leaf ∷ [])) (λ found. climb_from found anchor bounds.depth bounds.depth (alone leaf ∷ [])) (from_to [] (alone leaf ∷ [])) =
          walked-add pages bounds.paths (alone leaf) (λ found. climb_from found anchor bounds.depth bounds.depth (alone leaf ∷ [])) [] (alone leaf ∷ []) refl (omega (arith, room)) known_leaf in
          let both = walked-then pages bounds.paths [] [] whole (λ found. add (alone leaf) ∷ climb_from found anchor bounds.depth bounds.depth (alone leaf ∷ [])) (λ found. climb_from found anchor bounds.depth bounds.depth (alone leaf ∷ [])) [] [] (alone leaf ∷ []) first second in
          let w = walked-to pages bounds.paths [] whole (λ found. climb_from found anchor bounds.depth bounds.depth (alone leaf ∷ [])) (path_rest anchor bounds.depth (alone leaf ∷ []) 0 1 bounds.depth) [] (alone leaf ∷ []) (λ found extends. rest_is found) both in
          leaf_reaches (path_rest anchor bounds.depth (alone leaf ∷ []) 0 1 bounds.depth) (alone leaf ∷ []) after place w
          (subst (λ q. Reaches anchor bounds pages (path_rest anchor bounds.depth q 0 1 bounds.depth) (from_to q after) place) pushed_alone reaches)

-- a copy of what was read
pub read-in : (path item : Path) (slice queue : List Path) (at : ℕ) → at < length queue → path ≡ item → item ≡ get_or slice at item → slice ≡ queue → path ≡ path_in queue at
read-in path item slice queue at less copy read same =
    get_or_read queue at path less (copy ∙ read ∙ ap (λ q. get_or q at item) same ∙ ap (λ d. get_or queue at d) (sym copy)) no_path
