-- What a session wants is what the next step of the search wants.
use Rattle.std.proofs.Common.{◌≡◌, ◌≤◌, ◌<◌, ◌+◌, ℕ, zero, suc, List, [], ◌∷◌, ◌++◌, length, get_or, drop, Bool, true, false, cond, Option, Some, None, refl, sym, ap, ◌∙◌, subst, inl, inr, arith, bytes_eq, nat_le}
use Rattle.std.specs.Option.{option_map_or}
use Rattle.std.proofs.lemmas.Bool.Decides.{nat_tests}
use Rattle.fed_json.proofs.Order.{bytes_eq-itself}
use Rattle.entity_id.specs.Urls.{well_known_of}
use Rattle.entity_statement.specs.Claims.{Claims, Identifier}
use Rattle.chain_climb.specs.declared.path.Path.{Path}
use Rattle.chain_climb.specs.declared.want.End.TheVariants.{Budget}
use Rattle.chain_climb.specs.declared.facing.Facing.{Facing}
use Rattle.chain_climb.specs.declared.facing.Facing.TheVariants.{Passed, Wants as FacingWants, Spent as AllSpent, Adds}
use Rattle.chain_climb.specs.declared.answer.PageAnswer.{PageAnswer}
use Rattle.chain_climb.specs.declared.answer.Report.{Report}
use Rattle.chain_climb.specs.declared.answer.Report.TheVariants.{Good, Useless, Fault, Spent}
use Rattle.chain_climb.specs.declared.want.Want.{Want}
use Rattle.chain_climb.specs.declared.want.Want.TheVariants.{Config, Superior, Done}
use Rattle.chain_climb.specs.declared.answer.Verdict.{Verdict}
use Rattle.chain_climb.specs.declared.place.Stage.{Stage}
use Rattle.chain_climb.specs.declared.place.Stage.TheVariants.{Leaf, Hint, Judge, Found, Ended}
use Rattle.chain_climb.specs.declared.state.State.{State}
use Rattle.chain_climb.specs.Climbs.{Findings, Need, Step, add, added, alone, climb, climb_from, configuration_of, hints_at, judge, last_of, look_at, need, through_hint}
use Rattle.chain_climb.specs.Facings.{face_of}
use Rattle.chain_climb.specs.Sessions.{AreJudged, IsBudget, IsNext, IsPlainEnd, Wants, WantsPage, answer_to, calls_in, findings_of, some_policy}
use Rattle.chain_climb.specs.Walks.{AreHints, Grows, HasPath, IsKnown, IsStanding, StopsAt, StopsAtHint, Walked, end_of, facing_want, from_to, hint_at, hint_rest, hints_from, is_leaf_stop, is_stop, leaf_want, level_from, looks, no_path, onward, path_at, path_rest, rest_at, rest_from, route, search_of, wanted, wanted_at, with_last}
use Rattle.chain_climb.proofs.FacingLaws.{Faces, hint-faces}
use Rattle.chain_climb.proofs.StepLaws.{hints-same, hints_here, known-at, level-walk, level_here, look_steps}
use Rattle.chain_climb.proofs.WalkLaws.{append-nil, extends-self, walked-need, walked-same, walked-then, walked-to, walked-within}

pub get_or-any : {X : Type 0} (xs : List X) (i : ℕ) (d e : X) → i < length xs → get_or xs i d ≡ get_or xs i e
get_or-any [] i d e less = absurd (omega (arith, less))
get_or-any (x ∷ xs) zero d e less = refl
get_or-any (x ∷ xs) (suc i) d e less = get_or-any xs i d e (omega arith)

le_test : (a b : ℕ) → nat_le a b ≡ true → a ≤ b
le_test a b is = grind (arith, nat_tests)

whole_steps : (found : Findings) (leaf anchor : Identifier) (depth : ℕ)
    → climb found leaf anchor depth ≡ need (configuration_of leaf) ∷ option_map_or (λ _. add (alone leaf) ∷ climb_from found anchor depth depth (alone leaf ∷ [])) (found (configuration_of leaf)) []
unfolding climb
whole_steps found leaf anchor depth = refl

module _ (s : State) where
  abbrev whole : Findings → List Step
  whole found = climb found s.leaf s.anchor s.bounds.depth

  abbrev To : List Path → (Findings → List Step) → Type 0
  To judges rest = Walked s.pages s.bounds.paths judges whole rest (from_to [] s.queue)

  -- it is wanted by the next step, and the steps before it add the paths of the queue
  abbrev pub Made : Want → Type 0
  Made want = (next : IsNext (search_of s) want) × (length (added next.taken) ≡ length s.queue)

  next_at : (judges : List Path) (earlier : List Verdict) (want : Want) (rest : Findings → List Step) → To judges rest → AreJudged earlier judges → (left : List Step) → rest (findings_of s.pages) ≡ left
      → ((taken : List Step) → length (added taken) ≡ length s.queue → Wants (search_of s) earlier taken left want) → Made want
  next_at judges earlier want rest w judged left is wants =
      let size : length s.queue ≡ length (added w.taken) = ap length w.adds in
      let room : length s.queue ≤ s.bounds.paths = w.room (omega arith) in
      let next : IsNext (search_of s) want = record {
        taken = w.taken;
        left = left;
        verdicts = earlier;
        stands = record {
          steps = w.is (findings_of s.pages) (extends-self s.pages) ∙ ap (λ l. w.taken ++ l) is;
          answered = w.answered;
          invalid = subst (AreJudged earlier) (sym w.judgement) judged;
          room = omega (arith, size, room);
        };
        wants = wants w.taken (sym size);
      } in
      (next, sym size)

  budget : s.calls ≡ calls_in s.pages → (taken : List Step) → length (added taken) ≡ length s.queue → IsBudget (search_of s) taken (Done (Budget s.calls (length s.queue)))
  budget calls taken size = ap (λ n. Done (Budget n (length s.queue))) calls ∙ ap (λ n. Done (Budget (calls_in s.pages) n)) (sym size)

  module _ (judges : List Path) (earlier : List Verdict) (judged : AreJudged earlier judges) (verdicts : s.verdicts ≡ earlier) (calls : s.calls ≡ calls_in s.pages) where
    -- a page is needed that wasn't answered, or was to be had no more
    at_need : (page : Need) (rest : Findings → List Step) (want : Want) → To judges (λ found. need page ∷ rest found)
        → ((taken : List Step) → length (added taken) ≡ length s.queue → WantsPage (search_of s) taken page (answer_to s.pages page) want) → Made want
    at_need page rest want w wants =
        next_at judges earlier want (λ found. need page ∷ rest found) w judged (need page ∷ rest (findings_of s.pages)) refl (λ taken size. (verdicts, wants taken size))

    at_add : (path : Path) (rest : Findings → List Step) → To judges (λ found. add path ∷ rest found) → s.bounds.paths ≤ length s.queue → Made (Done (Budget s.calls (length s.queue)))
    at_add path rest w full =
        let room : length s.queue ≤ s.bounds.paths = w.room (omega arith) in
        next_at judges earlier (Done (Budget s.calls (length s.queue))) (λ found. add path ∷ rest found) w judged (add path ∷ rest (findings_of s.pages)) refl
        (λ taken size. (verdicts, omega (arith, size, room, full), budget calls taken size))

    -- ---- the leaf's configuration

    abbrev leaf_rest : Findings → Option Claims → List Step
    leaf_rest found o = option_map_or (λ _. add (alone s.leaf) ∷ climb_from found s.anchor s.bounds.depth s.bounds.depth (alone s.leaf ∷ [])) o []

    leaf_need : To judges whole → To judges (λ found. need (configuration_of s.leaf) ∷ leaf_rest found (found (configuration_of s.leaf)))
    leaf_need w =
        walked-to s.pages s.bounds.paths judges whole whole (λ found. need (configuration_of s.leaf) ∷ leaf_rest found (found (configuration_of s.leaf))) [] s.queue
        (λ found extends. whole_steps found s.leaf s.anchor s.bounds.depth) w

    next_leaf : (o : Option Report) → answer_to s.pages (configuration_of s.leaf) ≡ o → is_leaf_stop o (nat_le s.bounds.paths 0) ≡ true → To judges whole → Made (leaf_want s o)
    next_leaf None is stop w =
        at_need (configuration_of s.leaf) (λ found. leaf_rest found (found (configuration_of s.leaf))) (Config s.leaf (well_known_of s.leaf)) (leaf_need w)
        (λ taken size. subst (λ r. WantsPage (search_of s) taken (configuration_of s.leaf) r (Config s.leaf (well_known_of s.leaf))) (sym is)
        (sym (ap (λ b. cond b (Config s.leaf (well_known_of s.leaf)) (Superior s.leaf s.leaf (well_known_of s.leaf))) (bytes_eq-itself s.leaf))))
    next_leaf (Some Spent) is stop w =
        at_need (configuration_of s.leaf) (λ found. leaf_rest found (found (configuration_of s.leaf))) (Done (Budget s.calls (length s.queue))) (leaf_need w)
        (λ taken size. subst (λ r. WantsPage (search_of s) taken (configuration_of s.leaf) r (Done (Budget s.calls (length s.queue)))) (sym is) (budget calls taken size))
    next_leaf (Some (Good own origin)) is stop w =
        let none : s.bounds.paths ≤ 0 = le_test s.bounds.paths 0 stop in
        let passed : Walked s.pages s.bounds.paths [] (λ found. need (configuration_of s.leaf) ∷ leaf_rest found (found (configuration_of s.leaf))) (λ found. add (alone s.leaf) ∷ climb_from found s.anchor s.bounds.depth s.bounds.depth (alone s.leaf ∷ [])) (from_to s.queue s.queue) =
        walked-to s.pages s.bounds.paths [] (λ found. need (configuration_of s.leaf) ∷ leaf_rest found (found (configuration_of s.leaf))) (λ found. leaf_rest found (found (configuration_of s.leaf)))
        (λ found. add (alone s.leaf) ∷ climb_from found s.anchor s.bounds.depth s.bounds.depth (alone s.leaf ∷ [])) s.queue s.queue
        (λ found extends. ap (leaf_rest found) (extends.agrees (configuration_of s.leaf) (Good own origin) is tt))
        (walked-need s.pages s.bounds.paths (configuration_of s.leaf) (λ found. leaf_rest found (found (configuration_of s.leaf))) s.queue (Good own origin, is, tt)) in
        let all : Walked s.pages s.bounds.paths (judges ++ []) whole (λ found. add (alone s.leaf) ∷ climb_from found s.anchor s.bounds.depth s.bounds.depth (alone s.leaf ∷ [])) (from_to [] s.queue) =
        walked-then s.pages s.bounds.paths judges [] whole (λ found. need (configuration_of s.leaf) ∷ leaf_rest found (found (configuration_of s.leaf)))
        (λ found. add (alone s.leaf) ∷ climb_from found s.anchor s.bounds.depth s.bounds.depth (alone s.leaf ∷ [])) [] s.queue s.queue (leaf_need w) passed in
        at_add (alone s.leaf) (λ found. climb_from found s.anchor s.bounds.depth s.bounds.depth (alone s.leaf ∷ []))
        (subst (λ j. To j (λ found. add (alone s.leaf) ∷ climb_from found s.anchor s.bounds.depth s.bounds.depth (alone s.leaf ∷ []))) (append-nil judges) all) (omega (arith, none))
    next_leaf (Some (Useless origin)) is stop w = cc stop
    next_leaf (Some Fault) is stop w = cc stop

    -- ---- a hint

    module _ (path : Path) (has : HasPath s.queue s.place) (hints : List Identifier) (are : AreHints s.pages path hints) (within : s.place.hint < length hints)
        (w : To judges (hint_rest s.anchor s.bounds.depth s.queue path s.place.hint s.place.at s.place.level_end s.place.left)) where
      abbrev hint : Identifier
      hint = get_or hints s.place.hint []

      abbrev through : Findings → List Step
      through found = through_hint found path hint

      abbrev others : (Findings → List Step) → Findings → List Step
      others B = rest_from s.anchor s.bounds.depth s.queue (λ found. (B found ++ hints_from path (s.place.hint + 1) found) ++ looks s.anchor s.bounds.depth (level_from s.queue (s.place.at + 1) s.place.level_end) found) s.place.level_end s.place.left

      moved : (B : Findings → List Step) → Walked s.pages s.bounds.paths [] through B (from_to s.queue s.queue) → To judges (others B)
      moved B walk =
          let part : Walked s.pages s.bounds.paths [] (hints_from path s.place.hint) (λ found. B found ++ hints_from path (s.place.hint + 1) found) (from_to s.queue s.queue) =
          walked-same s.pages s.bounds.paths [] (λ found. through found ++ hints_from path (s.place.hint + 1) found) (λ found. B found ++ hints_from path (s.place.hint + 1) found) (hints_from path s.place.hint) s.queue s.queue
          (hints_here s.pages path hints are s.place.hint hint within (get_or-any hints s.place.hint [] hint within))
          (walked-within s.pages s.bounds.paths [] through B (hints_from path (s.place.hint + 1)) s.queue s.queue walk) in
          let level : Walked s.pages s.bounds.paths [] (hint_rest s.anchor s.bounds.depth s.queue path s.place.hint s.place.at s.place.level_end s.place.left) (others B) (from_to s.queue s.queue) =
          level-walk s.anchor s.bounds.depth s.pages s.bounds.paths (hints_from path s.place.hint) (λ found. B found ++ hints_from path (s.place.hint + 1) found) s.queue s.queue (s.place.at + 1) s.place.level_end s.place.left has.1
          ([], sym (append-nil s.queue)) part in
          subst (λ j. To j (others B)) (append-nil judges)
          (walked-then s.pages s.bounds.paths judges [] whole (hint_rest s.anchor s.bounds.depth s.queue path s.place.hint s.place.at s.place.level_end s.place.left) (others B) [] s.queue s.queue w level)

      abbrev behind : (Findings → List Step) → Findings → List Step
      behind B found = ((B found ++ hints_from path (s.place.hint + 1) found) ++ looks s.anchor s.bounds.depth (level_from s.queue (s.place.at + 1) s.place.level_end) found)

      abbrev more : Step → (Findings → List Step) → Findings → List Step
      more step B found =
          behind B found ++ Rattle.chain_climb.specs.Walks.below found s.anchor s.bounds.depth s.place.left (drop s.place.level_end s.queue ++ added (step ∷ behind B found))

      by_facing : (facing : Facing) → Faces s.pages s.bounds.paths path are.known hint through facing → is_stop facing (nat_le s.bounds.paths (length s.queue)) ≡ true → Made (facing_want s facing)
      by_facing Passed faces stop = cc stop
      by_facing (FacingWants want) faces stop =
          at_need faces.0 (more (need faces.0) (faces.3).rest) want (moved (λ found. need faces.0 ∷ (faces.3).rest found) ((faces.3).walked s.queue))
          (λ taken size. subst (λ r. WantsPage (search_of s) taken faces.0 r want) (sym faces.2) faces.1)
      by_facing AllSpent faces stop =
          at_need faces.0 (more (need faces.0) (faces.2).rest) (Done (Budget s.calls (length s.queue))) (moved (λ found. need faces.0 ∷ (faces.2).rest found) ((faces.2).walked s.queue))
          (λ taken size. subst (λ r. WantsPage (search_of s) taken faces.0 r (Done (Budget s.calls (length s.queue)))) (sym faces.1) (budget calls taken size))
      by_facing (Adds url) faces stop =
          let new : Path = Rattle.chain_climb.specs.Climbs.longer path (Rattle.chain_climb.specs.Climbs.page_named hint hint url) in
          at_add new (more (add new) (λ found. [])) (moved (λ found. add new ∷ []) (faces.1 s.queue)) (le_test s.bounds.paths (length s.queue) stop)

      pub next_hint : is_stop (face_of s.pages path hint) (nat_le s.bounds.paths (length s.queue)) ≡ true → Made (facing_want s (face_of s.pages path hint))
      next_hint stop = by_facing (face_of s.pages path hint) (hint-faces s.pages s.bounds.paths path are.known hint) stop

  -- ---- a path at the anchor

  abbrev judge_rest : Path → Findings → List Step
  judge_rest path found =
      looks s.anchor s.bounds.depth (level_from s.queue (s.place.at + 1) s.place.level_end) found
      ++ Rattle.chain_climb.specs.Walks.below found s.anchor s.bounds.depth s.place.left
      (drop s.place.level_end s.queue ++ added (judge path ∷ looks s.anchor s.bounds.depth (level_from s.queue (s.place.at + 1) s.place.level_end) found))

  module _ (has : HasPath s.queue s.place) (ends : bytes_eq (last_of (path_at s.queue s.place)) s.anchor ≡ true) where
    abbrev path : Path
    path = path_at s.queue s.place

    pub judge_steps : (found : Findings) → path_rest s.anchor s.bounds.depth s.queue s.place.at s.place.level_end s.place.left found ≡ judge path ∷ judge_rest path found
    judge_steps found =
        ap (λ ps. onward found s.anchor s.bounds.depth (looks s.anchor s.bounds.depth ps found) (drop s.place.level_end s.queue) s.place.left)
        (level_here s.anchor s.bounds.depth s.queue s.place.at s.place.level_end path has.0 has.1 (get_or-any s.queue s.place.at no_path path (omega (arith, has.0, has.1))))
        ∙ ap (λ l. onward found s.anchor s.bounds.depth (l ++ looks s.anchor s.bounds.depth (level_from s.queue (s.place.at + 1) s.place.level_end) found) (drop s.place.level_end s.queue) s.place.left)
        (look_steps s.pages s.bounds s.anchor path true (nat_le (length path.entities) s.bounds.depth) ends refl found)

    pub at_judge : (judges : List Path) (earlier : List Verdict) → AreJudged earlier judges → To judges (path_rest s.anchor s.bounds.depth s.queue s.place.at s.place.level_end s.place.left) → (want : Want)
        → ((taken : List Step) → Wants (search_of s) earlier taken (judge path ∷ judge_rest path (findings_of s.pages)) want) → Made want
    at_judge judges earlier judged w want wants =
        next_at judges earlier want (path_rest s.anchor s.bounds.depth s.queue s.place.at s.place.level_end s.place.left) w judged (judge path ∷ judge_rest path (findings_of s.pages)) (judge_steps (findings_of s.pages))
        (λ taken size. wants taken)

  -- ---- the end

  plain_end : (queue : List Path) (taken : List Step) (o : Option Claims) → findings_of s.pages (configuration_of s.leaf) ≡ o
      → need (configuration_of s.leaf) ∷ option_map_or (λ _. add (alone s.leaf) ∷ climb_from (findings_of s.pages) s.anchor s.bounds.depth s.bounds.depth (alone s.leaf ∷ [])) o [] ≡ taken ++ []
      → queue ≡ added taken → (policy : Bool) → some_policy s.verdicts ≡ policy → IsPlainEnd (search_of s) (end_of queue policy)
  plain_end [] taken None is steps adds policy some = is
  plain_end [] taken (Some own) is steps adds policy some =
      absurd (let e : alone s.leaf ∷ added (climb_from (findings_of s.pages) s.anchor s.bounds.depth s.bounds.depth (alone s.leaf ∷ [])) ≡ added taken = ap added (steps ∙ append-nil taken) in
      let f : alone s.leaf ∷ added (climb_from (findings_of s.pages) s.anchor s.bounds.depth s.bounds.depth (alone s.leaf ∷ [])) ≡ [] = e ∙ sym adds in cc f)
  plain_end (p ∷ ps) taken None is steps adds policy some =
      absurd (let e : [] ≡ added taken = ap added (steps ∙ append-nil taken) in let f : [] ≡ p ∷ ps = e ∙ sym adds in cc f)
  plain_end (p ∷ ps) taken (Some own) is steps adds true some = (λ none. (let f : Some own ≡ None = sym is ∙ none in cc f), some)
  plain_end (p ∷ ps) taken (Some own) is steps adds false some = (λ none. (let f : Some own ≡ None = sym is ∙ none in cc f), some)

  at_end : (judges : List Path) (earlier : List Verdict) → AreJudged earlier judges → s.verdicts ≡ earlier → To judges (λ found. []) → Made (Done (end_of s.queue (some_policy s.verdicts)))
  at_end judges earlier judged verdicts w =
      let end : IsPlainEnd (search_of s) (end_of s.queue (some_policy s.verdicts)) =
      plain_end s.queue w.taken (findings_of s.pages (configuration_of s.leaf)) refl
      (sym (whole_steps (findings_of s.pages) s.leaf s.anchor s.bounds.depth) ∙ w.is (findings_of s.pages) (extends-self s.pages)) w.adds (some_policy s.verdicts) refl in
      next_at judges earlier (Done (end_of s.queue (some_policy s.verdicts))) (λ found. []) w judged [] refl (λ taken size. (verdicts, (end_of s.queue (some_policy s.verdicts), refl, end)))

  -- ---- all stages

  pub hint-at : (hints : List Identifier) → AreHints s.pages (path_at s.queue s.place) hints → hint_at s ≡ get_or hints s.place.hint []
  hint-at hints are = ap (λ hs. get_or hs s.place.hint []) (hints-same s.pages (path_at s.queue s.place) hints are (findings_of s.pages) (extends-self s.pages))

  by_stage : (stage : Stage) (judges : List Path) (earlier : List Verdict) → AreJudged earlier judges → s.verdicts ≡ with_last stage earlier (path_at s.queue s.place) → s.calls ≡ calls_in s.pages
      → To judges (rest_at stage s.leaf s.anchor s.bounds.depth s.queue s.place) → StopsAt stage (route s.leaf s.anchor) s.bounds s.pages s.queue s.place → Made (wanted_at stage s)
  by_stage Leaf judges earlier judged verdicts calls w stops = next_leaf judges earlier judged verdicts calls (answer_to s.pages (configuration_of s.leaf)) refl stops.1 w
  by_stage Hint judges earlier judged verdicts calls w stops =
      let at : StopsAtHint s.pages s.bounds.paths s.queue (path_at s.queue s.place) s.place.hint = stops.1 in
      subst (λ h. Made (facing_want s (face_of s.pages (path_at s.queue s.place) h))) (sym (hint-at at.hints at.are))
      (next_hint judges earlier judged verdicts calls (path_at s.queue s.place) stops.0 at.hints at.are at.within w at.stops)
  by_stage Judge judges earlier judged verdicts calls w stops =
      at_judge stops.0 stops.1 judges earlier judged w (wanted_at Judge s) (λ taken. inl (verdicts, refl))
  by_stage Found judges earlier judged verdicts calls w stops =
      at_judge stops.0 stops.1 judges earlier judged w (wanted_at Found s) (λ taken. inr (verdicts, refl))
  by_stage Ended judges earlier judged verdicts calls w stops = at_end judges earlier judged verdicts w

  pub standing-made : IsStanding s → Made (wanted_at s.place.stage s)
  standing-made st = by_stage s.place.stage st.judges st.earlier st.judged st.verdicts st.calls (st.place.is_at).walked st.place.stops

  pub standing-next : IsStanding s → IsNext (search_of s) (wanted_at s.place.stage s)
  standing-next st = (standing-made st).0

  pub wanted-is : (stage : Stage) → s.place.stage ≡ stage → wanted s ≡ wanted_at stage s
  unfolding wanted
  wanted-is stage is = ap (λ g. wanted_at g s) is

  pub want-arm : (stage : Stage) → s.place.stage ≡ stage → (want : Want) → want ≡ wanted_at stage s → want ≡ wanted s
  want-arm stage is want same = same ∙ sym (wanted-is stage is)

  pub next-arm : IsStanding s → (stage : Stage) → s.place.stage ≡ stage → (want : Want) → want ≡ wanted_at stage s → IsNext (search_of s) want
  next-arm st stage is want same = subst (IsNext (search_of s)) (ap (λ g. wanted_at g s) is ∙ sym same) (standing-next st)

  pub standing-known : IsStanding s → (path : Path) → Rattle.chain_climb.specs.Elements.Among path s.queue → IsKnown s.pages path
  standing-known st path among = ((st.place.is_at).walked).known (λ p none. absurd none) path among

  pub path-known : IsStanding s → HasPath s.queue s.place → IsKnown s.pages (path_at s.queue s.place)
  path-known st has =
      known-at s.pages s.queue s.place.at (path_at s.queue s.place) (standing-known st) (omega (arith, has.0, has.1)) (get_or-any s.queue s.place.at no_path (path_at s.queue s.place) (omega (arith, has.0, has.1)))

-- the path that was read is the one at hand
pub read-at_hand : (item : Path) (slice queue : List Path) (at : ℕ) → item ≡ get_or slice at item → slice ≡ queue → at < length queue → item ≡ get_or queue at no_path
read-at_hand item slice queue at read same less =
    let is : item ≡ get_or queue at item = read ∙ ap (λ q. get_or q at item) same in
    is ∙ get_or-any queue at item no_path less

module _ (s : State) (st : IsStanding s) (stage : s.place.stage ≡ Hint) where
  hint_stops : StopsAt Hint (route s.leaf s.anchor) s.bounds s.pages s.queue s.place
  hint_stops = subst (λ g. StopsAt g (route s.leaf s.anchor) s.bounds s.pages s.queue s.place) stage st.place.stops

  pub hint-has : HasPath s.queue s.place
  hint-has = hint_stops.0

  module _ (item : Path) (slice : List Path) (read : item ≡ get_or slice s.place.at item) (same : slice ≡ s.queue) where
    pub item-is : item ≡ path_at s.queue s.place
    item-is = read-at_hand item slice s.queue s.place.at read same (omega (arith, hint_stops.0.0, hint_stops.0.1))

    pub item-known : (pages : List PageAnswer) → pages ≡ s.pages → IsKnown pages item
    item-known pages is = subst (λ ps. IsKnown ps item) (sym is) (subst (IsKnown s.pages) (sym item-is) (path-known s st hint_stops.0))

    module _ (pages : List PageAnswer) (pages_are : pages ≡ s.pages) (hints : List Identifier) (are : AreHints pages item hints) where
      are_here : AreHints s.pages (path_at s.queue s.place) hints
      are_here = subst (λ p. AreHints s.pages p hints) item-is (subst (λ ps. AreHints ps item hints) pages_are are)

      pub hint-within : s.place.hint < length hints
      hint-within =
          let at : StopsAtHint s.pages s.bounds.paths s.queue (path_at s.queue s.place) s.place.hint = hint_stops.1 in
          let e : at.hints ≡ hints = sym (hints-same s.pages (path_at s.queue s.place) at.hints at.are (findings_of s.pages) (extends-self s.pages))
          ∙ hints-same s.pages (path_at s.queue s.place) hints are_here (findings_of s.pages) (extends-self s.pages) in
          subst (λ hs. s.place.hint < length hs) e at.within

      pub facing-is : (now : List PageAnswer) → now ≡ s.pages → (hint : Identifier) → hint ≡ get_or hints s.place.hint hint → (facing : Facing) → facing ≡ face_of now item hint
          → facing ≡ face_of s.pages (path_at s.queue s.place) (hint_at s)
      facing-is now now_is hint is facing faces =
          let e : hint ≡ hint_at s = is ∙ get_or-any hints s.place.hint hint [] hint-within ∙ sym (hint-at s hints are_here) in
          faces ∙ ap (λ ps. face_of ps item hint) now_is ∙ ap (λ p. face_of s.pages p hint) item-is ∙ ap (face_of s.pages (path_at s.queue s.place)) e
