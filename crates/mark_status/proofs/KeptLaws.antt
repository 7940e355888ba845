-- Which marks are kept, and which are left out.
use Rattle.std.proofs.Common.{◌≡◌, ◌≤◌, ◌⊎◌, inl, inr, ℕ, List, [], ◌∷◌, map, length, Bool, true, false, cond, Option, Some, None, refl, sym, ap, ◌∙◌, subst, arith, true≢false, length-append}
use Rattle.std.specs.Prelude.{All, Contains, Result, Ok, Err, IfOk, filter, is_none, zip, sum_by}
use Rattle.std.specs.List.{AllZip, flat_map}
use Rattle.std.proofs.lemmas.List.Elements.{All-cons, All-nil, All-weaker, Contains-append_left, Contains-append_right, Contains-push}
use Rattle.std.proofs.lemmas.List.Sums.{sum_by-append, sum_by-cons}
use Rattle.std.proofs.lemmas.Slice.Zip.{firsts-zip}
use Rattle.fed_base.specs.declared.faults.Memory.{Memory as NoMemory}
use Rattle.fed_base.specs.Counts.{counted}
use Rattle.entity_statement.specs.declared.marks.MarkEntry.{MarkEntry}
use Rattle.fed_ports.specs.declared.page.Page.{Page}
use Rattle.fed_ports.specs.declared.page.Page.TheVariants.{Document, Refusal, Garbled, TooLong, NoRoute}
use Rattle.trust_mark.specs.declared.status.MarkStatus.{MarkStatus}
use Rattle.trust_mark.specs.declared.status.MarkStatus.TheVariants as status
use Rattle.mark_status.specs.declared.heeded.Heeded.{Heeded}
use Rattle.mark_status.specs.declared.post.Post.{Post}
use Rattle.mark_status.specs.declared.tell.Tell.{Tell}
use Rattle.mark_status.specs.declared.tell.Tell.TheVariants.{Active, Unasked}
use Rattle.mark_status.specs.Answers.{Asking, asking_of, form_of, told_by}
use Rattle.mark_status.specs.Heeding.{Around, Heeding, Heeds, HeedsBy, IsActive, IsKept, IsKeptOrTold, asked_in, faults_in, heeding_of}
use Rattle.mark_status.specs.Posts.{CountsFaults, Views, failures, post_of}
use Rattle.mark_status.specs.Tells.{IsTold, Marked, TellsAt, Told, is_asked, is_fault, keeps, tell_of, tell_of_status}
use Rattle.mark_status.proofs.AnswerLaws.{told-exactly}
use Rattle.mark_status.proofs.TellLaws.{failures-told, few-posts, few-tests, posts-asked}

contains_first : {X : Type 0} (x : X) (xs : List X) → Contains (x ∷ xs) x
contains_first x xs = Contains-append_left (x ∷ []) xs x (Contains-push [] x)

contains_later : {X : Type 0} (x : X) (xs : List X) (y : X) → Contains xs y → Contains (x ∷ xs) y
contains_later x xs y has = Contains-append_right (x ∷ []) xs y has

-- ---- an active mark

-- the page is a text that tells that the mark is active
record IsActivePage (here : Asking) (page : Option Page) : Type 0 where
  text : List ℕ
  document : page ≡ Some (Document text)
  active : told_by here text ≡ Some status.Active

active_status : (o : Option MarkStatus) → keeps (tell_of_status o) ≡ true → o ≡ Some status.Active
active_status None bad = absurd (true≢false (sym bad))
active_status (Some status.Active) keep = refl
active_status (Some status.Expired) bad = absurd (true≢false (sym bad))
active_status (Some status.Revoked) bad = absurd (true≢false (sym bad))
active_status (Some status.Invalid) bad = absurd (true≢false (sym bad))

active_page : (here : Asking) (page : Option Page) → keeps (tell_of here page) ≡ true → IsActivePage here page
active_page here None bad = absurd (true≢false (sym bad))
active_page here (Some (Document text)) keep = record { text = text; document = refl; active = active_status (told_by here text) keep }
active_page here (Some (Refusal n)) bad = absurd (true≢false (sym bad))
active_page here (Some Garbled) bad = absurd (true≢false (sym bad))
active_page here (Some TooLong) bad = absurd (true≢false (sym bad))
active_page here (Some NoRoute) bad = absurd (true≢false (sym bad))

stands : (here : Asking) (w : Told) (o : Option (List ℕ)) (posts : List Post) → here.endpoint ≡ o → TellsAt here o w → keeps w.tell ≡ true → ((p : Post) → Contains w.posts p → Contains posts p)
    → (here.endpoint ≡ None) ⊎ IsActive here posts
stands here w None posts is tells keep among = inl is
stands here w (Some url) posts is tells keep among =
    let active = active_page here tells.0 (sym (ap keeps tells.2) ∙ keep) in
    let post = post_of url (form_of here.mark) (Some (Document active.text)) in
    let own : w.posts ≡ post ∷ [] = tells.1 ∙ ap (λ page. post_of url (form_of here.mark) page ∷ []) active.document in
    inr (record {
      url = url;
      named = is;
      text = active.text;
      posted = among post (subst (λ (ps : List Post). Contains ps post) (sym own) (contains_first post []));
      answered = (told-exactly here active.text status.Active).0 active.active;
    })

-- ---- those that are kept

abbrev kept_in : List Told → List MarkEntry
kept_in told = map (λ (w : Told). w.entry) (filter (λ (w : Told). keeps w.tell) told)

module _ (here : Heeding) (posts : List Post) where
  kept-one : (m : Marked) (w : Told) → IsTold here.moment m w → keeps w.tell ≡ true → Contains here.marked m → ((p : Post) → Contains w.posts p → Contains posts p) → IsKept here posts w.entry
  kept-one m w is keep returned among = record {
    config = m.1;
    returned = subst (λ (e : MarkEntry). Contains here.marked (e, m.1)) (sym is.entry) returned;
    asks = is.here;
    reads = ap (λ (e : MarkEntry). asking_of e m.1 here.moment) is.entry ∙ is.asks;
    stands = stands is.here w is.here.endpoint posts refl is.tells keep among;
  }

  kept-cons : (w : Told) (ws : List Told) (b : Bool) → keeps w.tell ≡ b → (keeps w.tell ≡ true → IsKept here posts w.entry) → All (IsKept here posts) (kept_in ws)
      → All (IsKept here posts) (map (λ (x : Told). x.entry) (cond b (w ∷ filter (λ (x : Told). keeps x.tell) ws) (filter (λ (x : Told). keeps x.tell) ws)))
  kept-cons w ws true keep one later = All-cons (IsKept here posts) w.entry (kept_in ws) (one keep) later
  kept-cons w ws false keep one later = later

  kept-each : (pairs : List Marked) (told : List Told) → AllZip (IsTold here.moment) pairs told → ((m : Marked) → Contains pairs m → Contains here.marked m)
      → ((p : Post) → Contains (flat_map (λ (w : Told). w.posts) told) p → Contains posts p) → All (IsKept here posts) (kept_in told)
  kept-each [] [] each returned among = All-nil (IsKept here posts)
  kept-each [] (w ∷ ws) each returned among = absurd each
  kept-each (m ∷ ms) [] each returned among = absurd each
  kept-each (m ∷ ms) (w ∷ ws) each returned among =
      let later = kept-each ms ws each.1 (λ x has. returned x (contains_later m ms x has)) (λ p has. among p (Contains-append_right w.posts (flat_map (λ (x : Told). x.posts) ws) p has)) in
      kept-cons w ws (keeps w.tell) refl
      (λ keep. kept-one m w each.0 keep (returned m (contains_first m ms)) (λ p has. among p (Contains-append_left w.posts (flat_map (λ (x : Told). x.posts) ws) p has))) later

pub all-kept : (here : Heeding) (posts : List Post) (tests : ℕ) (heeded : Heeded) → Heeds here posts tests heeded → All (IsKept here posts) heeded.kept
all-kept here posts tests heeded heeds =
    subst (All (IsKept here posts)) (sym heeds.kept_are)
    (kept-each here posts here.marked heeds.told heeds.each (λ m has. has) (λ p has. subst (λ (ps : List Post). Contains ps p) (sym heeds.posts_are) has))

-- ---- those that are left out

abbrev left_or_kept : List MarkEntry → List MarkEntry → List Tell → MarkEntry → Type 0
left_or_kept marks kept tells entry = Contains kept entry ⊎ ((tell : Tell) × Contains (zip marks tells) (entry, tell) × (¬ (tell ≡ Active)) × (¬ (tell ≡ Unasked)))

later_entry : (m : MarkEntry) (ms kept more : List MarkEntry) (tell : Tell) (tells : List Tell) (entry : MarkEntry) → ((e : MarkEntry) → Contains kept e → Contains more e)
    → left_or_kept ms kept tells entry → left_or_kept (m ∷ ms) more (tell ∷ tells) entry
later_entry m ms kept more tell tells entry grows (inl has) = inl (grows entry has)
later_entry m ms kept more tell tells entry grows (inr (t, has, active, unasked)) = inr (t, contains_later (m, tell) (zip ms tells) (entry, t) has, active, unasked)

abbrev entries_of : List Marked → List MarkEntry
entries_of marked = map (λ (m : Marked). m.0) marked

abbrev tells_in : List Told → List Tell
tells_in told = map (λ (w : Told). w.tell) told

left-cons : (m : MarkEntry) (ms : List MarkEntry) (w : Told) (ws : List Told) (b : Bool) → keeps w.tell ≡ b → w.entry ≡ m → All (left_or_kept ms (kept_in ws) (tells_in ws)) ms
    → All (left_or_kept (m ∷ ms) (map (λ (x : Told). x.entry) (cond b (w ∷ filter (λ (x : Told). keeps x.tell) ws) (filter (λ (x : Told). keeps x.tell) ws))) (w.tell ∷ tells_in ws)) (m ∷ ms)
left-cons m ms w ws true keep same later =
    All-cons (left_or_kept (m ∷ ms) (w.entry ∷ kept_in ws) (w.tell ∷ tells_in ws)) m ms
    (inl (subst (Contains (w.entry ∷ kept_in ws)) same (contains_first w.entry (kept_in ws))))
    (All-weaker (left_or_kept ms (kept_in ws) (tells_in ws)) (left_or_kept (m ∷ ms) (w.entry ∷ kept_in ws) (w.tell ∷ tells_in ws))
    (λ e is. later_entry m ms (kept_in ws) (w.entry ∷ kept_in ws) w.tell (tells_in ws) e (λ x has. contains_later w.entry (kept_in ws) x has) is) ms later)
left-cons m ms w ws false keep same later =
    All-cons (left_or_kept (m ∷ ms) (kept_in ws) (w.tell ∷ tells_in ws)) m ms
    (inr (w.tell, contains_first (m, w.tell) (zip ms (tells_in ws)), λ is. true≢false (sym (ap keeps is) ∙ keep), λ is. true≢false (sym (ap keeps is) ∙ keep)))
    (All-weaker (left_or_kept ms (kept_in ws) (tells_in ws)) (left_or_kept (m ∷ ms) (kept_in ws) (w.tell ∷ tells_in ws))
    (λ e is. later_entry m ms (kept_in ws) (kept_in ws) w.tell (tells_in ws) e (λ x has. has) is) ms later)

left-each : (t : ℕ) (pairs : List Marked) (told : List Told) → AllZip (IsTold t) pairs told
    → All (left_or_kept (entries_of pairs) (kept_in told) (tells_in told)) (entries_of pairs)
left-each t [] [] each = All-nil _
left-each t [] (w ∷ ws) each = absurd each
left-each t (m ∷ ms) [] each = absurd each
left-each t (m ∷ ms) (w ∷ ws) each = left-cons m.0 (entries_of ms) w ws (keeps w.tell) refl each.0.entry (left-each t ms ws each.1)

pub all-left : (marks : List MarkEntry) (configs : List (List ℕ)) (t : ℕ) (posts : List Post) (tests : ℕ) (heeded : Heeded) → length marks ≡ length configs
    → Heeds (heeding_of marks configs t) posts tests heeded → All (IsKeptOrTold marks heeded) marks
all-left marks configs t posts tests heeded long heeds =
    let firsts = firsts-zip marks configs (sym long) in
    let all = left-each t (zip marks configs) heeds.told heeds.each in
    let by_marks = subst (λ (ms : List MarkEntry). All (left_or_kept ms (kept_in heeds.told) (map (λ (w : Told). w.tell) heeds.told)) ms) firsts all in
    let by_kept = subst (λ (ks : List MarkEntry). All (left_or_kept marks ks (map (λ (w : Told). w.tell) heeds.told)) marks) (sym heeds.kept_are) by_marks in
    subst (λ (ts : List Tell). All (left_or_kept marks heeded.kept ts) marks) (sym heeds.tells_are) by_kept

-- ---- counts

-- what is counted of the posts is counted of the tells
posts-told : (t : ℕ) (pairs : List Marked) (told : List Told) → AllZip (IsTold t) pairs told → length (flat_map (λ (w : Told). w.posts) told) ≡ asked_in (map (λ (w : Told). w.tell) told)
posts-told t [] [] each = refl
posts-told t [] (w ∷ ws) each = absurd each
posts-told t (m ∷ ms) [] each = absurd each
posts-told t (m ∷ ms) (w ∷ ws) each =
    let long = length-append w.posts (flat_map (λ (x : Told). x.posts) ws) in
    let own = posts-asked each.0.here w each.0.here.endpoint each.0.tells in
    let others = posts-told t ms ws each.1 in
    let all = sum_by-cons (λ tell. cond (is_asked tell) 1 0) w.tell (map (λ (x : Told). x.tell) ws) in
    omega (arith, long, own, others, all)

faults-told : (t : ℕ) (pairs : List Marked) (told : List Told) → AllZip (IsTold t) pairs told → failures (flat_map (λ (w : Told). w.posts) told) ≡ faults_in (map (λ (w : Told). w.tell) told)
faults-told t [] [] each = refl
faults-told t [] (w ∷ ws) each = absurd each
faults-told t (m ∷ ms) [] each = absurd each
faults-told t (m ∷ ms) (w ∷ ws) each =
    let long = sum_by-append (λ (p : Post). cond (is_none p.page) 1 0) w.posts (flat_map (λ (x : Told). x.posts) ws) in
    let own = failures-told each.0.here w each.0.here.endpoint each.0.tells in
    let others = faults-told t ms ws each.1 in
    let all = sum_by-cons (λ tell. cond (is_fault tell) 1 0) w.tell (map (λ (x : Told). x.tell) ws) in
    omega (arith, long, own, others, all)

pub heeded-asked : (here : Heeding) (posts : List Post) (tests : ℕ) (heeded : Heeded) → Heeds here posts tests heeded → length posts ≡ asked_in heeded.tells
heeded-asked here posts tests heeded heeds =
    ap length heeds.posts_are ∙ posts-told here.moment here.marked heeds.told heeds.each ∙ ap asked_in (sym heeds.tells_are)

pub heeded-faults : (here : Heeding) (posts : List Post) (tests : ℕ) (heeded : Heeded) → Heeds here posts tests heeded → failures posts ≡ faults_in heeded.tells
heeded-faults here posts tests heeded heeds =
    ap failures heeds.posts_are ∙ faults-told here.moment here.marked heeds.told heeds.each ∙ ap faults_in (sym heeds.tells_are)

-- at most one post and one test for each mark
few-told : (t : ℕ) (pairs : List Marked) (told : List Told) → AllZip (IsTold t) pairs told
    → (length (flat_map (λ (w : Told). w.posts) told) ≤ length pairs) × (sum_by (λ (w : Told). w.tests) told ≤ length pairs)
few-told t [] [] each = (omega arith, omega arith)
few-told t [] (w ∷ ws) each = absurd each
few-told t (m ∷ ms) [] each = absurd each
few-told t (m ∷ ms) (w ∷ ws) each =
    let long = length-append w.posts (flat_map (λ (x : Told). x.posts) ws) in
    let posts = few-posts each.0.here w each.0.here.endpoint each.0.tells in
    let all = sum_by-cons (λ (x : Told). x.tests) w ws in
    let tests = few-tests each.0.here w each.0.here.endpoint each.0.tells in
    let others = few-told t ms ws each.1 in
    let some = others.0 in
    let more = others.1 in
    (omega (arith, long, posts, some), omega (arith, all, tests, more))

pub few-posted : (here : Heeding) (posts : List Post) (tests : ℕ) (heeded : Heeded) → Heeds here posts tests heeded → length posts ≤ length here.marked
few-posted here posts tests heeded heeds =
    let few = (few-told here.moment here.marked heeds.told heeds.each).0 in subst (λ (ps : List Post). length ps ≤ length here.marked) (sym heeds.posts_are) few

pub few-tested : (here : Heeding) (posts : List Post) (tests : ℕ) (heeded : Heeded) → Heeds here posts tests heeded → tests ≤ length here.marked
few-tested here posts tests heeded heeds =
    let few = (few-told here.moment here.marked heeds.told heeds.each).1 in subst (λ n. n ≤ length here.marked) (sym heeds.tests_are) few

-- ---- the call

pub kept-heeded : (marks : List MarkEntry) (configs : List (List ℕ)) (t : ℕ) (out : Result Heeded NoMemory)
    → IfOk out (λ heeded. (posts : List Post) (tests : ℕ) → Heeds (heeding_of marks configs t) posts tests heeded → All (IsKept (heeding_of marks configs t) posts) heeded.kept)
kept-heeded marks configs t (Ok heeded) = λ posts tests heeds. all-kept (heeding_of marks configs t) posts tests heeded heeds
kept-heeded marks configs t (Err e) = tt

module _ {A : Type 0} (views : Views A) (marks : List MarkEntry) (configs : List (List ℕ)) (t : ℕ) (a b : Around A) where
  abbrev by_call : Heeded → Type 0
  by_call heeded = HeedsBy views (heeding_of marks configs t) a b heeded

  pub left-heeded : length marks ≡ length configs → (out : Result Heeded NoMemory) → IfOk out by_call → IfOk out (λ heeded. All (IsKeptOrTold marks heeded) marks)
  left-heeded long (Ok heeded) by = all-left marks configs t by.posts by.tests heeded long by.heeds
  left-heeded long (Err e) by = tt

  pub calls-heeded : (out : Result Heeded NoMemory) → IfOk out by_call → IfOk out (λ heeded. (views.asked b.asker).calls ≡ counted (asked_in heeded.tells) (views.asked a.asker).calls)
  calls-heeded (Ok heeded) by =
      by.made.calls ∙ ap (λ n. counted n (views.asked a.asker).calls) (heeded-asked (heeding_of marks configs t) by.posts by.tests heeded by.heeds)
  calls-heeded (Err e) by = tt

  pub faults-heeded : (out : Result Heeded NoMemory) → IfOk out by_call
      → IfOk out (λ heeded. CountsFaults (faults_in heeded.tells) (views.asked a.asker).faults (views.asked b.asker).faults)
  faults-heeded (Ok heeded) by =
      subst (λ n. CountsFaults n (views.asked a.asker).faults (views.asked b.asker).faults) (heeded-faults (heeding_of marks configs t) by.posts by.tests heeded by.heeds) by.made.faults
  faults-heeded (Err e) by = tt
