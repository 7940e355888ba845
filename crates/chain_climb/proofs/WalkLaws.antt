-- Walks one after the other.
use Rattle.std.proofs.Common.{◌≡◌, ◌≤◌, ◌<◌, ℕ, List, [], ◌∷◌, ◌++◌, length, drop, Bool, true, false, cond, Option, Some, None, find, option_map, refl, sym, ap, ◌∙◌, subst, inl, inr, arith, append_assoc, length-append}
use Rattle.std.specs.Option.{option_and_then}
use Rattle.std.proofs.lemmas.List.Elements.{filter_map-append}
use Rattle.std.proofs.lemmas.List.{drop-append-le}
use Rattle.entity_statement.specs.Claims.{Identifier}
use Rattle.chain_climb.specs.Elements.{Among}
use Rattle.chain_climb.proofs.Elements.{among-split}
use Rattle.chain_climb.specs.declared.path.Path.{Path}
use Rattle.chain_climb.specs.declared.answer.Report.{Report}
use Rattle.chain_climb.specs.declared.answer.PageAnswer.{PageAnswer}
use Rattle.chain_climb.specs.Climbs.{Findings, Need, Step, add, added, added_by, judge, judged, judged_by, need, needed, needed_by}
use Rattle.chain_climb.specs.Sessions.{Extends, IsAnswered, answer_to, answers_page, finding_in, findings_of}
use Rattle.chain_climb.specs.Walks.{AllKnown, IsKnown, Walked, below, from_to, onward, rest_from}

pub append-nil : {X : Type 0} (xs : List X) → xs ++ [] ≡ xs
append-nil [] = refl
append-nil (x ∷ xs) = ap (λ ys. x ∷ ys) (append-nil xs)

-- ---- one answer more

find_step : {X : Type 0} (b : Bool) (z x : X) (o o' : Option X) → (o ≡ Some x → o' ≡ Some x) → cond b (Some z) o ≡ Some x → cond b (Some z) o' ≡ Some x
find_step true z x o o' more e = e
find_step false z x o o' more e = more e

find_more : {X : Type 0} (p : X → Bool) (xs ys : List X) (x : X) → find p xs ≡ Some x → find p (xs ++ ys) ≡ Some x
find_more p [] ys x e = cc
find_more p (z ∷ xs) ys x e = find_step (p z) z x (find p xs) (find p (xs ++ ys)) (find_more p xs ys x) e

map_more : (o o' : Option PageAnswer) → ((x : PageAnswer) → o ≡ Some x → o' ≡ Some x) → (answer : Report)
    → option_map (λ (a : PageAnswer). a.answer) o ≡ Some answer → option_map (λ (a : PageAnswer). a.answer) o' ≡ Some answer
map_more None o' more answer e = cc
map_more (Some x) o' more answer e = ap (option_map (λ (a : PageAnswer). a.answer)) (more x refl) ∙ e

pub answer-more : (pages : List PageAnswer) (x : PageAnswer) (page : Need) (answer : Report) → answer_to pages page ≡ Some answer → answer_to (pages ++ x ∷ []) page ≡ Some answer
unfolding answer_to
answer-more pages x page answer e =
    map_more (find (answers_page page) pages) (find (answers_page page) (pages ++ x ∷ [])) (λ y. find_more (answers_page page) pages (x ∷ []) y) answer e

pub extends-less : (found : Findings) (pages : List PageAnswer) (x : PageAnswer) → Extends found (pages ++ x ∷ []) → Extends found pages
extends-less found pages x extends = record { agrees = λ page answer e is. extends.agrees page answer (answer-more pages x page answer e) is }

pub known-more : (pages : List PageAnswer) (x : PageAnswer) (path : Path) → IsKnown pages path → IsKnown (pages ++ x ∷ []) path
known-more pages x path known = record { some = known.some; own = known.own; origin = known.origin; good = answer-more pages x _ _ known.good }

pub extends-self : (pages : List PageAnswer) → Extends (findings_of pages) pages
unfolding findings_of
extends-self pages = record { agrees = λ page answer e is. ap (option_and_then finding_in) e }

-- ---- walks

module _ (pages : List PageAnswer) (most : ℕ) where
  pub walked-none : (steps : Findings → List Step) (paths : List Path) → Walked pages most [] steps steps (from_to paths paths)
  walked-none steps paths = record {
    taken = [];
    is = λ found extends. refl;
    answered = λ page among. absurd among;
    judgement = refl;
    adds = sym (append-nil paths);
    room = λ room. room;
    known = λ known. known;
  }

  pub walked-then : (j k : List Path) (A B C : Findings → List Step) (before between after : List Path) → Walked pages most j A B (from_to before between) → Walked pages most k B C (from_to between after)
      → Walked pages most (j ++ k) A C (from_to before after)
  walked-then j k A B C before between after v w = record {
    taken = v.taken ++ w.taken;
    is = λ found extends. v.is found extends ∙ ap (λ l. v.taken ++ l) (w.is found extends) ∙ sym (append_assoc v.taken w.taken (C found));
    answered = λ page among. elim (among-split page (needed v.taken) (needed w.taken) (subst (Among page) (filter_map-append needed_by v.taken w.taken) among)) [
      | inl front ↦ v.answered page front
      | inr back ↦ w.answered page back
    ];
    judgement = filter_map-append judged_by v.taken w.taken ∙ ap (λ l. l ++ judged w.taken) v.judgement ∙ ap (λ l. j ++ l) w.judgement;
    adds = w.adds ∙ ap (λ l. l ++ added w.taken) v.adds ∙ append_assoc before (added v.taken) (added w.taken) ∙ ap (λ l. before ++ l) (sym (filter_map-append added_by v.taken w.taken));
    room = λ room. w.room (v.room room);
    known = λ known. w.known (v.known known);
  }

  pub walked-same : (j : List Path) (A B C : Findings → List Step) (before after : List Path) → ((found : Findings) → Extends found pages → C found ≡ A found)
      → Walked pages most j A B (from_to before after) → Walked pages most j C B (from_to before after)
  walked-same j A B C before after same w = record {
    taken = w.taken;
    is = λ found extends. same found extends ∙ w.is found extends;
    answered = w.answered;
    judgement = w.judgement;
    adds = w.adds;
    room = w.room;
    known = w.known;
  }

  pub walked-to : (j : List Path) (A B C : Findings → List Step) (before after : List Path) → ((found : Findings) → Extends found pages → B found ≡ C found)
      → Walked pages most j A B (from_to before after) → Walked pages most j A C (from_to before after)
  walked-to j A B C before after same w = record {
    taken = w.taken;
    is = λ found extends. w.is found extends ∙ ap (λ l. w.taken ++ l) (same found extends);
    answered = w.answered;
    judgement = w.judgement;
    adds = w.adds;
    room = w.room;
    known = w.known;
  }

  -- with more steps behind
  pub walked-within : (j : List Path) (A B C : Findings → List Step) (before after : List Path) → Walked pages most j A B (from_to before after)
      → Walked pages most j (λ found. A found ++ C found) (λ found. B found ++ C found) (from_to before after)
  walked-within j A B C before after w = record {
    taken = w.taken;
    is = λ found extends. ap (λ l. l ++ C found) (w.is found extends) ∙ append_assoc w.taken (B found) (C found);
    answered = w.answered;
    judgement = w.judgement;
    adds = w.adds;
    room = w.room;
    known = w.known;
  }

  pub walked-need : (page : Need) (rest : Findings → List Step) (paths : List Path) → IsAnswered pages page → Walked pages most [] (λ found. need page ∷ rest found) rest (from_to paths paths)
  walked-need page rest paths answered = record {
    taken = need page ∷ [];
    is = λ found extends. refl;
    answered = λ p among. elim among [ inl same ↦ subst (IsAnswered pages) (sym same) answered | inr none ↦ absurd none ];
    judgement = refl;
    adds = sym (append-nil paths);
    room = λ room. room;
    known = λ known. known;
  }

  pub walked-judge : (path : Path) (rest : Findings → List Step) (paths : List Path) → Walked pages most (path ∷ []) (λ found. judge path ∷ rest found) rest (from_to paths paths)
  walked-judge path rest paths = record {
    taken = judge path ∷ [];
    is = λ found extends. refl;
    answered = λ p among. absurd among;
    judgement = refl;
    adds = sym (append-nil paths);
    room = λ room. room;
    known = λ known. known;
  }

  known_add : (path : Path) (paths : List Path) → IsKnown pages path → AllKnown pages paths → AllKnown pages (paths ++ path ∷ [])
  known_add path paths here known p among = elim (among-split p paths (path ∷ []) among) [
    | inl front ↦ known p front
    | inr back ↦ elim back [ inl same ↦ subst (IsKnown pages) (sym same) here | inr none ↦ absurd none ]
  ]

  pub walked-add : (path : Path) (rest : Findings → List Step) (before after : List Path) → after ≡ before ++ path ∷ [] → length before < most → IsKnown pages path
      → Walked pages most [] (λ found. add path ∷ rest found) rest (from_to before after)
  walked-add path rest before after is room known = record {
    taken = add path ∷ [];
    is = λ found extends. refl;
    answered = λ p among. absurd among;
    judgement = refl;
    adds = is;
    room = λ _. let e = ap length is in let g = length-append before (path ∷ []) in omega (arith, e, g, room);
    known = λ all. subst (AllKnown pages) (sym is) (known_add path before known all);
  }

  -- over a level, with the levels that follow
  onward_taken : (found : Findings) (anchor : Identifier) (depth : ℕ) (taken rest steps : List Step) (longer after : List Path) (left : ℕ) → steps ≡ taken ++ rest → after ≡ longer ++ added taken
      → onward found anchor depth steps longer left ≡ taken ++ onward found anchor depth rest after left
  onward_taken found anchor depth taken rest steps longer after left is adds =
      ap (λ s. onward found anchor depth s longer left) is
      ∙ append_assoc taken rest (below found anchor depth left (longer ++ added (taken ++ rest)))
      ∙ ap (λ l. taken ++ (rest ++ below found anchor depth left l))
      (ap (λ l. longer ++ l) (filter_map-append added_by taken rest) ∙ sym (append_assoc longer (added taken) (added rest)) ∙ ap (λ l. l ++ added rest) (sym adds))

  pub walked-onward : (j : List Path) (anchor : Identifier) (depth : ℕ) (A B : Findings → List Step) (before after : List Path) (level_end left : ℕ) → level_end ≤ length before
      → Walked pages most j A B (from_to before after)
      → Walked pages most j (rest_from anchor depth before A level_end left) (rest_from anchor depth after B level_end left) (from_to before after)
  walked-onward j anchor depth A B before after level_end left within w = record {
    taken = w.taken;
    is = λ found extends. onward_taken found anchor depth w.taken (B found) (A found) (drop level_end before) (drop level_end after) left (w.is found extends)
        (ap (drop level_end) w.adds ∙ drop-append-le level_end before (added w.taken) within);
    answered = w.answered;
    judgement = w.judgement;
    adds = w.adds;
    room = w.room;
    known = w.known;
  }

-- one answer more
pub walked-more : (pages : List PageAnswer) (x : PageAnswer) (most : ℕ) (j : List Path) (A B : Findings → List Step) (after : List Path) → Walked pages most j A B (from_to [] after)
    → Walked (pages ++ x ∷ []) most j A B (from_to [] after)
walked-more pages x most j A B after w = record {
  taken = w.taken;
  is = λ found extends. w.is found (extends-less found pages x extends);
  answered = λ page among. (let here = w.answered page among in (here.0, answer-more pages x page here.0 here.1, here.2));
  judgement = w.judgement;
  adds = w.adds;
  room = w.room;
  known = λ _ path among. known-more pages x path (w.known (λ p none. absurd none) path among);
}
