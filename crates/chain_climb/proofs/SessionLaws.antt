-- What a session says of its search.
use Rattle.std.proofs.Common.{Result, Ok, Err, OnOk, OnErr, ◌≡◌, ℕ, List, [], ◌∷◌, length, map, Bool, true, false, cond, Option, Some, None, refl, sym, ap, ◌∙◌, subst, inl, inr, bytes_eq, arith}
use Rattle.std.specs.List.{list_any}
use Rattle.entity_statement.specs.Claims.{Identifier}
use Rattle.chain_climb.specs.declared.want.Bounds.{Bounds}
use Rattle.chain_climb.specs.declared.want.Want.{Want}
use Rattle.chain_climb.specs.declared.want.Want.TheVariants.{Config, Superior, Judge, Done}
use Rattle.chain_climb.specs.declared.answer.Answer.{Answer}
use Rattle.chain_climb.specs.declared.answer.Report.{Report}
use Rattle.chain_climb.specs.declared.answer.PageAnswer.{PageAnswer}
use Rattle.chain_climb.specs.declared.state.State.{State}
use Rattle.chain_climb.specs.Climbs.{Findings, Need, page_named}
use Rattle.chain_climb.specs.Elements.{Among, NoneTwice}
use Rattle.chain_climb.specs.Ends.{FindsFirst, LeavesNone}
use Rattle.chain_climb.specs.Sessions.{Extends, Fits, IsNext, IsNextBy, Search, Takes, TakesPage, answer_to, begun, first_answers_after, report_in}
use Rattle.chain_climb.specs.Walks.{IsBegun, IsGiven, IsStanding, search_of, wanted, wanted_at}
use Rattle.chain_climb.specs.Wants.{HasMade, IsBounded, WantsNew, given, given_to, next_want, page_in, url_of, with_page}
use Rattle.chain_climb.proofs.ClimbLaws.{any-among, both_ways}
use Rattle.chain_climb.proofs.EndLaws.{next-complete, next-few, next-first, next-is, next-new, next-stays}
use Rattle.chain_climb.proofs.NextLaws.{standing-made, standing-next, wanted-is}

-- ---- each URL is asked once

abbrev urls_after : List (List ℕ) → List PageAnswer → List (List ℕ)
urls_after earlier pages = map url_of (first_answers_after earlier pages)

before_by : (b : Bool) (u : List ℕ) (a : PageAnswer) (pages : List PageAnswer) (earlier : List (List ℕ)) → list_any (bytes_eq a.url) earlier ≡ b → Among u earlier
    → ¬ Among u (urls_after earlier pages) → ¬ Among u (urls_after (a.url ∷ earlier) pages)
    → ¬ Among u (map url_of (cond b (first_answers_after earlier pages) (a ∷ first_answers_after (a.url ∷ earlier) pages)))
before_by true u a pages earlier is here old new among = old among
before_by false u a pages earlier is here old new (inl same) =
    both_ways (list_any (bytes_eq a.url) earlier) (any-among a.url earlier (subst (λ e. Among e earlier) same here)) is
before_by false u a pages earlier is here old new (inr among) = new among

asked_before : (u : List ℕ) (pages : List PageAnswer) (earlier : List (List ℕ)) → Among u earlier → ¬ Among u (urls_after earlier pages)
asked_before u [] earlier here = λ none. none
asked_before u (a ∷ pages) earlier here =
    before_by (list_any (bytes_eq a.url) earlier) u a pages earlier refl here (asked_before u pages earlier here) (asked_before u pages (a.url ∷ earlier) (inr here))

once_by : (b : Bool) (a : PageAnswer) (pages : List PageAnswer) (earlier : List (List ℕ)) → NoneTwice (urls_after earlier pages) → NoneTwice (urls_after (a.url ∷ earlier) pages)
    → NoneTwice (map url_of (cond b (first_answers_after earlier pages) (a ∷ first_answers_after (a.url ∷ earlier) pages)))
once_by true a pages earlier old new = old
once_by false a pages earlier old new = (asked_before a.url pages (a.url ∷ earlier) (inl refl), new)

asks_once : (pages : List PageAnswer) (earlier : List (List ℕ)) → NoneTwice (urls_after earlier pages)
asks_once [] earlier = tt
asks_once (a ∷ pages) earlier = once_by (list_any (bytes_eq a.url) earlier) a pages earlier (asks_once pages earlier) (asks_once pages (a.url ∷ earlier))

-- ---- what an answer changes

same_search : (a b : Search) → a.leaf ≡ b.leaf → a.anchor ≡ b.anchor → a.bounds ≡ b.bounds → a.pages ≡ b.pages → a.verdicts ≡ b.verdicts → a ≡ b
same_search a b leaf anchor bounds pages verdicts =
    let e : record { leaf = a.leaf; anchor = a.anchor; bounds = a.bounds; pages = a.pages; verdicts = a.verdicts }
    ≡ record { leaf = b.leaf; anchor = b.anchor; bounds = b.bounds; pages = b.pages; verdicts = b.verdicts } = cc in e

module _ (old now : Search) (leaf : now.leaf ≡ old.leaf) (anchor : now.anchor ≡ old.anchor) (bounds : now.bounds ≡ old.bounds) where
  page_given : (page : Need) (o : Option Report) → TakesPage old now page o → now ≡ with_page old page o
  page_given page None takes = absurd takes
  page_given page (Some report) takes = same_search now (with_page old page (Some report)) leaf anchor bounds takes.0 takes.1

  taken_given : (want : Want) (answer : Answer) → Takes old now want answer → now ≡ given_to old want answer
  taken_given (Config entity url) answer takes = page_given (page_named entity entity url) (report_in answer) takes
  taken_given (Superior superior subject url) answer takes = page_given (page_named superior subject url) (report_in answer) takes
  taken_given (Judge path) answer takes = same_search now (given_to old (Judge path) answer) leaf anchor bounds takes.0 takes.1
  taken_given (Done end) answer takes = absurd takes

pub begun-is : (leaf anchor : Identifier) (bounds : Bounds) (s : State) → IsBegun leaf anchor bounds s → search_of s ≡ begun leaf anchor bounds
begun-is leaf anchor bounds s is = same_search (search_of s) (begun leaf anchor bounds) is.leaf_is is.anchor_is is.bounds_are is.no_pages is.no_verdicts

-- what holds after a call, by what it answers
pub on-ok : {X E : Type 0} {A B : Type 0} (result : Result X E) → (A → B) → OnOk result A → OnOk result B
on-ok (Ok x) f holds = f holds
on-ok (Err fault) f holds = tt

pub on-err : {X E : Type 0} {A B : Type 0} (result : Result X E) → (A → B) → OnErr result A → OnErr result B
on-err (Ok x) f holds = tt
on-err (Err fault) f holds = f holds

pub either-way : {X E : Type 0} {A B C : Type 0} (result : Result X E) → (A → C) → (B → C) → OnOk result A → OnErr result B → C
either-way (Ok x) f g ok err = f ok
either-way (Err fault) f g ok err = g err

module _ (s : State) (st : IsStanding s) where
  standing_wants : IsNext (search_of s) (wanted s)
  standing_wants = subst (IsNext (search_of s)) (sym (wanted-is s s.place.stage refl)) (standing-next s st)

  pub wanted-next : wanted s ≡ next_want (search_of s)
  wanted-next = next-is (search_of s) (wanted s) standing_wants

  pub given-is : (after : State) (answer : Answer) → IsGiven s after answer → search_of after ≡ given (search_of s) answer
  given-is after answer is =
      taken_given (search_of s) (search_of after) is.same.leaf is.same.anchor is.same.bounds (wanted s) answer is.takes
      ∙ ap (λ want. given_to (search_of s) want answer) wanted-next

  pub standing-bounded : IsBounded (search_of s)
  standing-bounded = record {
    pages_once = st.once;
    asks_once = asks_once s.pages [];
    few_calls = omega (arith, st.calls, st.few_calls);
    few_faults = omega (arith, st.calls, st.faults, st.few_faults);
    few_judged = next-few (search_of s) (wanted s) standing_wants;
  }

  pub config-new : (want : Want) (entity subject : Identifier) (url : List ℕ) → IsNext (search_of s) want → want ≡ Config entity url → subject ≡ entity
      → answer_to s.pages (page_named entity subject url) ≡ None
  config-new want entity subject url next is same =
      ap (λ e. answer_to s.pages (page_named entity e url)) same ∙ next-new (search_of s) want next (page_named entity entity url) (ap page_in is)

  pub superior-new : (want : Want) (superior subject : Identifier) (url : List ℕ) → IsNext (search_of s) want → want ≡ Superior superior subject url
      → answer_to s.pages (page_named superior subject url) ≡ None
  superior-new want superior subject url next is = next-new (search_of s) want next (page_named superior subject url) (ap page_in is)

  -- seen as its search
  module _ (now : Search) (view : search_of s ≡ now) where
    pub says-want : (want : Want) → IsNext (search_of s) want → want ≡ next_want now
    says-want want next = next-is (search_of s) want next ∙ ap next_want view

    pub says-next : (want : Want) → IsNext (search_of s) want → IsNext now want
    says-next want next = subst (λ x. IsNext x want) view next

    pub says-stays : (want : Want) → IsNext (search_of s) want → (found : Findings) → Extends found now.pages → IsNextBy found now want
    says-stays want next = next-stays now want (says-next want next)

    pub says-new : (want : Want) → IsNext (search_of s) want → WantsNew now want
    says-new want next = next-new now want (says-next want next)

    pub says-found : (want : Want) → IsNext (search_of s) want → FindsFirst now want
    says-found want next = next-first now want (says-next want next)

    pub says-complete : (want : Want) → IsNext (search_of s) want → LeavesNone now want
    says-complete want next = next-complete now want (says-next want next)

    pub says-bounded : IsBounded now
    says-bounded = subst IsBounded view standing-bounded

    pub says-made : (paths : ℕ) → paths ≡ length s.queue → HasMade now (next_want now) paths
    says-made paths is =
        let made = standing-made s st in
        let same : wanted_at s.place.stage s ≡ next_want now = sym (wanted-is s s.place.stage refl) ∙ wanted-next ∙ ap next_want view in
        let here : HasMade (search_of s) (wanted_at s.place.stage s) paths = (made.0, is ∙ sym made.1) in
        subst (λ w. HasMade now w paths) same (subst (λ x. HasMade x (wanted_at s.place.stage s) paths) view here)

    pub says-fits : (answer : Answer) → Fits now (next_want now) answer → Fits (search_of s) (wanted s) answer
    says-fits answer fits = subst (λ w. Fits (search_of s) w answer) (sym wanted-next) (subst (λ x. Fits x (next_want x) answer) (sym view) fits)

    pub says-given : (after : State) (answer : Answer) → IsGiven s after answer → search_of after ≡ given now answer
    says-given after answer is = given-is after answer is ∙ ap (λ x. given x answer) view
