-- What keeping a page leaves of a trace.
use Rattle.std.proofs.Common.{◌≡◌, ◌≤◌, ◌+◌, ℕ, List, [], ◌∷◌, ◌++◌, min, Bool, true, false, cond, Some, None, refl, sym, ap, ◌∙◌, subst, append-nil, arith}
use Rattle.std.specs.Option.{option_and_then}
use Rattle.std.proofs.lemmas.List.Elements.{filter_map-append}
use Rattle.entity_statement.specs.Claims.{Claims}
use Rattle.entity_statement.specs.Use.{current_at}
use Rattle.chain_climb.specs.Climbs.{Need}
use Rattle.statement_shelf.specs.declared.calls.ShelfCall.{ShelfCall}
use Rattle.statement_shelf.specs.declared.calls.ShelfCall.TheVariants.{Put}
use Rattle.statement_shelf.specs.declared.calls.ShelfReply.{ShelfReply}
use Rattle.resolve_round.specs.declared.trace.Event.{Event}
use Rattle.resolve_round.specs.declared.trace.Event.TheVariants.{Shelf}
use Rattle.resolve_round.specs.declared.trace.Search.{Search}
use Rattle.resolve_round.specs.declared.trace.Trace.{Trace}
use Rattle.resolve_round.specs.Acts.{IsRecorded}
use Rattle.resolve_round.specs.Keeping.{AddsPuts, IsFetchedPage, kept_here, kept_new}
use Rattle.resolve_round.specs.Knowing.{HoldsSoFar, with_search}
use Rattle.resolve_round.specs.Pages.{named_statement}
use Rattle.resolve_round.specs.Proving.{AddsProves, ProvesEach}
use Rattle.resolve_round.specs.Told.{FetchedText, Obtained, ProvesGood}
use Rattle.resolve_round.specs.Traces.{Kept, kept_text, kept_until, look_in, looks_in, put_in, puts_in}
use Rattle.resolve_round.specs.Courses.{document_in, fetched, text_got}
use Rattle.resolve_round.specs.declared.trace.Got.{Got}
use Rattle.resolve_round.specs.declared.trace.Got.TheVariants as got
use Rattle.fed_ports.specs.declared.page.Page.{Page}
use Rattle.resolve_round.proofs.GettingLaws.{proves-looks, proves-puts}
use Rattle.resolve_round.proofs.ProvingLaws.{PlacesOne, placed-anew, proves-true}
use Rattle.resolve_round.proofs.TraceLaws.{put-more}

-- the sum of the moment and the age may stand still at the end of its type
pub until-is : (t age exp most : ℕ) → exp ≤ most → min (min (t + age) most) exp ≡ min (t + age) exp
until-is t age exp most low = omega (arith, low)

-- what was fetched was obtained
got_text : (g : Got) (page : Page) (text : List ℕ) → fetched g ≡ Some page → document_in page ≡ Some text → text_got g ≡ Some text
got_text (got.Hit proven) page text is reads = cc is
got_text (got.Fetched p) page text is reads = let one : p ≡ page = cc is in ap document_in one ∙ reads
got_text got.Fault page text is reads = cc is

pub fetched-obtained : (searches : List Search) (url text : List ℕ) → FetchedText searches url text → Obtained searches url text
fetched-obtained searches url text (ask, among, at, (page, is, reads)) = (ask, among, at, got_text ask.got page text is reads)

-- ---- what is kept

abbrev pub keeps : List ℕ → List ℕ → ℕ → Kept
keeps url text until = record { url = url; text = text; until = until }

kept_is : (t age : ℕ) (page : Need) (url text : List ℕ) (s : Claims) (until : ℕ) → named_statement page text ≡ Some s → current_at s.iat s.exp t ≡ true → page.url ≡ url → until ≡ kept_until t age s.exp
    → kept_text t age page text ≡ Some (keeps url text until)
kept_is t age page url text s until reads current at end =
    ap (option_and_then (λ (c : Claims). cond (current_at c.iat c.exp t) (Some (keeps page.url text (kept_until t age c.exp))) None)) reads
    ∙ ap (λ b. cond b (Some (keeps page.url text (kept_until t age s.exp))) None) current
    ∙ ap (λ u. Some (keeps u text (kept_until t age s.exp))) at
    ∙ ap (λ n. Some (keeps url text n)) (sym end)

put-places : (url text : List ℕ) (until : ℕ) (r : ShelfReply) → PlacesOne url text (Shelf (Put url text until) r)
put-places url text until r = record { here = (refl, refl); only = λ at y places. (sym places.0, sym places.1) }

-- the call that was recorded is the Put
pub put-recorded : (old new : List Event) (url text at put : List ℕ) (until end : ℕ) (call : ShelfCall) → at ≡ url → put ≡ text → end ≡ until → call ≡ Put at put end → IsRecorded old call new
    → (r : ShelfReply) × (new ≡ old ++ Shelf (Put url text until) r ∷ [])
put-recorded old new url text at put until end call place same last is recorded = (
  recorded.answer,
  recorded.is ∙ ap (λ c. old ++ Shelf c recorded.answer ∷ [])
      (is ∙ ap (λ u. Put u put end) place ∙ ap (λ x. Put url x end) same ∙ ap (λ n. Put url text n) last),
)

module _ (t : Trace) (age : ℕ) (url text : List ℕ) (s : Claims) (current : current_at s.iat s.exp t.moment ≡ true)
    (until : ℕ) (end : until ≡ kept_until t.moment age s.exp) (r : ShelfReply) (mid : List Event) (is : mid ≡ t.events ++ Shelf (Put url text until) r ∷ []) where
  abbrev events_are : List Event → Trace
  events_are events = record t { events = events }

  pub holds-put : (search : Search) → IsFetchedPage t search url text s → HoldsSoFar age search t → HoldsSoFar age search (events_are mid)
  holds-put search page holds =
      subst (λ es. HoldsSoFar age search (events_are es)) (sym is)
      (put-more age (with_search t search) url text until r holds page.fetched page.page (kept_is t.moment age page.page url text s until page.reads current page.at end))

  pub holds-kept : (events : List Event) → AddsProves t.checks mid events → (search : Search) → IsFetchedPage t search url text s → HoldsSoFar age search t → HoldsSoFar age search (events_are events)
  holds-kept events adds search page holds =
      subst (λ es. HoldsSoFar age search (events_are es)) (sym adds.are)
      (proves-true age (with_search (events_are mid) search) adds.more adds.proves (holds-put search page holds))

  pub good-kept : (events : List Event) (adds : AddsProves t.checks mid events) → ProvesEach t.checks url text mid events → (search : Search) → IsFetchedPage t search url text s
      → ProvesGood (with_search t search) → ProvesGood (with_search (events_are events) search)
  good-kept events adds each search page good =
      let all : events ≡ (t.events ++ Shelf (Put url text until) r ∷ []) ++ adds.more = adds.are ∙ ap (λ es. es ++ adds.more) is in
      subst (λ es. ProvesGood (with_search (events_are es) search)) (sym all)
      (placed-anew (with_search t search) (Shelf (Put url text until) r) adds.more url text (put-places url text until r)
      (fetched-obtained (with_search t search).searches url text page.fetched) adds.proves
      (subst (λ es. ProvesEach t.checks url text (t.events ++ Shelf (Put url text until) r ∷ []) es) all (subst (λ m. ProvesEach t.checks url text m events) is each))
      good)

  pub puts-kept : (events : List Event) → AddsProves t.checks mid events → AddsPuts (kept_here t.moment age url text s) t.events events
  puts-kept events adds =
      let here : kept_here t.moment age url text s ≡ (keeps url text until) ∷ [] =
      ap (λ b. cond b (keeps url text (kept_until t.moment age s.exp) ∷ []) []) current ∙ ap (λ n. keeps url text n ∷ []) (sym end) in
      record {
        looks = proves-looks t.checks mid events adds ∙ ap looks_in is ∙ filter_map-append look_in t.events (Shelf (Put url text until) r ∷ []) ∙ append-nil (looks_in t.events);
        puts = proves-puts t.checks mid events adds ∙ ap puts_in is ∙ filter_map-append put_in t.events (Shelf (Put url text until) r ∷ []) ∙ ap (λ l. puts_in t.events ++ l) (sym here);
      }

-- a page that isn't current isn't kept
pub puts-none : (t : Trace) (age : ℕ) (url text : List ℕ) (s : Claims) → current_at s.iat s.exp t.moment ≡ false → AddsPuts (kept_here t.moment age url text s) t.events t.events
puts-none t age url text s old = record {
  looks = refl;
  puts = sym (append-nil (puts_in t.events)) ∙ ap (λ l. puts_in t.events ++ l) (sym (ap (λ b. cond b (keeps url text (kept_until t.moment age s.exp) ∷ []) []) old));
}

-- nothing is added of a page that wasn't fetched just now
pub puts-old : (now : Bool) (t : Trace) (age : ℕ) (url text : List ℕ) (s : Claims) → now ≡ false → AddsPuts (kept_new now t.moment age url text s) t.events t.events
puts-old now t age url text s nay = record {
  looks = refl;
  puts = sym (append-nil (puts_in t.events)) ∙ ap (λ b. puts_in t.events ++ kept_new b t.moment age url text s) (sym nay);
}

-- of one that was, the same as of any that is kept
pub puts-new : (now : Bool) (t : Trace) (age : ℕ) (url text : List ℕ) (s : Claims) (events : List Event) → now ≡ true → AddsPuts (kept_here t.moment age url text s) t.events events
    → AddsPuts (kept_new now t.moment age url text s) t.events events
puts-new now t age url text s events aye adds = subst (λ b. AddsPuts (kept_new b t.moment age url text s) t.events events) (sym aye) adds
