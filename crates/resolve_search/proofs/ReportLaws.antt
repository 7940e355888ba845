-- What the report on a page says of the round.
use Rattle.std.proofs.Common.{◌≡◌, ◌<◌, ◌⊎◌, ℕ, List, [], ◌++◌, Bool, true, false, Some, refl, sym, ap, ◌∙◌, subst, inl, inr, bytes_eq, append-nil, true≢false}
use Rattle.std.specs.Prelude.{find}
use Rattle.std.specs.List.{cons_option}
use Rattle.std.specs.Option.{option_and_then}
use Rattle.entity_statement.specs.Claims.{Identifier}
use Rattle.chain_climb.specs.declared.answer.Answer.{Answer}
use Rattle.chain_climb.specs.declared.answer.Origin.TheVariants.{Shelf, Link}
use Rattle.chain_climb.specs.declared.answer.Report.{Report}
use Rattle.chain_climb.specs.declared.answer.Report.TheVariants.{Good, Useless, Fault, Spent}
use Rattle.chain_climb.specs.Climbs.{Need, page_named}
use Rattle.chain_climb.specs.Sessions.{FitsPage, IsPageAnswer, is_call as is_answered_call}
use Rattle.resolve_round.specs.declared.aim.Aim.{Aim}
use Rattle.resolve_round.specs.declared.getting.Place.{Place}
use Rattle.resolve_round.specs.declared.trace.Ask.{Ask}
use Rattle.resolve_round.specs.declared.trace.Got.{Got}
use Rattle.resolve_round.specs.declared.trace.Got.TheVariants as got
use Rattle.resolve_round.specs.declared.trace.Trace.{Trace}
use Rattle.resolve_search.specs.Answering.{AsksAgain, AsksNow, IsPageReport, SameCall, TellsAsk, put_of}
use Rattle.resolve_round.specs.Courses.{is_call, pages_of, text_got}
use Rattle.resolve_round.specs.Getting.{IsPlace, NotAsked, OnlyEvents, Point, TakesAsk, WasBefore, point}
use Rattle.resolve_round.specs.Keeping.{AddsPuts}
use Rattle.resolve_round.specs.Pages.{findings, good_text}
use Rattle.resolve_round.specs.Testing.{OnlyTests}
use Rattle.resolve_round.specs.Traces.{Kept, kept_of, looks_in, puts_in}

fits_report : (calls most : ℕ) (report : Report) → IsPageAnswer report → (is_answered_call report ≡ true → calls < most) → FitsPage false calls most (Some report)
fits_report calls most (Good s Shelf) ok room = tt
fits_report calls most (Good s Link) ok room = room refl
fits_report calls most (Useless Shelf) ok room = tt
fits_report calls most (Useless Link) ok room = room refl
fits_report calls most Fault ok room = room refl
fits_report calls most Spent ok room = absurd ok

-- nothing is kept of a hit
hit_kept : (t age : ℕ) (page : Need) (url : List ℕ) (g : Got) → is_call (record { url = url; got = g }) ≡ false → cons_option (kept_of t age (page, record { url = url; got = g })) [] ≡ []
hit_kept t age page url (got.Hit proven) hit = refl
hit_kept t age page url (got.Fetched p) hit = absurd (true≢false hit)
hit_kept t age page url got.Fault hit = absurd (true≢false hit)

put_by : (b : Bool) (t age : ℕ) (page : Need) (ask : Ask) → is_call ask ≡ b → put_of b t age page ask ≡ cons_option (kept_of t age (page, ask)) []
put_by true t age page ask is = refl
put_by false t age page ask is = sym (hit_kept t age page ask.url ask.got is)

pages_first : (asks : List Ask) (url : List ℕ) (ask : Ask) → find (λ (a : Ask). bytes_eq a.url url) asks ≡ Some ask → pages_of asks url ≡ text_got ask.got
unfolding pages_of
pages_first asks url ask first = ap (option_and_then (λ (a : Ask). text_got a.got)) first

found_first : (asks : List Ask) (t : ℕ) (page : Need) (ask : Ask) → find (λ (a : Ask). bytes_eq a.url page.url) asks ≡ Some ask → findings (pages_of asks) t page ≡ option_and_then (good_text t page) (text_got ask.got)
unfolding findings
found_first asks t page ask first = ap (option_and_then (good_text t page)) (pages_first asks page.url ask first)

module _ (aim : Aim) (issuer subject : Identifier) (url : List ℕ) (old mid : Point) (place : Place) (is : IsPlace aim url old mid place)
    (new : Trace) (answer : Answer) (moment : mid.trace.moment ≡ old.trace.moment)
    (told : TellsAsk mid.trace.moment (page_named issuer subject (is.ask).url) is.ask answer)
    (looks : looks_in new.events ≡ looks_in mid.trace.events)
    (puts : puts_in new.events ≡ puts_in mid.trace.events ++ put_of place.fresh mid.trace.moment aim.age (page_named issuer subject (is.ask).url) is.ask) where
  abbrev page : Need
  page = page_named issuer subject url

  same_page : page_named issuer subject (is.ask).url ≡ page
  same_page = ap (page_named issuer subject) is.at

  here : TellsAsk old.trace.moment page is.ask answer
  here = subst (λ p. TellsAsk old.trace.moment p is.ask answer) same_page (subst (λ t. TellsAsk t (page_named issuer subject (is.ask).url) is.ask answer) moment told)

  put_here : puts_in new.events ≡ puts_in mid.trace.events ++ put_of place.fresh old.trace.moment aim.age page is.ask
  put_here =
      puts ∙ ap (λ t. puts_in mid.trace.events ++ put_of place.fresh t aim.age (page_named issuer subject (is.ask).url) is.ask) moment
      ∙ ap (λ p. puts_in mid.trace.events ++ put_of place.fresh old.trace.moment aim.age p is.ask) same_page

  again : WasBefore url place old mid → AsksAgain page old (point new mid.search)
  again was = record {
    asked = was.asked;
    is = ap (λ (p : Point). p.search) was.same;
    looks = looks ∙ ap (λ (p : Point). looks_in p.trace.events) was.same;
    puts =
        put_here ∙ ap (λ b. puts_in mid.trace.events ++ put_of b old.trace.moment aim.age page is.ask) was.before
        ∙ append-nil (puts_in mid.trace.events) ∙ ap (λ (p : Point). puts_in p.trace.events) was.same;
  }

  now : TakesAsk aim.looks is.ask old mid → place.fresh ≡ is_call is.ask → AsksNow aim page old (point new mid.search) here.report
  now takes calls = record {
    ask = is.ask;
    at = is.at;
    fresh = subst (λ u. NotAsked u old.search) is.at takes.fresh;
    is = takes.is;
    unhit = takes.unhit;
    looks = looks ∙ takes.added.looks;
    puts =
        put_here ∙ ap (λ b. puts_in mid.trace.events ++ put_of b old.trace.moment aim.age page is.ask) calls
        ∙ ap (λ l. puts_in mid.trace.events ++ l) (put_by (is_call is.ask) old.trace.moment aim.age page is.ask refl)
        ∙ ap (λ l. l ++ cons_option (kept_of old.trace.moment aim.age (page, is.ask)) []) takes.added.puts;
    called = here.called;
    fits = fits_report old.search.calls aim.bounds.calls here.report here.ok (λ link. is.room (calls ∙ sym here.called ∙ link));
  }

  -- the answer that was told is the report on the page
  pub page-report : IsPageReport aim page old (point new mid.search) (Some answer)
  page-report = (
    here.report,
    here.is,
    record {
      ok = here.ok;
      says = here.says ∙ sym (found_first mid.search.asks old.trace.moment page is.ask is.first);
      source = by_source is.came;
    },
  )
    where
      by_source : WasBefore url place old mid ⊎ (TakesAsk aim.looks is.ask old mid × (place.fresh ≡ is_call is.ask)) → AsksAgain page old (point new mid.search) ⊎ AsksNow aim page old (point new mid.search) here.report
      by_source (inl was) = inl (again was)
      by_source (inr (takes, calls)) = inr (now takes calls)

-- ---- what a report leaves of a trace

-- only events were added
pub same-call : (old new : Trace) → OnlyEvents old new → SameCall old new
same-call old new only = subst (SameCall old) (sym only) (record { moment = refl; epoch = refl; keys = refl; bounds = refl; searches = refl })

pub same-checks : (old new : Trace) → OnlyEvents old new → new.checks ≡ old.checks
same-checks old new only = ap (λ (t : Trace). t.checks) only

-- and then checks and Proves
module _ (old mid new : Trace) (only : OnlyEvents old mid) (tests : OnlyTests mid new) where
  pub same-tested : SameCall old new
  same-tested =
      let same = same-call old mid only in
      record { moment = tests.moment ∙ same.moment; epoch = tests.epoch ∙ same.epoch; keys = tests.keys ∙ same.keys; bounds = tests.bounds ∙ same.bounds; searches = tests.searches ∙ same.searches }

  pub puts-tested : (more put : List Kept) → AddsPuts more old.events mid.events → more ≡ put → puts_in new.events ≡ puts_in old.events ++ put
  puts-tested more put adds same = tests.puts ∙ adds.puts ∙ ap (λ l. puts_in old.events ++ l) same

-- only events were added, and then what a report adds
module _ (old mid new : Trace) (only : OnlyEvents old mid) where
  pub same-got : SameCall mid new → SameCall old new
  same-got later =
      let same = same-call old mid only in
      record { moment = later.moment ∙ same.moment; epoch = later.epoch ∙ same.epoch; keys = later.keys ∙ same.keys; bounds = later.bounds ∙ same.bounds; searches = later.searches ∙ same.searches }
