-- What holds of a round and its session, from one answer to the next.
use Rattle.std.proofs.Common.{◌≡◌, ◌≤◌, ◌+◌, ◌⊎◌, ℕ, List, [], ◌∷◌, ◌++◌, map, filter_map, Bool, true, false, cond, not, ◌&&◌, ◌||◌, Option, Some, None, refl, sym, ap, ◌∙◌, subst, inl, inr, ⊎_elim, append_assoc, bytes_eq, arith}
use Rattle.std.specs.Prelude.{find, zip}
use Rattle.std.specs.List.{cons_option, list_any}
use Rattle.std.specs.Option.{option_and_then}
use Rattle.std.proofs.lemmas.List.{map-append}
use Rattle.std.proofs.lemmas.List.Elements.{filter_map-append}
use Rattle.fed_json.proofs.Order.{bytes_eq-itself, equal-bytes_eq}
use Rattle.chain_check.specs.Chains.{Texts}
use Rattle.chain_check.specs.Validity.{IsValid, case_of}
use Rattle.chain_climb.specs.declared.answer.Origin.TheVariants.{Shelf, Link}
use Rattle.chain_climb.specs.declared.answer.PageAnswer.{PageAnswer}
use Rattle.chain_climb.specs.declared.answer.Report.{Report}
use Rattle.chain_climb.specs.declared.answer.Report.TheVariants.{Good, Useless, Fault, Spent}
use Rattle.chain_climb.specs.declared.answer.Verdict.{Verdict}
use Rattle.chain_climb.specs.declared.path.Path.{Path}
use Rattle.chain_climb.specs.declared.want.Want.TheVariants.{Judge}
use Rattle.chain_climb.specs.Climbs.{Findings, Need, chain_urls}
use Rattle.chain_climb.specs.Elements.{Among}
use Rattle.chain_climb.specs.Sessions.{Extends, FitsPage, IsNextBy, IsNoChain, IsPageAnswer, Search as Searched, answer_to, calls_in, finding_in, is_call as is_answered_call, page_of, want_of, was_asked}
use Rattle.chain_climb.proofs.ClimbLaws.{among-any, any-among, both_ways}
use Rattle.chain_climb.proofs.Elements.{among-left, among-split}
use Rattle.chain_climb.proofs.GiveLaws.{calls-more}
use Rattle.resolve_round.specs.declared.aim.Aim.{Aim}
use Rattle.resolve_round.specs.declared.trace.Ask.{Ask}
use Rattle.resolve_round.specs.declared.trace.Search.{Search}
use Rattle.resolve_round.specs.declared.trace.Trace.{Trace}
use Rattle.resolve_search.specs.Answering.{AsksAgain, AsksNow, Reports}
use Rattle.resolve_round.specs.Answers.{IsRuling}
use Rattle.resolve_round.specs.Asking.{one_if}
use Rattle.resolve_round.specs.Courses.{is_call, pages_of, url_of}
use Rattle.resolve_search.specs.Driving.{Drives, PagesTell, Rules, looks_for, puts_for}
use Rattle.resolve_round.specs.Getting.{Point, if_looks, point}
use Rattle.resolve_round.specs.Pages.{Pages, Query, ToMerge, chain_of, findings, good_text}
use Rattle.resolve_round.specs.Rounds.{need_url}
use Rattle.resolve_round.specs.Testing.{OnlyTests}
use Rattle.resolve_round.specs.Traces.{kept_of, look_for, looks_in, puts_in}
use Rattle.resolve_round.proofs.AskingLaws.{page-kept}
use Rattle.resolve_round.proofs.FollowLaws.{answer-split, follows-again, follows-new, follows-verdict, last-answer}

-- ---- lists

zip_more : (needs : List Need) (asks : List Ask) (page : Need) (ask : Ask) → map url_of asks ≡ map need_url needs → zip (needs ++ page ∷ []) (asks ++ ask ∷ []) ≡ zip needs asks ++ (page, ask) ∷ []
zip_more [] [] page ask same = refl
zip_more [] (a ∷ asks) page ask same = cc same
zip_more (n ∷ needs) [] page ask same = cc same
zip_more (n ∷ needs) (a ∷ asks) page ask same =
    let rest : map url_of asks ≡ map need_url needs = cc same in
    ap (λ l. (n, a) ∷ l) (zip_more needs asks page ask rest)

any_more : {X : Type 0} (p : X → Bool) (xs : List X) (x : X) → list_any p (xs ++ x ∷ []) ≡ (list_any p xs || p x)
any_more p [] x = or_false (p x)
  where
    or_false : (b : Bool) → (b || false) ≡ (false || b)
    or_false true = refl
    or_false false = refl
any_more p (y ∷ xs) x = ap (λ b. p y || b) (any_more p xs x) ∙ or_assoc (p y) (list_any p xs) (p x)
  where
    or_assoc : (a b c : Bool) → (a || (b || c)) ≡ ((a || b) || c)
    or_assoc true b c = refl
    or_assoc false b c = refl

filter_agree : {X Y : Type 0} (f h : X → Option Y) (xs : List X) → ((x : X) → Among x xs → f x ≡ h x) → filter_map f xs ≡ filter_map h xs
filter_agree f h [] agree = refl
filter_agree f h (x ∷ xs) agree =
    ap (λ o. cons_option o (filter_map f xs)) (agree x (inl refl)) ∙ ap (cons_option (h x)) (filter_agree f h xs (λ y among. agree y (inr among)))

looks_more : (looks : Bool) (t : ℕ) (asks : List Ask) (ask : Ask) → looks_for looks t (asks ++ ask ∷ []) ≡ looks_for looks t asks ++ if_looks looks (look_for t ask)
looks_more true t asks ask = map-append (look_for t) asks (ask ∷ [])
looks_more false t asks ask = refl

puts_more : (t age : ℕ) (needs : List Need) (asks : List Ask) (page : Need) (ask : Ask) → map url_of asks ≡ map need_url needs
    → puts_for t age (needs ++ page ∷ []) (asks ++ ask ∷ []) ≡ puts_for t age needs asks ++ cons_option (kept_of t age (page, ask)) []
puts_more t age needs asks page ask same =
    ap (filter_map (kept_of t age)) (zip_more needs asks page ask same) ∙ filter_map-append (kept_of t age) (zip needs asks) ((page, ask) ∷ [])

-- ---- pages that stay

found_by : (b : Bool) (a : Ask) (o : Option Ask) → ((ask : Ask) × (o ≡ Some ask)) → (ask : Ask) × (cond b (Some a) o ≡ Some ask)
found_by true a o rest = (a, refl)
found_by false a o rest = rest

among_found : (url : List ℕ) (asks : List Ask) → Among url (map url_of asks) → (ask : Ask) × (find (λ (a : Ask). bytes_eq a.url url) asks ≡ Some ask)
among_found url [] among = absurd among
among_found url (a ∷ asks) (inl same) = (a, ap (λ b. cond b (Some a) (find (λ (x : Ask). bytes_eq x.url url) asks)) (ap (bytes_eq a.url) same ∙ bytes_eq-itself a.url))
among_found url (a ∷ asks) (inr among) = found_by (bytes_eq a.url url) a (find (λ (x : Ask). bytes_eq x.url url) asks) (among_found url asks among)

pages_stay : (asks : List Ask) (ask : Ask) (url : List ℕ) → Among url (map url_of asks) → pages_of (asks ++ ask ∷ []) url ≡ pages_of asks url
pages_stay asks ask url among = let found = among_found url asks among in page-kept asks (ask ∷ []) url found.0 found.1

findings_stay : (asks : List Ask) (ask : Ask) (t : ℕ) (page : Need) → Among page.url (map url_of asks) → findings (pages_of (asks ++ ask ∷ [])) t page ≡ findings (pages_of asks) t page
unfolding findings
findings_stay asks ask t page among = ap (option_and_then (good_text t page)) (pages_stay asks ask page.url among)

chain_agrees : (old new : Pages) (path : Path) → ((url : List ℕ) → Among url (chain_urls path) → new url ≡ old url) → chain_of new path ≡ chain_of old path
unfolding chain_of
chain_agrees old new path agree = filter_agree new old (chain_urls path) agree

-- a verdict stays true
rules_stay : (query : Query) (asks : List Ask) (ask : Ask) (v : Verdict) → Rules query asks v → Rules query (asks ++ ask ∷ []) v
rules_stay query asks ask v rules = record {
  ruling = λ path is.
      let same : chain_of (pages_of (asks ++ ask ∷ [])) path ≡ chain_of (pages_of asks) path =
      chain_agrees (pages_of asks) (pages_of (asks ++ ask ∷ [])) path (λ url among. pages_stay asks ask url (rules.asked url (subst (λ (p : Path). Among url p.urls) (sym is) among))) in
      subst (λ (texts : Texts). IsRuling v.answer (ToMerge (case_of texts query.anchor query.keys query.moment)) (IsValid (case_of texts query.anchor query.keys query.moment))) (sym same) (rules.ruling path is);
  asked = λ url among. subst (Among url) (sym (map-append url_of asks (ask ∷ []))) (among-left url (map url_of asks) (ask.url ∷ []) (rules.asked url among));
}

-- ---- flags

same_flag : (b known : Bool) (url other : List ℕ) (urls : List (List ℕ)) → bytes_eq url other ≡ b → Among other urls → list_any (bytes_eq url) urls ≡ known → (known || b) ≡ known
same_flag b true url other urls is among any = refl
same_flag true false url other urls is among any = absurd (both_ways (list_any (bytes_eq url) urls) (any-among url urls (subst (λ u. Among u urls) (sym (equal-bytes_eq url other is)) among)) any)
same_flag false false url other urls is among any = refl

asked_more : (pages : List PageAnswer) (x : PageAnswer) (url : List ℕ) → was_asked (pages ++ x ∷ []) url ≡ (was_asked pages url || bytes_eq url x.url)
asked_more pages x url = any_more (λ (a : PageAnswer). bytes_eq url a.url) pages x

-- ---- an answer more

module _ (aim : Aim) (query : Query) (start : Trace) (s : Searched) (needs : List Need) (p p2 : Point) (drives : Drives aim query start s needs p) (x : PageAnswer)
    (stays : (found : Findings) → Extends found s.pages → IsNextBy found s (want_of (page_of x))) (new : answer_to s.pages (page_of x) ≡ None)
    (reports : Reports aim (page_of x) p p2 x.answer) (moment : p2.trace.moment ≡ query.moment) where
  abbrev with_x : Searched
  with_x = record s { pages = s.pages ++ x ∷ [] }

  answered_more : (a : PageAnswer) → Among a with_x.pages → IsPageAnswer a.answer
  answered_more a among =
      ⊎_elim (λ old. drives.answered a old)
      (λ last. ⊎_elim (λ same. subst (λ (y : PageAnswer). IsPageAnswer y.answer) (sym same) reports.ok) (λ none. absurd none) last)
      (among-split a s.pages (x ∷ []) among)

  asked_before : (page : Need) (answer : Report) → answer_to s.pages page ≡ Some answer → Among page.url (map url_of p.search.asks)
  asked_before page answer gives = subst (Among page.url) (sym drives.asks) ((drives.follows).asked page answer gives)

  says : finding_in x.answer ≡ findings (pages_of p2.search.asks) query.moment (page_of x)
  says = reports.says ∙ ap (λ t. findings (pages_of p2.search.asks) t (page_of x)) drives.moment

  -- the answers still tell, where those of earlier pages do
  pages_tell : ((page : Need) (answer : Report) → answer_to s.pages page ≡ Some answer → IsPageAnswer answer → finding_in answer ≡ findings (pages_of p2.search.asks) query.moment page)
      → PagesTell query with_x p2.search.asks
  pages_tell old page answer gives ok =
      ⊎_elim (λ before. old page answer before ok)
      (λ same.
      let here : Some x.answer ≡ Some answer = sym (last-answer s.pages x new) ∙ sym (ap (answer_to with_x.pages) same) ∙ gives in
      let one : x.answer ≡ answer = cc here in
      subst (λ r. finding_in r ≡ findings (pages_of p2.search.asks) query.moment page) one
      (subst (λ (q : Need). finding_in x.answer ≡ findings (pages_of p2.search.asks) query.moment q) (sym same) says))
      (answer-split s.pages x page answer gives)

  -- the URL was asked before
  drives_again : AsksAgain (page_of x) p p2 → Drives aim query start with_x needs p2
  drives_again again =
      let asks : p2.search.asks ≡ p.search.asks = ap (λ (q : Search). q.asks) again.is in
      let known : Among x.url (map need_url needs) = subst (Among x.url) drives.asks again.asked in
      record {
        moment = moment;
        follows = follows-again s x needs drives.follows reports.ok stays new known;
        asks = ap (map url_of) asks ∙ drives.asks;
        pages = pages_tell (λ page answer gives ok. drives.pages page answer gives ok ∙ ap (λ l. findings (pages_of l) query.moment page) (sym asks));
        answered = answered_more;
        verdicts = λ v among. subst (λ l. Rules query l v) (sym asks) (drives.verdicts v among);
        flags = λ url.
            asked_more s.pages x url ∙ ap (λ b. b || bytes_eq url x.url) (drives.flags url)
            ∙ same_flag (bytes_eq url x.url) (list_any (bytes_eq url) (map url_of p.search.asks)) url x.url (map url_of p.search.asks) refl again.asked refl
            ∙ ap (λ l. list_any (bytes_eq url) (map url_of l)) (sym asks);
        calls =
            calls-more s.pages x
            ∙ ap (λ b. cond (not b && is_answered_call x.answer) (calls_in s.pages + 1) (calls_in s.pages)) (drives.flags x.url ∙ any-among x.url (map url_of p.search.asks) again.asked)
            ∙ drives.calls ∙ ap (λ (q : Search). q.calls) (sym again.is);
        few = subst (λ (q : Search). q.calls ≤ aim.bounds.calls) (sym again.is) drives.few;
        looks = again.looks ∙ drives.looks ∙ ap (λ l. looks_in start.events ++ looks_for aim.looks query.moment l) (sym asks);
        puts = again.puts ∙ drives.puts ∙ ap (λ l. puts_in start.events ++ puts_for query.moment aim.age needs l) (sym asks);
      }

  not_any : (b : Bool) (url : List ℕ) (urls : List (List ℕ)) → ¬ Among url urls → list_any (bytes_eq url) urls ≡ b → list_any (bytes_eq url) urls ≡ false
  not_any true url urls fresh is = absurd (fresh (among-any url urls is))
  not_any false url urls fresh is = is

  few_by : (call : Bool) (report : Report) (calls most : ℕ) → is_answered_call report ≡ call → FitsPage false calls most (Some report) → calls ≤ most → cond call (calls + 1) calls ≤ most
  few_by true (Good own Link) calls most is fits low = omega (arith, fits)
  few_by true (Good own Shelf) calls most is fits low = cc is
  few_by true (Useless Link) calls most is fits low = omega (arith, fits)
  few_by true (Useless Shelf) calls most is fits low = cc is
  few_by true Fault calls most is fits low = omega (arith, fits)
  few_by true Spent calls most is fits low = cc is
  few_by false report calls most is fits low = low

  -- the URL was asked now
  drives_now : AsksNow aim (page_of x) p p2 x.answer → Drives aim query start with_x (needs ++ page_of x ∷ []) p2
  drives_now now =
      let asks : p2.search.asks ≡ p.search.asks ++ now.ask ∷ [] = ap (λ (q : Search). q.asks) now.is in
      let fresh : ¬ Among x.url (map need_url needs) = λ known. now.fresh (subst (Among x.url) (sym drives.asks) known) in
      let urls : map url_of p2.search.asks ≡ map url_of p.search.asks ++ x.url ∷ [] = ap (map url_of) asks ∙ map-append url_of p.search.asks (now.ask ∷ []) ∙ ap (λ u. map url_of p.search.asks ++ u ∷ []) now.at in
      record {
        moment = moment;
        follows = follows-new s x needs drives.follows reports.ok stays new fresh;
        asks = urls ∙ ap (λ l. l ++ x.url ∷ []) drives.asks ∙ sym (map-append need_url needs (page_of x ∷ []));
        pages = pages_tell
            (λ page answer gives ok.
            drives.pages page answer gives ok ∙ sym (findings_stay p.search.asks now.ask query.moment page (asked_before page answer gives))
            ∙ ap (λ l. findings (pages_of l) query.moment page) (sym asks));
        answered = answered_more;
        verdicts = λ v among. subst (λ l. Rules query l v) (sym asks) (rules_stay query p.search.asks now.ask v (drives.verdicts v among));
        flags = λ url.
            asked_more s.pages x url ∙ ap (λ b. b || bytes_eq url x.url) (drives.flags url)
            ∙ sym (any_more (bytes_eq url) (map url_of p.search.asks) x.url) ∙ ap (list_any (bytes_eq url)) (sym urls);
        calls =
            calls-more s.pages x
            ∙ ap (λ b. cond (not b && is_answered_call x.answer) (calls_in s.pages + 1) (calls_in s.pages)) (drives.flags x.url ∙ not_any (list_any (bytes_eq x.url) (map url_of p.search.asks)) x.url (map url_of p.search.asks) now.fresh refl)
            ∙ ap (λ b. cond b (calls_in s.pages + 1) (calls_in s.pages)) now.called
            ∙ ap (λ n. one_if (is_call now.ask) n) drives.calls ∙ ap (λ (q : Search). q.calls) (sym now.is);
        few = subst (λ (q : Search). q.calls ≤ aim.bounds.calls) (sym now.is) (few_by (is_call now.ask) x.answer p.search.calls aim.bounds.calls now.called now.fits drives.few);
        looks =
            now.looks ∙ ap (λ l. l ++ if_looks aim.looks (look_for p.trace.moment now.ask)) drives.looks
            ∙ ap (λ t. (looks_in start.events ++ looks_for aim.looks query.moment p.search.asks) ++ if_looks aim.looks (look_for t now.ask)) drives.moment
            ∙ append_assoc (looks_in start.events) (looks_for aim.looks query.moment p.search.asks) (if_looks aim.looks (look_for query.moment now.ask))
            ∙ ap (λ l. looks_in start.events ++ l) (sym (looks_more aim.looks query.moment p.search.asks now.ask))
            ∙ ap (λ l. looks_in start.events ++ looks_for aim.looks query.moment l) (sym asks);
        puts =
            now.puts ∙ ap (λ l. l ++ cons_option (kept_of p.trace.moment aim.age (page_of x, now.ask)) []) drives.puts
            ∙ ap (λ t. (puts_in start.events ++ puts_for query.moment aim.age needs p.search.asks) ++ cons_option (kept_of t aim.age (page_of x, now.ask)) []) drives.moment
            ∙ append_assoc (puts_in start.events) (puts_for query.moment aim.age needs p.search.asks) (cons_option (kept_of query.moment aim.age (page_of x, now.ask)) [])
            ∙ ap (λ l. puts_in start.events ++ l) (sym (puts_more query.moment aim.age needs p.search.asks (page_of x) now.ask drives.asks))
            ∙ ap (λ l. puts_in start.events ++ puts_for query.moment aim.age (needs ++ page_of x ∷ []) l) (sym asks);
      }

  -- the round goes on with the answer
  pub drives-page : (more : List Need) × Drives aim query start with_x more p2
  drives-page = by_source reports.source
    where
      by_source : AsksAgain (page_of x) p p2 ⊎ AsksNow aim (page_of x) p p2 x.answer → (more : List Need) × Drives aim query start with_x more p2
      by_source (inl again) = (needs, drives_again again)
      by_source (inr now) = (needs ++ page_of x ∷ [], drives_now now)

-- ---- a verdict more

module _ (aim : Aim) (query : Query) (start : Trace) (s : Searched) (needs : List Need) (p : Point) (drives : Drives aim query start s needs p) where
  -- the round goes on with the verdict
  pub drives-verdict : (v : Verdict) → IsNoChain v.answer → ((found : Findings) → Extends found s.pages → IsNextBy found s (Judge v.path)) → Rules query p.search.asks v
      → Drives aim query start (record s { verdicts = s.verdicts ++ v ∷ [] }) needs p
  drives-verdict v none stays rules = record {
    moment = drives.moment;
    follows = follows-verdict s v needs drives.follows none stays;
    asks = drives.asks;
    pages = drives.pages;
    answered = drives.answered;
    verdicts = λ w among.
        ⊎_elim (λ old. drives.verdicts w old) (λ last. ⊎_elim (λ same. subst (Rules query p.search.asks) (sym same) rules) (λ none. absurd none) last) (among-split w s.verdicts (v ∷ []) among);
    flags = drives.flags;
    calls = drives.calls;
    few = drives.few;
    looks = drives.looks;
    puts = drives.puts;
  }

  -- tests leave it
  pub drives-tests : (now : Trace) → OnlyTests p.trace now → Drives aim query start s needs (point now p.search)
  drives-tests now tests = record {
    moment = tests.moment ∙ drives.moment;
    follows = drives.follows;
    asks = drives.asks;
    pages = drives.pages;
    answered = drives.answered;
    verdicts = drives.verdicts;
    flags = drives.flags;
    calls = drives.calls;
    few = drives.few;
    looks = tests.looks ∙ drives.looks;
    puts = tests.puts ∙ drives.puts;
  }
