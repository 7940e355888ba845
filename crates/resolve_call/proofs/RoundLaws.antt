-- The entity of a call that is alone has one round, to which the cache gives nothing.
use Rattle.std.proofs.Common.{◌≡◌, ◌<◌, ℕ, List, [], ◌∷◌, ◌++◌, map, Bool, true, false, cond, Some, refl, sym, ap, ◌∙◌, subst, inl, inr, arith}
use Rattle.std.specs.Prelude.{count_by}
use Rattle.std.proofs.lemmas.List.Sums.{sum_by-cons}
use Rattle.fed_ports.specs.declared.page.Page.{Page}
use Rattle.turn_log.specs.Gains.{calls_of}
use Rattle.turn_log.specs.Runs.{IsLegal, Runs}
use Rattle.turn_log.proofs.Gains.{calls_of-append}
use Rattle.turn_log.proofs.Steps.{runs_front}
use Rattle.chain_climb.specs.Elements.{Among, NoneTwice}
use Rattle.statement_shelf.specs.Entries.{part_count, part_of}
use Rattle.statement_shelf.specs.Shelf.{ShelfStep}
use Rattle.statement_shelf.specs.declared.calls.AnchorKeys.{AnchorKeys}
use Rattle.statement_shelf.specs.declared.calls.BookCall.TheVariants.{Read}
use Rattle.statement_shelf.specs.declared.calls.BookReply.{BookReply}
use Rattle.statement_shelf.specs.declared.calls.BookReply.TheVariants.{Keys, At, Rotated, Behind, NoAnchor, Memory}
use Rattle.statement_shelf.specs.declared.calls.Proven.{Proven}
use Rattle.statement_shelf.specs.declared.calls.ShelfCall.TheVariants.{Look}
use Rattle.statement_shelf.specs.declared.calls.ShelfReply.TheVariants as reply
use Rattle.statement_shelf.proofs.PutLaws.{hit-is-last-put}
use Rattle.resolve_reply.specs.declared.signer.Signer.{Signer}
use Rattle.resolve_round.specs.declared.trace.Ask.{Ask}
use Rattle.resolve_round.specs.declared.trace.Event.{Event}
use Rattle.resolve_round.specs.declared.trace.Event.TheVariants.{Book, Shelf}
use Rattle.resolve_round.specs.declared.trace.Got.{Got}
use Rattle.resolve_round.specs.declared.trace.Got.TheVariants.{Hit, Fetched, Fault}
use Rattle.resolve_round.specs.Courses.{Course, fetched, is_hit, url_of}
use Rattle.resolve_round.specs.Pages.{HasValidChain, Query}
use Rattle.resolve_round.specs.Rounds.{AreRounds, Round, good_in, pages_in}
use Rattle.resolve_round.specs.Traces.{Kept, ShelfEvent, look_for, looks_in, looks_of, put_in, puts_of, reply_before}
use Rattle.resolve_round.proofs.Elements.{among-filter_map, among-map}
use Rattle.resolve_round.proofs.RoundLaws.{asks-once}
use Rattle.resolve_round.proofs.ToldLaws.{look-there as look-among}
use Rattle.resolve_round.specs.Acts.{on_part}
use Rattle.fed_resolver.specs.declared.outcome.Outcome.{Outcome}
use Rattle.fed_resolver.specs.Told.{DidRound, DidRounds, SearchesAfter, Situation, ToldWhole, query_of}
use Rattle.fed_resolver.proofs.PartLaws.{put-fetched}
use Rattle.fed_resolver.proofs.ToldLaws.{looked-for}
use Rattle.resolve_call.specs.Alone.{HasOneRound, ResolvesAlone}
use Rattle.resolve_call.proofs.HitLaws.{among-calls, answered, calls-among, legal-part, look-there, not-none, put-among, put-told, put_event}

-- ---- asks

abbrev one_for : (Ask → Bool) → Ask → ℕ
one_for p ask = cond (p ask) 1 0

none-counted : (p : Ask → Bool) (asks : List Ask) → ((ask : Ask) → Among ask asks → p ask ≡ false) → count_by p asks ≡ 0
none-counted p [] none = refl
none-counted p (x ∷ asks) none =
    let first : one_for p x ≡ 0 = ap (λ b. cond b 1 0) (none x (inl refl)) in
    let rest = none-counted p asks (λ ask there. none ask (inr there)) in
    let sum = sum_by-cons (one_for p) x asks in
    omega (arith, first, rest, sum)

unhit-by : (url : List ℕ) (g : Got) → ((proven : Proven) → ¬ (g ≡ Hit proven)) → is_hit (record { url = url; got = g }) ≡ false
unhit-by url (Hit proven) none = absurd (none proven refl)
unhit-by url (Fetched page) none = refl
unhit-by url Fault none = refl

-- asks of one URL are one ask
same-ask : (asks : List Ask) → NoneTwice (map url_of asks) → (a b : Ask) → Among a asks → Among b asks → a.url ≡ b.url → a ≡ b
same-ask [] once a b here there same = absurd here
same-ask (x ∷ asks) once a b (inl p) (inl q) same = p ∙ sym q
same-ask (x ∷ asks) once a b (inl p) (inr q) same = absurd (once.0 (subst (λ u. Among u (map url_of asks)) (sym same ∙ ap url_of p) (among-map url_of b asks q)))
same-ask (x ∷ asks) once a b (inr p) (inl q) same = absurd (once.0 (subst (λ u. Among u (map url_of asks)) (same ∙ ap url_of q) (among-map url_of a asks p)))
same-ask (x ∷ asks) once a b (inr p) (inr q) same = same-ask asks once.1 a b p q same

not-both : (a b : Ask) (proven : Proven) (page : Page) → a ≡ b → a.got ≡ Hit proven → fetched b.got ≡ Some page → ⊥
not-both a b proven page same hit got = not-none {X = Page} page (sym (ap fetched (sym (ap (λ (x : Ask). x.got) same) ∙ hit)) ∙ got)

-- ---- the first round

module _ (here : Situation) (signer : Signer) (anchors : List AnchorKeys) (outcome : Outcome) (alone : ResolvesAlone here signer anchors outcome) (told : ToldWhole here outcome.trace) where
  module _ (query : Query) (course : Course) (round : Round query course) (looks : course.looks ≡ true) (own later : List Event) (split : told.base.work ≡ own ++ later)
      (did : DidRound here.moment here.age course own) where
    -- what it did on a part of the cache is legal from the empty part on
    own-legal : (p : ℕ) → p < part_count → IsLegal ShelfStep [] (calls_of (on_part p) own)
    own-legal p less =
        let all = legal-part here signer anchors outcome alone p less in
        let calls : calls_of (on_part p) outcome.trace.events ≡ calls_of (on_part p) own ++ calls_of (on_part p) later =
        ap (calls_of (on_part p)) (told.base.begins ∙ ap (λ w. Book (Read here.request.anchor) told.base.answer ∷ w) split) ∙ calls_of-append (on_part p) own later in
        runs_front ShelfStep [] (calls_of (on_part p) own) (calls_of (on_part p) later) all.0 (subst (λ l. Runs ShelfStep [] l all.0) calls all.1)

    -- a Hit would tell a text that the round itself had put, which it fetched by another ask of the same URL
    unhit : (ask : Ask) (proven : Proven) → Among ask course.search.asks → ¬ (ask.got ≡ Hit proven)
    unhit ask proven among got =
        let e : ShelfEvent = (Look ask.url here.moment, reply.Hit proven) in
        let is : look_for here.moment ask ≡ e = ap (λ (g : Got). (Look ask.url here.moment, reply_before g)) got in
        let wanted : Among e (looks_in own) = subst (Among e) (sym did.looks) (subst (λ x. Among x (looks_of here.moment course)) is (looked-for here.moment course ask looks among)) in
        let made : Among e (calls_of (on_part (part_of ask.url)) own) =
        calls-among (on_part (part_of ask.url)) (Shelf (Look ask.url here.moment) (reply.Hit proven)) e own (look-among own e wanted) (look-there ask.url e) in
        let legal = own-legal (part_of ask.url) (omega arith) in
        let at = answered (calls_of (on_part (part_of ask.url)) own) [] legal.0 e made legal.1 in
        let put = hit-is-last-put at.before at.part at.next ask.url here.moment proven at.run at.step in
        let there = at.inside (put_event ask.url proven.text put.0) (put-among ask.url at.before proven.text put.0 put.1) in
        let event = among-calls (on_part (part_of ask.url)) (put_event ask.url proven.text put.0) own there in
        let kept : Kept = record { url = ask.url; text = proven.text; until = put.0 } in
        let by_round : Among kept (puts_of here.moment here.age course) =
        subst (Among kept) did.puts (among-filter_map put_in event.0 kept (put-told (part_of ask.url) event.0 ask.url proven.text put.0 event.2) own event.1) in
        let fetch = put-fetched here.moment here.age query course round kept by_round in
        let once = asks-once query (good_in query course) (HasValidChain query (pages_in course)) course round in
        not-both ask fetch.ask proven fetch.page (same-ask course.search.asks once ask fetch.ask among fetch.asked (sym fetch.url)) got fetch.fetches

    zero-hits : course.search.hits ≡ 0
    zero-hits = round.counts.hits ∙ none-counted is_hit course.search.asks (λ ask among. unhit-by ask.url ask.got (λ proven got. unhit ask proven among got))

  by-rounds : (query : Query) (leaf others : List Course) → AreRounds query leaf → DidRounds here.moment here.age (leaf ++ others) told.base.work → HasOneRound leaf
  by-rounds query [] others rounds did = absurd rounds
  by-rounds query (only ∷ []) others rounds did = zero-hits query only rounds.0 rounds.1 did.0 did.1 did.2 did.3
  by-rounds query (first ∷ second ∷ []) others rounds did = absurd (rounds.2 (inr (zero-hits query first rounds.0 rounds.1 did.0 did.1 did.2 did.3)))
  by-rounds query (first ∷ second ∷ third ∷ rest) others rounds did = absurd rounds

  by-answer : (answer : BookReply) (leaf others : List Course) → SearchesAfter here answer leaf others → DidRounds here.moment here.age (leaf ++ others) told.base.work → HasOneRound leaf
  by-answer (Keys epoch set) leaf others searches did = by-rounds (query_of here set.keys) leaf others searches.rounds did
  by-answer (At n) leaf others none did = subst HasOneRound (sym none.0) tt
  by-answer (Rotated n) leaf others none did = subst HasOneRound (sym none.0) tt
  by-answer (Behind n) leaf others none did = subst HasOneRound (sym none.0) tt
  by-answer NoAnchor leaf others none did = subst HasOneRound (sym none.0) tt
  by-answer Memory leaf others none did = subst HasOneRound (sym none.0) tt

  pub one-round : HasOneRound told.base.leaf
  one-round = by-answer told.base.answer told.base.leaf told.base.others told.base.rounds told.did
