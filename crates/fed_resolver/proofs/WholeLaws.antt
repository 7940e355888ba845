-- A trace that is told whole, from what its rounds have added.
use Rattle.std.proofs.Common.{◌≡◌, ℕ, zero, suc, List, [], ◌∷◌, ◌++◌, length, map, Option, Some, None, Result, Ok, Err, refl, sym, ap, ap₂, ◌∙◌, subst, ⊎_elim, append-nil, arith}
use Rattle.std.specs.Prelude.{slice_get}
use Rattle.std.specs.Option.{option_map_or}
use Rattle.std.proofs.lemmas.List.{append_cancel_left, map-append}
use Rattle.jwk_set.specs.declared.set.JwkSet.{JwkSet}
use Rattle.entity_statement.specs.Claims.{Claims, Identifier}
use Rattle.chain_climb.specs.declared.want.End.{End}
use Rattle.chain_climb.specs.declared.want.End.TheVariants as end
use Rattle.chain_climb.specs.declared.path.Path.{Path}
use Rattle.chain_climb.specs.Elements.{Among}
use Rattle.chain_climb.proofs.Elements.{among-split}
use Rattle.statement_shelf.specs.declared.calls.BookCall.TheVariants.{Read}
use Rattle.statement_shelf.specs.declared.calls.BookReply.TheVariants.{Keys}
use Rattle.statement_shelf.specs.Passes.{CommonsKnown}
use Rattle.resolve_reply.specs.declared.signer.Signer.{Signer}
use Rattle.resolve_reply.specs.declared.reply.Reply.{Reply}
use Rattle.resolve_reply.specs.Bounds.{bounds_for}
use Rattle.resolve_reply.specs.Marks.{searched_issuers}
use Rattle.resolve_round.specs.declared.request.ResolveRequest.{ResolveRequest}
use Rattle.resolve_round.specs.declared.trace.Event.{Event}
use Rattle.resolve_round.specs.declared.trace.Event.TheVariants.{Book}
use Rattle.resolve_round.specs.declared.trace.Search.{Search}
use Rattle.resolve_round.specs.declared.trace.Trace.{Trace}
use Rattle.resolve_round.specs.Courses.{Course, Stop, finished, found, out_of_calls, out_of_paths, search_of}
use Rattle.resolve_round.specs.Pages.{Pages, Query}
use Rattle.resolve_round.specs.Rounds.{AreRounds, AreRoundsForEach, EndsAs, FoundPath, IsLast, Round, pages_in}
use Rattle.resolve_round.specs.Told.{IsTrueSoFar, ProvesGood}
use Rattle.resolve_round.specs.Traces.{IsWork}
use Rattle.resolve_search.specs.declared.round.RoundEnd.{RoundEnd}
use Rattle.resolve_search.specs.Turning.{query_at}
use Rattle.fed_resolver.specs.declared.outcome.Refusal.{Refusal}
use Rattle.fed_resolver.specs.declared.outcome.Refusal.TheVariants.{NoAnchor, NotFound, PolicyOnly, NoChain, Unavailable, Budget, Worn, Memory}
use Rattle.fed_resolver.specs.Calls.{WornOnly}
use Rattle.fed_resolver.specs.Going.{AddsCourses, HasLeafRounds, HasRounds, IsBegun, first_aim, last_search}
use Rattle.fed_resolver.specs.Outcomes.{IsAnswered, IsResult, IsWhole, asked_query}
use Rattle.fed_resolver.specs.Refusals.{WholeBy, outcome_of, refused_by}
use Rattle.fed_resolver.specs.Searches.{Ends, both_ends, ends_of, first_text_of, if_found, issuers_after, marks_tested, said_in, text_by}
use Rattle.fed_resolver.specs.Stretches.{SameKeys}
use Rattle.fed_resolver.specs.Told.{DidRounds, Situation, ToldSearches, ToldWhole, query_of, situation_of}
use Rattle.fed_resolver.specs.Uses.{CountsAll, CountsTests}
use Rattle.fed_resolver.proofs.CourseLaws.{adds-none, did-then}
use Rattle.fed_base.specs.Counts.{counted}

-- ---- the last round

pub round-last : (query : Query) (courses : List Course) (last : Course) → AreRounds query courses → IsLast courses last → Round query last
round-last query [] last rounds is = absurd rounds
round-last query (only ∷ []) last rounds is = let same : only ≡ last = cc is in subst (Round query) same rounds.0
round-last query (first ∷ second ∷ []) last rounds is = let same : second ≡ last = cc is in subst (Round query) same rounds.3
round-last query (first ∷ second ∷ third ∷ rest) last rounds is = absurd rounds

last-at : (x : Search) (xs : List Search) → slice_get (x ∷ xs) (length xs) ≡ last_search (x ∷ xs)
last-at x xs = ap (slice_get (x ∷ xs)) (omega arith)

pub last-told : (courses : List Course) (last : Course) → IsLast courses last → last_search (map search_of courses) ≡ Some last.search
last-told [] last is = cc is
last-told (course ∷ []) last is = let same : course ≡ last = cc is in ap (λ (c : Course). Some c.search) same
last-told (course ∷ next ∷ courses) last is =
    sym (last-at course.search (next.search ∷ map search_of courses)) ∙ last-at next.search (map search_of courses) ∙ last-told (next ∷ courses) last is

-- ---- the leaf's rounds

module _ (request : ResolveRequest) (signer : Signer) (t : ℕ) (old new : Trace) (begun : IsBegun (situation_of request signer t) old) (same : SameKeys old new) (more : List Event) (events : new.events ≡ old.events ++ more)
    (works : (event : Event) → Among event more → IsWork event) (end : RoundEnd) (has : HasRounds (first_aim request.sub request.anchor signer) old new end) where
  pub begins-with : new.events ≡ Book (Read request.anchor) (Keys new.epoch new.keys) ∷ more
  begins-with =
      events ∙ ap (λ l. l ++ more) begun.events ∙ ap₂ (λ n k. Book (Read request.anchor) (Keys n k) ∷ more) (sym same.epoch) (sym same.keys)

  pub leaf-query : query_at (first_aim request.sub request.anchor signer) old ≡ asked_query (situation_of request signer t) new
  leaf-query =
      ap₂ (λ (k : JwkSet) m. record { entity = request.sub; anchor = request.anchor; keys = k.keys; moment = m; bounds = bounds_for signer.bounds request.anchor }) (sym same.keys) begun.moment

  abbrev pub leaf_rounds : HasLeafRounds (situation_of request signer t) new
  leaf_rounds = record {
    moment = same.moment ∙ begun.moment;
    bounds = same.bounds ∙ begun.bounds;
    work = more;
    begins = begins-with;
    works = works;
    leaf = has.courses;
    searches = has.added.searches ∙ ap (λ l. l ++ map search_of has.courses) begun.searches;
    did = subst (DidRounds t signer.age has.courses) (append_cancel_left old.events has.added.more more (sym has.added.events ∙ events))
        (subst (λ m. DidRounds m signer.age has.courses has.added.more) begun.moment has.added.did);
    rounds = subst (λ q. AreRounds q has.courses) leaf-query has.are;
    last = has.last;
    is_last = has.is_last;
    last_round = round-last (asked_query (situation_of request signer t) new) has.courses has.last (subst (λ q. AreRounds q has.courses) leaf-query has.are) has.is_last;
  }

-- ---- the whole trace

module _ (here : Situation) (mid new : Trace) (leaf : HasLeafRounds here mid) (same : SameKeys mid new) (more : List Event) (events : new.events ≡ mid.events ++ more)
    (works : (event : Event) → Among event more → IsWork event) (told : IsTrueSoFar here.age new) (good : ProvesGood new) (others : List Course) (added : AddsCourses here.age others mid new)
    (issuers : AreRoundsForEach (asked_query here mid) (issuers_after (asked_query here mid) leaf.last) others) where
  pub whole-begins : new.events ≡ Book (Read here.request.anchor) (Keys new.epoch new.keys) ∷ (leaf.work ++ more)
  whole-begins =
      events ∙ ap (λ l. l ++ more) leaf.begins ∙ ap₂ (λ n k. Book (Read here.request.anchor) (Keys n k) ∷ (leaf.work ++ more)) (sym same.epoch) (sym same.keys)

  pub whole-query : asked_query here mid ≡ asked_query here new
  whole-query = ap (λ (k : JwkSet). query_of here k.keys) (sym same.keys)

  pub whole-did : DidRounds here.moment here.age (leaf.leaf ++ others) (leaf.work ++ more)
  whole-did = did-then here.moment here.age leaf.leaf others leaf.work more leaf.did
      (subst (DidRounds here.moment here.age others) (append_cancel_left mid.events added.more more (sym added.events ∙ events))
      (subst (λ m. DidRounds m here.age others added.more) leaf.moment added.did))

  abbrev whole_base : ToldSearches here new
  whole_base = record {
    moment = same.moment ∙ leaf.moment;
    bounds = same.bounds ∙ leaf.bounds;
    answer = Keys new.epoch new.keys;
    work = leaf.work ++ more;
    begins = whole-begins;
    works = λ event among. ⊎_elim (λ front. leaf.works event front) (λ back. works event back) (among-split event leaf.work more among);
    keys = (refl, refl);
    leaf = leaf.leaf;
    others = others;
    searches = added.searches ∙ ap (λ l. l ++ map search_of others) leaf.searches ∙ sym (map-append search_of leaf.leaf others);
    rounds = record {
      rounds = subst (λ q. AreRounds q leaf.leaf) whole-query leaf.rounds;
      last = leaf.last;
      is_last = leaf.is_last;
      issuers = subst (λ q. AreRoundsForEach q (issuers_after q leaf.last) others) whole-query issuers;
    };
    checks = told.checks;
  }

  abbrev pub whole_told : ToldWhole here new
  whole_told = record { base = whole_base; did = whole-did; proved = good; proves = told.proves }

-- ---- a refusal

said-by-stop : (stop : Stop) (said : Option Claims) → ((path : Path) → ¬ (stop ≡ found path)) → if_found stop said ≡ None
said-by-stop (found path) said none = absurd (none path refl)
said-by-stop finished said none = refl
said-by-stop (out_of_calls page) said none = refl
said-by-stop (out_of_paths path) said none = refl

pub said-none : (query : Query) (last : Course) (entity : Identifier) → ¬ FoundPath last → said_in query last entity ≡ None
said-none query last entity none = said-by-stop last.stop _ (λ path is. none (path, is))

text-by-stop : (pages : Pages) (stop : Stop) → ((path : Path) → ¬ (stop ≡ found path)) → text_by pages stop ≡ None
text-by-stop pages (found path) none = absurd (none path refl)
text-by-stop pages finished none = refl
text-by-stop pages (out_of_calls page) none = refl
text-by-stop pages (out_of_paths path) none = refl

pub no-text : (last : Course) → ¬ FoundPath last → first_text_of last ≡ None
unfolding first_text_of
no-text last none = text-by-stop (pages_in last) last.stop (λ path is. none (path, is))

no-ends : (query : Query) (last : Course) → ¬ FoundPath last → ends_of query last ≡ None
no-ends query last none =
    ap (λ o. both_ends o (said_in query last query.anchor)) (said-none query last query.entity none)

pub no-issuers : (query : Query) (last : Course) → ¬ FoundPath last → issuers_after query last ≡ []
no-issuers query last none = ap (λ o. option_map_or (λ (e : Ends). searched_issuers e.leaf.marks e.anchor) o []) (no-ends query last none)

pub no-tests : (query : Query) (leaf others : List Course) (last : Course) → IsLast leaf last → ¬ FoundPath last → marks_tested query leaf others ≡ 0
unfolding marks_tested
no-tests query leaf others last is none = rw (is, no-ends query last none) refl

module _ (here : Situation) (signer : Signer) (new : Trace) (leaf : HasLeafRounds here new) (told : IsTrueSoFar here.age new) (good : ProvesGood new) (none : ¬ FoundPath leaf.last) where
  still : SameKeys new new
  still = record { moment = refl; epoch = refl; keys = refl; bounds = refl }

  no-rounds : AreRoundsForEach (asked_query here new) (issuers_after (asked_query here new) leaf.last) []
  no-rounds = subst (λ ids. AreRoundsForEach (asked_query here new) ids []) (sym (no-issuers (asked_query here new) leaf.last none)) refl

  abbrev refused_told : ToldWhole here new
  refused_told = whole_told here new new leaf still [] (sym (append-nil new.events)) (λ event among. absurd among) told good [] (adds-none here.age new) no-rounds

  refused-result : (ended : End) (faults : ℕ) → (leaf.last).search.faults ≡ faults → EndsAs (asked_query here new) leaf.last ended → IsResult here signer new refused_told (Err (refused_by ended faults))
  refused-result ended (suc faults) are ends = record { last = leaf.last; is_last = leaf.is_last; no_path = none; fault = λ zero_faults. let bad : suc faults ≡ 0 = sym are ∙ zero_faults in cc bad }
  refused-result (end.Found path) zero are ends = absurd (none (ends.0, ends.1))
  refused-result end.NoLeaf zero are ends = record { last = leaf.last; is_last = leaf.is_last; no_fault = λ had. had are; ends = ends }
  refused-result end.PolicyOnly zero are ends = record { last = leaf.last; is_last = leaf.is_last; no_fault = λ had. had are; ends = ends }
  refused-result end.NoChain zero are ends = record { last = leaf.last; is_last = leaf.is_last; no_fault = λ had. had are; ends = ends }
  refused-result (end.Budget calls paths) zero are ends = record { last = leaf.last; is_last = leaf.is_last; no_fault = λ had. had are; ends = ends }

  pub refused-all : (ended : End) (faults : ℕ) → (leaf.last).search.faults ≡ faults → EndsAs (asked_query here new) leaf.last ended → (before now : ℕ) → now ≡ counted (length new.checks) before
      → CountsAll here signer (outcome_of (Err (refused_by ended faults)) new) before now
  refused-all ended faults are ends before now count = record {
    whole = record { told = refused_told; result = refused-result ended faults are ends };
    count =
        let none_tested = no-tests (asked_query here new) leaf.leaf [] leaf.last leaf.is_last none in
        count ∙ ap (λ n. counted n before) (omega (arith, none_tested));
  }

pub refused-answered : (ended : End) (faults : ℕ) → IsAnswered (Err (refused_by ended faults))
refused-answered ended (suc faults) = tt
refused-answered (end.Found path) zero = tt
refused-answered end.NoLeaf zero = tt
refused-answered end.PolicyOnly zero = tt
refused-answered end.NoChain zero = tt
refused-answered (end.Budget calls paths) zero = tt

pub refused-unworn : (known : CommonsKnown) (ended : End) (faults : ℕ) → WornOnly known (Err (refused_by ended faults))
refused-unworn known ended (suc faults) = tt
refused-unworn known (end.Found path) zero = tt
refused-unworn known end.NoLeaf zero = tt
refused-unworn known end.PolicyOnly zero = tt
refused-unworn known end.NoChain zero = tt
refused-unworn known (end.Budget calls paths) zero = tt

-- ---- by the result

pub whole-by : (here : Situation) (signer : Signer) (trace : Trace) (result : Result Reply Refusal) → IsAnswered result → IsWhole here signer (outcome_of result trace) → WholeBy here signer trace result
whole-by here signer trace (Ok reply) answered whole = whole
whole-by here signer trace (Err NoAnchor) answered whole = whole
whole-by here signer trace (Err NotFound) answered whole = whole
whole-by here signer trace (Err PolicyOnly) answered whole = whole
whole-by here signer trace (Err NoChain) answered whole = whole
whole-by here signer trace (Err Unavailable) answered whole = whole
whole-by here signer trace (Err (Budget calls paths)) answered whole = whole
whole-by here signer trace (Err (Worn count)) answered whole = absurd answered
whole-by here signer trace (Err Memory) answered whole = absurd answered

pub counts-by : (here : Situation) (signer : Signer) (trace : Trace) (result : Result Reply Refusal) (before now : ℕ) → IsAnswered result → CountsAll here signer (outcome_of result trace) before now
    → CountsTests here signer (outcome_of result trace) result before now
counts-by here signer trace (Ok reply) before now answered all = all
counts-by here signer trace (Err NoAnchor) before now answered all = all
counts-by here signer trace (Err NotFound) before now answered all = all
counts-by here signer trace (Err PolicyOnly) before now answered all = all
counts-by here signer trace (Err NoChain) before now answered all = all
counts-by here signer trace (Err Unavailable) before now answered all = all
counts-by here signer trace (Err (Budget calls paths)) before now answered all = all
counts-by here signer trace (Err (Worn count)) before now answered all = absurd answered
counts-by here signer trace (Err Memory) before now answered all = absurd answered
