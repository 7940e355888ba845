-- What rounds add to a trace, and which rounds an entity has.
use Rattle.std.proofs.Common.{◌≡◌, ◌-◌, ℕ, List, [], ◌∷◌, ◌++◌, length, map, flat_map, Bool, true, false, ◌||◌, nat_eq, is_some, Option, Some, None, refl, sym, ap, ap₂, ◌∙◌, subst, inl, inr, append-nil, append_assoc, length-append, eq-eqb, eqb-true, true≢false, arith}
use Rattle.std.specs.Prelude.{slice_get}
use Rattle.std.proofs.lemmas.List.{append_cancel_left, map-append}
use Rattle.std.proofs.lemmas.List.Elements.{filter_map-append}
use Rattle.jwk_set.specs.declared.set.JwkSet.{JwkSet}
use Rattle.resolve_round.specs.declared.trace.Event.{Event}
use Rattle.resolve_round.specs.declared.trace.Search.{Search}
use Rattle.resolve_round.specs.declared.trace.Trace.{Trace}
use Rattle.resolve_round.specs.Courses.{Course, search_of}
use Rattle.resolve_round.specs.Pages.{Query}
use Rattle.resolve_round.specs.Rounds.{EndsAs, Round, Settles}
use Rattle.resolve_round.specs.Traces.{look_in, looks_in, looks_of, put_in, puts_in, puts_of}
use Rattle.resolve_round.specs.declared.aim.Aim.{Aim}
use Rattle.resolve_search.specs.declared.round.FoundChain.{FoundChain}
use Rattle.resolve_search.specs.declared.round.RoundEnd.{RoundEnd}
use Rattle.resolve_search.specs.Turning.{HasRound, IsChain, SameBut, query_at}
use Rattle.fed_resolver.specs.Going.{AddsCourses, HasRounds, hits_in, is_settled, last_search}
use Rattle.fed_resolver.specs.Told.{DidRounds}

-- ---- what is added

pub adds-none : (age : ℕ) (t : Trace) → AddsCourses age [] t t
adds-none age t = record { searches = sym (append-nil t.searches); more = []; events = sym (append-nil t.events); did = refl }

pub adds-one : (aim : Aim) (old new : Trace) (end : RoundEnd) (has : HasRound aim old new end) (more : List Event) → new.events ≡ old.events ++ more
    → AddsCourses aim.age (has.ends.course ∷ []) old new
adds-one aim old new end has more events = record {
  searches = has.added ∙ ap (λ s. old.searches ++ s ∷ []) (sym has.ends.is);
  more = more;
  events = events;
  did = (
    more,
    [],
    sym (append-nil more),
    record {
      looks = append_cancel_left (looks_in old.events) (looks_in more) (looks_of old.moment has.ends.course)
          (sym (filter_map-append look_in old.events more) ∙ sym (ap looks_in events) ∙ has.ends.looks);
      puts = append_cancel_left (puts_in old.events) (puts_in more) (puts_of old.moment aim.age has.ends.course)
          (sym (filter_map-append put_in old.events more) ∙ sym (ap puts_in events) ∙ has.ends.puts);
    },
    refl,
  );
}

-- what some rounds did, and then others
pub did-then : (t age : ℕ) (xs ys : List Course) (a b : List Event) → DidRounds t age xs a → DidRounds t age ys b → DidRounds t age (xs ++ ys) (a ++ b)
did-then t age [] ys a b none two = subst (λ l. DidRounds t age ys (l ++ b)) (sym none) two
did-then t age (x ∷ xs) ys a b (own, later, split, one, rest) two =
    (own, later ++ b, ap (λ l. l ++ b) split ∙ append_assoc own later b, one, did-then t age xs ys later b rest two)

pub adds-then : (age : ℕ) (xs ys : List Course) (a b c : Trace) → b.moment ≡ a.moment → AddsCourses age xs a b → AddsCourses age ys b c → AddsCourses age (xs ++ ys) a c
adds-then age xs ys a b c same one two = record {
  searches = two.searches ∙ ap (λ l. l ++ map search_of ys) one.searches ∙ append_assoc a.searches (map search_of xs) (map search_of ys)
      ∙ ap (λ l. a.searches ++ l) (sym (map-append search_of xs ys));
  more = one.more ++ two.more;
  events = two.events ∙ ap (λ l. l ++ two.more) one.events ∙ append_assoc a.events one.more two.more;
  did = did-then a.moment age xs ys one.more two.more one.did (subst (λ m. DidRounds m age ys two.more) same two.did);
}

-- ---- all that was looked up and put

pub did-looks : (t age : ℕ) (courses : List Course) (events : List Event) → DidRounds t age courses events → looks_in events ≡ flat_map (looks_of t) courses
did-looks t age [] events none = ap looks_in none
did-looks t age (course ∷ courses) events (own, later, split, one, rest) =
    ap looks_in split ∙ filter_map-append look_in own later ∙ ap₂ (λ a b. a ++ b) one.looks (did-looks t age courses later rest)

pub did-puts : (t age : ℕ) (courses : List Course) (events : List Event) → DidRounds t age courses events → puts_in events ≡ flat_map (puts_of t age) courses
did-puts t age [] events none = ap puts_in none
did-puts t age (course ∷ courses) events (own, later, split, one, rest) =
    ap puts_in split ∙ filter_map-append put_in own later ∙ ap₂ (λ a b. a ++ b) one.puts (did-puts t age courses later rest)

-- ---- the last round

last-item : {X : Type 0} (xs : List X) (x : X) → slice_get (xs ++ x ∷ []) (length xs) ≡ Some x
last-item [] x = refl
last-item (y ∷ xs) x = last-item xs x

pub last-added : (old new : List Search) (search : Search) → new ≡ old ++ search ∷ [] → last_search new ≡ Some search
last-added old new search is =
    let n = ap length is in
    let m = length-append old (search ∷ []) in
    let place : length new - 1 ≡ length old = omega (arith, n, m) in
    ap (slice_get new) place ∙ ap (λ l. slice_get l (length old)) is ∙ last-item old search

pub same-query : (aim : Aim) (old new : Trace) → new.moment ≡ old.moment → new.keys ≡ old.keys → query_at aim new ≡ query_at aim old
same-query aim old new moment keys =
    ap₂ (λ ks m. record { entity = aim.leaf; anchor = aim.anchor; keys = ks; moment = m; bounds = aim.bounds }) (ap (λ (k : JwkSet). k.keys) keys) moment

-- ---- one round, or two

or-left : (a b : Bool) → (a || b) ≡ false → a ≡ false
or-left true b is = is
or-left false b is = refl

or-right : (a b : Bool) → (a || b) ≡ false → b ≡ false
or-right true b is = absurd (true≢false is)
or-right false b is = is

or-either : (a b : Bool) → (a || b) ≡ true → a ≡ false → b ≡ true
or-either true b is not_so = absurd (true≢false not_so)
or-either false b is not_so = is

settled-by : (query : Query) (trace : Trace) (course : Course) (chain : Option FoundChain) (hits : ℕ) → IsChain query trace course chain → course.search.hits ≡ hits → (is_some chain || nat_eq hits 0) ≡ true → Settles course
settled-by query trace course None hits none same is = inr (same ∙ eqb-true hits 0 is)
settled-by query trace course (Some chain) hits (path, stop, is_found) same is = inl (path, stop)

unsettled-by : (query : Query) (trace : Trace) (course : Course) (chain : Option FoundChain) (hits : ℕ) → IsChain query trace course chain → course.search.hits ≡ hits → (is_some chain || nat_eq hits 0) ≡ false → ¬ Settles course
unsettled-by query trace course None hits none same is (inl path) = none path
unsettled-by query trace course None hits none same is (inr zero_hits) = true≢false (sym (eq-eqb hits 0 (sym same ∙ zero_hits)) ∙ is)
unsettled-by query trace course (Some chain) hits chain_is same is settles = true≢false is

module _ (aim : Aim) (looks : aim.looks ≡ true) (old mid : Trace) (first : RoundEnd) (one : HasRound aim old mid first) (own : List Event) (events : mid.events ≡ old.events ++ own) where
  hits-are : (one.ends.course).search.hits ≡ hits_in (last_search mid.searches)
  hits-are = ap (λ (s : Search). s.hits) one.ends.is ∙ sym (ap hits_in (last-added old.searches mid.searches one.search one.added))

  pub rounds-settled : is_settled first mid.searches ≡ true → HasRounds aim old mid first
  rounds-settled is = record {
    courses = one.ends.course ∷ [];
    added = adds-one aim old mid first one own events;
    are = (one.ends.round, one.ends.looked ∙ looks, settled-by (query_at aim old) mid one.ends.course first.chain (hits_in (last_search mid.searches)) one.ends.chain hits-are is);
    last = one.ends.course;
    is_last = refl;
    ends = one.ends.ends;
    chain = one.ends.chain;
  }

  module _ (again : Aim) (is_again : again ≡ record aim { looks = false }) (same : SameBut old mid) (new : Trace) (end : RoundEnd) (two : HasRound again mid new end) (later : List Event)
      (after : new.events ≡ mid.events ++ later) where
    query : query_at again mid ≡ query_at aim old
    query = ap (λ (a : Aim). query_at a mid) is_again ∙ same-query aim old mid same.moment same.keys

    unlooked : again.looks ≡ false
    unlooked = ap (λ (a : Aim). a.looks) is_again

    pub rounds-again : is_settled first mid.searches ≡ false → HasRounds aim old new end
    rounds-again is = record {
      courses = one.ends.course ∷ two.ends.course ∷ [];
      added = adds-then aim.age (one.ends.course ∷ []) (two.ends.course ∷ []) old mid new same.moment (adds-one aim old mid first one own events)
          (subst (λ n. AddsCourses n (two.ends.course ∷ []) mid new) (ap (λ (a : Aim). a.age) is_again) (adds-one again mid new end two later after));
      are = (
        one.ends.round,
        one.ends.looked ∙ looks,
        unsettled-by (query_at aim old) mid one.ends.course first.chain (hits_in (last_search mid.searches)) one.ends.chain hits-are is,
        subst (λ q. Round q two.ends.course) query two.ends.round,
        two.ends.looked ∙ unlooked,
        ap (λ (s : Search). s.hits) two.ends.is ∙ two.ends.unhit unlooked,
      );
      last = two.ends.course;
      is_last = refl;
      ends = subst (λ q. EndsAs q two.ends.course end.end) query two.ends.ends;
      chain = subst (λ q. IsChain q new two.ends.course end.chain) query two.ends.chain;
    }
