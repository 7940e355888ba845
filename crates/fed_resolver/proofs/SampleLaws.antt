-- Whole outcomes of calls.
use Rattle.std.proofs.Common.{◌≡◌, ◌<◌, ◌≤◌, None, ℕ, zero, suc, List, [], ◌∷◌, true, Some, refl, sym, ap, ◌∙◌, subst, inl, inr, ⊎_elim, arith}
use Rattle.std.specs.Prelude.{slice_index_or}
use Rattle.std.specs.Option.{option_and_then}
use Rattle.jwk_set.specs.declared.set.JwkSet.{JwkSet}
use Rattle.fed_json.proofs.Order.{bytes_eq-itself}
use Rattle.sealed.specs.Seals.{Pair}
use Rattle.entity_id.specs.Urls.{well_known_of}
use Rattle.entity_statement.specs.Claims.{Identifier}
use Rattle.chain_climb.specs.declared.want.Bounds.{Bounds}
use Rattle.chain_climb.specs.Elements.{Among}
use Rattle.fed_ports.specs.declared.page.Page.TheVariants.{Document}
use Rattle.statement_shelf.specs.declared.calls.ShelfCall.TheVariants.{Look, Put, Prove}
use Rattle.statement_shelf.specs.declared.calls.ShelfReply.{ShelfReply}
use Rattle.statement_shelf.specs.declared.calls.ShelfReply.TheVariants as reply
use Rattle.statement_shelf.specs.declared.calls.BookCall.TheVariants.{Read}
use Rattle.statement_shelf.specs.declared.calls.BookReply.{BookReply}
use Rattle.statement_shelf.specs.declared.calls.BookReply.TheVariants.{Keys, NoAnchor}
use Rattle.statement_shelf.specs.declared.calls.BookCall.{BookCall}
use Rattle.chain_check.specs.Chains.{statements_of}
use Rattle.chain_check.specs.Judging.{seal_keys, seal_place}
use Rattle.chain_check.specs.Validity.{IsValid, case_of}
use Rattle.chain_check.specs.Verdicts.{least_exp}
use Rattle.chain_climb.specs.Climbs.{Findings, add, alone, climb, climb_from, configuration_of, judge, need}
use Rattle.resolve_round.specs.declared.trace.Check.{Check}
use Rattle.resolve_round.specs.declared.trace.Event.{Event}
use Rattle.resolve_round.specs.declared.trace.Event.TheVariants.{Shelf, Book}
use Rattle.resolve_round.specs.declared.trace.Got.TheVariants.{Fetched}
use Rattle.resolve_round.specs.declared.request.ResolveRequest.{ResolveRequest}
use Rattle.resolve_reply.specs.declared.signer.Signer.{Signer}
use Rattle.resolve_round.specs.declared.trace.Trace.{Trace}
use Rattle.resolve_round.specs.Courses.{Course, pages_of}
use Rattle.resolve_reply.specs.Marks.{each_named, looked_at, searched_issuers}
use Rattle.resolve_round.proofs.WordLaws.{statement-words}
use Rattle.fed_resolver.proofs.IssuedLaws.{issuer-chain}
use Rattle.fed_resolver.specs.Searches.{ends_of}
use Rattle.fed_resolver.specs.Outcomes.{IsWhole}
use Rattle.resolve_round.specs.Pages.{HasValidChain, Query, chain_of, findings, good_text}
use Rattle.resolve_round.specs.Rounds.{Round, good_in, pages_in}
use Rattle.fed_resolver.specs.Samples.{IsSelf, refused_course, refused_outcome, self_course, self_outcome, self_situation, self_work, unlisted_outcome}
use Rattle.resolve_round.specs.Told.{IsCheck, IsProved, Obtained, ShownSealed, TestedGood}
use Rattle.fed_resolver.specs.Told.{Situation, query_of}
use Rattle.resolve_round.specs.Traces.{IsWork, kept_of}

refused-good : (query : Query) → good_in query (refused_course query.entity) (configuration_of query.entity) ≡ None
unfolding findings pages_of
refused-good query = rw (bytes_eq-itself (well_known_of query.entity)) refl

refused-round : (query : Query) → 1 ≤ query.bounds.calls → Round query (refused_course query.entity)
unfolding climb
refused-round query room = record {
  leaf = refl;
  taken = need (configuration_of query.entity) ∷ [];
  left = [];
  steps = rw (refused-good query) refl;
  stops = tt;
  needs = refl;
  asks = refl;
  invalid = λ path among. absurd among;
  counts = record { hits = refl; faults = refl; calls = refl };
  paths = refl;
  few_calls = room;
  few_paths = omega arith;
  ended = refl;
}

one-work : (event only : Event) → IsWork only → Among event (only ∷ []) → IsWork event
one-work event only work among = ⊎_elim (λ same. subst IsWork (sym same) work) (λ none. absurd none) among

no_prove-book : (url : List ℕ) (seal : Pair) (r : ShelfReply) (call : BookCall) (answer : BookReply) → Shelf (Prove url seal) r ≡ Book call answer → ⊥
no_prove-book url seal r call answer same = cc

no_prove-look : (url : List ℕ) (seal : Pair) (r : ShelfReply) (at : List ℕ) (moment : ℕ) (s : ShelfReply) → Shelf (Prove url seal) r ≡ Shelf (Look at moment) s → ⊥
no_prove-look url seal r at moment s same = cc

no_prove-put : (url : List ℕ) (seal : Pair) (r : ShelfReply) (at text : List ℕ) (until : ℕ) (s : ShelfReply) → Shelf (Prove url seal) r ≡ Shelf (Put at text until) s → ⊥
no_prove-put url seal r at text until s same = cc

-- a leaf that refuses its configuration isn't found
pub refused-whole : (here : Situation) (signer : Signer) (epoch : ℕ) (set : JwkSet) → 1 ≤ here.bounds.calls → IsWhole here signer (refused_outcome here epoch set)
refused-whole here signer epoch set room =
    let query : Query = query_of here set.keys in
    record {
      told = record {
        base = record {
          moment = refl;
          bounds = refl;
          answer = Keys epoch set;
          work = Shelf (Look (well_known_of here.request.sub) here.moment) reply.Miss ∷ [];
          begins = refl;
          works = λ event among. one-work event (Shelf (Look (well_known_of here.request.sub) here.moment) reply.Miss) tt among;
          keys = (refl, refl);
          leaf = refused_course here.request.sub ∷ [];
          others = [];
          searches = refl;
          rounds = record { rounds = (refused-round query room, refl, inr refl); last = refused_course here.request.sub; is_last = refl; issuers = refl };
          checks = record { each = λ check among. absurd among; once = tt };
        };
        did = (Shelf (Look (well_known_of here.request.sub) here.moment) reply.Miss ∷ [], [], refl, record { looks = refl; puts = refl }, refl);
        proved = λ check among. absurd among;
        proves = λ url seal r among. ⊎_elim
            (λ same. absurd (no_prove-book url seal r (Read here.request.anchor) (Keys epoch set) same))
            (λ rest. ⊎_elim (λ same. absurd (no_prove-look url seal r (well_known_of here.request.sub) here.moment reply.Miss same)) (λ none. absurd none) rest)
            among;
      };
      result = record { last = refused_course here.request.sub; is_last = refl; no_fault = λ fault. fault refl; ends = (refl, refused-good query) };
    }

-- an anchor that isn't listed has no searches
pub unlisted-whole : (here : Situation) (signer : Signer) (set : JwkSet) → set.keys ≡ [] → IsWhole here signer (unlisted_outcome here set)
unlisted-whole here signer set empty = record {
  told = record {
    base = record {
      moment = refl;
      bounds = refl;
      answer = NoAnchor;
      work = [];
      begins = refl;
      works = λ event among. absurd among;
      keys = (refl, empty);
      leaf = [];
      others = [];
      searches = refl;
      rounds = (refl, refl);
      checks = record { each = λ check among. absurd among; once = tt };
    };
    did = refl;
    proved = λ check among. absurd among;
    proves = λ url seal r among. ⊎_elim (λ same. absurd (no_prove-book url seal r (Read here.request.anchor) NoAnchor same)) (λ none. absurd none) among;
  };
  result = refl;
}

prove-seal : (url at : List ℕ) (seal pair : Pair) (r s : ShelfReply) → Shelf (Prove url seal) r ≡ Shelf (Prove at pair) s → seal ≡ pair
prove-seal url at seal pair r s same = cc same

module _ (request : ResolveRequest) (bounds : Bounds) (age moment : ℕ) (signer : Signer) (epoch : ℕ) (set : JwkSet) (self : IsSelf (self_situation request bounds age moment) set) (calls : 1 ≤ bounds.calls) (paths : 1 ≤ bounds.paths) where
  abbrev here : Situation
  here = self_situation request bounds age moment

  abbrev anchor : Identifier
  anchor = request.anchor

  abbrev course : Course
  course = self_course anchor self.text

  abbrev query : Query
  query = query_of here set.keys

  page-there : pages_of course.search.asks (well_known_of anchor) ≡ Some self.text
  unfolding pages_of
  page-there = rw (bytes_eq-itself (well_known_of anchor)) refl

  own-good : good_in query course (configuration_of anchor) ≡ Some self.own
  unfolding findings
  own-good = ap (option_and_then (good_text here.moment (configuration_of anchor))) page-there ∙ self.good

  own-names : (self.own.iss ≡ anchor) × (self.own.sub ≡ anchor)
  own-names = (statement-words (pages_in course) here.moment (configuration_of anchor) self.own own-good).names

  own-chain : chain_of (pages_in course) (alone anchor) ≡ self.text ∷ []
  unfolding chain_of
  own-chain = rw page-there refl

  own-valid : HasValidChain query (pages_in course) (alone anchor)
  own-valid = subst (λ texts. IsValid (case_of texts anchor set.keys here.moment)) (sym own-chain) self.valid

  no_more : (good : Findings) (n : ℕ) → climb_from good anchor here.bounds.depth n [] ≡ []
  unfolding climb_from
  no_more good zero = refl
  no_more good (suc n) = no_more good n

  one_level : (good : Findings) (n : ℕ) → climb_from good anchor here.bounds.depth n (alone anchor ∷ []) ≡ judge (alone anchor) ∷ []
  unfolding climb_from
  one_level good zero = rw (bytes_eq-itself anchor) refl
  one_level good (suc n) = rw (bytes_eq-itself anchor) (ap (λ rest. judge (alone anchor) ∷ rest) (no_more good n))

  own-steps : climb (good_in query course) anchor anchor here.bounds.depth ≡ need (configuration_of anchor) ∷ add (alone anchor) ∷ judge (alone anchor) ∷ []
  unfolding climb
  own-steps = rw own-good (ap (λ rest. need (configuration_of anchor) ∷ add (alone anchor) ∷ rest) (one_level (good_in query course) here.bounds.depth))

  own-round : Round query course
  own-round = record {
    leaf = refl;
    taken = need (configuration_of anchor) ∷ add (alone anchor) ∷ [];
    left = judge (alone anchor) ∷ [];
    steps = own-steps;
    stops = (refl, own-valid);
    needs = refl;
    asks = refl;
    invalid = λ path among. absurd among;
    counts = record { hits = refl; faults = refl; calls = refl };
    paths = refl;
    few_calls = calls;
    few_paths = paths;
    ended = refl;
  }

  own-ends : ends_of query course ≡ Some (record { leaf = self.own; anchor = self.own })
  own-ends = rw own-good refl

  no-marks : looked_at self.own.marks ≡ []
  unfolding looked_at
  no-marks = rw self.unmarked refl

  no-issuers : searched_issuers self.own.marks self.own ≡ []
  unfolding each_named
  no-issuers = rw no-marks refl

  abbrev trace : Trace
  trace = (self_outcome here signer epoch set self).trace

  abbrev pair : Pair
  pair = record { text = self.text; public = self.public }

  obtained : Obtained trace.searches (well_known_of anchor) self.text
  obtained = (record { url = well_known_of anchor; got = Fetched (Document self.text) }, inl refl, refl, refl)

  own-check : (check : Check) → Among check trace.checks → IsCheck trace.searches set.keys check
  own-check check among = ⊎_elim
      (λ one. subst (IsCheck trace.searches set.keys) (sym one) (record {
        url = well_known_of anchor;
        obtained = obtained;
        named = inl (well_known_of anchor, self.text, self.own, obtained, self.reads, self.own_key);
        answer = self.sealed;
      }))
      (λ none. absurd none) among

  own-proved : IsProved trace pair
  own-proved = record {
    url = well_known_of anchor;
    obtained = obtained;
    before = Book (Read anchor) (Keys epoch set) ∷ Shelf (Look (well_known_of anchor) here.moment) reply.Miss ∷ Shelf (Put (well_known_of anchor) self.text self.until) reply.Done ∷ [];
    answer = reply.Done;
    after = [];
    stands = refl;
    placed = λ some. (Shelf (Put (well_known_of anchor) self.text self.until) reply.Done, inr (inr (inl refl)), (refl, refl));
  }

  works : (event : Event) → Among event (self_work anchor here.moment self.text self.until self.public) → IsWork event
  works event (inl one) = subst IsWork (sym one) tt
  works event (inr (inl one)) = subst IsWork (sym one) tt
  works event (inr (inr (inl one))) = subst IsWork (sym one) tt
  works event (inr (inr (inr none))) = absurd none

  puts : kept_of here.moment here.age (configuration_of anchor, record { url = well_known_of anchor; got = Fetched (Document self.text) })
      ≡ Some (record { url = well_known_of anchor; text = self.text; until = self.until })
  puts = self.kept

  seals : (i : ℕ) → i < 2 → ShownSealed trace (seal_keys (statements_of (self.text ∷ [])) set.keys i) (slice_index_or (self.text ∷ []) (seal_place i) [])
  unfolding statements_of
  seals zero less = rw self.reads (record { public = self.public; named = self.own_key; known = inl (record { text = self.text; public = self.public; good = true }, inl refl, refl, refl) })
  seals (suc zero) less = rw self.reads (record { public = self.public; named = self.anchor_key; known = inl (record { text = self.text; public = self.public; good = true }, inl refl, refl, refl) })
  seals (suc (suc i)) less = absurd (omega (arith, less))

  only-prove : (url : List ℕ) (seal : Pair) (r : ShelfReply) → Among (Shelf (Prove url seal) r) trace.events → TestedGood trace.checks seal
  only-prove url seal r (inl one) = absurd (no_prove-book url seal r (Read anchor) (Keys epoch set) one)
  only-prove url seal r (inr (inl one)) = absurd (no_prove-look url seal r (well_known_of anchor) here.moment reply.Miss one)
  only-prove url seal r (inr (inr (inl one))) = absurd (no_prove-put url seal r (well_known_of anchor) self.text self.until reply.Done one)
  only-prove url seal r (inr (inr (inr (inl one)))) =
      let alike : seal ≡ pair = prove-seal url (well_known_of anchor) seal pair r reply.Done one in
      (record { text = self.text; public = self.public; good = true }, inl refl, sym alike, refl)
  only-prove url seal r (inr (inr (inr (inr none)))) = absurd none

  pub self-whole : IsWhole here signer (self_outcome here signer epoch set self)
  self-whole = record {
    told = record {
      base = record {
        moment = refl;
        bounds = refl;
        answer = Keys epoch set;
        work = self_work anchor here.moment self.text self.until self.public;
        begins = refl;
        works = works;
        keys = (refl, refl);
        leaf = course ∷ [];
        others = [];
        searches = refl;
        rounds = record {
          rounds = (own-round, refl, inl (alone anchor, refl));
          last = course;
          is_last = refl;
          issuers = rw (own-ends, no-issuers) refl;
        };
        checks = record { each = own-check; once = (λ none. none, tt) };
      };
      did = (self_work anchor here.moment self.text self.until self.public, [], refl, record { looks = refl; puts = rw puts refl }, refl);
      proved = λ check among good. subst (λ (c : Check). IsProved trace (record { text = c.text; public = c.public })) (⊎_elim (λ one. sym one) (λ none. absurd none) among) own-proved;
      proves = λ url seal r among. inl (only-prove url seal r among);
    };
    result = record {
      last = course;
      is_last = refl;
      is_reply = record {
        path = alone anchor;
        is_path = refl;
        chain = self.text ∷ [];
        is_chain = sym own-chain;
        valid = self.valid;
        metadata = self.metadata;
        resolves = self.resolves;
        ends = record { leaf = self.own; anchor = self.own };
        are_ends = own-ends;
        says_ends = record { leaf = self.reads; of_leaf = own-names; anchor = self.reads; of_anchor = own-names };
        issuers = issuer-chain (query_of here set.keys) [] [] refl;
        good = record { entries = []; exp = least_exp (statements_of (self.text ∷ [])); configs = [] };
        are_good = rw no-marks (record { marks = []; those = refl; entries_are = refl; exp_is = refl });
        says = record { claims = refl; text = refl };
      };
      shown = seals;
    };
  }
