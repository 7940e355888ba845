-- A trace calls for one result.
use Rattle.std.proofs.Common.{◌≡◌, ◌≢◌, ◌⊎◌, ℕ, List, [], ◌∷◌, ◌++◌, map, true, Some, None, Result, Ok, Err, refl, sym, ap, ap₂, ◌∙◌, subst, inl, inr, true≢false}
use Rattle.jwk_set.specs.declared.jwk.Jwk.{Jwk}
use Rattle.statement_shelf.specs.declared.calls.BookCall.TheVariants.{Read}
use Rattle.statement_shelf.specs.declared.calls.BookReply.{BookReply}
use Rattle.statement_shelf.specs.declared.calls.BookReply.TheVariants as book
use Rattle.chain_climb.specs.declared.want.End.{End}
use Rattle.chain_climb.specs.declared.want.End.TheVariants as end
use Rattle.chain_climb.specs.declared.path.Path.{Path}
use Rattle.resolve_round.specs.declared.trace.Event.TheVariants.{Book}
use Rattle.fed_resolver.specs.declared.outcome.Refusal.{Refusal}
use Rattle.fed_resolver.specs.declared.outcome.Refusal.TheVariants.{NoAnchor, NotFound, PolicyOnly, NoChain, Unavailable, Budget, Worn, Memory}
use Rattle.resolve_reply.specs.declared.reply.Reply.{Reply}
use Rattle.resolve_round.specs.declared.trace.Search.{Search}
use Rattle.resolve_reply.specs.declared.signer.Signer.{Signer}
use Rattle.resolve_round.specs.declared.trace.Trace.{Trace}
use Rattle.resolve_round.specs.Courses.{Course, Stop, finished, found, is_budget, search_of}
use Rattle.fed_resolver.specs.Outcomes.{IsResult, SameCause, asked_query}
use Rattle.resolve_round.specs.Pages.{Query}
use Rattle.resolve_round.specs.Rounds.{AreRounds, EndsAs, IsLast, Round, Settles, last_course}
use Rattle.fed_resolver.specs.Told.{GaveKeys, SearchesAfter, Situation, ToldWhole, query_of}
use Rattle.resolve_round.proofs.StopLaws.{one-stop}

-- ---- one last round

-- two rounds that asked and got the same, and stopped alike
pub record Alike (course other : Course) : Type 0 where
  pub search : other.search ≡ course.search
  pub stop : other.stop ≡ course.stop

alike-rounds : (query : Query) (course other : Course) → Round query course → Round query other → other.search ≡ course.search → Alike course other
alike-rounds query course other round second one = record { search = one; stop = (one-stop query course other round second one).0 }

settles-alike : (course other : Course) → Alike course other → Settles course → Settles other
settles-alike course other alike (inl path) = inl (path.0, alike.stop ∙ path.1)
settles-alike course other alike (inr plain) = inr (ap (λ (s : Search). s.hits) alike.search ∙ plain)

alike-back : (course other : Course) → Alike course other → Alike other course
alike-back course other alike = record { search = sym alike.search; stop = sym alike.stop }

-- the searches of two lists of rounds are the same
abbrev SameSearches : List Course → List Course → List Course → List Course → Type 0
SameSearches leaf others leaf' others' = map search_of (leaf ++ others) ≡ map search_of (leaf' ++ others')

last-alike : (query : Query) (leaf others leaf' others' : List Course) → AreRounds query leaf → AreRounds query leaf' → SameSearches leaf others leaf' others'
    → (last last' : Course) → IsLast leaf last → IsLast leaf' last' → Alike last last'
last-alike query [] others leaf' others' rounds rounds' same last last' is is' = absurd rounds
last-alike query (a ∷ []) others [] others' rounds rounds' same last last' is is' = absurd rounds'
last-alike query (a ∷ []) others (b ∷ []) others' rounds rounds' same last last' is is' =
    let one : a ≡ last = cc is in
    let two : b ≡ last' = cc is' in
    let search : a.search ≡ b.search = cc same in
    subst (λ l. Alike l last') one (subst (λ l. Alike a l) two (alike-rounds query a b rounds.0 rounds'.0 (sym search)))
last-alike query (a ∷ []) others (b ∷ c ∷ []) others' rounds rounds' same last last' is is' =
    let search : a.search ≡ b.search = cc same in
    absurd (rounds'.2 (settles-alike a b (alike-rounds query a b rounds.0 rounds'.0 (sym search)) rounds.2))
last-alike query (a ∷ []) others (b ∷ c ∷ d ∷ rest) others' rounds rounds' same last last' is is' = absurd rounds'
last-alike query (a ∷ z ∷ []) others [] others' rounds rounds' same last last' is is' = absurd rounds'
last-alike query (a ∷ z ∷ []) others (b ∷ []) others' rounds rounds' same last last' is is' =
    let search : a.search ≡ b.search = cc same in
    absurd (rounds.2 (settles-alike b a (alike-back a b (alike-rounds query a b rounds.0 rounds'.0 (sym search))) rounds'.2))
last-alike query (a ∷ z ∷ []) others (b ∷ c ∷ []) others' rounds rounds' same last last' is is' =
    let one : z ≡ last = cc is in
    let two : c ≡ last' = cc is' in
    let search : z.search ≡ c.search = cc same in
    subst (λ l. Alike l last') one (subst (λ l. Alike z l) two (alike-rounds query z c rounds.3 rounds'.3 (sym search)))
last-alike query (a ∷ z ∷ []) others (b ∷ c ∷ d ∷ rest) others' rounds rounds' same last last' is is' = absurd rounds'
last-alike query (a ∷ z ∷ y ∷ rest) others leaf' others' rounds rounds' same last last' is is' = absurd rounds

-- ---- what the last round says

-- what a result says of a round, by what it asked and got and where it stopped
abbrev Ends : Query → Search → Stop → End → Type 0
Ends query search stop e = EndsAs query (record { search = search; looks = true; needs = []; stop = stop }) e

abbrev Found : Stop → Type 0
Found stop = (path : Path) × (stop ≡ found path)

abbrev Says : Query → Search → Stop → Result Reply Refusal → Type 0
Says query search stop (Ok reply) = Found stop
Says query search stop (Err NotFound) = (¬ (search.faults ≢ 0)) × Ends query search stop end.NoLeaf
Says query search stop (Err PolicyOnly) = (¬ (search.faults ≢ 0)) × Ends query search stop end.PolicyOnly
Says query search stop (Err NoChain) = (¬ (search.faults ≢ 0)) × Ends query search stop end.NoChain
Says query search stop (Err (Budget calls paths)) = (¬ (search.faults ≢ 0)) × Ends query search stop (end.Budget calls paths)
Says query search stop (Err Unavailable) = (¬ Found stop) × (search.faults ≢ 0)
Says query search stop (Err refusal) = ⊥

stopped-apart : (stop : Stop) → stop ≡ finished → ¬ Found stop
stopped-apart stop is path = let bad : finished ≡ found path.0 = sym is ∙ path.1 in cc bad

budget-apart : (stop : Stop) → is_budget stop ≡ true → ¬ Found stop
budget-apart stop is path = true≢false (sym is ∙ ap is_budget path.1)

budget-stopped : (stop : Stop) → is_budget stop ≡ true → ¬ (stop ≡ finished)
budget-stopped stop is same = true≢false (sym is ∙ ap is_budget same)

one-cause_by : (query : Query) (search : Search) (stop : Stop) (r q : Result Reply Refusal) → Says query search stop r → Says query search stop q → SameCause r q
one-cause_by query search stop (Ok a) (Ok b) r q = tt
one-cause_by query search stop (Ok a) (Err NotFound) r q = absurd (stopped-apart stop q.1.0 r)
one-cause_by query search stop (Ok a) (Err PolicyOnly) r q = absurd (stopped-apart stop q.1.0 r)
one-cause_by query search stop (Ok a) (Err NoChain) r q = absurd (stopped-apart stop q.1.0 r)
one-cause_by query search stop (Ok a) (Err (Budget c p)) r q = absurd (budget-apart stop q.1.0 r)
one-cause_by query search stop (Ok a) (Err Unavailable) r q = absurd (q.0 r)
one-cause_by query search stop (Err NotFound) (Ok b) r q = absurd (stopped-apart stop r.1.0 q)
one-cause_by query search stop (Err PolicyOnly) (Ok b) r q = absurd (stopped-apart stop r.1.0 q)
one-cause_by query search stop (Err NoChain) (Ok b) r q = absurd (stopped-apart stop r.1.0 q)
one-cause_by query search stop (Err (Budget c p)) (Ok b) r q = absurd (budget-apart stop r.1.0 q)
one-cause_by query search stop (Err Unavailable) (Ok b) r q = absurd (r.0 q)
one-cause_by query search stop (Err NotFound) (Err NotFound) r q = refl
one-cause_by query search stop (Err NotFound) (Err PolicyOnly) r q = absurd (q.1.1 r.1.1)
one-cause_by query search stop (Err NotFound) (Err NoChain) r q = absurd (q.1.1 r.1.1)
one-cause_by query search stop (Err NotFound) (Err (Budget c p)) r q = absurd (budget-stopped stop q.1.0 r.1.0)
one-cause_by query search stop (Err NotFound) (Err Unavailable) r q = absurd (r.0 q.1)
one-cause_by query search stop (Err PolicyOnly) (Err NotFound) r q = absurd (r.1.1 q.1.1)
one-cause_by query search stop (Err PolicyOnly) (Err PolicyOnly) r q = refl
one-cause_by query search stop (Err PolicyOnly) (Err NoChain) r q = absurd (q.1.2 r.1.2)
one-cause_by query search stop (Err PolicyOnly) (Err (Budget c p)) r q = absurd (budget-stopped stop q.1.0 r.1.0)
one-cause_by query search stop (Err PolicyOnly) (Err Unavailable) r q = absurd (r.0 q.1)
one-cause_by query search stop (Err NoChain) (Err NotFound) r q = absurd (r.1.1 q.1.1)
one-cause_by query search stop (Err NoChain) (Err PolicyOnly) r q = absurd (r.1.2 q.1.2)
one-cause_by query search stop (Err NoChain) (Err NoChain) r q = refl
one-cause_by query search stop (Err NoChain) (Err (Budget c p)) r q = absurd (budget-stopped stop q.1.0 r.1.0)
one-cause_by query search stop (Err NoChain) (Err Unavailable) r q = absurd (r.0 q.1)
one-cause_by query search stop (Err (Budget c p)) (Err NotFound) r q = absurd (budget-stopped stop r.1.0 q.1.0)
one-cause_by query search stop (Err (Budget c p)) (Err PolicyOnly) r q = absurd (budget-stopped stop r.1.0 q.1.0)
one-cause_by query search stop (Err (Budget c p)) (Err NoChain) r q = absurd (budget-stopped stop r.1.0 q.1.0)
one-cause_by query search stop (Err (Budget c p)) (Err (Budget d s)) r q = ap₂ (λ x y. Err (Budget x y)) (r.1.1 ∙ sym q.1.1) (r.1.2 ∙ sym q.1.2)
one-cause_by query search stop (Err (Budget c p)) (Err Unavailable) r q = absurd (r.0 q.1)
one-cause_by query search stop (Err Unavailable) (Err NotFound) r q = absurd (q.0 r.1)
one-cause_by query search stop (Err Unavailable) (Err PolicyOnly) r q = absurd (q.0 r.1)
one-cause_by query search stop (Err Unavailable) (Err NoChain) r q = absurd (q.0 r.1)
one-cause_by query search stop (Err Unavailable) (Err (Budget c p)) r q = absurd (q.0 r.1)
one-cause_by query search stop (Err Unavailable) (Err Unavailable) r q = refl
one-cause_by query search stop (Err NoAnchor) q' r q = absurd r
one-cause_by query search stop (Err (Worn count)) q' r q = absurd r
one-cause_by query search stop (Err Memory) q' r q = absurd r
one-cause_by query search stop r' (Err NoAnchor) r q = absurd q
one-cause_by query search stop r' (Err (Worn count)) r q = absurd q
one-cause_by query search stop r' (Err Memory) r q = absurd q

-- ---- the result of a trace

-- a result is of an unlisted anchor, or speaks of the last of the leaf's rounds
abbrev Speaks : (here : Situation) → (trace : Trace) → ToldWhole here trace → Result Reply Refusal → Type 0
Speaks here trace told result =
    ((result ≡ Err NoAnchor) × (told.base.answer ≡ book.NoAnchor))
    ⊎ ((last : Course) × IsLast told.base.leaf last × Says (asked_query here trace) last.search last.stop result)

speaks-of : (here : Situation) (signer : Signer) (trace : Trace) (told : ToldWhole here trace) (result : Result Reply Refusal) → IsResult here signer trace told result → Speaks here trace told result
speaks-of here signer trace told (Ok reply) is = inr (is.last, is.is_last, (is.is_reply.path, is.is_reply.is_path))
speaks-of here signer trace told (Err NoAnchor) is = inl (refl, is)
speaks-of here signer trace told (Err NotFound) is = inr (is.last, is.is_last, (is.no_fault, is.ends))
speaks-of here signer trace told (Err PolicyOnly) is = inr (is.last, is.is_last, (is.no_fault, is.ends))
speaks-of here signer trace told (Err NoChain) is = inr (is.last, is.is_last, (is.no_fault, is.ends))
speaks-of here signer trace told (Err (Budget calls paths)) is = inr (is.last, is.is_last, (is.no_fault, is.ends))
speaks-of here signer trace told (Err Unavailable) is = inr (is.last, is.is_last, (is.no_path, is.fault))
speaks-of here signer trace told (Err (Worn count)) is = absurd is
speaks-of here signer trace told (Err Memory) is = absurd is

no-last : (here : Situation) (answer : BookReply) (leaf others : List Course) (last : Course) → SearchesAfter here answer leaf others → answer ≡ book.NoAnchor → IsLast leaf last → ⊥
no-last here answer leaf others last searches is at =
    let none : (leaf ≡ []) × (others ≡ []) = subst (λ a. SearchesAfter here a leaf others) is searches in
    let bad : None ≡ Some last = sym (ap last_course none.0) ∙ at in
    cc bad

-- a Read that replied no keys leads to no round
rounds-with : (here : Situation) (answer : BookReply) (n : ℕ) (keys : List Jwk) (leaf others : List Course) (last : Course) → GaveKeys answer n keys → SearchesAfter here answer leaf others → IsLast leaf last
    → AreRounds (query_of here keys) leaf
rounds-with here (book.Keys epoch set) n keys leaf others last gave searches at = subst (λ ks. AreRounds (query_of here ks) leaf) (sym gave.1) searches.rounds
rounds-with here (book.At e) n keys leaf others last gave searches at = let bad : None ≡ Some last = sym (ap last_course searches.0) ∙ at in cc bad
rounds-with here (book.Rotated e) n keys leaf others last gave searches at = let bad : None ≡ Some last = sym (ap last_course searches.0) ∙ at in cc bad
rounds-with here (book.Behind e) n keys leaf others last gave searches at = let bad : None ≡ Some last = sym (ap last_course searches.0) ∙ at in cc bad
rounds-with here book.NoAnchor n keys leaf others last gave searches at = let bad : None ≡ Some last = sym (ap last_course searches.0) ∙ at in cc bad
rounds-with here book.Memory n keys leaf others last gave searches at = let bad : None ≡ Some last = sym (ap last_course searches.0) ∙ at in cc bad

module _ (here : Situation) (signer : Signer) (trace : Trace) (told other : ToldWhole here trace) where
  answer-same : other.base.answer ≡ told.base.answer
  answer-same = let both = sym other.base.begins ∙ told.base.begins in first-same here.request.anchor other.base.answer told.base.answer other.base.work told.base.work both
    where
      first-same : (anchor : List ℕ) (a b : BookReply) (xs ys : List Rattle.resolve_round.specs.declared.trace.Event.Event) → (Book (Read anchor) a ∷ xs) ≡ (Book (Read anchor) b ∷ ys) → a ≡ b
      first-same anchor a b xs ys both = cc both

  one_of : (r q : Result Reply Refusal) → Speaks here trace told r → Speaks here trace other q → SameCause r q
  one_of r q (inl (rn, ra)) (inl (qn, qa)) = subst (λ x. SameCause x q) (sym rn) (subst (SameCause (Err NoAnchor)) (sym qn) refl)
  one_of r q (inl (rn, ra)) (inr (last, at, says)) = absurd (no-last here other.base.answer other.base.leaf other.base.others last other.base.rounds (answer-same ∙ ra) at)
  one_of r q (inr (last, at, says)) (inl (qn, qa)) = absurd (no-last here told.base.answer told.base.leaf told.base.others last told.base.rounds (sym answer-same ∙ qa) at)
  one_of r q (inr (last, at, says)) (inr (last', at', says')) =
      let rounds = rounds-with here told.base.answer trace.epoch trace.keys.keys told.base.leaf told.base.others last told.base.keys told.base.rounds at in
      let rounds' = rounds-with here other.base.answer trace.epoch trace.keys.keys other.base.leaf other.base.others last' other.base.keys other.base.rounds at' in
      let alike = last-alike (asked_query here trace) told.base.leaf told.base.others other.base.leaf other.base.others rounds rounds' (sym told.base.searches ∙ other.base.searches) last last' at at' in
      one-cause_by (asked_query here trace) last.search last.stop r q says
      (subst (λ s. Says (asked_query here trace) s last.stop q) alike.search (subst (λ s. Says (asked_query here trace) last'.search s q) alike.stop says'))

  -- whichever way a trace is told, it calls for one result
  pub one-cause : (r q : Result Reply Refusal) → IsResult here signer trace told r → IsResult here signer trace other q → SameCause r q
  one-cause r q is is' = one_of r q (speaks-of here signer trace told r is) (speaks-of here signer trace other q is')
