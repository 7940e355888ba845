-- Whose configuration says the keys that a trust mark is judged by.
use Rattle.std.proofs.Common.{◌≡◌, ℕ, List, [], ◌∷◌, Bool, true, false, cond, Option, Some, None, refl, sym, ap, ◌∙◌, subst, inl, inr, ⊎_elim, bytes_eq}
use Rattle.std.specs.List.{filter, filter_map}
use Rattle.std.specs.Prelude.{option_and_then, option_map, slice_get}
use Rattle.fed_json.proofs.Order.{equal-bytes_eq}
use Rattle.jwk_set.specs.declared.jwk.Jwk.{Jwk}
use Rattle.entity_id.specs.Urls.{well_known_of}
use Rattle.entity_statement.specs.Claims.{Claims, Identifier}
use Rattle.entity_statement.specs.Signed.{statement_of}
use Rattle.chain_climb.specs.declared.path.Path.{Path}
use Rattle.chain_climb.specs.Climbs.{chain_urls, configuration_of}
use Rattle.chain_climb.specs.Elements.{Among}
use Rattle.chain_climb.proofs.Elements.{among-split}
use Rattle.resolve_round.specs.Courses.{Course, Stop, finished, found, out_of_calls, out_of_paths}
use Rattle.resolve_round.specs.Pages.{Query, chain_of}
use Rattle.resolve_round.specs.Rounds.{AreRounds, AreRoundsForEach, Round, for_entity, good_in, last_course, pages_in}
use Rattle.resolve_round.proofs.BestLaws.{found-best}
use Rattle.resolve_round.proofs.WordLaws.{statement-words}
use Rattle.fed_resolver.specs.Outcomes.{HasIssuerChain}
use Rattle.fed_resolver.specs.Searches.{found_keys, if_found, rounds_for, said_in}
use Rattle.fed_resolver.proofs.EndTexts.{chain-begins, then-text}

-- ---- whose the rounds are

of-rounds : (query : Query) (courses : List Course) → AreRounds query courses → (c : Course) → Among c courses → Round query c
of-rounds query [] rounds c among = absurd rounds
of-rounds query (only ∷ []) rounds c (inl same) = subst (Round query) (sym same) rounds.0
of-rounds query (only ∷ []) rounds c (inr none) = absurd none
of-rounds query (first ∷ second ∷ []) rounds c (inl same) = subst (Round query) (sym same) rounds.0
of-rounds query (first ∷ second ∷ []) rounds c (inr (inl same)) = subst (Round query) (sym same) rounds.3
of-rounds query (first ∷ second ∷ []) rounds c (inr (inr none)) = absurd none
of-rounds query (first ∷ second ∷ third ∷ rest) rounds c among = absurd rounds

of-others : (query : Query) (ids : List Identifier) (courses : List Course) → AreRoundsForEach query ids courses → (c : Course) → Among c courses → Round (for_entity query c.search.leaf) c
of-others query [] courses rounds c among = absurd (subst (Among c) rounds among)
of-others query (id ∷ ids) courses (here, rest, split, first, later) c among =
    ⊎_elim
    (λ front. let round = of-rounds (for_entity query id) here first c front in subst (λ e. Round (for_entity query e) c) (sym round.leaf) round)
    (λ back. of-others query ids rest later c back)
    (among-split c here rest (subst (Among c) split among))

-- ---- elements of a list that pass a test

module _ {X : Type 0} (p : X → Bool) where
  filter-by : (y x : X) (xs : List X) (b : Bool) → p y ≡ b → (Among x (filter p xs) → Among x xs × (p x ≡ true)) → Among x (cond b (y ∷ filter p xs) (filter p xs)) → Among x (y ∷ xs) × (p x ≡ true)
  filter-by y x xs true is rest (inl same) = (inl same, ap p same ∙ is)
  filter-by y x xs true is rest (inr among) = (inr (rest among).0, (rest among).1)
  filter-by y x xs false is rest among = (inr (rest among).0, (rest among).1)

  filter-in : (xs : List X) (x : X) → Among x (filter p xs) → Among x xs × (p x ≡ true)
  filter-in [] x among = absurd among
  filter-in (y ∷ xs) x among = filter-by y x xs (p y) refl (filter-in xs x) among

last-in : (courses : List Course) (c : Course) → last_course courses ≡ Some c → Among c courses
last-in [] c is = absurd (cc is)
last-in (x ∷ []) c is = let same : x ≡ c = cc is in inl (sym same)
last-in (x ∷ y ∷ rest) c is = inr (last-in (y ∷ rest) c is)

-- ---- an issuer's chain

module _ (query : Query) (ids : List Identifier) (others : List Course) (rounds : AreRoundsForEach query ids others) (issuer : Identifier) (keys : List Jwk) where
  by-said : (c : Course) (path : Path) → c.stop ≡ found path → Round (for_entity query issuer) c → (said : Option Claims) → good_in query c (configuration_of issuer) ≡ said
      → option_map (λ (s : Claims). s.keys) said ≡ Some keys → HasIssuerChain query issuer keys
  unfolding chain_of
  by-said c path stop round None good is = absurd (cc is)
  by-said c path stop round (Some own) good is =
      let best = found-best (for_entity query issuer) c round path stop in
      let words = statement-words (pages_in c) query.moment (configuration_of issuer) own good in
      let urls = chain-begins (good_in query c) issuer query.anchor query.bounds.depth path best.whole.is_path in
      let got : filter_map (pages_in c) (chain_urls path) ≡ words.text ∷ filter_map (pages_in c) urls.0 =
      ap (filter_map (pages_in c)) urls.1 ∙ then-text (pages_in c) (well_known_of issuer) words.text urls.0 words.there in
      let says : own.keys ≡ keys = cc is in
      record {
        chain = chain_of (pages_in c) path;
        valid = best.valid;
        config = own;
        first = ap (λ ts. option_and_then statement_of (slice_get ts 0)) got ∙ words.reads;
        of = words.names;
        says = says;
      }

  by-stop : (c : Course) → Round (for_entity query issuer) c → (stop : Stop) → c.stop ≡ stop
      → option_map (λ (s : Claims). s.keys) (if_found stop (good_in query c (configuration_of issuer))) ≡ Some keys → HasIssuerChain query issuer keys
  by-stop c round (found path) at is = by-said c path at round (good_in query c (configuration_of issuer)) refl is
  by-stop c round finished at is = absurd (cc is)
  by-stop c round (out_of_calls page) at is = absurd (cc is)
  by-stop c round (out_of_paths path) at is = absurd (cc is)

  by-last : (o : Option Course) → last_course (rounds_for issuer others) ≡ o
      → option_and_then (λ (round : Course). option_map (λ (s : Claims). s.keys) (said_in query round issuer)) o ≡ Some keys → HasIssuerChain query issuer keys
  by-last None at is = absurd (cc is)
  by-last (Some c) at is =
      let there = filter-in (λ (course : Course). bytes_eq course.search.leaf issuer) others c (last-in (rounds_for issuer others) c at) in
      let leaf : c.search.leaf ≡ issuer = equal-bytes_eq c.search.leaf issuer there.1 in
      by-stop c (subst (λ e. Round (for_entity query e) c) leaf (of-others query ids others rounds c there.0)) c.stop refl is

  pub issuer-chain : found_keys query others issuer ≡ Some keys → HasIssuerChain query issuer keys
  unfolding found_keys
  issuer-chain is = by-last (last_course (rounds_for issuer others)) refl is
