-- Issuers that are searched one after the other.
use Rattle.std.proofs.Common.{◌≡◌, ◌<◌, ◌+◌, ℕ, zero, suc, List, [], ◌∷◌, ◌++◌, length, take, get_or, Bool, true, false, not, cond, Option, Some, None, refl, sym, ap, ap₂, ◌∙◌, subst, inl, inr, ⊎_elim, append-nil, append_assoc, bytes_eq, add-one, true≢false, arith}
use Rattle.std.specs.List.{filter, filter_map, list_any}
use Rattle.std.specs.Prelude.{option_and_then, option_map}
use Rattle.std.proofs.Math.Seq.{take-suc}
use Rattle.std.proofs.lemmas.List.Elements.{filter-append}
use Rattle.fed_json.proofs.Order.{bytes_eq-itself, equal-bytes_eq}
use Rattle.jwk_set.specs.declared.jwk.Jwk.{Jwk}
use Rattle.entity_statement.specs.Claims.{Claims, Identifier}
use Rattle.entity_statement.specs.Forms.{all_differ}
use Rattle.entity_statement.specs.Signed.{statement_of}
use Rattle.entity_statement.proofs.Hints.{once_after-differ}
use Rattle.chain_climb.specs.Elements.{Among}
use Rattle.chain_climb.proofs.ClimbLaws.{any-among}
use Rattle.chain_climb.proofs.Elements.{among-split}
use Rattle.resolve_reply.specs.declared.issuers.Issuer.{Issuer}
use Rattle.resolve_reply.specs.declared.signer.Signer.{Signer}
use Rattle.resolve_reply.specs.Marks.{each_named, keys_of, text_of}
use Rattle.resolve_round.specs.declared.trace.Trace.{Trace}
use Rattle.resolve_round.specs.Courses.{Course}
use Rattle.resolve_round.specs.Pages.{Query}
use Rattle.resolve_round.specs.Rounds.{AreRounds, AreRoundsForEach, IsLast, for_entity, last_course}
use Rattle.resolve_round.proofs.HintLaws.{and-left, and-right}
use Rattle.resolve_round.specs.declared.aim.Aim.{Aim}
use Rattle.resolve_search.specs.Turning.{query_at}
use Rattle.fed_resolver.specs.Going.{HasIssuer, HasIssuers, KeepsBy, first_aim}
use Rattle.fed_resolver.specs.Searches.{first_text_of, found_keys, found_texts, keys_said, rounds_for, said_in}
use Rattle.fed_resolver.specs.Stretches.{SameKeys}
use Rattle.fed_resolver.proofs.CourseLaws.{adds-none, adds-then, same-query}

by_test : {P : Type 0} (b : Bool) → (b ≡ true → P) → (b ≡ false → P) → P
by_test true passes fails = passes refl
by_test false passes fails = fails refl

-- ---- whose the rounds are

rounds-leaf : (query : Query) (courses : List Course) → AreRounds query courses → (c : Course) → Among c courses → c.search.leaf ≡ query.entity
rounds-leaf query [] rounds c among = absurd rounds
rounds-leaf query (only ∷ []) rounds c (inl same) = ap (λ (x : Course). x.search.leaf) same ∙ rounds.0.leaf
rounds-leaf query (only ∷ []) rounds c (inr none) = absurd none
rounds-leaf query (first ∷ second ∷ []) rounds c (inl same) = ap (λ (x : Course). x.search.leaf) same ∙ rounds.0.leaf
rounds-leaf query (first ∷ second ∷ []) rounds c (inr (inl same)) = ap (λ (x : Course). x.search.leaf) same ∙ rounds.3.leaf
rounds-leaf query (first ∷ second ∷ []) rounds c (inr (inr none)) = absurd none
rounds-leaf query (first ∷ second ∷ third ∷ rest) rounds c among = absurd rounds

others-leaf : (query : Query) (ids : List Identifier) (courses : List Course) → AreRoundsForEach query ids courses → (c : Course) → Among c courses → Among c.search.leaf ids
others-leaf query [] courses rounds c among = absurd (subst (Among c) rounds among)
others-leaf query (id ∷ ids) courses (here, rest, split, first, later) c among =
    ⊎_elim (λ front. inl (rounds-leaf (for_entity query id) here first c front)) (λ back. inr (others-leaf query ids rest later c back)) (among-split c here rest (subst (Among c) split among))

each-more : (query : Query) (ids : List Identifier) (others : List Course) (id : Identifier) (courses : List Course) → AreRoundsForEach query ids others → AreRounds (for_entity query id) courses
    → AreRoundsForEach query (ids ++ id ∷ []) (others ++ courses)
each-more query [] others id courses none rounds = (courses, [], ap (λ l. l ++ courses) none ∙ sym (append-nil courses), rounds, refl)
each-more query (x ∷ ids) others id courses (here, rest, split, first, later) rounds =
    (here, rest ++ courses, ap (λ l. l ++ courses) split ∙ append_assoc here rest courses, first, each-more query ids rest id courses later rounds)

module _ {X : Type 0} (p : X → Bool) where
  keep-all : (xs : List X) → ((x : X) → Among x xs → p x ≡ true) → filter p xs ≡ xs
  keep-all [] all = refl
  keep-all (x ∷ xs) all = rw (all x (inl refl)) (ap (λ l. x ∷ l) (keep-all xs (λ y there. all y (inr there))))

  keep-none : (xs : List X) → ((x : X) → Among x xs → p x ≡ false) → filter p xs ≡ []
  keep-none [] none = refl
  keep-none (x ∷ xs) none = rw (none x (inl refl)) (keep-none xs (λ y there. none y (inr there)))

-- ---- the keys of issuers that were found

keys-own-by : (b : Bool) (first second : List Jwk) (rest more : Option (List Jwk)) → cond b (Some first) rest ≡ None → (rest ≡ None → more ≡ Some second) → cond b (Some first) more ≡ Some second
keys-own-by true first second rest more none later = cc none
keys-own-by false first second rest more none later = later none

keys-own : (kept : List Issuer) (issuer : Issuer) → keys_of kept issuer.id ≡ None → keys_of (kept ++ issuer ∷ []) issuer.id ≡ Some issuer.keys.keys
keys-own [] issuer none = rw (bytes_eq-itself issuer.id) refl
keys-own (x ∷ kept) issuer none = keys-own-by (bytes_eq x.id issuer.id) x.keys.keys issuer.keys.keys (keys_of kept issuer.id) (keys_of (kept ++ issuer ∷ []) issuer.id) none (keys-own kept issuer)

keys-other : (kept : List Issuer) (issuer : Issuer) (id : Identifier) → bytes_eq issuer.id id ≡ false → keys_of (kept ++ issuer ∷ []) id ≡ keys_of kept id
keys-other [] issuer id apart = rw apart refl
keys-other (x ∷ kept) issuer id apart = ap (λ o. cond (bytes_eq x.id id) (Some x.keys.keys) o) (keys-other kept issuer id apart)

nothing-said : keys_said None ≡ None
unfolding keys_said
nothing-said = refl

kept-own : (id : Identifier) (text : Option (List ℕ)) (before after : List Issuer) → KeepsBy id text before after → keys_of before id ≡ None → keys_of after id ≡ keys_said text
kept-own id None before after same none = ap (λ l. keys_of l id) same ∙ none ∙ sym nothing-said
kept-own id (Some text) before after (keys, is, are) none =
    ap (λ l. keys_of l id) is ∙ keys-own before (record { id = id; keys = keys; text = text }) none ∙ sym are

kept-other : (id other : Identifier) (text : Option (List ℕ)) (before after : List Issuer) → KeepsBy id text before after → bytes_eq id other ≡ false → keys_of after other ≡ keys_of before other
kept-other id other None before after same apart = ap (λ l. keys_of l other) same
kept-other id other (Some text) before after (keys, is, are) apart = ap (λ l. keys_of l other) is ∙ keys-other before (record { id = id; keys = keys; text = text }) other apart

-- ---- their configurations

text-own-by : (b : Bool) (first second : List ℕ) (rest more : Option (List ℕ)) → cond b (Some first) rest ≡ None → (rest ≡ None → more ≡ Some second) → cond b (Some first) more ≡ Some second
text-own-by true first second rest more none later = cc none
text-own-by false first second rest more none later = later none

text-own : (kept : List Issuer) (issuer : Issuer) → text_of kept issuer.id ≡ None → text_of (kept ++ issuer ∷ []) issuer.id ≡ Some issuer.text
text-own [] issuer none = rw (bytes_eq-itself issuer.id) refl
text-own (x ∷ kept) issuer none = text-own-by (bytes_eq x.id issuer.id) x.text issuer.text (text_of kept issuer.id) (text_of (kept ++ issuer ∷ []) issuer.id) none (text-own kept issuer)

text-other : (kept : List Issuer) (issuer : Issuer) (id : Identifier) → bytes_eq issuer.id id ≡ false → text_of (kept ++ issuer ∷ []) id ≡ text_of kept id
text-other [] issuer id apart = rw apart refl
text-other (x ∷ kept) issuer id apart = ap (λ o. cond (bytes_eq x.id id) (Some x.text) o) (text-other kept issuer id apart)

config-own : (id : Identifier) (text : Option (List ℕ)) (before after : List Issuer) → KeepsBy id text before after → text_of before id ≡ None → text_of after id ≡ text
config-own id None before after same none = ap (λ l. text_of l id) same ∙ none
config-own id (Some text) before after (keys, is, are) none = ap (λ l. text_of l id) is ∙ text-own before (record { id = id; keys = keys; text = text }) none

config-other : (id other : Identifier) (text : Option (List ℕ)) (before after : List Issuer) → KeepsBy id text before after → bytes_eq id other ≡ false → text_of after other ≡ text_of before other
config-other id other None before after same apart = ap (λ l. text_of l other) same
config-other id other (Some text) before after (keys, is, are) apart = ap (λ l. text_of l other) is ∙ text-other before (record { id = id; keys = keys; text = text }) other apart

module _ (query : Query) (ids : List Identifier) (others : List Course) (earlier : AreRoundsForEach query ids others) (id : Identifier) (fresh : ¬ Among id ids) (courses : List Course)
    (here : AreRounds (for_entity query id) courses) where
  abbrev is_of : Identifier → Course → Bool
  is_of entity course = bytes_eq course.search.leaf entity

  none-before : rounds_for id others ≡ []
  none-before = keep-none (is_of id) others
      (λ c there. by_test (is_of id c)
      (λ same. absurd (fresh (subst (λ e. Among e ids) (equal-bytes_eq c.search.leaf id same) (others-leaf query ids others earlier c there))))
      (λ apart. apart))

  own-rounds : rounds_for id (others ++ courses) ≡ courses
  own-rounds =
      filter-append (is_of id) others courses
      ∙ ap₂ (λ a b. a ++ b) none-before (keep-all (is_of id) courses (λ c there. ap (λ e. bytes_eq e id) (rounds-leaf (for_entity query id) courses here c there) ∙ bytes_eq-itself id))

  other-rounds : (entity : Identifier) → bytes_eq id entity ≡ false → rounds_for entity (others ++ courses) ≡ rounds_for entity others
  other-rounds entity apart =
      filter-append (is_of entity) others courses
      ∙ ap (λ l. rounds_for entity others ++ l) (keep-none (is_of entity) courses (λ c there. ap (λ e. bytes_eq e entity) (rounds-leaf (for_entity query id) courses here c there) ∙ apart))
      ∙ append-nil (rounds_for entity others)

  found-before : found_keys query others id ≡ None
  unfolding found_keys
  found-before = ap (λ cs. option_and_then (λ (round : Course). option_map (λ (c : Claims). c.keys) (said_in query round id)) (last_course cs)) none-before

  found-own : (last : Course) → IsLast courses last → found_keys query (others ++ courses) id ≡ option_map (λ (c : Claims). c.keys) (said_in query last id)
  unfolding found_keys
  found-own last is_last =
      ap (λ cs. option_and_then (λ (round : Course). option_map (λ (c : Claims). c.keys) (said_in query round id)) (last_course cs)) own-rounds
      ∙ ap (option_and_then (λ (round : Course). option_map (λ (c : Claims). c.keys) (said_in query round id))) is_last

  found-other : (entity : Identifier) → bytes_eq id entity ≡ false → found_keys query (others ++ courses) entity ≡ found_keys query others entity
  unfolding found_keys
  found-other entity apart =
      ap (λ cs. option_and_then (λ (round : Course). option_map (λ (c : Claims). c.keys) (said_in query round entity)) (last_course cs)) (other-rounds entity apart)

  texts-before : found_texts others id ≡ None
  unfolding found_texts
  texts-before = ap (λ cs. option_and_then first_text_of (last_course cs)) none-before

  texts-own : (last : Course) → IsLast courses last → found_texts (others ++ courses) id ≡ first_text_of last
  unfolding found_texts
  texts-own last is_last = ap (λ cs. option_and_then first_text_of (last_course cs)) own-rounds ∙ ap (option_and_then first_text_of) is_last

  texts-other : (entity : Identifier) → bytes_eq id entity ≡ false → found_texts (others ++ courses) entity ≡ found_texts others entity
  unfolding found_texts
  texts-other entity apart = ap (λ cs. option_and_then first_text_of (last_course cs)) (other-rounds entity apart)

  -- what holds of the issuer itself, and of each other one
  by-entity : (P : Identifier → Type 0) → P id → ((entity : Identifier) → bytes_eq id entity ≡ false → P entity) → (entity : Identifier) → P entity
  by-entity P own other entity = by_test (bytes_eq id entity) (λ same. subst P (equal-bytes_eq id entity same) own) (other entity)

  module _ (last : Course) (is_last : IsLast courses last) (says : said_in query last id ≡ option_and_then statement_of (first_text_of last)) where
    own-said : found_keys query (others ++ courses) id ≡ keys_said (first_text_of last)
    unfolding keys_said
    own-said = found-own last is_last ∙ ap (option_map (λ (c : Claims). c.keys)) says

    said-step : ((issuer : Identifier) → found_keys query others issuer ≡ keys_said (found_texts others issuer))
        → (issuer : Identifier) → found_keys query (others ++ courses) issuer ≡ keys_said (found_texts (others ++ courses) issuer)
    said-step all = by-entity (λ e. found_keys query (others ++ courses) e ≡ keys_said (found_texts (others ++ courses) e))
        (own-said ∙ ap keys_said (sym (texts-own last is_last)))
        (λ e apart. found-other e apart ∙ all e ∙ ap keys_said (sym (texts-other e apart)))

    module _ (before after : List Issuer) (keeps : KeepsBy id (first_text_of last) before after) where
      keys-step : ((issuer : Identifier) → keys_of before issuer ≡ found_keys query others issuer) → (issuer : Identifier) → keys_of after issuer ≡ found_keys query (others ++ courses) issuer
      keys-step all = by-entity (λ e. keys_of after e ≡ found_keys query (others ++ courses) e)
          (kept-own id (first_text_of last) before after keeps (all id ∙ found-before) ∙ sym own-said)
          (λ e apart. kept-other id e (first_text_of last) before after keeps apart ∙ all e ∙ sym (found-other e apart))

      texts-step : ((issuer : Identifier) → text_of before issuer ≡ found_texts others issuer) → (issuer : Identifier) → text_of after issuer ≡ found_texts (others ++ courses) issuer
      texts-step all = by-entity (λ e. text_of after e ≡ found_texts (others ++ courses) e)
          (config-own id (first_text_of last) before after keeps (all id ∙ texts-before) ∙ sym (texts-own last is_last))
          (λ e apart. config-other id e (first_text_of last) before after keeps apart ∙ all e ∙ sym (texts-other e apart))

-- ---- one issuer more

pub issuers-none : (aim : Aim) (t : Trace) → HasIssuers aim [] t t []
unfolding found_keys found_texts keys_said
issuers-none aim t = record { others = []; added = adds-none aim.age t; rounds = refl; keys = λ issuer. refl; texts = λ issuer. refl; said = λ issuer. refl }

pub issuers-more : (leaf anchor : Identifier) (signer : Signer) (ids : List Identifier) (id : Identifier) (start mid new : Trace) (before after : List Issuer)
    → HasIssuers (first_aim leaf anchor signer) ids start mid before → ¬ Among id ids → SameKeys start mid → HasIssuer (first_aim id anchor signer) mid new before after
    → HasIssuers (first_aim leaf anchor signer) (ids ++ id ∷ []) start new after
issuers-more leaf anchor signer ids id start mid new before after has fresh same one =
    let query = query_at (first_aim leaf anchor signer) start in
    let there : query_at (first_aim id anchor signer) mid ≡ for_entity query id = same-query (first_aim id anchor signer) start mid same.moment same.keys in
    let rounds : AreRounds (for_entity query id) one.courses = subst (λ q. AreRounds q one.courses) there one.are in
    let says : said_in query one.last id ≡ option_and_then statement_of (first_text_of one.last) = subst (λ q. said_in q one.last id ≡ option_and_then statement_of (first_text_of one.last)) there one.said in
    record {
      others = has.others ++ one.courses;
      added = adds-then signer.age has.others one.courses start mid new same.moment has.added one.added;
      rounds = each-more query ids has.others id one.courses has.rounds rounds;
      keys = keys-step query ids has.others has.rounds id fresh one.courses rounds one.last one.is_last says before after one.kept has.keys;
      texts = texts-step query ids has.others has.rounds id fresh one.courses rounds one.last one.is_last says before after one.kept has.texts;
      said = said-step query ids has.others has.rounds id fresh one.courses rounds one.last one.is_last says has.said;
    }

-- ---- each issuer once

apart-before : (ids : List Identifier) (i : ℕ) (d : Identifier) → all_differ ids ≡ true → i < length ids → ¬ Among (get_or ids i d) (take i ids)
apart-before [] i d differ less among = absurd (omega (arith, less))
apart-before (x ∷ ids) zero d differ less among = absurd among
apart-before (x ∷ ids) (suc i) d differ less (inl same) =
    let later : Among x ids = subst (λ e. Among e ids) same (get-there ids i (omega (arith, less))) in
    true≢false (sym (and-left (not (list_any (bytes_eq x) ids)) (all_differ ids) differ) ∙ ap not (any-among x ids later))
  where
    get-there : (es : List Identifier) (j : ℕ) → j < length es → Among (get_or es j d) es
    get-there [] j low = absurd (omega (arith, low))
    get-there (e ∷ es) zero low = inl refl
    get-there (e ∷ es) (suc j) low = inr (get-there es j (omega (arith, low)))
apart-before (x ∷ ids) (suc i) d differ less (inr among) = apart-before ids i d (and-right (not (list_any (bytes_eq x) ids)) (all_differ ids) differ) (omega (arith, less)) among

-- the issuer at a place of those that are searched isn't one before it
pub fresh-at : (named : List (Option Identifier)) (searched : List Identifier) (i : ℕ) (id : Identifier) → searched ≡ each_named named → i < length searched → id ≡ get_or searched i id
    → ¬ Among id (take i searched)
unfolding each_named
fresh-at named searched i id is less at among =
    let differ : all_differ searched ≡ true = ap all_differ is ∙ once_after-differ (filter_map (λ (o : Option Identifier). o) named) [] refl in
    apart-before searched i id differ less (subst (λ e. Among e (take i searched)) at among)

pub taken-more : (ids : List Identifier) (i : ℕ) (id : Identifier) → i < length ids → id ≡ get_or ids i id → take (i + 1) ids ≡ take i ids ++ id ∷ []
taken-more ids i id less at = ap (λ n. take n ids) (add-one i) ∙ take-suc ids i id less ∙ ap (λ e. take i ids ++ e ∷ []) (sym at)
