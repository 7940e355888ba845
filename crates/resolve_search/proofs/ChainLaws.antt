-- Which seals of a chain are known as it is judged, and what that says of the chain.
use Rattle.std.proofs.Common.{◌≡◌, ◌≤◌, ◌<◌, ◌+◌, ◌⊎◌, ℕ, zero, suc, List, [], ◌∷◌, ◌++◌, length, map, filter_map, Bool, true, false, ◌||◌, cond, get_or, take, Option, Some, None, Result, Ok, Err, append-nil, refl, sym, ap, ◌∙◌, subst, inl, inr, ⊎_elim, arith, bytes_eq, true≢false}
use Rattle.std.specs.Prelude.{All, Contains, IsOk, IsSome, find, option_map, slice_get, slice_index_or, slice_set}
use Rattle.std.specs.List.{cons_option, list_any}
use Rattle.std.specs.Option.{option_and_then, option_map_or}
use Rattle.std.specs.Result.{result_ok}
use Rattle.std.proofs.lemmas.List.{map-append, take_more}
use Rattle.std.proofs.lemmas.List.Elements.{filter_map-append}
use Rattle.fed_base.specs.declared.algorithm.Alg.{Alg}
use Rattle.fed_json.proofs.Order.{bytes_eq-itself, equal-bytes_eq}
use Rattle.jws_form.specs.declared.compact.Compact.{Compact}
use Rattle.jws_form.specs.declared.fault.FormFault.{FormFault}
use Rattle.jws_form.specs.declared.fault.FormFault.TheVariants.{Memory}
use Rattle.jws_form.specs.Splitting.{Gives, splitting}
use Rattle.jwk_set.specs.declared.jwk.Jwk.{Jwk}
use Rattle.jwk_set.specs.declared.set.JwkSet.{JwkSet}
use Rattle.jwk_set.specs.KeySets.{key_named}
use Rattle.sealed.specs.Seals.{IsSealed, IsSealedBy, IsUnsealed, Pair, named_key}
use Rattle.sealed.specs.Tests.{key_in}
use Rattle.entity_statement.specs.Claims.{Claims}
use Rattle.entity_statement.specs.Signed.{statement_of}
use Rattle.entity_statement.specs.declared.signed.SignedStatement.{SignedStatement}
use Rattle.chain_check.specs.Chains.{HasForm, Texts, max_statements, statements_of}
use Rattle.chain_check.specs.Judging.{AtSeal, IsJudgementOn, IsKnownSeal, IsOfItsText, IsUnknown, NeedsTest, pair_of, seal_keys, seal_place, texts_of}
use Rattle.chain_check.specs.Signatures.{AreSigned, keys_at}
use Rattle.chain_check.specs.Validity.{Case, IsValid, ToSignatures, case_of, chain_of}
use Rattle.chain_check.specs.declared.judged.Judged.TheVariants.{Told}
use Rattle.chain_check.specs.declared.tried.Tried.{Tried}
use Rattle.chain_check.specs.declared.verdict.Resolved.{Resolved}
use Rattle.chain_check.specs.declared.reason.Reason.{Reason}
use Rattle.chain_check.specs.declared.reason.Reason.TheVariants.{Form, Names, Times, Signature, PathLength, Name, Conflict, Policy}
use Rattle.chain_check.specs.declared.verdict.Verdict.{Verdict}
use Rattle.chain_check.specs.declared.verdict.Verdict.TheVariants.{Valid, Refused}
use Rattle.chain_check.specs.Verdicts.{CanBeWritten, IsFirstFailure}
use Rattle.chain_check.proofs.SignatureLaws.{key_in-compact}
use Rattle.chain_climb.specs.Elements.{Among}
use Rattle.chain_climb.proofs.Elements.{among-flat_map, among-left, among-right, among-split}
use Rattle.fed_base.specs.Places.{HoldsBelow}
use Rattle.resolve_search.specs.declared.judging.Ruling.{Ruling}
use Rattle.resolve_search.specs.declared.judging.Turn.TheVariants.{More}
use Rattle.resolve_round.specs.declared.trace.Ask.{Ask}
use Rattle.resolve_round.specs.declared.trace.Search.{Search}
use Rattle.resolve_round.specs.declared.trace.Trace.{Trace}
use Rattle.resolve_round.specs.Answers.{IsRuling}
use Rattle.resolve_round.specs.Courses.{pages_of, text_got, url_of}
use Rattle.resolve_search.specs.Judging.{AreGot, IsCandidate, IsRuled, IsRulingOf, IsSealedMore, IsShown, IsTried, IsTurn, case_at, gives_text, refused_as, texts_at, untried, url_for}
use Rattle.resolve_round.specs.Knowing.{IsKnownGood, with_search}
use Rattle.resolve_round.specs.Pages.{ToMerge}
use Rattle.resolve_round.specs.Testing.{KeepsKnown, MayTest, OnlyTests}
use Rattle.resolve_round.specs.Told.{Obtained, ShownSealed, ShowsSeals}
use Rattle.resolve_round.proofs.Elements.{filter-among}
use Rattle.resolve_round.proofs.GettingLaws.{earlier}
use Rattle.resolve_search.proofs.JudgeLaws.{refusal-rules, ruling_of, unsealed-set}

-- ---- items at places

module _ {X : Type 0} where
  pub index-there : (xs : List X) (at : ℕ) (x d : X) → slice_get xs at ≡ Some x → slice_index_or xs at d ≡ x
  index-there [] at x d is = cc is
  index-there (y ∷ xs) zero x d is = cc is
  index-there (y ∷ xs) (suc at) x d is = index-there xs at x d is

  pub get-within : (xs : List X) (at : ℕ) (x : X) → slice_get xs at ≡ Some x → at < length xs
  get-within [] at x is = cc is
  get-within (y ∷ xs) zero x is = omega arith
  get-within (y ∷ xs) (suc at) x is = let rest = get-within xs at x is in omega (arith, rest)

  pub get-among : (xs : List X) (at : ℕ) (x : X) → slice_get xs at ≡ Some x → Among x xs
  get-among [] at x is = cc is
  get-among (y ∷ xs) zero x is = inl (let e : y ≡ x = cc is in sym e)
  get-among (y ∷ xs) (suc at) x is = inr (get-among xs at x is)

  pub some-there : (xs : List X) (at : ℕ) → at < length xs → (x : X) × (slice_get xs at ≡ Some x)
  some-there [] at less = absurd (omega (arith, less))
  some-there (y ∷ xs) zero less = (y, refl)
  some-there (y ∷ xs) (suc at) less = some-there xs at (omega (arith, less))

  index-among : (xs : List X) (k : ℕ) (d : X) → k < length xs → Among (slice_index_or xs k d) xs
  index-among [] k d less = absurd (omega (arith, less))
  index-among (y ∷ xs) zero d less = inl refl
  index-among (y ∷ xs) (suc k) d less = inr (index-among xs k d (omega (arith, less)))

  set-there : (xs : List X) (at : ℕ) (x y : X) → slice_get xs at ≡ Some x → slice_get (slice_set xs at y) at ≡ Some y
  set-there [] at x y is = cc is
  set-there (z ∷ xs) zero x y is = refl
  set-there (z ∷ xs) (suc at) x y is = set-there xs at x y is

  set-elsewhere : (xs : List X) (at k : ℕ) (y : X) → (at ≡ k → ⊥) → slice_get (slice_set xs at y) k ≡ slice_get xs k
  set-elsewhere [] at k y apart = refl
  set-elsewhere (z ∷ xs) zero zero y apart = absurd (apart refl)
  set-elsewhere (z ∷ xs) zero (suc k) y apart = refl
  set-elsewhere (z ∷ xs) (suc at) zero y apart = refl
  set-elsewhere (z ∷ xs) (suc at) (suc k) y apart = set-elsewhere xs at k y (λ same. apart (ap suc same))

  set-among : (xs : List X) (at : ℕ) (x y z : X) → Among z (slice_set xs at y) → (z ≡ y) ⊎ Among z xs
  set-among [] at x y z among = absurd among
  set-among (w ∷ xs) zero x y z (inl same) = inl same
  set-among (w ∷ xs) zero x y z (inr among) = inr (inr among)
  set-among (w ∷ xs) (suc at) x y z (inl same) = inr (inl same)
  set-among (w ∷ xs) (suc at) x y z (inr among) = ⊎_elim (λ same. inl same) (λ old. inr (inr old)) (set-among xs at x y z among)

  pub contains-among : (xs : List X) (x : X) → Contains xs x → Among x xs
  contains-among xs x (k, less, is) = subst (λ y. Among y xs) is (index-among xs k x less)

  pub among-contains : (xs : List X) (x : X) → Among x xs → Contains xs x
  among-contains [] x among = absurd among
  among-contains (y ∷ xs) x (inl same) = (0, omega arith, sym same)
  among-contains (y ∷ xs) x (inr among) = let rest = among-contains xs x among in (suc rest.0, (let less = rest.1 in omega (arith, less)), rest.2)

equal_or : (a b : ℕ) → (a ≡ b) ⊎ (a ≡ b → ⊥)
equal_or zero zero = inl refl
equal_or zero (suc b) = inr (λ same. absurd (omega (arith, same)))
equal_or (suc a) zero = inr (λ same. absurd (omega (arith, same)))
equal_or (suc a) (suc b) = ⊎_elim (λ same. inl (ap suc same)) (λ apart. inr (λ same. apart (omega (arith, same)))) (equal_or a b)

less_or : (a b : ℕ) → (a < b) ⊎ (b ≤ a)
less_or zero zero = inr (omega arith)
less_or zero (suc b) = inl (omega arith)
less_or (suc a) zero = inr (omega arith)
less_or (suc a) (suc b) = ⊎_elim (λ l. inl (omega (arith, l))) (λ r. inr (omega (arith, r))) (less_or a b)

-- ---- texts

pub length_texts : (chain : List Tried) → length (texts_of chain) ≡ length chain
length_texts [] = refl
length_texts (t ∷ chain) = ap suc (length_texts chain)

texts-there : (chain : List Tried) (at : ℕ) (tried : Tried) → slice_get chain at ≡ Some tried → slice_get (texts_of chain) at ≡ Some tried.text
texts-there [] at tried is = cc is
texts-there (t ∷ chain) zero tried is = let same : t ≡ tried = cc is in ap (λ (x : Tried). Some x.text) same
texts-there (t ∷ chain) (suc at) tried is = texts-there chain at tried is

tried-there : (chain : List Tried) (at : ℕ) (text : List ℕ) → slice_get (texts_of chain) at ≡ Some text → (tried : Tried) × (slice_get chain at ≡ Some tried) × (tried.text ≡ text)
tried-there [] at text is = cc is
tried-there (t ∷ chain) zero text is = (t, refl, cc is)
tried-there (t ∷ chain) (suc at) text is = tried-there chain at text is

set-texts : (chain : List Tried) (at : ℕ) (tried more : Tried) → slice_get chain at ≡ Some tried → more.text ≡ tried.text → texts_of (slice_set chain at more) ≡ texts_of chain
set-texts [] at tried more is same = refl
set-texts (t ∷ chain) zero tried more is same = let one : t ≡ tried = cc is in ap (λ text. text ∷ texts_of chain) (same ∙ ap (λ (x : Tried). x.text) (sym one))
set-texts (t ∷ chain) (suc at) tried more is same = ap (λ l. t.text ∷ l) (set-texts chain at tried more is same)

-- a chain of whose signatures nothing is known
pub untried-texts : (texts : Texts) → texts_of (map untried texts) ≡ texts
untried-texts [] = refl
untried-texts (text ∷ texts) = ap (λ l. text ∷ l) (untried-texts texts)

untried-shown : (trace : Trace) (texts : Texts) (tried : Tried) → Among tried (map untried texts) → IsShown trace tried
untried-shown trace [] tried among = absurd among
untried-shown trace (text ∷ texts) tried (inl same) = subst (IsShown trace) (sym same) (record { each = λ seal none. absurd none; unmissed = refl })
untried-shown trace (text ∷ texts) tried (inr among) = untried-shown trace texts tried among

pub untried-tried : (trace : Trace) (case : Case) (chain : List Tried) (texts : Texts) → chain ≡ map untried texts → case.texts ≡ texts → IsTried trace case 0 chain
untried-tried trace case chain texts is same =
    subst (IsTried trace case 0) (sym is)
    (record {
      are = untried-texts texts ∙ sym same;
      shown = untried-shown trace texts;
      known = λ j less. absurd (omega (arith, less));
    })

-- what is known is of its own text
seals_own : (trace : Trace) (tried : Tried) → IsShown trace tried → IsOfItsText tried
seals_own trace tried shown = record {
  seals = λ k d less. (shown.each (slice_index_or tried.seals k d) (index-among tried.seals k d less)).0;
  misses = λ k d less. let l = ap length shown.unmissed in absurd (omega (arith, less, l));
}

pub own-texts : (trace : Trace) (case : Case) (turn : ℕ) (chain : List Tried) → IsTried trace case turn chain → All IsOfItsText chain
own-texts trace case turn chain is k d less = seals_own trace (slice_index_or chain k d) (is.shown (slice_index_or chain k d) (index-among chain k d less))

-- tests leave it
pub tried-later : (old new : Trace) (case : Case) (turn : ℕ) (chain : List Tried) → KeepsKnown old new → IsTried old case turn chain → IsTried new case turn chain
tried-later old new case turn chain keeps is = record {
  are = is.are;
  shown = λ tried among.
      let shown = is.shown tried among in
      record { each = λ seal there. ((shown.each seal there).0, keeps seal (shown.each seal there).1); unmissed = shown.unmissed };
  known = is.known;
}

-- ---- keys and statements

none_named : (kid : Option (List ℕ)) (alg : Alg) → option_and_then (λ k. key_named k alg []) kid ≡ None
unfolding key_named
none_named None alg = refl
none_named (Some kid) alg = refl

none_in : (o : Option Compact) → option_and_then (λ c. named_key c []) o ≡ None
none_in None = refl
none_in (Some c) = none_named c.kid c.alg

no-key : (text public : List ℕ) → key_in [] text ≡ Some public → ⊥
unfolding key_in
no-key text public is = let none = none_in (result_ok (splitting text)) in cc (is, none)

-- a text that names a key is a compact text
splits_by : (keys : List Jwk) (r : Result Compact FormFault) (public : List ℕ) → option_and_then (λ c. named_key c keys) (result_ok r) ≡ Some public → IsOk r
splits_by keys (Ok c) public is = refl
splits_by keys (Err fault) public is = cc is

pub named-splits : (keys : List Jwk) (text public : List ℕ) → key_in keys text ≡ Some public → IsOk (splitting text)
unfolding key_in
named-splits keys text public is = splits_by keys (splitting text) public is

-- such a text is taken apart, unless memory is wanting
fault_not : (fault : FormFault) (s : Result Compact FormFault) → IsOk s → s ≡ Err fault → ⊥
fault_not fault (Ok c) ok is = cc is
fault_not fault (Err f) ok is = true≢false (sym ok)

pub split-or : (r s : Result Compact FormFault) → Gives r s → IsOk s → (r ≡ Err Memory) ⊎ ((c : Compact) × (r ≡ Ok c))
split-or (Ok c) s gives ok = inr (c, refl)
split-or (Err Memory) s gives ok = inl refl
split-or (Err fault) s gives ok = absurd (fault_not fault s ok gives)

-- the set at a place is a statement's, or the other one
keys_by : (o : Option Claims) (others : List Jwk) (chain : List Claims) (text public : List ℕ) → ((s : Claims) → o ≡ Some s → Among s chain) → key_in (option_map_or (λ (s : Claims). s.keys) o others) text ≡ Some public
    → ((s : Claims) × Among s chain × (key_in s.keys text ≡ Some public)) ⊎ (key_in others text ≡ Some public)
keys_by None others chain text public there is = inr is
keys_by (Some s) others chain text public there is = inl (s, there s refl, is)

keys-from : (chain : List Claims) (j : ℕ) (others : List Jwk) (text public : List ℕ) → key_in (keys_at chain j others) text ≡ Some public
    → ((s : Claims) × Among s chain × (key_in s.keys text ≡ Some public)) ⊎ (key_in others text ≡ Some public)
keys-from chain j others text public is = keys_by (slice_get chain j) others chain text public (λ s there. get-among chain j s there) is

seal-from : (chain : List Claims) (keys : List Jwk) (seal : ℕ) (text public : List ℕ) → key_in (seal_keys chain keys seal) text ≡ Some public
    → ((s : Claims) × Among s chain × (key_in s.keys text ≡ Some public)) ⊎ (key_in keys text ≡ Some public)
seal-from chain keys zero text public is = ⊎_elim (λ own. inl own) (λ none. absurd (no-key text public none)) (keys-from chain 0 [] text public is)
seal-from chain keys (suc j) text public is = keys-from chain (j + 1) keys text public is

statement-from : (texts : Texts) (s : Claims) → Among s (statements_of texts) → (text : List ℕ) × Among text texts × (statement_of text ≡ Some s)
unfolding statements_of
statement-from texts s among = filter-among statement_of s texts among

-- ---- texts that were got

got_by : (b : Bool) (text : List ℕ) (ask : Ask) (asks : List Ask) (url : List ℕ) → gives_text text ask ≡ b
    → (option_map url_of (find (gives_text text) asks) ≡ Some url → (a : Ask) × Among a asks × (a.url ≡ url) × (gives_text text a ≡ true))
    → option_map url_of (cond b (Some ask) (find (gives_text text) asks)) ≡ Some url → (a : Ask) × Among a (ask ∷ asks) × (a.url ≡ url) × (gives_text text a ≡ true)
got_by true text ask asks url is later gives = (ask, inl refl, cc gives, is)
got_by false text ask asks url is later gives = let rest = later gives in (rest.0, inr rest.1, rest.2, rest.3)

got_from : (asks : List Ask) (text url : List ℕ) → url_for asks text ≡ Some url → (a : Ask) × Among a asks × (a.url ≡ url) × (gives_text text a ≡ true)
unfolding url_for
got_from [] text url is = cc is
got_from (ask ∷ asks) text url is = got_by (gives_text text ask) text ask asks url refl (got_from asks text url) is

text_by : (o : Option (List ℕ)) (text : List ℕ) → option_map_or (λ got. bytes_eq got text) o false ≡ true → o ≡ Some text
text_by None text is = absurd (true≢false (sym is))
text_by (Some got) text is = ap Some (equal-bytes_eq got text is)

pub got-obtained : (trace : Trace) (search : Search) (text url : List ℕ) → url_for search.asks text ≡ Some url → Obtained (with_search trace search).searches url text
got-obtained trace search text url is =
    let from = got_from search.asks text url is in (
      from.0,
      among-flat_map (λ (s : Search). s.asks) search from.0 (with_search trace search).searches (among-right search (earlier trace) (search ∷ []) (inl refl)) from.1,
      from.2,
      text_by (text_got (from.0).got) text from.3,
    )

-- the pair of a seal may be tested
pub seal-may : (trace : Trace) (search : Search) (texts : Texts) (keys : List Jwk) (seal : ℕ) (text url public : List ℕ) → AreGot search.asks texts → url_for search.asks text ≡ Some url
    → keys ≡ trace.keys.keys → key_in (seal_keys (statements_of texts) keys seal) text ≡ Some public → MayTest (with_search trace search).searches trace.keys.keys url (record { text = text; public = public })
seal-may trace search texts keys seal text url public got at same named = record {
  obtained = got-obtained trace search text url at;
  named =
      ⊎_elim
      (λ own.
      let from = statement-from texts own.0 own.1 in
      let place = got from.0 from.1 in
      inl (place.0, from.0, own.0, got-obtained trace search from.0 place.0 place.1, from.2, own.2))
      (λ anchor. inr (subst (λ k. key_in k text ≡ Some public) same anchor))
      (seal-from (statements_of texts) keys seal text public named);
}

-- ---- a chain of the form

reads_each : (texts : Texts) → ((j : ℕ) → j < length texts → (text : List ℕ) × (slice_get texts j ≡ Some text) × IsSome (statement_of text)) → length (filter_map statement_of texts) ≡ length texts
reads_each [] reads = refl
reads_each (text ∷ texts) reads =
    let here = reads 0 (omega arith) in
    let same : text ≡ here.0 = cc (here.1) in
    more (statement_of text) (filter_map statement_of texts) (subst (λ t. IsSome (statement_of t)) (sym same) here.2) (reads_each texts (λ j less. reads (suc j) (omega (arith, less))))
  where
    more : (o : Option Claims) (rest : List Claims) → IsSome o → length rest ≡ length texts → length (cons_option o rest) ≡ suc (length texts)
    more None rest some same = absurd (true≢false (sym some))
    more (Some s) rest some same = ap suc same

pub form-length : (texts : Texts) → HasForm texts → length (statements_of texts) ≡ length texts
unfolding statements_of
form-length texts form = reads_each texts (λ j less. let r = form j (omega (arith, less)) in (r.text, r.there, r.reads))

pub form-some : (texts : Texts) → HasForm texts → 0 < length texts
form-some texts form = let r = form 0 (omega arith) in get-within texts 0 r.text r.there

pub form-few : (texts : Texts) → HasForm texts → length texts ≤ max_statements
form-few texts form =
    ⊎_elim
    (λ more. let r = form max_statements (omega (arith, more)) in let near = r.near in absurd (omega (arith, near)))
    (λ few. few)
    (less_or max_statements (length texts))

-- each seal of a signed chain stands
pub seal-signed : (case : Case) → HasForm case.texts → AreSigned case.texts (chain_of case) case.keys → (seal : ℕ) → seal ≤ length case.texts
    → IsSealedBy (slice_index_or case.texts (seal_place seal) []) (seal_keys (chain_of case) case.keys seal)
seal-signed case form signed zero within = (signed 0 (let n = form-length case.texts form in let some = form-some case.texts form in omega (arith, n, some))).by_itself refl
seal-signed case form signed (suc j) within = (signed j (let n = form-length case.texts form in omega (arith, n, within))).by_superior

-- ---- texts as they are got

module _ (asks : List Ask) (urls : List (List ℕ)) (at : ℕ) (url : List ℕ) (less : at < length urls) (is : url ≡ get_or urls at url) where
  took : texts_at asks (take (at + 1) urls) ≡ texts_at asks (take at urls) ++ cons_option (pages_of asks url) []
  took =
      ap (filter_map (pages_of asks)) (take_more urls at url less ∙ ap (λ u. take at urls ++ u ∷ []) (sym is))
      ∙ filter_map-append (pages_of asks) (take at urls) (url ∷ [])

  pub texts-more : (text copied : List ℕ) (seals misses : List Pair) (old new : List Tried) → pages_of asks url ≡ Some text → copied ≡ text → seals ≡ [] → misses ≡ []
      → old ≡ map untried (texts_at asks (take at urls)) → new ≡ old ++ record { text = copied; seals = seals; misses = misses } ∷ [] → new ≡ map untried (texts_at asks (take (at + 1) urls))
  texts-more text copied seals misses old new got same none neither before pushed =
      let one : record { text = copied; seals = seals; misses = misses } ≡ record { text = text; seals = []; misses = [] } = cc in
      pushed ∙ ap (λ t. old ++ t ∷ []) one ∙ ap (λ l. l ++ untried text ∷ []) before ∙ sym (map-append untried (texts_at asks (take at urls)) (text ∷ []))
      ∙ ap (λ o. map untried (texts_at asks (take at urls) ++ cons_option o [])) (sym got) ∙ ap (map untried) (sym took)

  pub texts-skip : (old : List Tried) → pages_of asks url ≡ None → old ≡ map untried (texts_at asks (take at urls)) → old ≡ map untried (texts_at asks (take (at + 1) urls))
  texts-skip old none before =
      before
      ∙ ap (map untried) (sym (append-nil (texts_at asks (take at urls))) ∙ ap (λ o. texts_at asks (take at urls) ++ cons_option o []) (sym none) ∙ sym took)

-- what the asks gave at a URL is the text of one of them
page_by : (b : Bool) (url text : List ℕ) (ask : Ask) (asks : List Ask) → (option_and_then (λ (a : Ask). text_got a.got) (find (λ (a : Ask). bytes_eq a.url url) asks) ≡ Some text → (a : Ask) × Among a asks × (text_got a.got ≡ Some text))
    → option_and_then (λ (a : Ask). text_got a.got) (cond b (Some ask) (find (λ (a : Ask). bytes_eq a.url url) asks)) ≡ Some text → (a : Ask) × Among a (ask ∷ asks) × (text_got a.got ≡ Some text)
page_by true url text ask asks later is = (ask, inl refl, is)
page_by false url text ask asks later is = let rest = later is in (rest.0, inr rest.1, rest.2)

page_ask : (asks : List Ask) (url text : List ℕ) → pages_of asks url ≡ Some text → (a : Ask) × Among a asks × (text_got a.got ≡ Some text)
unfolding pages_of
page_ask [] url text is = cc is
page_ask (ask ∷ asks) url text is = page_by (bytes_eq ask.url url) url text ask asks (page_ask asks url text) is

url_by : (b : Bool) (text : List ℕ) (ask : Ask) (o : Option (List ℕ)) (asks : List Ask) → ((u : List ℕ) × (option_map url_of (find (gives_text text) asks) ≡ Some u)) → (u : List ℕ) × (option_map url_of (cond b (Some ask) (find (gives_text text) asks)) ≡ Some u)
url_by true text ask o asks rest = (ask.url, refl)
url_by false text ask o asks rest = rest

ask_url : (asks : List Ask) (text : List ℕ) (a : Ask) → Among a asks → text_got a.got ≡ Some text → (u : List ℕ) × (url_for asks text ≡ Some u)
unfolding url_for
ask_url [] text a among is = absurd among
ask_url (ask ∷ asks) text a (inl same) is =
    let gives : gives_text text ask ≡ true = ap (gives_text text) (sym same) ∙ ap (λ o. option_map_or (λ got. bytes_eq got text) o false) is ∙ bytes_eq-itself text in
    (ask.url, ap (λ b. option_map url_of (cond b (Some ask) (find (gives_text text) asks))) gives)
ask_url (ask ∷ asks) text a (inr among) is = url_by (gives_text text ask) text ask None asks (ask_url asks text a among is)

-- the asks gave each text that was got
pub texts-got : (asks : List Ask) (urls : List (List ℕ)) → AreGot asks (texts_at asks urls)
texts-got asks urls text among =
    let from = filter-among (pages_of asks) text urls among in
    let page = page_ask asks from.0 text from.2 in
    ask_url asks text page.0 page.1 page.2

pub got-same : (asks : List Ask) (texts others : Texts) → texts ≡ others → AreGot asks others → AreGot asks texts
got-same asks texts others same got = subst (AreGot asks) (sym same) got

-- tests leave the case
pub case-same : (old new : Trace) (anchor : List ℕ) (texts others : Texts) → OnlyTests old new → texts ≡ others → case_at new anchor texts ≡ case_at old anchor others
case-same old new anchor texts others only same =
    ap (λ t. case_of t anchor new.keys.keys new.moment) same ∙ ap (λ (k : JwkSet). case_of others anchor k.keys new.moment) only.keys ∙ ap (λ m. case_of others anchor old.keys.keys m) only.moment

-- the texts of the chain that was made of them
pub chain-texts : (asks own : List Ask) (urls : List (List ℕ)) (chain : List Tried) → own ≡ asks → chain ≡ map untried (texts_at own urls) → texts_of chain ≡ texts_at asks urls
chain-texts asks own urls chain same is = ap texts_of is ∙ untried-texts (texts_at own urls) ∙ ap (λ a. texts_at a urls) same

-- the chain as a judgement begins
pub start-tried : (trace : Trace) (anchor : List ℕ) (chain : List Tried) (texts : Texts) → chain ≡ map untried texts → IsTried trace (case_at trace anchor texts) 0 chain
start-tried trace anchor chain texts is = untried-tried trace (case_at trace anchor texts) chain texts is refl

-- and as a turn finds it, by what the trace is then
pub turn-tried : (old new : Trace) (anchor : List ℕ) (texts : Texts) (turn : ℕ) (chain : List Tried) → OnlyTests old new → IsTried new (case_at old anchor texts) turn chain → IsTried new (case_at new anchor (texts_of chain)) 0 chain
turn-tried old new anchor texts turn chain only is =
    let at : IsTried new (case_at old anchor texts) 0 chain = record { are = is.are; shown = is.shown; known = λ j less. absurd (omega (arith, less)) } in
    subst (λ case. IsTried new case 0 chain) (sym (case-same old new anchor (texts_of chain) texts only is.are)) at

-- the candidate too
pub turn-candidate : (old new : Trace) (anchor : List ℕ) (texts : Texts) (chain : List Tried) (entries : List SignedStatement) → OnlyTests old new → texts_of chain ≡ texts → IsCandidate (case_at old anchor texts) entries
    → IsCandidate (case_at new anchor (texts_of chain)) entries
turn-candidate old new anchor texts chain entries only are is = subst (λ case. IsCandidate case entries) (sym (case-same old new anchor (texts_of chain) texts only are)) is

-- a text of the chain was got at some URL
pub got-none : (asks : List Ask) (texts : Texts) (text : List ℕ) → AreGot asks texts → Among text texts → url_for asks text ≡ None → ⊥
got-none asks texts text got among none = let found = got text among in let is = found.1 in cc (is, none)

-- ---- a text at its place

pub item-there : {X : Type 0} (xs : List X) (at : ℕ) (x : X) → at < length xs → x ≡ get_or xs at x → slice_get xs at ≡ Some x
item-there [] at x less is = absurd (omega (arith, less))
item-there (y ∷ xs) zero x less is = ap Some (sym is)
item-there (y ∷ xs) (suc at) x less is = item-there xs at x (omega (arith, less)) is

pub text-there : (chain : List Tried) (at : ℕ) (tried : Tried) → at < length chain → tried ≡ get_or chain at tried → slice_get (texts_of chain) at ≡ Some tried.text
text-there chain at tried less is = texts-there chain at tried (item-there chain at tried less is)

pub text-at : (chain : List Tried) (at : ℕ) (tried : Tried) → at < length chain → tried ≡ get_or chain at tried → slice_index_or (texts_of chain) at [] ≡ tried.text
text-at chain at tried less is = index-there (texts_of chain) at tried.text [] (text-there chain at tried less is)

pub sealed-more : (chain : List Tried) (place : ℕ) (public : List ℕ) (tried : Tried) (text : List ℕ) (seals misses : List Pair) (new : List Tried) → slice_get chain place ≡ Some tried → text ≡ tried.text
    → seals ≡ tried.seals ++ pair_of tried public ∷ [] → misses ≡ tried.misses → new ≡ slice_set chain place (record { text = text; seals = seals; misses = misses }) → IsSealedMore chain place public new
sealed-more chain place public tried text seals misses new there same all none is =
    let one : record { text = text; seals = seals; misses = misses } ≡ record { text = tried.text; seals = tried.seals ++ pair_of tried public ∷ []; misses = tried.misses } = cc in
    record { tried = tried; there = there; is = is ∙ ap (slice_set chain place) one }

-- ---- a test that is wanted

-- the seal that it is for isn't below one up to which all are known
unknown_not : (keys : List Jwk) (tried : Tried) (public : List ℕ) → IsUnknown keys tried public → IsKnownSeal keys tried → ⊥
unknown_not keys tried public unknown known =
    let own : Some known.public ≡ Some public = sym known.named ∙ unknown.named in
    let same : known.public ≡ public = cc own in
    unknown.no_seal (subst (λ p. Contains tried.seals (pair_of tried p)) same known.stands)

known_not : (keys : List Jwk) (tried other : Tried) (public : List ℕ) (chain : List Tried) (at : ℕ) → slice_get chain at ≡ Some tried → slice_get chain at ≡ Some other → IsUnknown keys tried public → IsKnownSeal keys other → ⊥
known_not keys tried other public chain at there same unknown known =
    let both : Some other ≡ Some tried = sym same ∙ there in
    let one : other ≡ tried = cc both in
    unknown_not keys tried public unknown (subst (IsKnownSeal keys) one known)

pub turn-before : (trace : Trace) (case : Case) (chain : List Tried) (place : ℕ) (public : List ℕ) (needs : NeedsTest case chain place public) (turn : ℕ) → IsTried trace case turn chain → turn ≤ needs.1.seal
turn-before trace case chain place public needs turn is =
    let first = needs.1 in
    ⊎_elim
    (λ less.
    let known = is.known first.seal less in
    absurd (known_not (seal_keys (chain_of case) case.keys first.seal) (first.here).0 known.0 public chain (seal_place first.seal) (first.here).1 known.1 (first.here).2 known.2))
    (λ later. later)
    (less_or needs.1.seal turn)

-- a seal more leaves those that are known
module _ (chain new : List Tried) (place : ℕ) (public : List ℕ) (more : IsSealedMore chain place public new) where
  abbrev with_more : Tried
  with_more = record more.tried { seals = (more.tried).seals ++ pair_of more.tried public ∷ [] }

  contains_more : (pair : Pair) → Contains (more.tried).seals pair → Contains with_more.seals pair
  contains_more pair contains =
      among-contains with_more.seals pair (among-left pair (more.tried).seals (pair_of more.tried public ∷ []) (contains-among (more.tried).seals pair contains))

  here_now : slice_get new place ≡ Some with_more
  here_now = ap (λ l. slice_get l place) more.is ∙ set-there chain place more.tried with_more more.there

  elsewhere_now : (k : ℕ) → (place ≡ k → ⊥) → slice_get new k ≡ slice_get chain k
  elsewhere_now k apart = ap (λ l. slice_get l k) more.is ∙ set-elsewhere chain place k with_more apart

  known_more : (claims : List Claims) (keys : List Jwk) (i : ℕ) → AtSeal IsKnownSeal chain claims keys i → AtSeal IsKnownSeal new claims keys i
  known_more claims keys i (tried, there, known) =
      ⊎_elim
      (λ same.
      let both : Some tried ≡ Some more.tried = sym there ∙ ap (slice_get chain) (sym same) ∙ more.there in
      let one : tried ≡ more.tried = cc both in
      let old = subst (IsKnownSeal (seal_keys claims keys i)) one known in (
        with_more,
        ap (slice_get new) (sym same) ∙ here_now,
        record { public = old.public; named = old.named; stands = contains_more (pair_of more.tried old.public) old.stands },
      ))
      (λ apart. (tried, elsewhere_now (seal_place i) apart ∙ there, known))
      (equal_or place (seal_place i))

  -- the seal that was wanted is known too
  known_here : (claims : List Claims) (keys : List Jwk) (i : ℕ) → place ≡ seal_place i → AtSeal (λ k t. IsUnknown k t public) chain claims keys i → AtSeal IsKnownSeal new claims keys i
  known_here claims keys i at (tried, there, unknown) =
      let both : Some tried ≡ Some more.tried = sym there ∙ ap (slice_get chain) (sym at) ∙ more.there in
      let one : tried ≡ more.tried = cc both in
      let old = subst (λ t. IsUnknown (seal_keys claims keys i) t public) one unknown in (
        with_more,
        ap (slice_get new) (sym at) ∙ here_now,
        record {
          public = public;
          named = old.named;
          stands = among-contains with_more.seals (pair_of more.tried public) (among-right (pair_of more.tried public) (more.tried).seals (pair_of more.tried public ∷ []) (inl refl));
        },
      )

  shown_more : (trace : Trace) → ((tried : Tried) → Among tried chain → IsShown trace tried) → IsKnownGood trace (pair_of more.tried public) → (tried : Tried) → Among tried new → IsShown trace tried
  shown_more trace shown good tried among =
      ⊎_elim
      (λ same. subst (IsShown trace) (sym same) (with_shown (shown more.tried (get-among chain place more.tried more.there))))
      (λ old. shown tried old)
      (set-among chain place more.tried with_more tried (subst (Among tried) more.is among))
    where
      with_shown : IsShown trace more.tried → IsShown trace with_more
      with_shown old = record {
        each = λ seal there.
            ⊎_elim (λ before. old.each seal before) (λ last. ⊎_elim (λ same. subst (λ (p : Pair). (p.text ≡ (more.tried).text) × IsKnownGood trace p) (sym same) (refl, good)) (λ none. absurd none) last)
            (among-split seal (more.tried).seals (pair_of more.tried public ∷ []) there);
        unmissed = old.unmissed;
      }

  pub more-turn : (trace : Trace) (case : Case) (turn : ℕ) (needs : NeedsTest case chain place public) → IsTried trace case turn chain → IsKnownGood trace (pair_of more.tried public) → IsTurn trace case turn (More new)
  more-turn trace case turn needs is good =
      let first = needs.1 in
      let before = turn-before trace case chain place public needs turn is in
      let within = first.within in
      let texts = ap length is.are in
      let size = length_texts chain in
      let few = form-few case.texts needs.0.0.0 in (
        omega (arith, before, within, few, texts, size),
        record {
          are = ap texts_of more.is ∙ set-texts chain place more.tried with_more more.there refl ∙ is.are;
          shown = shown_more trace is.shown good;
          known = λ j less.
              ⊎_elim (λ below. known_more (chain_of case) case.keys j (first.before j below))
              (λ at.
              let here : j ≡ first.seal = omega (arith, less, before, at) in
              subst (AtSeal IsKnownSeal new (chain_of case) case.keys) (sym here) (known_here (chain_of case) case.keys first.seal first.at first.here))
              (less_or j first.seal);
        },
      )

-- ---- a text that doesn't verify

-- the text at the place of a test names the key
pub needs-named : (case : Case) (chain : List Tried) (place : ℕ) (public text : List ℕ) (needs : NeedsTest case chain place public) → slice_get (texts_of chain) place ≡ Some text
    → key_in (seal_keys (chain_of case) case.keys needs.1.seal) text ≡ Some public
needs-named case chain place public text needs there =
    let first = needs.1 in
    let here = first.here in
    let both : Some here.0.text ≡ Some text = sym (texts-there chain (seal_place first.seal) here.0 here.1) ∙ ap (slice_get (texts_of chain)) (sym first.at) ∙ there in
    let one : here.0.text ≡ text = cc both in
    subst (λ t. key_in (seal_keys (chain_of case) case.keys first.seal) t ≡ Some public) one here.2.named

pub needs-within : (case : Case) (chain : List Tried) (place : ℕ) (public : List ℕ) → NeedsTest case chain place public → place < length chain
needs-within case chain place public needs =
    let first = needs.1 in
    let at = first.at in
    let less = get-within chain (seal_place first.seal) (first.here).0 (first.here).1 in
    subst (λ n. n < length chain) (sym at) less

-- it fails the chain before its policies
pub fails-turn : (case : Case) (chain : List Tried) (place : ℕ) (public text : List ℕ) (needs : NeedsTest case chain place public) → texts_of chain ≡ case.texts → slice_get (texts_of chain) place ≡ Some text
    → IsUnsealed (record { text = text; public = public }) → (¬ ToMerge case) × ¬ IsValid case
fails-turn case chain place public text needs are there miss = ((λ merges. unsigned merges.0.1), λ valid. unsigned valid.signed)
  where
    within : needs.1.seal ≤ length case.texts
    within = let w = needs.1.within in let n = length_texts chain in let e = ap length are in omega (arith, w, n, e)

    text_is : slice_index_or case.texts (seal_place needs.1.seal) [] ≡ text
    text_is = index-there case.texts (seal_place needs.1.seal) text [] (ap (λ l. slice_get l (seal_place needs.1.seal)) (sym are) ∙ ap (slice_get (texts_of chain)) (sym needs.1.at) ∙ there)

    unsigned : AreSigned case.texts (chain_of case) case.keys → ⊥
    unsigned signed =
        unsealed-set (seal_keys (chain_of case) case.keys needs.1.seal) text public (needs-named case chain place public text needs there) miss
        (subst (λ t. IsSealedBy t (seal_keys (chain_of case) case.keys needs.1.seal)) text_is (seal-signed case needs.0.0.0 signed needs.1.seal within))

-- ---- the text of a test that is wanted

module _ (trace : Trace) (search : Search) (anchor : List ℕ) (chain : List Tried) (place : ℕ) (public : List ℕ) (needs : NeedsTest (case_at trace anchor (texts_of chain)) chain place public)
    (items : List Tried) (first : Tried) (same : items ≡ chain) (is : first ≡ get_or items place first) where
  abbrev judged : Case
  judged = case_at trace anchor (texts_of chain)

  abbrev item : Tried
  item = get_or items place first

  wanted_at : item ≡ get_or chain place item
  wanted_at = ap (get_or items place) is ∙ ap (λ l. get_or l place item) same

  wanted_item : slice_get chain place ≡ Some item
  wanted_item = item-there chain place item (needs-within judged chain place public needs) wanted_at

  wanted_text : slice_get (texts_of chain) place ≡ Some item.text
  wanted_text = texts-there chain place item wanted_item

  wanted_named : key_in (seal_keys (chain_of judged) (judged).keys needs.1.seal) item.text ≡ Some public
  wanted_named = needs-named judged chain place public item.text needs wanted_text

  -- it is a compact text
  pub wanted-splits : IsOk (splitting item.text)
  wanted-splits = named-splits (seal_keys (chain_of judged) (judged).keys needs.1.seal) item.text public wanted_named

  module _ (asks : List Ask) (found : Option (List ℕ)) (own : asks ≡ search.asks) (got : AreGot search.asks (texts_of chain)) (at : found ≡ url_for asks item.text) where
    -- it was got
    pub wanted-got : found ≡ None → ⊥
    wanted-got none =
        got-none search.asks (texts_of chain) item.text got (get-among (texts_of chain) place item.text wanted_text) (ap (λ a. url_for a item.text) (sym own) ∙ sym at ∙ none)

    -- its pair may be tested
    pub wanted-may : (url : List ℕ) → found ≡ Some url → MayTest (with_search trace search).searches trace.keys.keys url (record { text = item.text; public = public })
    wanted-may url there =
        seal-may trace search (texts_of chain) trace.keys.keys needs.1.seal item.text url public got (ap (λ a. url_for a item.text) (sym own) ∙ sym at ∙ there) refl wanted_named

  -- it verifies
  pub wanted-sealed : IsSealed (record { text = item.text; public = public }) → IsSealed (record { text = slice_index_or (texts_of chain) place []; public = public })
  wanted-sealed seal = subst (λ t. IsSealed (record { text = t; public = public })) (sym (index-there (texts_of chain) place item.text [] wanted_text)) seal

  pub wanted-more : (now : Trace) (turn : ℕ) (new : List Tried) → IsSealedMore chain place public new → KeepsKnown trace now → IsKnownGood now (record { text = item.text; public = public }) → IsTried trace judged turn chain
      → IsTurn now judged turn (More new)
  wanted-more now turn new more keeps good tried =
      let both : Some more.tried ≡ Some item = sym more.there ∙ wanted_item in
      let one : more.tried ≡ item = cc both in
      more-turn chain new place public more now judged turn needs (tried-later trace now judged turn chain keeps tried) (subst (λ (t : Tried). IsKnownGood now (pair_of t public)) (sym one) good)

  -- it doesn't
  pub wanted-fails : IsUnsealed (record { text = item.text; public = public }) → (¬ ToMerge judged) × ¬ IsValid judged
  wanted-fails miss = fails-turn judged chain place public item.text needs refl wanted_text miss

-- ---- a verdict

same_pair : (a b : Pair) → a.text ≡ b.text → a.public ≡ b.public → a ≡ b
same_pair a b text public = let e : record { text = a.text; public = a.public } ≡ record { text = b.text; public = b.public } = cc in e

module _ {X : Type 0} (p : X → Bool) where
  any_by : (b : Bool) (y : X) (xs : List X) → p y ≡ b → (list_any p xs ≡ true → (x : X) × Among x xs × (p x ≡ true)) → (b || list_any p xs) ≡ true → (x : X) × Among x (y ∷ xs) × (p x ≡ true)
  any_by true y xs is later any = (y, inl refl, is)
  any_by false y xs is later any = let rest = later any in (rest.0, inr rest.1, rest.2)

  any-from : (xs : List X) → list_any p xs ≡ true → (x : X) × Among x xs × (p x ≡ true)
  any-from [] any = absurd (true≢false (sym any))
  any-from (y ∷ xs) any = any_by (p y) y xs refl (any-from xs) any

  or_later : (a b : Bool) → b ≡ true → (a || b) ≡ true
  or_later true b is = refl
  or_later false b is = is

  from-any : (xs : List X) (x : X) → Among x xs → p x ≡ true → list_any p xs ≡ true
  from-any [] x among is = absurd among
  from-any (y ∷ xs) x (inl same) is = ap (λ b. b || list_any p xs) (ap p (sym same) ∙ is)
  from-any (y ∷ xs) x (inr among) is = or_later (p y) (list_any p xs) (from-any xs x among is)

module _ (trace : Trace) (case : Case) (turn : ℕ) (chain : List Tried) (is : IsTried trace case turn chain) (resolved : Resolved)
    (valid : IsValid case) (told : (place : ℕ) (public : List ℕ) → ¬ NeedsTest case chain place public) where
  abbrev KnownAt : ℕ → Type 0
  KnownAt = AtSeal IsKnownSeal chain (chain_of case) case.keys

  abbrev set_at : ℕ → List Jwk
  set_at i = seal_keys (chain_of case) case.keys i

  signatures : ToSignatures case
  signatures = ((valid.form, valid.names), valid.current)

  size : length case.texts ≡ length chain
  size = ap length (sym is.are) ∙ length_texts chain

  place_within : (i : ℕ) → i ≤ length case.texts → seal_place i < length case.texts
  place_within zero within = form-some case.texts valid.form
  place_within (suc j) within = omega (arith, within)

  -- the text at a seal, and its key
  seal_there : (i : ℕ) → i ≤ length case.texts → (tried : Tried) × (slice_get chain (seal_place i) ≡ Some tried) × IsSealedBy tried.text (set_at i)
  seal_there i within =
      let there = some-there chain (seal_place i) (let p = place_within i within in let n = size in omega (arith, p, n)) in
      let text = ap (λ l. slice_get l (seal_place i)) (sym is.are) ∙ texts-there chain (seal_place i) there.0 there.1 in
      (there.0, there.1, subst (λ t. IsSealedBy t (set_at i)) (index-there case.texts (seal_place i) (there.0).text [] text) (seal-signed case valid.form valid.signed i within))

  -- it is known, or a test would be wanted
  known_by : (i : ℕ) (tried : Tried) (public : List ℕ) (b : Bool) → i ≤ length case.texts → slice_get chain (seal_place i) ≡ Some tried → key_in (set_at i) tried.text ≡ Some public
      → list_any (λ (p : Pair). bytes_eq p.public public) tried.seals ≡ b → HoldsBelow KnownAt i → KnownAt i
  known_by i tried public true within there named any before =
      let shown = is.shown tried (get-among chain (seal_place i) tried there) in
      let found = any-from (λ (p : Pair). bytes_eq p.public public) tried.seals any in
      let text : found.0.text ≡ tried.text = (shown.each found.0 found.1).0 in
      let key : found.0.public ≡ public = equal-bytes_eq found.0.public public found.2 in
      let same : found.0 ≡ pair_of tried public = same_pair found.0 (pair_of tried public) text key in
      (tried, there, record { public = public; named = named; stands = among-contains tried.seals (pair_of tried public) (subst (λ p. Among p tried.seals) same found.1) })
  known_by i tried public false within there named any before =
      let shown = is.shown tried (get-among chain (seal_place i) tried there) in
      absurd (told (seal_place i) public (
        signatures,
        record {
          seal = i;
          within = let n = size in omega (arith, within, n);
          at = refl;
          before = before;
          here = (
            tried,
            there,
            record {
              named = named;
              no_seal = λ contains.
                  true≢false (sym (from-any (λ (p : Pair). bytes_eq p.public public) tried.seals (pair_of tried public) (contains-among tried.seals (pair_of tried public) contains) (bytes_eq-itself public)) ∙ any);
              no_miss = λ contains. subst (λ l. Among (pair_of tried public) l) shown.unmissed (contains-among tried.misses (pair_of tried public) contains);
            },
          );
        },
      ))

  known_next : (i : ℕ) → i ≤ length case.texts → HoldsBelow KnownAt i → KnownAt i
  known_next i within before =
      let s = seal_there i within in
      let seal = s.2 in
      known_by i s.0 seal.public _ within s.1 (key_in-compact (set_at i) (s.0).text seal.compact seal.splits ∙ seal.named) refl before

  all_known : (n : ℕ) → n ≤ length case.texts + 1 → HoldsBelow KnownAt n
  all_known zero within j less = absurd (omega (arith, less))
  all_known (suc n) within j less =
      ⊎_elim (λ below. all_known n (omega (arith, within)) j below)
      (λ at. let last : j ≡ n = omega (arith, less, at) in subst KnownAt (sym last) (known_next n (omega (arith, within)) (all_known n (omega (arith, within)))))
      (less_or j n)

  shows_at : trace.keys.keys ≡ case.keys → (i : ℕ) → i < length case.texts + 1
      → ShownSealed trace (seal_keys (statements_of case.texts) trace.keys.keys i) (slice_index_or case.texts (seal_place i) [])
  shows_at same i less =
      let at = all_known (length case.texts + 1) (omega arith) i less in
      let known = at.2 in
      let shown = is.shown at.0 (get-among chain (seal_place i) at.0 at.1) in
      let text = index-there case.texts (seal_place i) (at.0).text [] (ap (λ l. slice_get l (seal_place i)) (sym is.are) ∙ texts-there chain (seal_place i) at.0 at.1) in
      subst (ShownSealed trace (seal_keys (statements_of case.texts) trace.keys.keys i)) (sym text)
      (subst (λ keys. ShownSealed trace (seal_keys (statements_of case.texts) keys i) (at.0).text) (sym same)
      (record {
        public = known.public;
        named = known.named;
        known = (shown.each (pair_of at.0 known.public) (contains-among (at.0).seals (pair_of at.0 known.public) known.stands)).1;
      }))

  -- a valid chain is found with its seals
  pub found-shown : trace.keys.keys ≡ case.keys → ShowsSeals trace case.texts
  found-shown same = shows_at same

-- what a verdict is, where no test is wanted
refused_ruled : (trace : Trace) (case : Case) (reason : Reason) → IsRuling (ruling_of reason) (ToMerge case) (IsValid case) → IsRuled trace case (refused_as reason)
refused_ruled trace case Form rules = rules
refused_ruled trace case Names rules = rules
refused_ruled trace case Times rules = rules
refused_ruled trace case Signature rules = rules
refused_ruled trace case PathLength rules = rules
refused_ruled trace case Name rules = rules
refused_ruled trace case (Conflict t p f s) rules = rules
refused_ruled trace case (Policy t p o) rules = rules

pub told-ruled : (trace : Trace) (case : Case) (turn : ℕ) (chain : List Tried) (verdict : Verdict) (ruling : Ruling) → IsTried trace case turn chain → IsJudgementOn case chain (Told verdict) → CanBeWritten verdict
    → trace.keys.keys ≡ case.keys → IsRulingOf chain verdict ruling → IsRuled trace case ruling
told-ruled trace case turn chain (Valid resolved) ruling is judged written same of =
    subst (IsRuled trace case) (sym of)
    (record { verdict = judged.0; written = written; are = is.are; shown = found-shown trace case turn chain is resolved judged.0.0 judged.1 same })
told-ruled trace case turn chain (Refused place reason) ruling is judged written same of =
    subst (IsRuled trace case) (sym of) (refused_ruled trace case reason (refusal-rules case place reason judged.0))

-- what a failure before the signatures is
pub refusal-ruled : (trace : Trace) (case : Case) (place : ℕ) (reason : Reason) → IsFirstFailure case place reason → IsRuled trace case (refused_as reason)
refusal-ruled trace case place reason is = refused_ruled trace case reason (refusal-rules case place reason is)
