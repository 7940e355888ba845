-- What is known of the signatures of a chain, seal by seal.
use Rattle.std.proofs.Common.{◌≡◌, ◌<◌, ◌≤◌, ◌+◌, ◌-◌, ℕ, zero, suc, List, [], length, get_or, Some, None, refl, sym, ap, ap₂, ◌∙◌, subst, ⊎_elim, below_more, arith}
use Rattle.std.specs.Prelude.{All, Contains, option_map, slice_get, slice_index_or}
use Rattle.std.proofs.lemmas.Bool.{cases_order}
use Rattle.std.proofs.lemmas.List.{get_or_default, length-map}
use Rattle.std.proofs.lemmas.Option.{slice_get-get_or, slice_get-map, get_or_from_slice_get}
use Rattle.jws_form.specs.declared.compact.Compact.{Compact}
use Rattle.jws_form.specs.Compact.{IsCompact}
use Rattle.jws_form.proofs.Laws.{only}
use Rattle.jwk_set.specs.declared.jwk.Jwk.{Jwk}
use Rattle.sealed.specs.Seals.{IsSealed, IsSealedBy, IsUnsealed, Pair, named_key}
use Rattle.sealed.specs.Tests.{key_in}
use Rattle.entity_statement.specs.Claims.{Claims}
use Rattle.entity_statement.specs.declared.signed.SignedStatement.{SignedStatement}
use Rattle.chain_check.specs.declared.tried.Tried.{Tried}
use Rattle.chain_check.specs.declared.reason.Reason.TheVariants.{Signature}
use Rattle.fed_base.specs.Places.{FailsFirst, HoldsBelow}
use Rattle.chain_check.specs.Chains.{Texts}
use Rattle.chain_check.specs.Signatures.{AreSigned, SignedAt, keys_at}
use Rattle.chain_check.proofs.NameLaws.{length-claims}
use Rattle.chain_check.proofs.SignatureLaws.{key_in-compact}
use Rattle.chain_check.specs.Judging.{AtSeal, IsKnownSeal, IsOfItsText, IsUnknown, IsUntriedFirst, pair_of, seal_keys, seal_place, text_in, texts_of}
use Rattle.entity_statement.specs.Signed.{IsSplit}
use Rattle.chain_check.specs.Reading.{claims_in, entry_text, texts_in}
use Rattle.chain_check.specs.Stages.{FailsUntried, IsKnownFailure, NoTest}

-- ---- one text and the keys of a set

-- a seal of the key that the text names
sealed_known : (keys : List Jwk) (tried : Tried) (c : Compact) (public : List ℕ) → IsCompact tried.text c → named_key c keys ≡ Some public → IsSealed (pair_of tried public) → IsSealedBy tried.text keys
sealed_known keys tried c public is named seal =
    let one : seal.compact ≡ c = let both = sym (only tried.text seal.compact seal.splits) ∙ only tried.text c is in cc both in
    record { compact = seal.compact; splits = seal.splits; public = public; named = ap (λ d. named_key d keys) one ∙ named; verifies = seal.verifies }

pub known-seal : (keys : List Jwk) (tried : Tried) (c : Compact) (public : List ℕ) → IsCompact tried.text c → named_key c keys ≡ Some public → Contains tried.seals (pair_of tried public)
    → IsSealed (pair_of tried public) → IsKnownSeal keys tried × IsSealedBy tried.text keys
known-seal keys tried c public is named stands seal =
    (record { public = public; named = key_in-compact keys tried.text c is ∙ named; stands = stands }, sealed_known keys tried c public is named seal)

-- the key of a seal is the one that the text's parts name
sealed_key : (keys : List Jwk) (text : List ℕ) (c : Compact) (seal : IsSealedBy text keys) → IsCompact text c → named_key c keys ≡ Some seal.public
sealed_key keys text c seal is =
    let one : c ≡ seal.compact = let both = sym (only text c is) ∙ only text seal.compact seal.splits in cc both in
    ap (λ d. named_key d keys) one ∙ seal.named

-- a text that names no key of the set
pub fails-nameless : (keys : List Jwk) (tried : Tried) (c : Compact) → IsCompact tried.text c → named_key c keys ≡ None → IsKnownFailure keys tried
fails-nameless keys tried c is none =
    let unnamed : (public : List ℕ) → ¬ (key_in keys tried.text ≡ Some public) = λ public named. let bad = sym named ∙ key_in-compact keys tried.text c is ∙ none in cc bad in
    record {
      fails = λ seal. let bad = sym (sealed_key keys tried.text c seal is) ∙ none in cc bad;
      no_seal = λ seal. unnamed seal.public seal.named;
      no_test = λ public unknown. unnamed public unknown.named;
    }

-- a text that is known not to be sealed by the key that it names
pub fails-missed : (keys : List Jwk) (tried : Tried) (c : Compact) (public : List ℕ) → IsCompact tried.text c → named_key c keys ≡ Some public → ¬ Contains tried.seals (pair_of tried public)
    → Contains tried.misses (pair_of tried public) → IsUnsealed (pair_of tried public) → IsKnownFailure keys tried
fails-missed keys tried c public is named no_seal missed miss =
    let same : (other : List ℕ) → key_in keys tried.text ≡ Some other → public ≡ other = λ other is_other. let both = sym (key_in-compact keys tried.text c is ∙ named) ∙ is_other in cc both in
    record {
      fails = λ seal.
          let key : public ≡ seal.public = let both = sym named ∙ sealed_key keys tried.text c seal is in cc both in
          let one : seal.compact ≡ miss.compact = let both = sym (only tried.text seal.compact seal.splits) ∙ only tried.text miss.compact miss.splits in cc both in
          miss.fails (rw (← one, key) seal.verifies);
      no_seal = λ seal. no_seal (subst (λ p. Contains tried.seals (pair_of tried p)) (sym (same seal.public seal.named)) seal.stands);
      no_test = λ other unknown. unknown.no_miss (subst (λ p. Contains tried.misses (pair_of tried p)) (same other unknown.named) missed);
    }

pub unknown-named : (keys : List Jwk) (tried : Tried) (c : Compact) (public : List ℕ) → IsCompact tried.text c → named_key c keys ≡ Some public → ¬ Contains tried.seals (pair_of tried public)
    → ¬ Contains tried.misses (pair_of tried public) → IsUnknown keys tried public
unknown-named keys tried c public is named no_seal no_miss = record { named = key_in-compact keys tried.text c is ∙ named; no_seal = no_seal; no_miss = no_miss }

-- ---- the pairs of a text

module _ (pairs : List Pair) (text public : List ℕ) where
  abbrev wanted : Pair
  wanted = record { text = text; public = public }

  -- no pair before this place is the one that is looked for
  abbrev pub NoneBefore : ℕ → Type 0
  NoneBefore = HoldsBelow (λ k. ¬ (get_or pairs k wanted ≡ wanted))

  pub pair-none : (i : ℕ) → length pairs ≤ i → NoneBefore i → ¬ Contains pairs wanted
  pair-none i all before at = before at.0 (omega (arith, all, at.1)) at.2

  module _ (own : All (λ (pair : Pair). pair.text ≡ text) pairs) (i : ℕ) (x : Pair) (short : i < length pairs) (is : x ≡ get_or pairs i x) where
    here : x ≡ get_or pairs i wanted
    here = is ∙ get_or_default pairs i x wanted short

    -- a pair of the key is the one that is looked for
    pub pair-same : x.public ≡ public → x ≡ wanted
    pair-same key = let own_text : x.text ≡ text = ap (λ (pair : Pair). pair.text) here ∙ own i wanted short in ap₂ (λ t p. record { text = t; public = p }) own_text key

    pub pair-found : x.public ≡ public → Contains pairs wanted
    pair-found key = (i, short, sym here ∙ pair-same key)

    pub pair-other : ¬ (x.public ≡ public) → NoneBefore i → NoneBefore (i + 1)
    pair-other other before = below_more _ _ before (λ same. other (ap (λ (pair : Pair). pair.public) (here ∙ same)))

-- ---- all the seals of a chain

module _ (entries : List SignedStatement) (chain : List Tried) (same : texts_in entries ≡ texts_of chain) where
  pub length-chain : length chain ≡ length entries
  length-chain = sym (length-map chain text_in) ∙ ap length (sym same) ∙ length-map entries entry_text

  module _ (j : ℕ) (e : SignedStatement) (d : Tried) (short : j < length entries) where
    tried : Tried
    tried = get_or chain j d

    pub tried-there : slice_get chain j ≡ Some (get_or chain j d)
    tried-there = slice_get-get_or chain j d (omega (arith, length-chain))

    both : Some (entry_text (get_or entries j e)) ≡ Some (text_in (get_or chain j d))
    both = sym (ap (option_map entry_text) (slice_get-get_or entries j e short)) ∙ sym (slice_get-map entry_text entries j) ∙ ap (λ texts. slice_get texts j) same ∙ slice_get-map text_in chain j ∙ ap (option_map text_in) tried-there

    pub entry-text : entry_text (get_or entries j e) ≡ text_in (get_or chain j d)
    entry-text = cc both

    pub text-there : slice_index_or (texts_of chain) j [] ≡ text_in (get_or chain j d)
    text-there = get_or_from_slice_get (texts_of chain) j _ [] (slice_get-map text_in chain j ∙ ap (option_map text_in) tried-there)

    pub entry-compact : All IsSplit entries → IsCompact (text_in (get_or chain j d)) (get_or entries j e).compact
    entry-compact split = subst (λ text. IsCompact text (get_or entries j e).compact) entry-text (split j e short)

-- ---- seals and places

module _ (texts : Texts) (chain : List Claims) (keys : List Jwk) where
  -- the seal of a number is made
  abbrev pub SealedAt : ℕ → Type 0
  SealedAt i = IsSealedBy (slice_index_or texts (seal_place i) []) (seal_keys chain keys i)

  pub signed-place : (j : ℕ) → SealedAt 0 → SealedAt (suc j) → SignedAt texts chain keys j
  signed-place j own superior = record {
    by_itself = λ first. subst (λ k. IsSealedBy (slice_index_or texts k []) (keys_at chain 0 [])) (sym first) own;
    by_superior = superior;
  }

  pub signed-below : (n j : ℕ) → HoldsBelow SealedAt n → j < n → HoldsBelow (SignedAt texts chain keys) j
  signed-below n j sealed below i less = signed-place i (sealed 0 (omega (arith, below))) (sealed (suc i) (omega (arith, below, less)))

  pub signed-all : (n : ℕ) → HoldsBelow SealedAt (n + 1) → length chain ≡ n → AreSigned texts chain keys
  signed-all n sealed is i less = signed-place i (sealed 0 (omega arith)) (sealed (suc i) (omega (arith, is, less)))

  pub fails-place : (i n : ℕ) → i ≤ n → 0 < n → HoldsBelow SealedAt i → ¬ SealedAt i → FailsFirst (SignedAt texts chain keys) n (seal_place i)
  fails-place zero n within some sealed fails = record { within = some; before = λ j below. absurd (omega (arith, below)); here = λ (signed : SignedAt texts chain keys 0). fails (signed.by_itself refl) }
  fails-place (suc j) n within some sealed fails = record {
    within = omega (arith, within);
    before = signed-below (suc j) j sealed (omega arith);
    here = λ (signed : SignedAt texts chain keys j). fails signed.by_superior;
  }

-- ---- whether a test is wanted

module _ (texts : List Tried) (chain : List Claims) (keys : List Jwk) where
  abbrev pub KnownAt : ℕ → Type 0
  KnownAt = AtSeal IsKnownSeal texts chain keys

  known-apart : (i : ℕ) (public : List ℕ) → KnownAt i → AtSeal (λ keys tried. IsUnknown keys tried public) texts chain keys i → ⊥
  known-apart i public (tried, there, seal) (other, other_there, unknown) =
      let one : tried ≡ other = let both = sym there ∙ other_there in cc both in
      let key : seal.public ≡ public = let both = sym seal.named ∙ ap (λ t. key_in (seal_keys chain keys i) (text_in t)) one ∙ unknown.named in cc both in
      unknown.no_seal (rw (← one, ← key) seal.stands)

  pub no_test-all : HoldsBelow KnownAt (length texts + 1) → NoTest texts chain keys
  no_test-all known place public first = known-apart first.seal public (known first.seal (omega (arith, first.within))) first.here

  pub no_test-failed : (i : ℕ) (tried : Tried) → slice_get texts (seal_place i) ≡ Some tried → HoldsBelow KnownAt i → IsKnownFailure (seal_keys chain keys i) tried → NoTest texts chain keys
  no_test-failed i tried there known failure place public first =
      ⊎_elim
      (λ same.
      let here = subst (AtSeal (λ keys tried. IsUnknown keys tried public) texts chain keys) (sym same) first.here in
      let one : tried ≡ here.0 = let both = sym there ∙ here.1 in cc both in
      failure.no_test public (rw one here.2))
      (λ apart. ⊎_elim
      (λ above.
      let seal = first.before i above in
      let one : tried ≡ seal.0 = let both = sym there ∙ seal.1 in cc both in
      failure.no_seal (rw one seal.2))
      (λ below. known-apart first.seal public (known first.seal below) first.here)
      apart)
      (cases_order i first.seal)

-- ---- one seal after the other

seal_place-is : (i : ℕ) → seal_place i ≡ i - 1
seal_place-is zero = omega arith
seal_place-is (suc j) = omega arith

module _ (entries : List SignedStatement) (chain : List Tried) (keys : List Jwk) (same : texts_in entries ≡ texts_of chain) (some : 0 < length entries) where
  abbrev claims : List Claims
  claims = claims_in entries

  -- the first seals are known, and made
  abbrev pub KnownBelow : ℕ → Type 0
  KnownBelow i = HoldsBelow (KnownAt chain claims keys) i × HoldsBelow (SealedAt (texts_of chain) claims keys) i

  module _ (i place : ℕ) (e : SignedStatement) (x : Tried) (within : i ≤ length entries) (at : place ≡ i - 1) (is : x ≡ get_or chain place x) where
    place-is : place ≡ seal_place i
    place-is = at ∙ sym (seal_place-is i)

    short : place < length entries
    short = omega (arith, at, some, within)

    there : slice_get chain (seal_place i) ≡ Some x
    there = subst (λ p. slice_get chain p ≡ Some x) place-is (tried-there entries chain same place e x short ∙ ap Some (sym is))

    text-at : slice_index_or (texts_of chain) (seal_place i) [] ≡ x.text
    text-at = subst (λ p. slice_index_or (texts_of chain) p [] ≡ x.text) place-is (text-there entries chain same place e x short ∙ ap text_in (sym is))

    pub compact-at : All IsSplit entries → IsCompact x.text (get_or entries place e).compact
    compact-at split = subst (λ t. IsCompact (text_in t) (get_or entries place e).compact) (sym is) (entry-compact entries chain same place e x short split)

    pub own-at : All IsOfItsText chain → IsOfItsText x
    own-at own = subst IsOfItsText (sym is) (own place x (omega (arith, short, length-chain entries chain same)))

    module _ (set : List Jwk) (which : set ≡ seal_keys claims keys i) where
      pub sealed-next : IsKnownSeal set x × IsSealedBy x.text set → KnownBelow i → KnownBelow (i + 1)
      sealed-next seal before = (
        below_more _ _ before.0 ((x, there, subst (λ ks. IsKnownSeal ks x) which seal.0)),
        below_more _ _ before.1 (subst (λ t. IsSealedBy t (seal_keys claims keys i)) (sym text-at) (subst (IsSealedBy x.text) which seal.1)),
      )

      pub failed-now : IsKnownFailure set x → KnownBelow i → FailsUntried chain claims keys place Signature
      failed-now failure before =
          let failure = subst (λ ks. IsKnownFailure ks x) which failure in
          let fails : ¬ SealedAt (texts_of chain) claims keys i = λ seal. failure.fails (subst (λ t. IsSealedBy t (seal_keys claims keys i)) text-at seal) in (
            refl,
            subst (λ n. FailsFirst (SignedAt (texts_of chain) claims keys) n place) (sym (length-claims entries))
                (subst (λ p. FailsFirst (SignedAt (texts_of chain) claims keys) (length entries) p) (sym place-is)
                (fails-place (texts_of chain) claims keys i (length entries) within some before.1 fails)),
            no_test-failed chain claims keys i x there before.0 failure,
          )

      pub untried-now : (public : List ℕ) → IsUnknown set x public → KnownBelow i → IsUntriedFirst chain claims keys place public
      untried-now public unknown before = record {
        seal = i;
        within = omega (arith, within, length-chain entries chain same);
        at = place-is;
        before = before.0;
        here = (x, there, subst (λ ks. IsUnknown ks x public) which unknown);
      }

  pub all-known : (i : ℕ) → length entries + 1 ≤ i → KnownBelow i → AreSigned (texts_of chain) claims keys × NoTest chain claims keys
  all-known i all known = (
    signed-all (texts_of chain) claims keys (length entries) (λ j less. known.1 j (omega (arith, less, all))) (length-claims entries),
    no_test-all chain claims keys (λ j less. known.0 j (omega (arith, less, all, length-chain entries chain same))),
  )
