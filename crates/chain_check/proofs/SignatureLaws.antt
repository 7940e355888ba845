-- Which texts of a chain are signed and which statements are current, place by place, and how many signatures were checked.
use Rattle.std.proofs.Common.{◌≡◌, ◌<◌, ◌≤◌, ◌+◌, ℕ, zero, suc, List, length, get_or, Bool, true, false, Ok, Err, refl, sym, ap, ◌∙◌, subst, add-one, add-suc, add-zero, arith}
use Rattle.std.specs.Prelude.{◌↔◌, [], Option, Some, None, Result, IfOk, cond, is_some, slice_index_or}
use Rattle.std.specs.Option.{option_and_then, option_map_or}
use Rattle.std.specs.Result.{result_ok}
use Rattle.std.proofs.lemmas.Bool.{both_ways, true≢false}
use Rattle.std.proofs.lemmas.List.{length-map}
use Rattle.fed_base.specs.Counts.{CountsAtMost, counted, next_count}
use Rattle.fed_base.specs.declared.faults.Memory.{Memory as NoMemory}
use Rattle.jws_form.specs.declared.compact.Compact.{Compact}
use Rattle.jws_form.specs.Compact.{IsCompact}
use Rattle.jws_form.proofs.Laws.{IsCompact-unique, only}
use Rattle.jwk_set.specs.declared.jwk.Jwk.{Jwk}
use Rattle.sealed.specs.Seals.{IsSealedBy, named_key}
use Rattle.sealed.specs.Tests.{key_in, tests_under}
use Rattle.entity_statement.specs.Claims.{Claims}
use Rattle.entity_statement.specs.Use.{current_at}
use Rattle.entity_statement.specs.declared.signed.SignedStatement.{SignedStatement}
use Rattle.chain_check.specs.Chains.{Texts}
use Rattle.chain_check.specs.Counts.{CountsBoth, CountsChecks, CountsLeaf, CountsSigned, CountsTest, CountsUnsigned, NamesBoth}
use Rattle.chain_check.specs.Signatures.{CurrentAt, NamesOneKey, SignedAt, keys_at, superior_keys}
use Rattle.chain_check.specs.Reading.{claims_in, entry_claims, entry_text, texts_in}
use Rattle.chain_check.proofs.NameLaws.{claims-there}

-- ---- times

module _ (entries : List SignedStatement) (j : ℕ) (d : SignedStatement) (t : ℕ) (short : j < length entries) where
  abbrev is_current : Bool
  is_current = current_at (get_or entries j d).statement.iat (get_or entries j d).statement.exp t

  pub current-there : is_current ≡ true → CurrentAt (claims_in entries) t j
  current-there now statement there =
      let both = sym (claims-there entries j d short) ∙ there in
      let same : entry_claims (get_or entries j d) ≡ statement = cc both in
      subst (λ s. current_at s.iat s.exp t ≡ true) same now

  pub not-current-there : is_current ≡ false → ¬ CurrentAt (claims_in entries) t j
  not-current-there late current = both_ways is_current late (current (entry_claims (get_or entries j d)) (claims-there entries j d short))

-- ---- one key in two sets

-- the key that the text names is the one that its parts name
pub key_in-compact : (keys : List Jwk) (text : List ℕ) (c : Compact) → IsCompact text c → key_in keys text ≡ named_key c keys
unfolding key_in
key_in-compact keys text c is = ap (λ r. option_and_then (λ compact. named_key compact keys) (result_ok r)) (only text c is)

pub sealed-same : (c : Compact) (own superior : List Jwk) → IsCompact c.whole c → named_key c own ≡ named_key c superior → IsSealedBy c.whole own → IsSealedBy c.whole superior
sealed-same c own superior is same seal =
    let one = IsCompact-unique c.whole seal.compact c seal.splits is in
    record {
      compact = seal.compact;
      splits = seal.splits;
      public = seal.public;
      named = ap (λ x. named_key x superior) one ∙ sym same ∙ ap (λ x. named_key x own) (sym one) ∙ seal.named;
      verifies = seal.verifies;
    }

-- the text names a key of a set that it is sealed by
pub sealed-named : (keys : List Jwk) (text : List ℕ) → IsSealedBy text keys → is_some (key_in keys text) ≡ true
sealed-named keys text seal = ap is_some (key_in-compact keys text seal.compact seal.splits ∙ seal.named)

-- ---- counts

counted-plus : (more steps n : ℕ) → counted more (counted steps n) ≡ counted (steps + more) n
counted-plus zero steps n = ap (λ k. counted k n) (sym (add-zero steps))
counted-plus (suc more) steps n = ap next_count (counted-plus more steps n) ∙ ap (λ k. counted k n) (sym (add-suc steps more))

pub AtMost-plus : {most most' before now then : ℕ} → CountsAtMost most before now → CountsAtMost most' now then → CountsAtMost (most + most') before then
AtMost-plus one two = record {
  steps = one.steps + two.steps;
  within = omega (arith, one.within, two.within);
  counts = two.counts ∙ ap (counted two.steps) one.counts ∙ counted-plus two.steps one.steps _;
}

pub AtMost-within : {most before now : ℕ} (most' : ℕ) → most ≤ most' → CountsAtMost most before now → CountsAtMost most' before now
AtMost-within most' high one = record { steps = one.steps; within = omega (arith, one.within, high); counts = one.counts }

pub AtMost-is : (steps before now : ℕ) → now ≡ counted steps before → CountsAtMost steps before now
AtMost-is steps before now count = record { steps = steps; within = omega arith; counts = count }

-- the test of a text that names a key of a set
pub tests-named : (keys : List Jwk) (text : List ℕ) → is_some (key_in keys text) ≡ true → tests_under keys text ≡ 1
unfolding tests_under
tests-named keys text named = ap (λ b. cond b 1 0) named

-- the tests of the leaf's text under two sets
module _ (text : List ℕ) (own superior : List Jwk) (before now : ℕ) where
  pub leaf-none : (NamesBoth text own superior → ⊥) → now ≡ before → CountsLeaf text own superior before now
  leaf-none unnamed same = record { none = λ _. same; first = λ named. absurd (unnamed named); both = λ named. absurd (unnamed named) }

  pub leaf-first : NamesBoth text own superior → ¬ IsSealedBy text own → now ≡ counted (tests_under own text) before → CountsLeaf text own superior before now
  leaf-first named unsealed count = record {
    none = λ unnamed. absurd (unnamed named);
    first = λ _ _. count ∙ ap (λ n. counted n before) (tests-named own text named.0);
    both = λ _ sealed. absurd (unsealed sealed);
  }

  first-test : is_some (key_in own text) ≡ true → now ≡ counted (tests_under own text) before → now ≡ counted 1 before
  first-test named count = count ∙ ap (λ n. counted n before) (tests-named own text named)

  pub leaf-one : IsSealedBy text own → key_in own text ≡ key_in superior text → now ≡ counted (tests_under own text) before → CountsBoth text own superior (Ok true) before now
  leaf-one sealed same count =
      let one = first-test (sealed-named own text sealed) count in ((λ _. one, λ apart. absurd (apart same)), AtMost-within 2 (omega arith) (AtMost-is 1 before now one))

  second-test : (then : ℕ) → NamesBoth text own superior → now ≡ counted (tests_under own text) before → then ≡ counted (tests_under superior text) now → then ≡ counted 2 before
  second-test then named first second = second ∙ ap (λ n. counted n now) (tests-named superior text named.1) ∙ ap next_count (first-test named.0 first)

  pub leaf-both : (r : Result Bool NoMemory) (then : ℕ) → NamesBoth text own superior → IsSealedBy text own → ¬ (key_in own text ≡ key_in superior text) → now ≡ counted (tests_under own text) before
      → CountsTest superior text r now then → CountsBoth text own superior r before then
  leaf-both (Ok true) then named sealed apart first second =
      let two = second-test then named first second in ((λ same. absurd (apart same), λ _. two), AtMost-is 2 before then two)
  leaf-both (Ok false) then named sealed apart first second = record {
    none = λ unnamed. absurd (unnamed named);
    first = λ _ unsealed. absurd (unsealed sealed);
    both = λ _ _. second-test then named first second;
  }
  leaf-both (Err e) then named sealed apart first second = AtMost-is 1 before then (second ∙ first-test named.0 first)

-- how many checks the first j places cost at most
abbrev pub most_at : ℕ → ℕ
most_at zero = zero
most_at (suc j) = suc (suc j)

pub most_at-within : (j : ℕ) → most_at j ≤ j + 1
most_at-within zero = omega arith
most_at-within (suc j) = omega arith

-- the tests of the text at a place, after those of the places before
module _ (texts : Texts) (chain : List Claims) (keys : List Jwk) where
  abbrev One : Type 0
  One = NamesOneKey texts chain keys

  abbrev AtLeaf : Result Bool NoMemory → ℕ → ℕ → Type 0
  AtLeaf r now then = CountsBoth (slice_index_or texts 0 []) (keys_at chain 0 []) (superior_keys chain keys 0) r now then

  abbrev Above : ℕ → Result Bool NoMemory → ℕ → ℕ → Type 0
  Above j r now then = CountsTest (superior_keys chain keys j) (slice_index_or texts j []) r now then

  one-above : (j now then : ℕ) → SignedAt texts chain keys j → Above j (Ok true) now then → then ≡ counted 1 now
  one-above j now then signed count = count ∙ ap (λ n. counted n now) (tests-named (superior_keys chain keys j) (slice_index_or texts j []) (sealed-named (superior_keys chain keys j) (slice_index_or texts j []) signed.by_superior))

  pub place-signed : (j before now then : ℕ) → SignedAt texts chain keys j → CountsSigned j One before now → (j ≡ 0 → AtLeaf (Ok true) now then) → (0 < j → Above j (Ok true) now then)
      → CountsSigned (j + 1) One before then
  place-signed zero before now then signed first leaf above = subst (λ n. CountsSigned 1 One n then) first (leaf refl).0
  place-signed (suc j) before now then signed first leaf above =
      let more = one-above (suc j) now then signed (above (omega arith)) in
      subst (λ n. CountsSigned n One before then) (sym (add-one (suc j))) ((λ is. more ∙ ap next_count (first.0 is), λ apart. more ∙ ap next_count (first.1 apart)))

  pub place-most : (j before now then : ℕ) → SignedAt texts chain keys j → CountsAtMost (most_at j) before now → (j ≡ 0 → AtLeaf (Ok true) now then) → (0 < j → Above j (Ok true) now then)
      → CountsAtMost (most_at (j + 1)) before then
  place-most zero before now then signed first leaf above = AtMost-within 2 (omega arith) (AtMost-plus first (leaf refl).1)
  place-most (suc j) before now then signed first leaf above =
      let more = one-above (suc j) now then signed (above (omega arith)) in
      subst (λ n. CountsAtMost (most_at n) before then) (sym (add-one (suc j))) (AtMost-within (suc (suc (suc j))) (omega arith) (AtMost-plus first (AtMost-is 1 now then more)))

  pub place-unsigned : (j before now then : ℕ) → CountsSigned j One before now → (j ≡ 0 → AtLeaf (Ok false) now then) → (0 < j → Above j (Ok false) now then)
      → CountsUnsigned texts chain keys j before then
  place-unsigned zero before now then first leaf above =
      subst (λ n. CountsLeaf (slice_index_or texts 0 []) (keys_at chain 0 []) (superior_keys chain keys 0) n then) first (leaf refl)
  place-unsigned (suc j) before now then first leaf above = (now, first, above (omega arith))

  pub place-wanting : (e : NoMemory) (j before now then : ℕ) → CountsAtMost (most_at j) before now → (j ≡ 0 → AtLeaf (Err e) now then) → (0 < j → Above j (Err e) now then)
      → CountsAtMost (j + 1) before then
  place-wanting e zero before now then first leaf above = AtMost-within 1 (omega arith) (AtMost-plus first (leaf refl))
  place-wanting e (suc j) before now then first leaf above =
      AtMost-within (suc j + 1) (omega arith) (AtMost-plus first (AtMost-is 0 now then (above (omega arith))))

-- the texts are as many as the entries
pub length-texts : (entries : List SignedStatement) → length (texts_in entries) ≡ length entries
length-texts entries = length-map entries entry_text

pub all-signed : (entries : List SignedStatement) (keys : List Jwk) (j before now : ℕ) → j ≡ length entries → CountsAtMost (most_at j) before now
    → CountsSigned j (NamesOneKey (texts_in entries) (claims_in entries) keys) before now → CountsChecks (texts_in entries) (claims_in entries) keys (Ok tt) before now
all-signed entries keys j before now end most all =
    subst (λ n. CountsSigned n (NamesOneKey (texts_in entries) (claims_in entries) keys) before now × CountsAtMost (n + 1) before now) (end ∙ sym (length-texts entries))
    ((all, AtMost-within (j + 1) (most_at-within j) most))
