-- What a check of a text under the keys of a set tells, and how many tests it counts.
use Rattle.std.proofs.Common.{◌≡◌, ℕ, List, Bool, true, false, cond, Option, Some, None, is_some, Result, Ok, Err, IfOk, refl, sym, ap, ◌∙◌, subst}
use Rattle.std.specs.Prelude.{◌↔◌, MatchResult}
use Rattle.std.specs.Option.{option_and_then}
use Rattle.std.specs.Result.{result_ok}
use Rattle.std.proofs.lemmas.Bool.{false_from_ne_true}
use Rattle.fed_base.specs.Counts.{counted, next_count}
use Rattle.fed_base.specs.declared.faults.Memory.{Memory as NoMemory}
use Rattle.jws_form.specs.declared.compact.Compact.{Compact}
use Rattle.jws_form.specs.Compact.{IsCompact}
use Rattle.jws_form.proofs.Laws.{only}
use Rattle.jwk_set.specs.declared.jwk.Jwk.{Jwk}
use Rattle.jwk_set.specs.KeySets.{key_named}
use Rattle.sealed.specs.Answers.{Decides, IsChecked, Tells, was_checked}
use Rattle.sealed.specs.Deciding.{is_sealed_by}
use Rattle.sealed.specs.Seals.{IsSealedBy, Pair, named_key}
use Rattle.sealed.specs.declared.fault.SealFault.{SealFault}
use Rattle.sealed.specs.declared.fault.SealFault.TheVariants.{NoKid, NoKey, BadSignature, Memory}
use Rattle.sealed.proofs.DecidingLaws.{IsSealedBy-from_is_sealed_by, Splits-from_IsCompact, is_sealed_by-from_IsSealedBy}
use Rattle.sealed.specs.Tests.{key_in, tests_under}

-- the key that a text names is the one that its parts name
pub key_in-compact : (keys : List Jwk) (text : List ℕ) (c : Compact) → IsCompact text c → key_in keys text ≡ named_key c keys
unfolding key_in
key_in-compact keys text c is = ap (λ r. option_and_then (λ compact. named_key compact keys) (result_ok r)) (only text c is)

tests-key : (keys : List Jwk) (c : Compact) (key : Option (List ℕ)) → IsCompact c.whole c → named_key c keys ≡ key → tests_under keys c.whole ≡ cond (is_some key) 1 0
unfolding tests_under
tests-key keys c key is named = ap (λ k. cond (is_some k) 1 0) (key_in-compact keys c.whole c is ∙ named)

-- the count after a check that was made or not
abbrev pub CountsUnder : ℕ → Result Bool NoMemory → ℕ → ℕ → Type 0
CountsUnder tests out before now = MatchResult out (λ _. now ≡ counted tests before) (λ _. now ≡ before)

module _ (keys : List Jwk) (c : Compact) (out : Result Bool NoMemory) (before now : ℕ) (is : IsCompact c.whole c) where
  told : (b : Bool) (key : Option (List ℕ)) → out ≡ Ok b → named_key c keys ≡ key → now ≡ counted (cond (is_some key) 1 0) before → CountsUnder (tests_under keys c.whole) out before now
  told b key tells named count =
      subst (λ o. CountsUnder (tests_under keys c.whole) o before now) (sym tells) (count ∙ ap (λ n. counted n before) (sym (tests-key keys c key is named)))

  pub tells-counted : (r : Result Pair SealFault) → Tells r out → IsChecked c keys r → now ≡ cond (was_checked r) (next_count before) before → CountsUnder (tests_under keys c.whole) out before now
  tells-counted (Ok seal) tells checked count = told true (Some seal.public) tells checked.0 count
  tells-counted (Err BadSignature) tells checked count = told false (Some checked.0) tells checked.1 count
  tells-counted (Err NoKid) tells checked count = told false None tells (ap (option_and_then (λ kid. key_named kid c.alg keys)) checked) count
  tells-counted (Err NoKey) tells checked count = told false None tells checked.2 count
  tells-counted (Err Memory) tells checked count = subst (λ o. CountsUnder (tests_under keys c.whole) o before now) (sym tells) count

-- a check tells whether the text is sealed, as a fact
pub tells-sealed : (r : Result Pair SealFault) (out : Result Bool NoMemory) (P : Type 0) → Tells r out → Decides r P → IfOk out (λ sealed. (sealed ≡ true) ↔ P)
tells-sealed (Ok seal) out P tells decides = subst (λ o. IfOk o (λ sealed. (sealed ≡ true) ↔ P)) (sym tells) ((λ _. decides, λ _. refl))
tells-sealed (Err BadSignature) out P tells decides = subst (λ o. IfOk o (λ sealed. (sealed ≡ true) ↔ P)) (sym tells) ((λ bad. cc bad, λ p. absurd (decides p)))
tells-sealed (Err NoKid) out P tells decides = subst (λ o. IfOk o (λ sealed. (sealed ≡ true) ↔ P)) (sym tells) ((λ bad. cc bad, λ p. absurd (decides p)))
tells-sealed (Err NoKey) out P tells decides = subst (λ o. IfOk o (λ sealed. (sealed ≡ true) ↔ P)) (sym tells) ((λ bad. cc bad, λ p. absurd (decides p)))
tells-sealed (Err Memory) out P tells decides = subst (λ o. IfOk o (λ sealed. (sealed ≡ true) ↔ P)) (sym tells) tt

-- and as a test
same_test : (b t : Bool) → ((b ≡ true) → t ≡ true) → (t ≡ true → b ≡ true) → b ≡ t
same_test true t there back = sym (there refl)
same_test false t there back = sym (false_from_ne_true t (λ so. let bad = back so in cc bad))

pub sealed-test : (keys : List Jwk) (c : Compact) (out : Result Bool NoMemory) → IsCompact c.whole c → IfOk out (λ sealed. (sealed ≡ true) ↔ IsSealedBy c.whole keys)
    → IfOk out (λ sealed. sealed ≡ is_sealed_by c.whole keys)
sealed-test keys c (Ok b) is exactly =
    same_test b (is_sealed_by c.whole keys) (λ so. is_sealed_by-from_IsSealedBy c.whole keys (exactly.0 so))
    (λ so. exactly.1 (IsSealedBy-from_is_sealed_by c.whole keys (Splits-from_IsCompact c.whole c is) so))
sealed-test keys c (Err e) is exactly = tt
