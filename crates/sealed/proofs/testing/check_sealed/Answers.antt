use Rattle.std.proofs.Common.{◌≡◌, ℕ, List, Option, Some, None, Ok, Err, refl, sym, ap, ◌∙◌, subst}
use Rattle.std.specs.Option.{option_and_then}
use Rattle.fed_base.specs.declared.algorithm.Alg.{Alg}
use Rattle.jws_form.specs.declared.compact.Compact.{Compact}
use Rattle.jwk_set.specs.declared.jwk.Jwk.{Jwk}
use Rattle.jwk_set.specs.KeySets.{key_named}
use Rattle.sealed.specs.declared.fault.SealFault.TheVariants.{NoKid, NoKey, BadSignature}
use Rattle.sealed.specs.declared.tested.Tested.TheVariants.{Yes, No}
use Rattle.sealed.specs.Answers.{HasSignature, IsChecked, IsTested}
use Rattle.sealed.specs.Seals.{Pair, named_key, pair_of}
use Rattle.sealed.proofs.Sealings.{decided}
use Rattle.sealed.proofs.testing.check_sealed.Goals as goal

-- the header names one key
keyed : (alg : Alg) (kid other public : List ℕ) (given found : Option (List ℕ)) (keys : List Jwk) → given ≡ Some kid → found ≡ key_named kid alg keys → found ≡ Some public
    → given ≡ Some other → key_named other alg keys ≡ None → ⊥
keyed alg kid other public given found keys is exact some at none =
    let same : kid ≡ other = let both = sym is ∙ at in cc both in
    let bad = sym some ∙ exact ∙ ap (λ k. key_named k alg keys) same ∙ none in
    cc bad

-- a test that passed, under the key that the header names
sealed_checked : (compact : Compact) (keys : List Jwk) (public : List ℕ) (seal : Pair) → named_key compact keys ≡ Some public → IsTested compact public (Yes seal)
    → IsChecked compact keys (Ok seal)
sealed_checked compact keys public seal named tested =
    let own : seal.public ≡ public = ap (λ (pair : Pair). pair.public) tested.0 in
    (named ∙ ap Some (sym own), tested.0 ∙ ap (pair_of compact.whole) (sym own), subst (HasSignature compact) (sym own) tested.1)

pub returns-in_default-clause-checked : goal.returns-in_default-clause-checked
returns-in_default-clause-checked g c = c.in_default.is

pub returns-in_default-clause-nameless : goal.returns-in_default-clause-nameless
returns-in_default-clause-nameless g c = λ _. refl

pub returns-in_default-clause-decides : goal.returns-in_default-clause-decides
returns-in_default-clause-decides g c = decided c.args.compact.now c.args.set.now.keys (Err NoKid) c.requires c.in_default.is

pub returns-in_default-key_of-clause-checked : goal.returns-in_default-key_of-clause-checked
returns-in_default-key_of-clause-checked g c = (
  c.in-Some.kid,
  c.in-Some.is,
  ap (option_and_then (λ kid. key_named kid c.args.compact.now.alg c.args.set.now.keys)) c.in-Some.is ∙ sym c.key_of.ensures.exact ∙ c.in_default-key_of.is,
)

pub returns-in_default-key_of-clause-decides : goal.returns-in_default-key_of-clause-decides
returns-in_default-key_of-clause-decides g c =
    decided c.args.compact.now c.args.set.now.keys (Err NoKey) c.requires (returns-in_default-key_of-clause-checked g c)

pub returns-clause-checked : goal.returns-clause-checked
returns-clause-checked g c =
    let tested : IsTested c.args.compact.now c.in-Some-key_of.public (No c.in-No.field-0) = rw c.in-No.is at c.in_ok-seal.ensures.tested in (
      c.in-Some-key_of.public,
      ap (option_and_then (λ kid. key_named kid c.args.compact.now.alg c.args.set.now.keys)) c.in-Some.is ∙ sym c.key_of.ensures.exact ∙ c.in-Some-key_of.is,
      tested.1,
    )

pub returns-clause-decides : goal.returns-clause-decides
returns-clause-decides g c = decided c.args.compact.now c.args.set.now.keys (Err BadSignature) c.requires (returns-clause-checked g c)

pub returns-in-Yes-clause-checked : goal.returns-in-Yes-clause-checked
returns-in-Yes-clause-checked g c =
    let tested : IsTested c.args.compact.now c.in-Some-key_of.public (Yes c.in-Yes.seal) = rw c.in-Yes.is at c.in_ok-seal.ensures.tested in
    sealed_checked c.args.compact.now c.args.set.now.keys c.in-Some-key_of.public c.in-Yes.seal
    (ap (option_and_then (λ kid. key_named kid c.args.compact.now.alg c.args.set.now.keys)) c.in-Some.is ∙ sym c.key_of.ensures.exact ∙ c.in-Some-key_of.is) tested

pub returns-in-Yes-clause-decides : goal.returns-in-Yes-clause-decides
returns-in-Yes-clause-decides g c = decided c.args.compact.now c.args.set.now.keys (Ok c.in-Yes.seal) c.requires (returns-in-Yes-clause-checked g c)

pub returns-in-Yes-clause-keyless : goal.returns-in-Yes-clause-keyless
returns-in-Yes-clause-keyless g c = λ kid at none.
    absurd (keyed c.args.compact.now.alg c.in-Some.kid kid c.in-Some-key_of.public c.args.compact.now.kid c.key_of.result c.args.set.now.keys c.in-Some.is c.key_of.ensures.exact c.in-Some-key_of.is at none)

pub returns-in_err-seal-clause-keyless : goal.returns-in_err-seal-clause-keyless
returns-in_err-seal-clause-keyless g c = λ kid at none.
    absurd (keyed c.args.compact.now.alg c.in-Some.kid kid c.in-Some-key_of.public c.args.compact.now.kid c.key_of.result c.args.set.now.keys c.in-Some.is c.key_of.ensures.exact c.in-Some-key_of.is at none)

pub returns-clause-keyless : goal.returns-clause-keyless
returns-clause-keyless g c = λ kid at none.
    absurd (keyed c.args.compact.now.alg c.in-Some.kid kid c.in-Some-key_of.public c.args.compact.now.kid c.key_of.result c.args.set.now.keys c.in-Some.is c.key_of.ensures.exact c.in-Some-key_of.is at none)
