-- What a judgement says of a chain: whether it is valid, or fails by its policies alone.
use Rattle.std.proofs.Common.{◌≡◌, ℕ, List, Some, sym, ap, ◌∙◌, subst, true≢false}
use Rattle.jws_form.specs.declared.compact.Compact.{Compact}
use Rattle.jws_form.proofs.Laws.{IsCompact-unique}
use Rattle.slh_dsa.specs.Verifying.{Verifies}
use Rattle.jwk_set.specs.declared.jwk.Jwk.{Jwk}
use Rattle.sealed.specs.Seals.{IsSealedBy, IsUnsealed, named_key, pair_of}
use Rattle.sealed.specs.Tests.{key_in}
use Rattle.fed_base.specs.Places.{FailsFirst, HoldsBelow}
use Rattle.chain_limits.specs.declared.verdict.LimitVerdict.{LimitVerdict}
use Rattle.chain_limits.specs.declared.verdict.LimitVerdict.TheVariants as limit
use Rattle.chain_limits.proofs.Verdicts.{IsVerdict-unique}
use Rattle.chain_climb.specs.declared.answer.Answer.{Answer}
use Rattle.chain_climb.specs.declared.answer.Answer.TheVariants.{PolicyFails, Invalid}
use Rattle.chain_check.specs.declared.reason.Reason.{Reason}
use Rattle.chain_check.specs.declared.reason.Reason.TheVariants.{Form, Names, Times, Signature, PathLength, Name, Conflict, Policy}
use Rattle.chain_check.specs.declared.verdict.Verdict.TheVariants.{Refused}
use Rattle.chain_check.specs.Metadata.{limited_places}
use Rattle.chain_check.specs.Validity.{Case, IsValid, chain_of}
use Rattle.chain_check.specs.Verdicts.{IsVerdictOn}
use Rattle.chain_check.proofs.SignatureLaws.{key_in-compact}
use Rattle.chain_check.proofs.Verdicts.{valid-exactly}
use Rattle.resolve_round.specs.Answers.{IsRuling}
use Rattle.resolve_round.specs.Pages.{ToMerge}

-- the answer that a reason gives
abbrev pub ruling_of : Reason → Answer
ruling_of (Conflict t p f s) = PolicyFails
ruling_of (Policy t p o) = PolicyFails
ruling_of reason = Invalid

none-fails : (P : ℕ → Type 0) (n place : ℕ) → FailsFirst P n place → HoldsBelow P n → ⊥
none-fails P n place fails holds = fails.here (holds place fails.within)

unlike : (a b : LimitVerdict) → a ≡ b → (a ≡ b → ⊥) → ⊥
unlike a b same apart = apart same

module _ (case : Case) (place : ℕ) where
  not_valid : (reason : Reason) → IsVerdictOn case (Refused place reason) → ¬ IsValid case
  not_valid reason told valid = true≢false (sym ((valid-exactly case (Refused place reason) told).1 valid))

  length-met : limit.PathLength place ≡ limit.Met → ⊥
  length-met same = cc same

  name-met : limit.Name place ≡ limit.Met → ⊥
  name-met same = cc same

  -- a refusal says whether the chain fails by its policies alone
  pub refusal-rules : (reason : Reason) → IsVerdictOn case (Refused place reason) → IsRuling (ruling_of reason) (ToMerge case) (IsValid case)
  refusal-rules Form told = ((λ merges. none-fails _ _ place told merges.0.0.0.0), not_valid Form told)
  refusal-rules Names told = ((λ merges. none-fails _ _ place told.1 merges.0.0.0.1), not_valid Names told)
  refusal-rules Times told = ((λ merges. none-fails _ _ place told.1 merges.0.0.1), not_valid Times told)
  refusal-rules Signature told = ((λ merges. none-fails _ _ place told.1 merges.0.1), not_valid Signature told)
  refusal-rules PathLength told =
      ((λ merges. length-met (IsVerdict-unique (limited_places (chain_of case)) (limit.PathLength place) limit.Met told.1 merges.1)), not_valid PathLength told)
  refusal-rules Name told =
      ((λ merges. name-met (IsVerdict-unique (limited_places (chain_of case)) (limit.Name place) limit.Met told.1 merges.1)), not_valid Name told)
  refusal-rules (Conflict t p f s) told = ((told.0, told.1.0), not_valid (Conflict t p f s) told)
  refusal-rules (Policy t p o) told = ((told.0, told.1.0), not_valid (Policy t p o) told)

-- a valid chain passes to its policies
pub valid-merges : (case : Case) → IsValid case → ToMerge case
valid-merges case valid = ((((valid.form, valid.names), valid.current), valid.signed), valid.within)

-- a text that doesn't verify under the key that it names isn't sealed by the set
pub unsealed-set : (keys : List Jwk) (text public : List ℕ) → key_in keys text ≡ Some public → IsUnsealed (pair_of text public) → ¬ IsSealedBy text keys
unsealed-set keys text public named miss seal =
    let one = IsCompact-unique text seal.compact miss.compact seal.splits miss.splits in
    let own : Some seal.public ≡ Some public = sym seal.named ∙ ap (λ c. named_key c keys) one ∙ sym (key_in-compact keys text miss.compact miss.splits) ∙ named in
    let key : seal.public ≡ public = cc own in
    miss.fails (subst (λ k. Verifies (miss.compact).alg k (miss.compact).signed (miss.compact).signature) key
    (subst (λ (c : Compact). Verifies c.alg seal.public c.signed c.signature) one seal.verifies))
