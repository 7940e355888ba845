-- From what the steps of a check answer to the verdict.
use Rattle.std.proofs.Common.{◌≡◌, ◌-◌, inl, inr, ℕ, List, length, Bool, true, false, Option, Some, None, Result, Ok, Err, IfOk, refl, sym, ◌∙◌, subst, arith}
use Rattle.std.specs.Prelude.{◌↔◌, IsSome, IsTrue}
use Rattle.std.specs.Option.{option_and_then}
use Rattle.fed_base.specs.declared.faults.Memory.{Memory}
use Rattle.jws_form.specs.declared.compact.Compact.{Compact}
use Rattle.jws_form.specs.Splitting.{long_splitting}
use Rattle.jwk_set.specs.declared.jwk.Jwk.{Jwk}
use Rattle.entity_statement.specs.Signed.{statement_of}
use Rattle.entity_statement.specs.Use.{current_at}
use Rattle.chain_check.specs.Chains.{HasForm, Texts}
use Rattle.chain_check.specs.Validity.{Case as ChainCase}
use Rattle.chain_check.specs.Verdicts.{IsVerdictOn as IsChainVerdict}
use Rattle.chain_check.specs.declared.reason.Reason.{Reason}
use Rattle.chain_check.specs.declared.verdict.Resolved.{Resolved}
use Rattle.chain_check.specs.declared.verdict.Verdict.{Verdict as ChainVerdict}
use Rattle.chain_check.specs.declared.verdict.Verdict.TheVariants as chain
use Rattle.trust_mark.specs.declared.signed.Signed.{Signed}
use Rattle.resolve_reply.specs.declared.said.Said.{Said}
use Rattle.reply_check.specs.declared.claimed.Claimed.{Claimed}
use Rattle.reply_check.specs.declared.flaw.Flaw.{Flaw}
use Rattle.reply_check.specs.declared.verdict.ReplyReason.{ReplyReason}
use Rattle.reply_check.specs.declared.verdict.ReplyReason.TheVariants.{Form, Signature, Chain, Subject, Metadata, End, Mark, Times}
use Rattle.reply_check.specs.declared.verdict.ReplyVerdict.{ReplyVerdict}
use Rattle.reply_check.specs.declared.verdict.ReplyVerdict.TheVariants.{Sound, Refused}
use Rattle.reply_check.specs.Marks.{IsFirstFlaw, MarksStand}
use Rattle.reply_check.specs.Readings.{IsReading, IsSealedReply, IsSignedBy, reply_of}
use Rattle.reply_check.specs.Stages.{CanEnd, IsSaidFault}
use Rattle.reply_check.specs.Verdicts.{AnswersChain, AnswersForm, AnswersMarks, AnswersSubject, CanBeTold, Case, IsVerdictOn, chain_in}

-- ---- the text

-- a reading that isn't any reply
pub none-read : (text : List ℕ) (read : Option (Signed Claimed)) → ((s : Signed Claimed) → read ≡ Some s → ⊥) → IsReading text read → reply_of text ≡ None
none-read text None not_some reading = reading
none-read text (Some s) not_some reading = absurd (not_some s refl)

-- what was read is the reply, with its parts
pub some-read : (text : List ℕ) (read : Option (Signed Claimed)) (s : Signed Claimed) → read ≡ Some s → IsReading text read
    → (reply_of text ≡ Some s.claims) × (long_splitting text ≡ Ok s.compact)
some-read text read s is reading = let found : IsReading text (Some s) = subst (IsReading text) is reading in found

pub form-answer : (q : Case) → reply_of q.text ≡ None → IsVerdictOn q (Refused Form)
form-answer q none = subst (λ o. AnswersForm q o (Refused Form)) (sym none) refl

sealed-is : (text : List ℕ) (keys : List Jwk) (compact : Compact) → long_splitting text ≡ Ok compact → IsSignedBy compact keys → IsSealedReply text keys
sealed-is text keys compact splits signed = record { compact = compact; splits = splits; signed = signed }

sealed-not : (text : List ℕ) (keys : List Jwk) (compact : Compact) → long_splitting text ≡ Ok compact → ¬ IsSignedBy compact keys → ¬ IsSealedReply text keys
sealed-not text keys compact splits unsigned sealed =
    let both = sym sealed.splits ∙ splits in
    let same : sealed.compact ≡ compact = cc both in
    unsigned (subst (λ c. IsSignedBy c keys) same sealed.signed)

pub signature-answer : (q : Case) (c : Claimed) (compact : Compact) (b : Bool) → reply_of q.text ≡ Some c → long_splitting q.text ≡ Ok compact
    → (IsTrue b ↔ IsSignedBy compact q.resolver) → b ≡ false → IsVerdictOn q (Refused Signature)
signature-answer q c compact b reads splits tells is =
    subst (λ o. AnswersForm q o (Refused Signature)) (sym reads)
    (inr ((sealed-not q.text q.resolver compact splits (λ signed. let bad : true ≡ false = sym (tells.1 signed) ∙ is in cc bad), refl)))

pub chain-answer : (q : Case) (c : Claimed) (compact : Compact) (b : Bool) (result : Result ReplyVerdict Memory) → reply_of q.text ≡ Some c
    → long_splitting q.text ≡ Ok compact → (IsTrue b ↔ IsSignedBy compact q.resolver) → b ≡ true → IfOk result (AnswersChain (chain_in q c.said) c q.moment)
    → IfOk result (IsVerdictOn q)
chain-answer q c compact b (Ok v) reads splits tells is answers =
    subst (λ o. AnswersForm q o v) (sym reads) (inl ((sealed-is q.text q.resolver compact splits (tells.0 is), answers)))
chain-answer q c compact b (Err memory) reads splits tells is answers = tt

-- ---- the chain

pub can-end : (chain : Texts) → HasForm chain → CanEnd chain
can-end chain form =
    let first = form 0 (omega arith) in
    let last = form (length chain - 1) (omega arith) in
    record {
      first = subst (λ o. IsSome (option_and_then statement_of o)) (sym first.there) first.reads;
      last = subst (λ o. IsSome (option_and_then statement_of o)) (sym last.there) last.reads;
    }

-- the verdict that was found is this
pub chain-is : (case : ChainCase) (found v : ChainVerdict) → found ≡ v → IsChainVerdict case found → IsChainVerdict case v
chain-is case found v is holds = subst (IsChainVerdict case) is holds

pub valid-ends : (case : ChainCase) (r : Resolved) → IsChainVerdict case (chain.Valid r) → CanEnd case.texts
valid-ends case r is = can-end case.texts is.0.form

pub refused-answer : (case : ChainCase) (c : Claimed) (t place : ℕ) (reason : Reason) → IsChainVerdict case (chain.Refused place reason)
    → AnswersChain case c t (Refused (Chain place reason))
refused-answer case c t place reason is = (chain.Refused place reason, is, refl)

pub valid-answer : (case : ChainCase) (c : Claimed) (r : Resolved) (t : ℕ) (result : Result ReplyVerdict Memory) → IsChainVerdict case (chain.Valid r)
    → IfOk result (AnswersSubject c r t) → IfOk result (AnswersChain case c t)
valid-answer case c r t (Ok v) is answers = (chain.Valid r, is, answers)
valid-answer case c r t (Err memory) is answers = tt

-- ---- beside it

pub fault-answer : (c : Claimed) (r : Resolved) (t : ℕ) (reason : ReplyReason) → IsSaidFault c.said r (Some reason) → AnswersSubject c r t (Refused reason)
fault-answer c r t Subject fault = inr ((fault, refl))
fault-answer c r t Metadata fault = inl ((fault.0, inr ((fault.1, refl))))
fault-answer c r t End fault = inl ((fault.0, inl ((fault.1, inr ((fault.2, refl))))))
fault-answer c r t Form fault = absurd fault
fault-answer c r t Signature fault = absurd fault
fault-answer c r t (Chain place reason) fault = absurd fault
fault-answer c r t (Mark place flaw) fault = absurd fault
fault-answer c r t Times fault = absurd fault

pub fault-told : (said : Said) (r : Resolved) (reason : ReplyReason) → IsSaidFault said r (Some reason) → CanBeTold (Refused reason)
fault-told said r Subject fault = tt
fault-told said r Metadata fault = tt
fault-told said r End fault = tt
fault-told said r Form fault = absurd fault
fault-told said r Signature fault = absurd fault
fault-told said r (Chain place reason) fault = absurd fault
fault-told said r (Mark place flaw) fault = absurd fault
fault-told said r Times fault = absurd fault

pub fits-answer : (c : Claimed) (r : Resolved) (t : ℕ) (result : Result ReplyVerdict Memory) → IsSaidFault c.said r None → IfOk result (AnswersMarks c t)
    → IfOk result (AnswersSubject c r t)
fits-answer c r t (Ok v) fits answers = inl ((fits.0, inl ((fits.1, inl ((fits.2, answers))))))
fits-answer c r t (Err memory) fits answers = tt

pub flaw-answer : (c : Claimed) (t place : ℕ) (flaw : Flaw) → IsFirstFlaw c.said place flaw → AnswersMarks c t (Refused (Mark place flaw))
flaw-answer c t place flaw is = inr ((place, flaw, is, refl))

pub sound-answer : (c : Claimed) (checked : List Bool) (t : ℕ) (b : Bool) → MarksStand c.said checked → b ≡ current_at c.said.iat c.said.exp t → b ≡ true
    → AnswersMarks c t (Sound c checked)
sound-answer c checked t b stand is current = inl ((checked, stand, inl ((sym is ∙ current, refl))))

pub times-answer : (c : Claimed) (checked : List Bool) (t : ℕ) (b : Bool) → MarksStand c.said checked → b ≡ current_at c.said.iat c.said.exp t → b ≡ false
    → AnswersMarks c t (Refused Times)
times-answer c checked t b stand is ended =
    inl ((checked, stand, inr ((λ current. let bad : true ≡ false = sym current ∙ (sym is ∙ ended) in cc bad, refl))))
