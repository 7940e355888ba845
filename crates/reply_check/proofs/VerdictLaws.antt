-- A text has one verdict as a reply, and is sound exactly where each condition holds.
use Rattle.std.proofs.Common.{◌≡◌, ◌≤◌, inl, inr, ℕ, List, Bool, true, Option, Some, None, Result, Ok, Err, IfOk, refl, sym, ap, ap₂, ◌∙◌, subst}
use Rattle.std.specs.Prelude.{◌↔◌}
use Rattle.fed_base.specs.declared.faults.Memory.{Memory}
use Rattle.chain_check.specs.Chains.{statements_of}
use Rattle.chain_check.specs.Names.{subject_at}
use Rattle.chain_check.specs.Validity.{Case as ChainCase}
use Rattle.chain_check.specs.Verdicts.{IsVerdictOn as IsChainVerdict, least_exp}
use Rattle.chain_check.specs.declared.verdict.Resolved.{Resolved}
use Rattle.chain_check.specs.declared.verdict.Verdict.{Verdict as ChainVerdict}
use Rattle.chain_check.specs.declared.verdict.Verdict.TheVariants as chain
use Rattle.chain_check.proofs.Verdicts.{one_verdict}
use Rattle.reply_check.specs.declared.claimed.Claimed.{Claimed}
use Rattle.reply_check.specs.declared.verdict.ReplyReason.{ReplyReason}
use Rattle.reply_check.specs.declared.verdict.ReplyReason.TheVariants.{Mark, Times, End, Metadata, Subject, Signature}
use Rattle.reply_check.specs.declared.verdict.ReplyVerdict.{ReplyVerdict}
use Rattle.reply_check.specs.declared.verdict.ReplyVerdict.TheVariants.{Sound, Refused}
use Rattle.reply_check.specs.Marks.{MarksStand}
use Rattle.reply_check.specs.Readings.{IsSealedReply, reply_of}
use Rattle.reply_check.specs.Verdicts.{AnswersChain, AnswersEnd, AnswersForm, AnswersMarks, AnswersMetadata, AnswersSubject, AnswersTimes, AnswersVerdict, Case, IsCurrent, IsSound, IsVerdictOn, Needs, SaysMetadata, chain_in, is_sound}
use Rattle.reply_check.proofs.MarkLaws.{checked-one, flaws-clash, flaws-one}

-- ---- one verdict

-- what decides between two answers gives one
abbrev IsOne : (ReplyVerdict → Type 0) → Type 0
IsOne next = (v w : ReplyVerdict) → next v → next w → v ≡ w

needs-one : (P : Type 0) (reason : ReplyReason) (next : ReplyVerdict → Type 0) → IsOne next → IsOne (Needs P reason next)
needs-one P reason next same v w (inl met) (inl also) = same v w met.1 also.1
needs-one P reason next same v w (inl met) (inr fails) = absurd (fails.0 met.0)
needs-one P reason next same v w (inr fails) (inl met) = absurd (fails.0 met.0)
needs-one P reason next same v w (inr fails) (inr also) = fails.1 ∙ sym also.1

times-one : (c : Claimed) (checked : List Bool) (t : ℕ) → IsOne (AnswersTimes c checked t)
times-one c checked t = needs-one (IsCurrent c.said t) Times (λ v. v ≡ Sound c checked) (λ v w first second. first ∙ sym second)

marks-one : (c : Claimed) (t : ℕ) → IsOne (AnswersMarks c t)
marks-one c t v w (inl stand) (inl also) =
    let same = checked-one c.said stand.0 also.0 stand.1 also.1 in
    times-one c also.0 t v w (subst (λ checked. AnswersTimes c checked t v) same stand.2) also.2
marks-one c t v w (inl stand) (inr flaw) = absurd (flaws-clash c.said stand.0 flaw.0 flaw.1 stand.1 flaw.2)
marks-one c t v w (inr flaw) (inl stand) = absurd (flaws-clash c.said stand.0 flaw.0 flaw.1 stand.1 flaw.2)
marks-one c t v w (inr flaw) (inr also) =
    let same = flaws-one c.said flaw.0 also.0 flaw.1 also.1 flaw.2 also.2 in
    flaw.3 ∙ ap₂ (λ place f. Refused (Mark place f)) same.0 same.1 ∙ sym also.3

subject-one : (c : Claimed) (r : Resolved) (t : ℕ) → IsOne (AnswersSubject c r t)
subject-one c r t =
    needs-one (c.said.sub ≡ r.leaf) Subject (AnswersMetadata c r t)
    (needs-one (SaysMetadata c.said r.metadata) Metadata (AnswersEnd c r t) (needs-one (c.said.exp ≤ r.exp) End (AnswersMarks c t) (marks-one c t)))

verdict-one : (c : Claimed) (found : ChainVerdict) (t : ℕ) → IsOne (AnswersVerdict c found t)
verdict-one c (chain.Valid r) t v w first second = subject-one c r t v w first second
verdict-one c (chain.Refused place reason) t v w first second = first ∙ sym second

chain-one : (case : ChainCase) (c : Claimed) (t : ℕ) → IsOne (AnswersChain case c t)
chain-one case c t v w first second =
    let same = one_verdict case first.0 second.0 first.1 second.1 in
    verdict-one c second.0 t v w (subst (λ found. AnswersVerdict c found t v) same first.2) second.2

form-one : (q : Case) (o : Option Claimed) → IsOne (AnswersForm q o)
form-one q (Some c) v w first second =
    needs-one (IsSealedReply q.text q.resolver) Signature (AnswersChain (chain_in q c.said) c q.moment) (chain-one (chain_in q c.said) c q.moment) v w first second
form-one q None v w first second = first ∙ sym second

pub reply-one : (q : Case) (v w : ReplyVerdict) → IsVerdictOn q v → IsVerdictOn q w → v ≡ w
reply-one q = form-one q (reply_of q.text)

-- ---- sound exactly where each condition holds

module _ (q : Case) where
  -- where each condition holds, the verdict says so
  sound-chain : (s : IsSound q) → AnswersChain (chain_in q s.claimed.said) s.claimed q.moment (Sound s.claimed s.checked)
  sound-chain s =
      let resolved : Resolved = record { leaf = subject_at (statements_of s.claimed.said.chain) 0; exp = least_exp (statements_of s.claimed.said.chain); metadata = s.metadata } in (
        chain.Valid resolved,
        (s.valid, record { leaf = refl; exp = refl; metadata = s.resolves }),
        inl ((s.subject, inl ((s.says, inl ((s.ends, inl ((s.checked, s.marks, inl ((s.current, refl)))))))))),
      )

  sound-verdict : (s : IsSound q) → IsVerdictOn q (Sound s.claimed s.checked)
  sound-verdict s = subst (λ o. AnswersForm q o (Sound s.claimed s.checked)) (sym s.reads) (inl ((s.sealed, sound-chain s)))

  -- and only there
  module _ (c : Claimed) (checked : List Bool) where
    never : (reason : ReplyReason) → Sound c checked ≡ Refused reason → ⊥
    never reason bad = cc bad

    met : (P : Type 0) (reason : ReplyReason) (next : ReplyVerdict → Type 0) → Needs P reason next (Sound c checked) → P × next (Sound c checked)
    met P reason next (inl both) = both
    met P reason next (inr fails) = absurd (never reason fails.1)

    abbrev IsMarked : Claimed → ℕ → Type 0
    IsMarked d t = (ch : List Bool) × MarksStand d.said ch × AnswersTimes d ch t (Sound c checked)

    marked : (d : Claimed) (t : ℕ) → AnswersMarks d t (Sound c checked) → IsMarked d t
    marked d t (inl stand) = stand
    marked d t (inr flaw) = absurd (never (Mark flaw.0 flaw.1) flaw.3)

    resolved-sound : (d : Claimed) (found : ChainVerdict) → reply_of q.text ≡ Some d → IsSealedReply q.text q.resolver → IsChainVerdict (chain_in q d.said) found
        → AnswersVerdict d found q.moment (Sound c checked) → IsSound q
    resolved-sound d (chain.Valid r) reads sealed valid answers =
        let subject = met (d.said.sub ≡ r.leaf) Subject (AnswersMetadata d r q.moment) answers in
        let metadata = met (SaysMetadata d.said r.metadata) Metadata (AnswersEnd d r q.moment) subject.1 in
        let ends = met (d.said.exp ≤ r.exp) End (AnswersMarks d q.moment) metadata.1 in
        let marks = marked d q.moment ends.1 in
        let times = met (IsCurrent d.said q.moment) Times (λ v. v ≡ Sound d marks.0) marks.2 in
        record {
          claimed = d;
          checked = marks.0;
          reads = reads;
          sealed = sealed;
          valid = valid.0;
          subject = subject.0 ∙ valid.1.leaf;
          metadata = r.metadata;
          resolves = valid.1.metadata;
          says = metadata.0;
          ends = subst (λ e. d.said.exp ≤ e) valid.1.exp ends.0;
          marks = marks.1;
          current = times.0;
        }
    resolved-sound d (chain.Refused place reason) reads sealed fails answers = absurd (never _ answers)

    read-sound : (o : Option Claimed) → reply_of q.text ≡ o → AnswersForm q o (Sound c checked) → IsSound q
    read-sound (Some d) reads answers =
        let sealed = met (IsSealedReply q.text q.resolver) Signature (AnswersChain (chain_in q d.said) d q.moment) answers in
        resolved-sound d sealed.1.0 reads sealed.0 sealed.1.1 sealed.1.2
    read-sound None reads answers = absurd (never _ answers)

  sound-of : (c : Claimed) (checked : List Bool) → IsVerdictOn q (Sound c checked) → IsSound q
  sound-of c checked is = read-sound c checked (reply_of q.text) refl is

  is-sound : (v : ReplyVerdict) → is_sound v ≡ true → (c : Claimed) × (checked : List Bool) × (v ≡ Sound c checked)
  is-sound (Sound c checked) sound = (c, checked, refl)
  is-sound (Refused reason) sound = cc sound

  sound-holds : (v : ReplyVerdict) → is_sound v ≡ true → IsVerdictOn q v → IsSound q
  sound-holds v sound is = let found = is-sound v sound in sound-of found.0 found.1 (subst (IsVerdictOn q) found.2 is)

  holds-sound : (v : ReplyVerdict) → IsVerdictOn q v → IsSound q → is_sound v ≡ true
  holds-sound v is s = sym (ap is_sound (reply-one q (Sound s.claimed s.checked) v (sound-verdict s) is))

  pub sound-exactly : (v : ReplyVerdict) → IsVerdictOn q v → (is_sound v ≡ true) ↔ IsSound q
  sound-exactly v is = (λ sound. sound-holds v sound is, λ s. holds-sound v is s)

-- ---- of what a call answers

pub only-answer : (q : Case) (result : Result ReplyVerdict Memory) → IfOk result (IsVerdictOn q) → IfOk result (λ v. (is_sound v ≡ true) ↔ IsSound q)
only-answer q (Ok v) is = sound-exactly q v is
only-answer q (Err memory) is = tt

pub one-answer : (q : Case) (result : Result ReplyVerdict Memory) → IfOk result (IsVerdictOn q) → IfOk result (λ v. (other : ReplyVerdict) → IsVerdictOn q other → other ≡ v)
one-answer q (Ok v) is = λ other that. reply-one q other v that is
one-answer q (Err memory) is = tt
