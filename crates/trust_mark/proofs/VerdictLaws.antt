-- The verdict on a mark, stage by stage.
use Rattle.std.proofs.Common.{◌≡◌, ℕ, List, bytes_eq, Bool, true, false, Option, Some, None, is_some, refl, sym, ◌∙◌, subst, arith}
use Rattle.std.specs.Prelude.{◌↔◌, IfSome}
use Rattle.fed_base.specs.Values.{if_there}
use Rattle.sealed.specs.Seals.{IsSealedBy}
use Rattle.trust_mark.specs.Conditions.{admits, claims_reason, is_current}
use Rattle.trust_mark.specs.Marks.{Case, IsDelegated, Meets, issuers_of, mark_of, owner_of}
use Rattle.trust_mark.specs.Verdicts.{FailsAt, IsFirstReason, IsVerdictOn}
use Rattle.trust_mark.specs.declared.mark.Mark.{Mark}
use Rattle.trust_mark.specs.declared.verdict.MarkReason.{MarkReason}
use Rattle.trust_mark.specs.declared.verdict.MarkReason.TheVariants.{Form, Subject, Kind, Unlisted, Issuer, Times, Signature, Delegation}
use Rattle.trust_mark.specs.declared.verdict.MarkVerdict.TheVariants.{Good, Bad}
use Rattle.trust_mark.proofs.ConditionLaws.{current-exactly, issuer-exactly, same-exactly}
use Rattle.trust_mark.proofs.OrderLaws.{Before, failing-told, next-before, none-failing}

pub first-is : (case : Case) (mark : Mark) (r : MarkReason) → FailsAt case r mark → IsFirstReason case r
first-is case mark Form fails = absurd (fails.here fails.reads)
first-is case mark Subject fails = (mark, fails)
first-is case mark Kind fails = (mark, fails)
first-is case mark Unlisted fails = (mark, fails)
first-is case mark Issuer fails = (mark, fails)
first-is case mark Times fails = (mark, fails)
first-is case mark Signature fails = (mark, fails)
first-is case mark Delegation fails = (mark, fails)

module _ (case : Case) (mark : Mark) (reads : mark_of case.entry.text ≡ Some mark) where
  -- the five tests on claims
  abbrev listed : Option (List (List ℕ))
  listed = issuers_of case.anchor mark.mark_type

  pub claims-told : (r : MarkReason) → claims_reason case mark ≡ Some r → IsVerdictOn case (Bad r)
  unfolding claims_reason
  claims-told r first =
      let fails = failing-told (Meets case mark) reads (bytes_eq mark.sub case.leaf) (bytes_eq mark.mark_type case.entry.mark_type) (is_some listed)
      (if_there (λ who. admits who mark.iss) listed) (is_current mark case.moment)
      (same-exactly mark.sub case.leaf) (same-exactly mark.mark_type case.entry.mark_type) ((λ so. so, λ so. so)) (issuer-exactly listed mark.iss) (current-exactly mark case.moment) r first in
      first-is case mark r (record { before = fails.0; reads = reads; here = fails.1 })

  pub claims-pass : claims_reason case mark ≡ None → Before (Meets case mark) Signature
  unfolding claims_reason
  claims-pass none =
      none-failing (Meets case mark) reads (bytes_eq mark.sub case.leaf) (bytes_eq mark.mark_type case.entry.mark_type) (is_some listed)
      (if_there (λ who. admits who mark.iss) listed) (is_current mark case.moment)
      (same-exactly mark.sub case.leaf) (same-exactly mark.mark_type case.entry.mark_type) ((λ so. so, λ so. so)) (issuer-exactly listed mark.iss) (current-exactly mark case.moment) none

  module _ (pass : claims_reason case mark ≡ None) (text : List ℕ) (whole : text ≡ case.entry.text) (seal : Bool) (exactly : (seal ≡ true) ↔ IsSealedBy text case.keys) where
    -- the fact that the seal's test tells, of the entry's text
    sealed : seal ≡ true → IsSealedBy case.entry.text case.keys
    sealed so = subst (λ x. IsSealedBy x case.keys) whole (exactly.0 so)

    pub unsealed-told : seal ≡ false → IsVerdictOn case (Bad Signature)
    unsealed-told not_so = (
      mark,
      record {
        before = claims-pass pass;
        reads = reads;
        here = λ is. let bad = sym not_so ∙ exactly.1 (subst (λ x. IsSealedBy x case.keys) (sym whole) is) in cc bad;
      },
    )

    module _ (so : seal ≡ true) (leave : Bool) (given : (leave ≡ true) ↔ IfSome (owner_of case.anchor mark.mark_type) (λ owner. IsDelegated mark owner case.moment)) where
      before_delegation : Before (Meets case mark) Delegation
      before_delegation = next-before (Meets case mark) Signature Delegation refl (claims-pass pass) (sealed so)

      pub undelegated-told : leave ≡ false → IsVerdictOn case (Bad Delegation)
      undelegated-told not_so = (mark, record { before = before_delegation; reads = reads; here = λ is. let bad = sym not_so ∙ given.1 is in cc bad })

      pub good-told : (exp : Option ℕ) → exp ≡ mark.exp → leave ≡ true → IsVerdictOn case (Good exp)
      good-told exp end may = (
        mark,
        record {
          form = reads;
          subject = before_delegation Subject (omega arith);
          kind = before_delegation Kind (omega arith);
          listed = before_delegation Unlisted (omega arith);
          issuer = before_delegation Issuer (omega arith);
          times = before_delegation Times (omega arith);
          signature = sealed so;
          delegation = given.0 may;
        },
        end,
      )
