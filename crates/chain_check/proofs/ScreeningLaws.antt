-- What the stages before the signatures tell of the texts that were read is what a screening says.
use Rattle.std.proofs.Common.{◌≡◌, ℕ, List, length, sym, subst}
use Rattle.jwk_set.specs.declared.jwk.Jwk.{Jwk}
use Rattle.entity_statement.specs.declared.signed.SignedStatement.{SignedStatement}
use Rattle.chain_check.specs.declared.reason.Reason.{Reason}
use Rattle.chain_check.specs.declared.reason.Reason.TheVariants.{Form, Names, Times}
use Rattle.chain_check.specs.declared.screened.Screened.TheVariants.{Candidate, Refused}
use Rattle.fed_base.specs.Places.{FailsFirst}
use Rattle.chain_check.specs.Chains.{LosesForm, Texts, statements_of}
use Rattle.chain_check.specs.Names.{HasNames, LosesNames}
use Rattle.chain_check.specs.Reading.{AreRead, claims_in}
use Rattle.chain_check.specs.Screening.{IsScreening, IsScreeningOf}
use Rattle.chain_check.specs.Signatures.{AreCurrent, CurrentAt}
use Rattle.chain_check.specs.Validity.{case_of}
use Rattle.chain_check.proofs.Told.{times-told}

module _ (texts : Texts) (anchor : List ℕ) (t : ℕ) where
  pub form-screened : (place : ℕ) (reason : Reason) → (reason ≡ Form) × LosesForm texts place → IsScreening texts anchor t (Refused place reason)
  form-screened place reason told keys = subst (λ r. IsScreeningOf (case_of texts anchor keys t) (Refused place r)) (sym told.0) ((told.1, λ to. told.1.here (to.0.0 place told.1.within)))

  module _ (entries : List SignedStatement) (read : AreRead texts entries) where
    pub names-screened : (place : ℕ) (reason : Reason) → (reason ≡ Names) × LosesNames (claims_in entries) anchor place → IsScreening texts anchor t (Refused place reason)
    names-screened place reason told keys =
        let loses : LosesNames (statements_of texts) anchor place = subst (λ claims. LosesNames claims anchor place) read.statements told.1 in
        subst (λ r. IsScreeningOf (case_of texts anchor keys t) (Refused place r)) (sym told.0) (((read.form, loses), λ to. loses.here (to.0.1 place loses.within)))

    module _ (names : HasNames (claims_in entries) anchor) where
      pub times-screened : (place : ℕ) (reason : Reason) → (reason ≡ Times) × FailsFirst (CurrentAt (claims_in entries) t) (length (claims_in entries)) place → IsScreening texts anchor t (Refused place reason)
      times-screened place reason told keys =
          let fails : FailsFirst (CurrentAt (statements_of texts) t) (length (statements_of texts)) place = subst (λ claims. FailsFirst (CurrentAt claims t) (length claims) place) read.statements told.1 in
          (times-told texts anchor keys t entries read names place reason told, λ to. fails.here (to.1 place fails.within))

      pub candidate-screened : AreCurrent (claims_in entries) t → IsScreening texts anchor t (Candidate entries)
      candidate-screened current keys =
          (((read.form, subst (λ claims. HasNames claims anchor) read.statements names), subst (λ claims. AreCurrent claims t) read.statements current), read)
