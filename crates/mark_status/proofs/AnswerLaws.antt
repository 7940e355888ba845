-- What a text tells of a mark, and how many tests that takes.
use Rattle.std.proofs.Common.{◌≡◌, ◌≤◌, ◌+◌, ℕ, List, Bool, true, false, cond, Option, Some, None, refl, sym, ap, ◌∙◌, subst, bytes_eq}
use Rattle.std.specs.Prelude.{◌↔◌, Result, Ok, Err, IfOk}
use Rattle.std.proofs.lemmas.Bool.{le-leb, leb-true}
use Rattle.fed_base.specs.declared.faults.Memory.{Memory as NoMemory}
use Rattle.fed_json.proofs.Booleans.{both_true, left_true, right_true}
use Rattle.sealed.specs.Deciding.{is_sealed_by}
use Rattle.sealed.specs.Tests.{tests_under}
use Rattle.trust_mark.specs.Signed.{status_answer_of}
use Rattle.trust_mark.specs.declared.status.MarkStatus.{MarkStatus}
use Rattle.trust_mark.specs.declared.status.StatusAnswer.{StatusAnswer}
use Rattle.trust_mark.proofs.ConditionLaws.{same-exactly}
use Rattle.entity_statement.specs.Signed.{statement_of}
use Rattle.entity_statement.specs.Told.{told}
use Rattle.entity_statement.specs.Use.{status_endpoint_in}
use Rattle.entity_statement.specs.declared.signed.SignedStatement.{SignedStatement}
use Rattle.jwk_set.specs.declared.set.JwkSet.{JwkSet}
use Rattle.mark_status.specs.Answers.{Asking, IsAnswer, is_about, tests_of_text, told_by}
use Rattle.mark_status.specs.Stages.{IsConfigured}
use Rattle.mark_status.specs.declared.issuer.Configured.{Configured}

-- ---- what it tells

module _ (here : Asking) (text : List ℕ) where
  pub unread-told : status_answer_of text ≡ None → told_by here text ≡ None
  unfolding told_by
  unread-told none = rw none refl

  pub unread-tests : status_answer_of text ≡ None → tests_of_text here text ≡ 0
  unfolding tests_of_text
  unread-tests none = rw none refl

  module _ (a : StatusAnswer) (reads : status_answer_of text ≡ Some a) where
    pub stray-told : is_about here a ≡ false → told_by here text ≡ None
    unfolding told_by
    stray-told other = rw (reads, other) refl

    pub stray-tests : is_about here a ≡ false → tests_of_text here text ≡ 0
    unfolding tests_of_text
    stray-tests other = rw (reads, other) refl

    pub about-told : (sealed : Bool) → is_about here a ≡ true → is_sealed_by text here.keys ≡ sealed → told_by here text ≡ cond sealed (Some a.status) None
    unfolding told_by
    about-told sealed so is = rw (reads, so, is) refl

    pub about-tests : is_about here a ≡ true → tests_of_text here text ≡ tests_under here.keys text
    unfolding tests_of_text
    about-tests so = rw (reads, so) refl

-- ---- a text tells what it answers

pub by_option : {X : Type 0} {P : Type 0} (o : Option X) → (o ≡ None → P) → ((x : X) → o ≡ Some x → P) → P
by_option None none some = none refl
by_option (Some x) none some = some x refl

pub by_test : {P : Type 0} (b : Bool) → (b ≡ true → P) → (b ≡ false → P) → P
by_test true passes fails = passes refl
by_test false passes fails = fails refl

module _ (here : Asking) (a : StatusAnswer) where
  -- the claims are those of an answer on the mark
  pub record IsAbout : Type 0 where
    pub from_issuer : a.iss ≡ here.issuer
    pub on_mark : a.trust_mark ≡ here.mark
    pub issued : a.iat ≤ here.moment + 60

  about-is : is_about here a ≡ true → IsAbout
  about-is so =
      let later = right_true (bytes_eq a.iss here.issuer) _ so in
      record {
        from_issuer = (same-exactly a.iss here.issuer).0 (left_true (bytes_eq a.iss here.issuer) _ so);
        on_mark = (same-exactly a.trust_mark here.mark).0 (left_true (bytes_eq a.trust_mark here.mark) _ later);
        issued = leb-true a.iat (here.moment + 60) (right_true (bytes_eq a.trust_mark here.mark) _ later);
      }

  about-of : IsAbout → is_about here a ≡ true
  about-of is =
      both_true ((same-exactly a.iss here.issuer).1 is.from_issuer)
      (both_true ((same-exactly a.trust_mark here.mark).1 is.on_mark) (le-leb a.iat (here.moment + 60) is.issued))

module _ (here : Asking) (text : List ℕ) (s : MarkStatus) where
  told-is : told_by here text ≡ Some s → IsAnswer here text s
  told-is e = by_option (status_answer_of text)
      (λ none. let bad : None ≡ Some s = sym (unread-told here text none) ∙ e in absurd (cc bad))
      (λ a reads. by_test (is_about here a)
      (λ so. by_test (is_sealed_by text here.keys)
      (λ sealed.
      let same : Some a.status ≡ Some s = sym (about-told here text a reads true so sealed) ∙ e in
      let is = about-is here a so in
      record { answer = a; reads = reads; from_issuer = is.from_issuer; on_mark = is.on_mark; issued = is.issued; sealed = sealed; says = cc same })
      (λ unsealed. let bad : None ≡ Some s = sym (about-told here text a reads false so unsealed) ∙ e in absurd (cc bad)))
      (λ other. let bad : None ≡ Some s = sym (stray-told here text a reads other) ∙ e in absurd (cc bad)))

  told-of : IsAnswer here text s → told_by here text ≡ Some s
  told-of is =
      let about = about-of here is.answer (record { from_issuer = is.from_issuer; on_mark = is.on_mark; issued = is.issued }) in
      about-told here text is.answer is.reads true about is.sealed ∙ ap Some is.says

  pub told-exactly : (told_by here text ≡ Some s) ↔ IsAnswer here text s
  told-exactly = (told-is, told-of)

-- ---- a configuration

pub configured-read : (text : List ℕ) (s : SignedStatement) (out : Result Configured NoMemory) → statement_of text ≡ Some (told s.statement)
    → IfOk out (λ c. c.endpoint ≡ status_endpoint_in s.statement.metadata) → IfOk out (λ c. c.keys ≡ s.statement.jwks) → IfOk out (IsConfigured text)
configured-read text s (Ok c) reads endpoint keys = record { claims = told s.statement; reads = reads; endpoint = endpoint; keys = ap (λ (k : JwkSet). k.keys) keys }
configured-read text s (Err e) reads endpoint keys = tt
