-- What follows of a verdict.
use Rattle.std.proofs.Common.{◌≡◌, ◌≤◌, ◌<◌, ◌⊎◌, inl, inr, ℕ, List, true, Option, Some, None, is_some, Result, Ok, Err, IfOk, refl, sym, ap, ◌∙◌, subst, arith}
use Rattle.std.specs.Prelude.{◌↔◌, IfSome, option_and_then}
use Rattle.std.proofs.lemmas.Bool.{cases_order}
use Rattle.fed_base.specs.declared.faults.Memory.{Memory as NoMemory}
use Rattle.entity_statement.specs.Claims.{Claims, Identifier, OwnerClaims}
use Rattle.entity_statement.specs.declared.marks.MarkEntry.{MarkEntry}
use Rattle.jwk_set.specs.declared.jwk.Jwk.{Jwk}
use Rattle.trust_mark.specs.Marks.{Case, HasDelegation, IsCurrent, IsDelegated, IsGood, IsListed, MarkOk, Meets, case_of, delegation_of, mark_of, owner_of}
use Rattle.trust_mark.specs.Verdicts.{FailsAt, HasEnded, IfGood, IsFirstReason, IsVerdictOn, NeverEnds, is_good, place_of}
use Rattle.trust_mark.specs.declared.mark.Mark.{Mark}
use Rattle.trust_mark.specs.declared.verdict.MarkReason.{MarkReason}
use Rattle.trust_mark.specs.declared.verdict.MarkReason.TheVariants.{Form, Subject, Kind, Unlisted, Issuer, Times, Signature, Delegation}
use Rattle.trust_mark.specs.declared.verdict.MarkVerdict.{MarkVerdict}
use Rattle.trust_mark.specs.declared.verdict.MarkVerdict.TheVariants.{Good, Bad}
use Rattle.trust_mark.proofs.OrderLaws.{place_of-injective}

-- a text reads as one mark
one_mark : (text : List ℕ) (a b : Mark) → mark_of text ≡ Some a → mark_of text ≡ Some b → a ≡ b
one_mark text a b first second = let both = sym first ∙ second in cc both

-- a good mark meets each condition
meets : (case : Case) (mark : Mark) → MarkOk case mark → (r : MarkReason) → Meets case mark r
meets case mark ok Form = ok.form
meets case mark ok Subject = ok.subject
meets case mark ok Kind = ok.kind
meets case mark ok Unlisted = ok.listed
meets case mark ok Issuer = ok.issuer
meets case mark ok Times = ok.times
meets case mark ok Signature = ok.signature
meets case mark ok Delegation = ok.delegation

-- the first reason is that the text is unread, or one at which a mark fails
abbrev Failure : Case → MarkReason → Type 0
Failure case r = ((r ≡ Form) × (mark_of case.entry.text ≡ None)) ⊎ ((mark : Mark) × FailsAt case r mark)

failure : (case : Case) (r : MarkReason) → IsFirstReason case r → Failure case r
failure case Form none = inl ((refl, none))
failure case Subject fails = inr fails
failure case Kind fails = inr fails
failure case Unlisted fails = inr fails
failure case Issuer fails = inr fails
failure case Times fails = inr fails
failure case Signature fails = inr fails
failure case Delegation fails = inr fails

-- no mark that is good has a first reason
good-fails : (case : Case) (r : MarkReason) → IsGood case → Failure case r → ⊥
good-fails case r good (inl unread) = let bad = sym unread.1 ∙ good.1.form in cc bad
good-fails case r good (inr fails) =
    let same = one_mark case.entry.text good.0 fails.0 good.1.form fails.1.reads in
    fails.1.here (subst (λ mark. Meets case mark r) same (meets case good.0 good.1 r))

good-first : (case : Case) (r : MarkReason) → IsGood case → IsFirstReason case r → ⊥
good-first case r good first = good-fails case r good (failure case r first)

-- of two reasons at which a mark fails neither stands before the other
same-place : (case : Case) (r s : MarkReason) (mark : Mark) → FailsAt case r mark → FailsAt case s mark
    → (place_of r ≡ place_of s) ⊎ ((place_of r < place_of s) ⊎ (place_of s < place_of r)) → r ≡ s
same-place case r s mark at_r at_s (inl same) = place_of-injective r s same
same-place case r s mark at_r at_s (inr (inl less)) = absurd (at_r.here (at_s.before r less))
same-place case r s mark at_r at_s (inr (inr more)) = absurd (at_s.here (at_r.before s more))

one_failure : (case : Case) (r s : MarkReason) → Failure case r → Failure case s → r ≡ s
one_failure case r s (inl unread) (inl other) = unread.0 ∙ sym other.0
one_failure case r s (inl unread) (inr fails) = let bad = sym unread.1 ∙ fails.1.reads in cc bad
one_failure case r s (inr fails) (inl unread) = let bad = sym unread.1 ∙ fails.1.reads in cc bad
one_failure case r s (inr fails) (inr other) =
    let same = one_mark case.entry.text other.0 fails.0 other.1.reads fails.1.reads in
    same-place case r s fails.0 fails.1 (subst (FailsAt case s) same other.1) (cases_order (place_of r) (place_of s))

one_reason : (case : Case) (r s : MarkReason) → IsFirstReason case r → IsFirstReason case s → r ≡ s
one_reason case r s first second = one_failure case r s (failure case r first) (failure case s second)

-- ---- a mark has one verdict

pub one_verdict : (case : Case) (v w : MarkVerdict) → IsVerdictOn case v → IsVerdictOn case w → w ≡ v
one_verdict case (Good exp) (Good other) is that =
    let same = one_mark case.entry.text that.0 is.0 that.1.form is.1.form in
    ap Good (that.2 ∙ ap (λ (m : Mark). m.exp) same ∙ sym is.2)
one_verdict case (Good exp) (Bad r) is that = absurd (good-first case r ((is.0, is.1)) that)
one_verdict case (Bad r) (Good exp) is that = absurd (good-first case r ((that.0, that.1)) is)
one_verdict case (Bad r) (Bad s) is that = ap Bad (one_reason case s r that is)

pub good-exactly : (case : Case) (v : MarkVerdict) → IsVerdictOn case v → (is_good v ≡ true) ↔ IsGood case
good-exactly case (Good exp) is = (λ _. (is.0, is.1), λ _. refl)
good-exactly case (Bad r) is = (λ bad. cc bad, λ good. absurd (good-first case r good is))

-- ---- what a good mark is

module _ (entry : MarkEntry) (leaf : Identifier) (anchor : Claims) (keys : List Jwk) (t : ℕ) where
  abbrev asked : Case
  asked = case_of entry leaf anchor keys t

  pub for_one_leaf : (v : MarkVerdict) → IsVerdictOn asked v → (other : Case) → other.entry ≡ entry → IsGood other → IfGood v (λ _. other.leaf ≡ leaf)
  for_one_leaf (Good exp) is other same good =
      let reads : mark_of entry.text ≡ Some good.0 = ap (λ (e : MarkEntry). mark_of e.text) (sym same) ∙ good.1.form in
      let one = one_mark entry.text good.0 is.0 reads is.1.form in
      sym good.1.subject ∙ ap (λ (m : Mark). m.sub) one ∙ is.1.subject
  for_one_leaf (Bad r) is other same good = tt

  pub of_listed : (v : MarkVerdict) → IsVerdictOn asked v → IfGood v (λ _. IsListed anchor entry.mark_type)
  of_listed (Good exp) is = subst (IsListed anchor) is.1.kind is.1.listed
  of_listed (Bad r) is = tt

  pub by_leave : (v : MarkVerdict) → IsVerdictOn asked v → (owner : OwnerClaims) → owner_of anchor entry.mark_type ≡ Some owner → IfGood v (λ _. HasDelegation entry.text owner t)
  by_leave (Good exp) is owner owned =
      let same : owner_of anchor is.0.mark_type ≡ Some owner = ap (owner_of anchor) is.1.kind ∙ owned in
      (is.0, is.1.form, subst (λ o. IfSome o (λ w. IsDelegated is.0 w t)) same is.1.delegation)
  by_leave (Bad r) is owner owned = tt

  -- ---- later moments

  module _ (later : ℕ) (after : t ≤ later) where
    abbrev asked_later : Case
    asked_later = case_of entry leaf anchor keys later

    lasting : (m : Mark) → m.exp ≡ None → IsCurrent m t → IsCurrent m later
    lasting m none current = (let issued = current.0 in omega (arith, issued, after), subst (λ o. IfSome o (λ e. later < e)) (sym none) tt)

    delegation-lasts : (m : Mark) (owner : OwnerClaims) → IfSome (option_and_then delegation_of m.delegation) (λ d. d.exp ≡ None) → IsDelegated m owner t → IsDelegated m owner later
    delegation-lasts m owner endless is =
        let reads : option_and_then delegation_of m.delegation ≡ Some is.delegation = ap (option_and_then delegation_of) is.there ∙ is.reads in
        let none : is.delegation.exp ≡ None = subst (λ o. IfSome o (λ (d : Mark). d.exp ≡ None)) reads endless in
        record {
          text = is.text;
          there = is.there;
          delegation = is.delegation;
          reads = is.reads;
          current = lasting is.delegation none is.current;
          from_owner = is.from_owner;
          to_issuer = is.to_issuer;
          same_type = is.same_type;
          sealed = is.sealed;
        }

    leave-lasts : (m : Mark) (o : Option OwnerClaims) → (is_some o ≡ true → IfSome (option_and_then delegation_of m.delegation) (λ d. d.exp ≡ None)) → IfSome o (λ w. IsDelegated m w t)
        → IfSome o (λ w. IsDelegated m w later)
    leave-lasts m None endless is = tt
    leave-lasts m (Some owner) endless is = delegation-lasts m owner (endless refl) is

    ok-lasts : (m : Mark) → NeverEnds anchor m → MarkOk asked m → MarkOk asked_later m
    ok-lasts m endless ok = record {
      form = ok.form;
      subject = ok.subject;
      kind = ok.kind;
      listed = ok.listed;
      issuer = ok.issuer;
      times = lasting m endless.mark_lasts ok.times;
      signature = ok.signature;
      delegation = leave-lasts m (owner_of anchor m.mark_type) endless.delegation_lasts ok.delegation;
    }

    pub stays_good : (v : MarkVerdict) → IsVerdictOn asked v → (m : Mark) → mark_of entry.text ≡ Some m → NeverEnds anchor m → IfGood v (λ _. IsVerdictOn asked_later (Good None))
    stays_good (Good exp) is m reads endless =
        let ok = subst (MarkOk asked) (one_mark entry.text is.0 m is.1.form reads) is.1 in
        (m, ok-lasts m endless ok, sym endless.mark_lasts)
    stays_good (Bad r) is m reads endless = tt

    pub never_revived : (m : Mark) → mark_of entry.text ≡ Some m → HasEnded m t → IsGood asked_later → ⊥
    never_revived m reads ended good =
        let same = one_mark entry.text m good.0 reads good.1.form in
        let there : good.0.exp ≡ Some ended.exp = ap (λ (n : Mark). n.exp) (sym same) ∙ ended.there in
        let less : later < ended.exp = subst (λ o. IfSome o (λ e. later < e)) there good.1.times.1 in
        let past = ended.ended in
        absurd (omega (arith, less, past, after))

-- ---- the same of an answer

module _ (entry : MarkEntry) (leaf : Identifier) (anchor : Claims) (keys : List Jwk) (t : ℕ) where
  abbrev case : Case
  case = case_of entry leaf anchor keys t

  pub only_answer : (r : Result MarkVerdict NoMemory) → IfOk r (IsVerdictOn case) → IfOk r (λ v. (is_good v ≡ true) ↔ IsGood case)
  only_answer (Ok v) is = good-exactly case v is
  only_answer (Err e) is = tt

  pub one_answer : (r : Result MarkVerdict NoMemory) → IfOk r (IsVerdictOn case) → IfOk r (λ v. (other : MarkVerdict) → IsVerdictOn case other → other ≡ v)
  one_answer (Ok v) is = λ other that. one_verdict case v other is that
  one_answer (Err e) is = tt

  pub leaf_answer : (r : Result MarkVerdict NoMemory) → IfOk r (IsVerdictOn case)
      → IfOk r (λ v. (other : Case) → other.entry ≡ entry → IsGood other → IfGood v (λ _. other.leaf ≡ leaf))
  leaf_answer (Ok v) is = for_one_leaf entry leaf anchor keys t v is
  leaf_answer (Err e) is = tt

  pub listed_answer : (r : Result MarkVerdict NoMemory) → IfOk r (IsVerdictOn case) → IfOk r (λ v. IfGood v (λ _. IsListed anchor entry.mark_type))
  listed_answer (Ok v) is = of_listed entry leaf anchor keys t v is
  listed_answer (Err e) is = tt

  pub owned_answer : (r : Result MarkVerdict NoMemory) → IfOk r (IsVerdictOn case)
      → IfOk r (λ v. (owner : OwnerClaims) → owner_of anchor entry.mark_type ≡ Some owner → IfGood v (λ _. HasDelegation entry.text owner t))
  owned_answer (Ok v) is = by_leave entry leaf anchor keys t v is
  owned_answer (Err e) is = tt

  pub lasts_answer : (r : Result MarkVerdict NoMemory) → IfOk r (IsVerdictOn case)
      → IfOk r (λ v. (mark : Mark) → mark_of entry.text ≡ Some mark → NeverEnds anchor mark → (later : ℕ) → t ≤ later → IfGood v (λ _. IsVerdictOn (case_of entry leaf anchor keys later) (Good None)))
  lasts_answer (Ok v) is = λ mark reads endless later after. stays_good entry leaf anchor keys t later after v is mark reads endless
  lasts_answer (Err e) is = tt
