-- Where the owner of a mark's type lets its issuer issue it, and how many tests that costs.
use Rattle.std.proofs.Common.{◌≡◌, ℕ, List, Bool, true, false, Option, Some, None, refl, sym, ap, ◌∙◌, subst}
use Rattle.std.specs.Prelude.{◌↔◌, IfSome, Result, Ok, Err, IfOk}
use Rattle.fed_base.specs.declared.faults.Memory.{Memory as NoMemory}
use Rattle.sealed.specs.Seals.{IsSealedBy}
use Rattle.sealed.specs.Tests.{tests_under}
use Rattle.sealed.proofs.SealLaws.{CountsUnder}
use Rattle.entity_statement.specs.Claims.{OwnerClaims}
use Rattle.trust_mark.specs.Conditions.{is_for}
use Rattle.trust_mark.specs.Counts.{delegation_tests}
use Rattle.trust_mark.specs.Marks.{IsDelegated, delegation_of}
use Rattle.trust_mark.specs.declared.mark.Mark.{Mark}
use Rattle.trust_mark.proofs.ConditionLaws.{IsFor, for-is, for-of}

module _ (mark : Mark) (t : ℕ) (owner : OwnerClaims) where
  -- the mark has none
  pub absent : (b : Bool) → b ≡ false → mark.delegation ≡ None → (b ≡ true) ↔ IsDelegated mark owner t
  absent b not_so none = (λ so. let bad = sym not_so ∙ so in cc bad, λ is. let bad = sym none ∙ is.there in cc bad)

  pub absent-tests : mark.delegation ≡ None → delegation_tests mark t owner ≡ 0
  unfolding delegation_tests
  absent-tests none = rw none refl

  -- it doesn't read
  pub unread : (b : Bool) (text : List ℕ) → b ≡ false → mark.delegation ≡ Some text → delegation_of text ≡ None → (b ≡ true) ↔ IsDelegated mark owner t
  unread b text not_so there none = (
    λ so. let bad = sym not_so ∙ so in cc bad,
    λ is. let same : text ≡ is.text = cc (sym there ∙ is.there) in let bad = sym none ∙ ap delegation_of same ∙ is.reads in cc bad,
  )

  pub unread-tests : (text : List ℕ) → mark.delegation ≡ Some text → delegation_of text ≡ None → delegation_tests mark t owner ≡ 0
  unfolding delegation_tests
  unread-tests text there none = rw (there, none) refl

  module _ (text : List ℕ) (d : Mark) (there : mark.delegation ≡ Some text) (reads : delegation_of text ≡ Some d) where
    -- it reads as this one alone
    one : (is : IsDelegated mark owner t) → (text ≡ is.text) × (d ≡ is.delegation)
    one is =
        let same : text ≡ is.text = cc (sym there ∙ is.there) in
        let one : d ≡ is.delegation = cc (sym reads ∙ ap delegation_of same ∙ is.reads) in
        (same, one)

    -- it is for another
    pub stray : (b : Bool) → b ≡ false → is_for mark t owner d ≡ false → (b ≡ true) ↔ IsDelegated mark owner t
    stray b not_so other = (
      λ so. let bad = sym not_so ∙ so in cc bad,
      λ is.
          let fits : IsFor mark t owner is.delegation = record { current = is.current; from_owner = is.from_owner; to_issuer = is.to_issuer; same_type = is.same_type } in
          let bad = sym other ∙ ap (is_for mark t owner) (one is).1 ∙ for-of mark t owner is.delegation fits in
          cc bad,
    )

    pub stray-tests : is_for mark t owner d ≡ false → delegation_tests mark t owner ≡ 0
    unfolding delegation_tests
    stray-tests other = rw (there, reads, other) refl

    -- its seal decides
    pub sealed : (b : Bool) → is_for mark t owner d ≡ true → ((b ≡ true) ↔ IsSealedBy text owner.keys) → (b ≡ true) ↔ IsDelegated mark owner t
    sealed b fits exactly =
        let is = for-is mark t owner d fits in (
          λ so. record {
            text = text;
            there = there;
            delegation = d;
            reads = reads;
            current = is.current;
            from_owner = is.from_owner;
            to_issuer = is.to_issuer;
            same_type = is.same_type;
            sealed = exactly.0 so;
          },
          λ given. exactly.1 (subst (λ x. IsSealedBy x owner.keys) (sym (one given).0) given.sealed),
        )

    pub sealed-tests : is_for mark t owner d ≡ true → delegation_tests mark t owner ≡ tests_under owner.keys text
    unfolding delegation_tests
    sealed-tests fits = rw (there, reads, fits) refl

    -- the same of the answer of a check, of a text that is this one
    module _ (fits : is_for mark t owner d ≡ true) (whole : List ℕ) (same : whole ≡ text) where
      pub answered : (r : Result Bool NoMemory) → IfOk r (λ b. (b ≡ true) ↔ IsSealedBy whole owner.keys) → IfOk r (λ b. (b ≡ true) ↔ IsDelegated mark owner t)
      answered (Ok b) exactly = sealed b fits (subst (λ x. (b ≡ true) ↔ IsSealedBy x owner.keys) same exactly)
      answered (Err e) exactly = tt

      pub tests-counted : (r : Result Bool NoMemory) (before now : ℕ) → CountsUnder (tests_under owner.keys whole) r before now → CountsUnder (delegation_tests mark t owner) r before now
      tests-counted r before now count = subst (λ n. CountsUnder n r before now) (ap (tests_under owner.keys) same ∙ sym (sealed-tests fits)) count

-- the leave of the owner that the anchor names
pub owned : (mark : Mark) (t : ℕ) (o : Option OwnerClaims) (owner : OwnerClaims) (r : Result Bool NoMemory) → Some owner ≡ o → IfOk r (λ b. (b ≡ true) ↔ IsDelegated mark owner t)
    → IfOk r (λ b. (b ≡ true) ↔ IfSome o (λ w. IsDelegated mark w t))
owned mark t o owner r named given = subst (λ x. IfOk r (λ b. (b ≡ true) ↔ IfSome x (λ w. IsDelegated mark w t))) named given
