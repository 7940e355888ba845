-- The order of the conditions.
use Rattle.std.proofs.Common.{◌≡◌, ◌<◌, ⊎_elim, ℕ, zero, suc, Bool, true, false, not, cond, Option, Some, None, refl, sym, ap, ◌∙◌, subst, arith}
use Rattle.std.specs.Prelude.{◌↔◌}
use Rattle.std.proofs.lemmas.Bool.{cases_lt}
use Rattle.trust_mark.specs.Verdicts.{place_of}
use Rattle.trust_mark.specs.declared.verdict.MarkReason.{MarkReason}
use Rattle.trust_mark.specs.declared.verdict.MarkReason.TheVariants.{Form, Subject, Kind, Unlisted, Issuer, Times, Signature, Delegation}

-- the condition at a place
abbrev reason_at : ℕ → MarkReason
reason_at zero = Form
reason_at (suc zero) = Subject
reason_at (suc (suc zero)) = Kind
reason_at (suc (suc (suc zero))) = Unlisted
reason_at (suc (suc (suc (suc zero)))) = Issuer
reason_at (suc (suc (suc (suc (suc zero))))) = Times
reason_at (suc (suc (suc (suc (suc (suc zero)))))) = Signature
reason_at (suc (suc (suc (suc (suc (suc (suc n))))))) = Delegation

reason_at-place_of : (r : MarkReason) → reason_at (place_of r) ≡ r
reason_at-place_of Form = refl
reason_at-place_of Subject = refl
reason_at-place_of Kind = refl
reason_at-place_of Unlisted = refl
reason_at-place_of Issuer = refl
reason_at-place_of Times = refl
reason_at-place_of Signature = refl
reason_at-place_of Delegation = refl

-- two conditions have two places
pub place_of-injective : (r s : MarkReason) → place_of r ≡ place_of s → r ≡ s
place_of-injective r s e = sym (reason_at-place_of r) ∙ ap reason_at e ∙ reason_at-place_of s

module _ (P : MarkReason → Type 0) where
  -- the conditions before this one hold
  abbrev pub Before : MarkReason → Type 0
  Before reason = (earlier : MarkReason) → place_of earlier < place_of reason → P earlier

  none-before : Before Form
  none-before earlier less = let none : place_of earlier < 0 = less in absurd (omega (arith, none))

  pub next-before : (r s : MarkReason) → place_of s ≡ suc (place_of r) → Before r → P r → Before s
  next-before r s e before here earlier less =
      ⊎_elim (λ lower. before earlier lower) (λ no_lower. subst P (place_of-injective r earlier (omega (arith, e, less, no_lower))) here) (cases_lt (place_of earlier) (place_of r))

  -- the first of the conditions before the signature that fails, by the tests of them
  abbrev pub first_failing : Bool → Bool → Bool → Bool → Bool → Option MarkReason
  first_failing subject kind listed issuer times =
      cond (not subject) (Some Subject) (cond (not kind) (Some Kind) (cond (not listed) (Some Unlisted) (cond (not issuer) (Some Issuer) (cond (not times) (Some Times) None))))

  told : (s r : MarkReason) → s ≡ r → Before s → ¬ P s → Before r × ¬ P r
  told s r same before fails = subst (λ x. Before x × ¬ P x) same ((before, fails))

  module _ (form : P Form) where
    pub failing-told : (a b c d e : Bool) → ((a ≡ true) ↔ P Subject) → ((b ≡ true) ↔ P Kind) → ((c ≡ true) ↔ P Unlisted) → ((d ≡ true) ↔ P Issuer) → ((e ≡ true) ↔ P Times)
        → (r : MarkReason) → first_failing a b c d e ≡ Some r → Before r × ¬ P r
    failing-told false b c d e is_a is_b is_c is_d is_e r first =
        let same : Subject ≡ r = cc first in
        told Subject r same (next-before Form Subject refl none-before form) (λ p. let bad = is_a.1 p in cc bad)
    failing-told true false c d e is_a is_b is_c is_d is_e r first =
        let same : Kind ≡ r = cc first in
        let one = next-before Form Subject refl none-before form in
        told Kind r same (next-before Subject Kind refl one (is_a.0 refl)) (λ p. let bad = is_b.1 p in cc bad)
    failing-told true true false d e is_a is_b is_c is_d is_e r first =
        let same : Unlisted ≡ r = cc first in
        let one = next-before Form Subject refl none-before form in
        let two = next-before Subject Kind refl one (is_a.0 refl) in
        told Unlisted r same (next-before Kind Unlisted refl two (is_b.0 refl)) (λ p. let bad = is_c.1 p in cc bad)
    failing-told true true true false e is_a is_b is_c is_d is_e r first =
        let same : Issuer ≡ r = cc first in
        let one = next-before Form Subject refl none-before form in
        let two = next-before Subject Kind refl one (is_a.0 refl) in
        let three = next-before Kind Unlisted refl two (is_b.0 refl) in
        told Issuer r same (next-before Unlisted Issuer refl three (is_c.0 refl)) (λ p. let bad = is_d.1 p in cc bad)
    failing-told true true true true false is_a is_b is_c is_d is_e r first =
        let same : Times ≡ r = cc first in
        let one = next-before Form Subject refl none-before form in
        let two = next-before Subject Kind refl one (is_a.0 refl) in
        let three = next-before Kind Unlisted refl two (is_b.0 refl) in
        let four = next-before Unlisted Issuer refl three (is_c.0 refl) in
        told Times r same (next-before Issuer Times refl four (is_d.0 refl)) (λ p. let bad = is_e.1 p in cc bad)
    failing-told true true true true true is_a is_b is_c is_d is_e r first = cc first

    pub none-failing : (a b c d e : Bool) → ((a ≡ true) ↔ P Subject) → ((b ≡ true) ↔ P Kind) → ((c ≡ true) ↔ P Unlisted) → ((d ≡ true) ↔ P Issuer) → ((e ≡ true) ↔ P Times)
        → first_failing a b c d e ≡ None → Before Signature
    none-failing false b c d e is_a is_b is_c is_d is_e none = cc none
    none-failing true false c d e is_a is_b is_c is_d is_e none = cc none
    none-failing true true false d e is_a is_b is_c is_d is_e none = cc none
    none-failing true true true false e is_a is_b is_c is_d is_e none = cc none
    none-failing true true true true false is_a is_b is_c is_d is_e none = cc none
    none-failing true true true true true is_a is_b is_c is_d is_e none =
        let one = next-before Form Subject refl none-before form in
        let two = next-before Subject Kind refl one (is_a.0 refl) in
        let three = next-before Kind Unlisted refl two (is_b.0 refl) in
        let four = next-before Unlisted Issuer refl three (is_c.0 refl) in
        let five = next-before Issuer Times refl four (is_d.0 refl) in
        next-before Times Signature refl five (is_e.0 refl)
