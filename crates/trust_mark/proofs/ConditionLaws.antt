-- The tests of the conditions on claims hold exactly where the conditions do.
use Rattle.std.proofs.Common.{◌≡◌, ◌<◌, ◌+◌, ◌⊎◌, inl, inr, ℕ, List, [], ◌∷◌, length, bytes_eq, nat_eq, nat_le, nat_lt, Bool, true, ◌&&◌, Option, Some, None, refl, ap, ◌∙◌, arith}
use Rattle.std.specs.Prelude.{◌↔◌, IfSome}
use Rattle.std.specs.List.{list_any}
use Rattle.std.proofs.lemmas.Bool.{eq-eqb, eqb-true, le-leb, leb-true, lt-ltb, ltb-true, or_cases, or_left, or_right}
use Rattle.std.proofs.lemmas.List.Folds.{list_any_at}
use Rattle.std.proofs.lemmas.Map.Views.{Contains-from_any}
use Rattle.fed_base.specs.Values.{if_there}
use Rattle.fed_json.proofs.Booleans.{both_true, left_true, right_true}
use Rattle.fed_json.proofs.Order.{bytes_eq-itself, equal-bytes_eq}
use Rattle.entity_statement.specs.Claims.{Identifier, OwnerClaims}
use Rattle.trust_mark.specs.Conditions.{admits, is_current, is_for}
use Rattle.trust_mark.specs.Marks.{Admits, IsCurrent}
use Rattle.trust_mark.specs.declared.mark.Mark.{Mark}

-- ---- names

pub same-exactly : (a b : List ℕ) → (bytes_eq a b ≡ true) ↔ (a ≡ b)
same-exactly a b = (equal-bytes_eq a b, λ same. ap (λ x. bytes_eq x b) same ∙ bytes_eq-itself b)

-- ---- times

ends-after : (t : ℕ) (exp : Option ℕ) → (if_there (nat_lt t) exp ≡ true) ↔ IfSome exp (λ e. t < e)
ends-after t None = (λ _. tt, λ _. refl)
ends-after t (Some e) = (ltb-true t e, lt-ltb t e)

pub current-exactly : (mark : Mark) (t : ℕ) → (is_current mark t ≡ true) ↔ IsCurrent mark t
current-exactly mark t = (
  λ so. (leb-true mark.iat (t + 60) (left_true (nat_le mark.iat (t + 60)) _ so), (ends-after t mark.exp).0 (right_true (nat_le mark.iat (t + 60)) _ so)),
  λ is. both_true (le-leb mark.iat (t + 60) is.0) ((ends-after t mark.exp).1 is.1),
)

-- ---- the list of a type

empty-is : (who : List (List ℕ)) → nat_eq (length who) 0 ≡ true → who ≡ []
empty-is [] e = refl
empty-is (x ∷ xs) e = let none = eqb-true (length (x ∷ xs)) 0 e in absurd (omega (arith, none))

admits-is : (who : List (List ℕ)) (iss : Identifier) → (nat_eq (length who) 0 ≡ true) ⊎ (list_any (bytes_eq iss) who ≡ true) → Admits who iss
admits-is who iss (inl none) = inl (empty-is who none)
admits-is who iss (inr some) = inr (Contains-from_any {eq = bytes_eq} equal-bytes_eq iss who some)

admits-of : (who : List (List ℕ)) (iss : Identifier) → Admits who iss → admits who iss ≡ true
admits-of who iss (inl none) = or_left (nat_eq (length who) 0) (list_any (bytes_eq iss) who) (eq-eqb (length who) 0 (ap length none))
admits-of who iss (inr has) =
    or_right (nat_eq (length who) 0) (list_any (bytes_eq iss) who) (list_any_at (bytes_eq iss) who has.0 iss has.1 (ap (bytes_eq iss) has.2 ∙ bytes_eq-itself iss))

admits-exactly : (who : List (List ℕ)) (iss : Identifier) → (admits who iss ≡ true) ↔ Admits who iss
admits-exactly who iss = (λ so. admits-is who iss (or_cases (nat_eq (length who) 0) (list_any (bytes_eq iss) who) so), admits-of who iss)

pub issuer-exactly : (listed : Option (List (List ℕ))) (iss : Identifier) → (if_there (λ who. admits who iss) listed ≡ true) ↔ IfSome listed (λ who. Admits who iss)
issuer-exactly None iss = (λ _. tt, λ _. refl)
issuer-exactly (Some who) iss = admits-exactly who iss

-- ---- a delegation

four : (a b c d : Bool) → (((a && b) && c) && d) ≡ true → (a ≡ true) × (b ≡ true) × (c ≡ true) × (d ≡ true)
four a b c d e =
    let three = left_true ((a && b) && c) d e in
    let two = left_true (a && b) c three in
    (left_true a b two, right_true a b two, right_true (a && b) c three, right_true ((a && b) && c) d e)

-- the delegation is a current one from the owner to the mark's issuer for the mark's type
pub record IsFor (mark : Mark) (t : ℕ) (owner : OwnerClaims) (delegation : Mark) : Type 0 where
  pub current : IsCurrent delegation t
  pub from_owner : delegation.iss ≡ owner.sub
  pub to_issuer : delegation.sub ≡ mark.iss
  pub same_type : delegation.mark_type ≡ mark.mark_type

pub for-is : (mark : Mark) (t : ℕ) (owner : OwnerClaims) (d : Mark) → is_for mark t owner d ≡ true → IsFor mark t owner d
for-is mark t owner d so =
    let parts = four (is_current d t) (bytes_eq d.iss owner.sub) (bytes_eq d.sub mark.iss) (bytes_eq d.mark_type mark.mark_type) so in
    record {
      current = (current-exactly d t).0 parts.0;
      from_owner = equal-bytes_eq d.iss owner.sub parts.1;
      to_issuer = equal-bytes_eq d.sub mark.iss parts.2;
      same_type = equal-bytes_eq d.mark_type mark.mark_type parts.3;
    }

pub for-of : (mark : Mark) (t : ℕ) (owner : OwnerClaims) (d : Mark) → IsFor mark t owner d → is_for mark t owner d ≡ true
for-of mark t owner d is =
    both_true
    (both_true (both_true ((current-exactly d t).1 is.current) ((same-exactly d.iss owner.sub).1 is.from_owner)) ((same-exactly d.sub mark.iss).1 is.to_issuer))
    ((same-exactly d.mark_type mark.mark_type).1 is.same_type)
