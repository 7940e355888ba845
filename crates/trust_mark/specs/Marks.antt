-- Which trust marks are good (OpenID Federation 1.0 section 7.3).
use Rattle.std.specs.Prelude.{◌≡◌, ◌≤◌, ◌<◌, ◌+◌, ◌⊎◌, ℕ, List, [], bytes_eq, Contains, Option, Some, option_and_then, option_map, IfSome, IsSome}
use Rattle.std.specs.List.{find as first_that}
use Rattle.std.specs.Result.{result_ok}
use Rattle.jws_form.specs.Splitting.{splitting}
use Rattle.jwk_set.specs.declared.jwk.Jwk.{Jwk}
use Rattle.sealed.specs.Seals.{IsSealedBy}
use Rattle.entity_statement.specs.Claims.{Claims, Identifier, OwnerClaims}
use Rattle.entity_statement.specs.declared.marks.MarkEntry.{MarkEntry}
use Rattle.trust_mark.specs.Claims.{delegation_claims, mark_claims}
use Rattle.trust_mark.specs.declared.mark.Mark.{Mark}
use Rattle.trust_mark.specs.declared.verdict.MarkReason.{MarkReason}
use Rattle.trust_mark.specs.declared.verdict.MarkReason.TheVariants.{Form, Subject, Kind, Unlisted, Issuer, Times, Signature, Delegation}

-- the mark that a text reads as, where it reads as one (section 7.1)
unfoldable pub mark_of : List ℕ → Option Mark
mark_of text = option_and_then (λ compact. result_ok (mark_claims compact)) (result_ok (splitting text))

-- the delegation that a text reads as, where it reads as one (section 7.2.1)
unfoldable pub delegation_of : List ℕ → Option Mark
delegation_of text = option_and_then (λ compact. result_ok (delegation_claims compact)) (result_ok (splitting text))

-- those who may issue marks of the type, where the anchor lists it (section 3.1.2, `trust_mark_issuers`)
unfoldable pub issuers_of : Claims → List ℕ → Option (List (List ℕ))
issuers_of anchor mark_type = option_map (λ i. i.who) (first_that (λ i. bytes_eq i.mark_type mark_type) anchor.issuers)

-- the owner of the type, where the anchor names one (section 3.1.2, `trust_mark_owners`)
unfoldable pub owner_of : Claims → List ℕ → Option OwnerClaims
owner_of anchor mark_type = first_that (λ o. bytes_eq o.mark_type mark_type) anchor.owners

-- what is asked: the entry of a mark, the entity that shows it, the anchor's configuration, the keys of the mark's issuer, and the moment
pub record Case : Type 0 where
  pub entry : MarkEntry
  pub leaf : Identifier
  pub anchor : Claims
  pub keys : List Jwk
  pub moment : ℕ

abbrev pub case_of : MarkEntry → Identifier → Claims → List Jwk → ℕ → Case
case_of entry leaf anchor keys t = record { entry = entry; leaf = leaf; anchor = anchor; keys = keys; moment = t }

-- a mark or a delegation is issued at a moment at most a minute from now, and not ended; without `exp` it never ends (section 7.1)
abbrev pub IsCurrent : Mark → ℕ → Type 0
IsCurrent mark t = (mark.iat ≤ t + 60) × IfSome mark.exp (λ exp. t < exp)

-- the anchor lists the type (section 3.1.2, `trust_mark_issuers`)
abbrev pub IsListed : Claims → List ℕ → Type 0
IsListed anchor mark_type = IsSome (issuers_of anchor mark_type)

-- a type's list lets the entity issue marks of it: any entity, where it is empty (section 3.1.2, `trust_mark_issuers`)
abbrev pub Admits : List (List ℕ) → Identifier → Type 0
Admits who iss = (who ≡ []) ⊎ Contains who iss

-- the owner of the mark's type lets its issuer issue marks of the type (section 7.2)
pub record IsDelegated (mark : Mark) (owner : OwnerClaims) (t : ℕ) : Type 0 where
  pub text : List ℕ
  pub there : mark.delegation ≡ Some text
  pub delegation : Mark
  pub reads : delegation_of text ≡ Some delegation
  pub current : IsCurrent delegation t
  pub from_owner : delegation.iss ≡ owner.sub
  pub to_issuer : delegation.sub ≡ mark.iss
  pub same_type : delegation.mark_type ≡ mark.mark_type
  pub sealed : IsSealedBy text owner.keys

-- the condition that each reason is the failure of (section 7.3)
abbrev pub Meets : Case → Mark → MarkReason → Type 0
Meets case mark Form = mark_of case.entry.text ≡ Some mark
Meets case mark Subject = mark.sub ≡ case.leaf
Meets case mark Kind = mark.mark_type ≡ case.entry.mark_type
Meets case mark Unlisted = IsListed case.anchor mark.mark_type
Meets case mark Issuer = IfSome (issuers_of case.anchor mark.mark_type) (λ who. Admits who mark.iss)
Meets case mark Times = IsCurrent mark case.moment
Meets case mark Signature = IsSealedBy case.entry.text case.keys
Meets case mark Delegation = IfSome (owner_of case.anchor mark.mark_type) (λ owner. IsDelegated mark owner case.moment)

-- the conditions in their order: the entry's text reads as this mark, and the mark is good
pub record MarkOk (case : Case) (mark : Mark) : Type 0 where
  pub form : Meets case mark Form
  pub subject : Meets case mark Subject
  pub kind : Meets case mark Kind
  pub listed : Meets case mark Unlisted
  pub issuer : Meets case mark Issuer
  pub times : Meets case mark Times
  pub signature : Meets case mark Signature
  pub delegation : Meets case mark Delegation

-- the entry is one of a good mark
abbrev pub IsGood : Case → Type 0
IsGood case = (mark : Mark) × MarkOk case mark

-- the text is a mark that the owner of its type lets its issuer issue (section 7.2)
abbrev pub HasDelegation : List ℕ → OwnerClaims → ℕ → Type 0
HasDelegation text owner t = (mark : Mark) × (mark_of text ≡ Some mark) × IsDelegated mark owner t
