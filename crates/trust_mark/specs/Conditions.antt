-- The conditions on the claims of a mark and of its delegation, as tests, in their order (OpenID Federation 1.0 section 7.3).
use Rattle.std.specs.Prelude.{ℕ, ◌+◌, List, length, bytes_eq, nat_eq, nat_le, nat_lt, Bool, ◌&&◌, ◌||◌, not, Option, Some, None, is_some, if◌then◌else◌}
use Rattle.std.specs.List.{list_any}
use Rattle.fed_base.specs.Values.{if_there}
use Rattle.entity_statement.specs.Claims.{Identifier, OwnerClaims}
use Rattle.trust_mark.specs.Marks.{Case, issuers_of}
use Rattle.trust_mark.specs.declared.mark.Mark.{Mark}
use Rattle.trust_mark.specs.declared.verdict.MarkReason.{MarkReason}
use Rattle.trust_mark.specs.declared.verdict.MarkReason.TheVariants.{Subject, Kind, Unlisted, Issuer, Times}

-- a mark or a delegation is current (section 7.1)
abbrev pub is_current : Mark → ℕ → Bool
is_current mark t = nat_le mark.iat (t + 60) && if_there (nat_lt t) mark.exp

-- a type's list lets the entity issue marks of it (section 3.1.2, `trust_mark_issuers`)
abbrev pub admits : List (List ℕ) → Identifier → Bool
admits who iss = nat_eq (length who) 0 || list_any (bytes_eq iss) who

-- the first of the conditions before the signature that the mark doesn't meet, named by its reason
unfoldable pub claims_reason : Case → Mark → Option MarkReason
claims_reason case mark =
    if not (bytes_eq mark.sub case.leaf) then Some Subject
    else if not (bytes_eq mark.mark_type case.entry.mark_type) then Some Kind
    else if not (is_some (issuers_of case.anchor mark.mark_type)) then Some Unlisted
    else if not (if_there (λ who. admits who mark.iss) (issuers_of case.anchor mark.mark_type)) then Some Issuer
    else if not (is_current mark case.moment) then Some Times
    else None

-- the delegation is a current one from the owner to the mark's issuer for the mark's type (section 7.2)
abbrev pub is_for : Mark → ℕ → OwnerClaims → Mark → Bool
is_for mark t owner delegation =
    is_current delegation t && bytes_eq delegation.iss owner.sub && bytes_eq delegation.sub mark.iss && bytes_eq delegation.mark_type mark.mark_type
