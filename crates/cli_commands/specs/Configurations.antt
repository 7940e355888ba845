-- What an entity configuration says of itself (OpenID Federation 1.0 section 3).
use Rattle.std.specs.Prelude.{◌≡◌, ℕ, List, Ok}
use Rattle.entity_statement.specs.Claims.{Claims}
use Rattle.entity_statement.specs.Table.{claims_of}
use Rattle.jws_form.specs.Compact.{IsCompact}
use Rattle.jws_form.specs.declared.compact.Compact.{Compact}

-- the text is an entity statement in compact form, by this issuer about this subject
pub record IsStatementBy (text : List ℕ) (c : Compact) (iss sub : List ℕ) : Type 0 where
  pub compact : IsCompact text c
  pub claims : Claims
  pub reads : claims_of c ≡ Ok claims
  pub issuer : claims.iss ≡ iss
  pub subject : claims.sub ≡ sub
