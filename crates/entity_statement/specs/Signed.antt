-- A text that is an entity statement in compact form (OpenID Federation 1.0 section 3, RFC 7515 section 7.1).
use Rattle.std.specs.Prelude.{◌≡◌, ℕ, List, Option, Some, None, option_and_then}
use Rattle.std.specs.Result.{result_ok}
use Rattle.jws_form.specs.Compact.{IsCompact}
use Rattle.jws_form.specs.Splitting.{splitting}
use Rattle.entity_statement.specs.declared.signed.SignedStatement.{SignedStatement}
use Rattle.entity_statement.specs.Claims.{Claims}
use Rattle.entity_statement.specs.Table.{claims_of}
use Rattle.entity_statement.specs.Told.{told}

-- the statement that a text reads as, where it reads as one (section 3.1)
unfoldable pub statement_of : List ℕ → Option Claims
statement_of text = option_and_then (λ compact. result_ok (claims_of compact)) (result_ok (splitting text))

-- the parts are those of their own text (RFC 7515 section 7.1)
abbrev pub IsSplit : SignedStatement → Type 0
IsSplit s = IsCompact s.compact.whole s.compact

-- the text is read, or reads as no statement
abbrev pub IsReading : List ℕ → Option SignedStatement → Type 0
IsReading text (Some s) = (statement_of text ≡ Some (told s.statement)) × (s.compact.whole ≡ text) × IsSplit s
IsReading text None = statement_of text ≡ None
