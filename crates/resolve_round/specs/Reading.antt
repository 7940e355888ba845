-- What a page reads as.
use Rattle.std.specs.Prelude.{◌≡◌, ℕ, List, [], Option, Some, None}
use Rattle.entity_statement.specs.declared.signed.SignedStatement.{SignedStatement}
use Rattle.entity_statement.specs.Claims.{Identifier}
use Rattle.entity_statement.specs.Signed.{IsSplit}
use Rattle.entity_statement.specs.Told.{told}
use Rattle.chain_climb.specs.Climbs.{page_named}
use Rattle.resolve_round.specs.Pages.{named_statement}

-- the text reads as this statement with these names, or as none
abbrev pub IsNamedReading : Identifier → Identifier → List ℕ → Option SignedStatement → Type 0
IsNamedReading issuer subject text None = named_statement (page_named issuer subject []) text ≡ None
IsNamedReading issuer subject text (Some s) = (named_statement (page_named issuer subject []) text ≡ Some (told s.statement)) × (s.compact.whole ≡ text) × IsSplit s

-- the same of a text that was got, where one was
abbrev pub IsGotReading : Identifier → Identifier → Option (List ℕ) → Option SignedStatement → Type 0
IsGotReading issuer subject None read = read ≡ None
IsGotReading issuer subject (Some text) read = IsNamedReading issuer subject text read
