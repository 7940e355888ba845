-- The statements of a chain's texts, as they are read.
use Rattle.std.specs.Prelude.{◌≡◌, ℕ, List, map, All}
use Rattle.entity_statement.specs.Claims.{Claims}
use Rattle.entity_statement.specs.Signed.{IsSplit}
use Rattle.entity_statement.specs.Told.{told}
use Rattle.entity_statement.specs.declared.signed.SignedStatement.{SignedStatement}
use Rattle.chain_check.specs.Chains.{Texts, HasForm, statements_of}

-- the texts and the statements that were read
abbrev pub entry_text : SignedStatement → List ℕ
entry_text e = e.compact.whole

abbrev pub entry_claims : SignedStatement → Claims
entry_claims e = told e.statement

abbrev pub texts_in : List SignedStatement → Texts
texts_in entries = map entry_text entries

abbrev pub claims_in : List SignedStatement → List Claims
claims_in entries = map entry_claims entries

-- the entries are the texts, each read
pub record AreRead (texts : Texts) (entries : List SignedStatement) : Type 0 where
  pub form : HasForm texts
  pub same : texts_in entries ≡ texts
  pub statements : claims_in entries ≡ statements_of texts
  pub split : All IsSplit entries
