-- The types of text that `issue` seals (OpenID Federation 1.0 sections 3.1.1, 7.1 and 7.2.1).
use Rattle.std.specs.Prelude.{ℕ, List, bytes_eq, Option, Some, None, if◌then◌else◌}
use Rattle.entity_statement.specs.Table.{statement_type}
use Rattle.trust_mark.specs.Claims.{delegation_type_name, mark_type_name}
use Rattle.cli_words.specs.declared.text_type.TextType.{TextType}
use Rattle.cli_words.specs.declared.text_type.TextType.TheVariants.{Statement, Mark, Delegation}

-- the header's `typ` of each type of text (sections 3.1.1, 7.1 and 7.2.1)
abbrev pub type_name : TextType → List ℕ
type_name Statement = statement_type
type_name Mark = mark_type_name
type_name Delegation = delegation_type_name

-- the type that a `typ` names
abbrev pub type_of : List ℕ → Option TextType
type_of word =
    if bytes_eq word statement_type then Some Statement
    else (if bytes_eq word mark_type_name then Some Mark
    else (if bytes_eq word delegation_type_name then Some Delegation
    else None))
