use Rattle.std.proofs.Common.{refl}
use Rattle.entity_statement.specs.Table.{statement_type}
use Rattle.trust_mark.specs.Claims.{delegation_type_name, mark_type_name}
use Rattle.cli_words.proofs.Answered.{copied-utf8}
use Rattle.cli_words.proofs.text_type.TextType.name.Goals as goal

pub returns-in-Statement-clause-utf8 : goal.returns-in-Statement-clause-utf8
returns-in-Statement-clause-utf8 c = copied-utf8 c.of.result statement_type refl c.of.ensures

pub returns-in-Mark-clause-utf8 : goal.returns-in-Mark-clause-utf8
returns-in-Mark-clause-utf8 c = copied-utf8 c.of-in-Mark.result mark_type_name refl c.of-in-Mark.ensures

pub returns-in-Delegation-clause-utf8 : goal.returns-in-Delegation-clause-utf8
returns-in-Delegation-clause-utf8 c = copied-utf8 c.of-in-Delegation.result delegation_type_name refl c.of-in-Delegation.ensures
