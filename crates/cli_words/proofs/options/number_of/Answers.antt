use Rattle.std.proofs.Common.{rules}
use Rattle.cli_words.proofs.options.number_of.Goals as goal

pub returns-in_default-clause-number : goal.returns-in_default-clause-number
returns-in_default-clause-number c = search rules
