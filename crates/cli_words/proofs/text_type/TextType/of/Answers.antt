use Rattle.std.proofs.Common.{rules}
use Rattle.cli_words.proofs.text_type.TextType.of.Goals as goal

pub returns-then-eq-2 : goal.returns-then-eq-2
returns-then-eq-2 c = search rules
