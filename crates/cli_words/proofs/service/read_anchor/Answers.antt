use Rattle.std.proofs.Common.{rules}
use Rattle.cli_words.specs.Options.{option_in}
use Rattle.cli_words.proofs.service.read_anchor.Goals as goal

pub returns-in-Ok-Some : goal.returns-in-Ok-Some
unfolding option_in
returns-in-Ok-Some c = search rules
