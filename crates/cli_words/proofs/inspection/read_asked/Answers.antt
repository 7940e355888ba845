use Rattle.std.proofs.Common.{rules}
use Rattle.cli_words.specs.Options.{option_in}
use Rattle.cli_words.proofs.AskedLaws.{asked-is}
use Rattle.cli_words.proofs.inspection.read_asked.Goals as goal

pub returns : goal.returns
unfolding option_in
returns c =
    asked-is c.args.rest.now c.in_ok-copy.field-0 c.in_ok-copy-2.field-0 c.in-Some-Some-Some.anchor.now c.anchor.inside.text c.moment_in.result (search rules) (search rules) (search rules) (search rules) (search rules)
