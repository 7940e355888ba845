use Rattle.std.proofs.Common.{◌++◌, ap₂, ◌∙◌}
use Rattle.cli_show.specs.Indented.{indented}
use Rattle.cli_show.proofs.MarginLaws.{inset-none}
use Rattle.cli_show.proofs.indented.lines_of.Goals as goal

pub returns : goal.returns
returns c = c.in_ok-append_value.ensures ∙ ap₂ (λ text more. text ++ more) c.new-text.ensures (inset-none (indented c.args.tree.now))
