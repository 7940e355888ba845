use Rattle.node_config.specs.Told.{told, told_subordinate}
use Rattle.authority_core.proofs.StatementLengths.{statement-fits}
use Rattle.authority_core.proofs.lengths.after_statement.Goals as goal

pub returns : goal.returns
returns c =
    statement-fits (told c.args.node.now) (told_subordinate c.args.s.now) c.text.result.now c.after_named_text.result c.args.room c.in_ok-inside.inside c.in_ok-left.left c.in_ok-rest.rest
    c.text.ensures.text c.in_ok-inside.ensures.0 c.in_ok-inside.ensures.1 c.in_ok-left.ensures c.in_ok-rest.ensures c.after_named_text.ensures
