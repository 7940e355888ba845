use Rattle.cli_commands.proofs.NotedLaws.{hands-written}
use Rattle.cli_commands.proofs.output.hand_notes.Goals as goal

pub returns : goal.returns
returns g c = hands-written _ _ c.text.result.now c.write_all.result c.text.ensures.plain c.write_all.ensures.ok c.write_all.ensures.part
