use Rattle.cli_commands.proofs.ReadLaws.{named_file}
use Rattle.cli_commands.proofs.answer.load.Goals as goal

-- src/answer.rt
pub returns-in-Some-clause-found : goal.returns-in-Some-clause-found
returns-in-Some-clause-found g c =
    named_file c.args.command.now (g.D.Store.files c.args.store.now) c.in-Some.name.now c.load_file.result c.in-Some.ensures c.load_file.ensures.found
