use Rattle.cli_commands.proofs.ReadLaws.{long_file, steady_file}
use Rattle.cli_commands.proofs.answer.load_file.Goals as goal

-- src/answer.rt
pub returns-in-Err-TooLong-clause-found : goal.returns-in-Err-TooLong-clause-found
returns-in-Err-TooLong-clause-found g c =
    long_file (g.D.Store.files c.args.store.now) c.args.name.now c.in-Err-TooLong.field-0 c.in-Err-TooLong.field-0-is c.in-Err-TooLong.ensures.loaded

-- src/answer.rt
pub returns-in-Err-TooLong-clause-steady : goal.returns-in-Err-TooLong-clause-steady
returns-in-Err-TooLong-clause-steady g c = steady_file _ _ c.in-Err-TooLong.field-0 c.in-Err-TooLong.field-0-is c.in-Err-TooLong.ensures.cause.counted
