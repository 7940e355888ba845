use Rattle.cli_inspect.proofs.ConfigLaws.{absent_text, long_text}
use Rattle.cli_inspect.proofs.config.config_text.Goals as goal

pub returns-in-Absent-clause-text : goal.returns-in-Absent-clause-text
returns-in-Absent-clause-text c = λ bytes is. absent_text c.args.file bytes c.in-Absent.is is

pub returns-in-TooLong-clause-text : goal.returns-in-TooLong-clause-text
returns-in-TooLong-clause-text c = λ bytes is. long_text c.args.file bytes c.in-TooLong.is is
