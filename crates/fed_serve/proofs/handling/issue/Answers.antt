use Rattle.std.proofs.Common.{rules}
use Rattle.fed_serve.proofs.handling.issue.Goals as goal

pub returns-in-HistoricalKeys-clause-response : goal.returns-in-HistoricalKeys-clause-response
returns-in-HistoricalKeys-clause-response g c = search rules
