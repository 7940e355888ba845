use Rattle.std.proofs.Common.{rules}
use Rattle.resolve_round.proofs.tests.known_answer.Goals as goal

pub returns-in-Some : goal.returns-in-Some
returns-in-Some c = search rules
