use Rattle.std.proofs.Common.{rules}
use Rattle.chain_climb.proofs.pages.fails_by_policy.Goals as goal

pub returns-in-PolicyFails : goal.returns-in-PolicyFails
returns-in-PolicyFails c = search rules
