use Rattle.std.proofs.Common.{rules}
use Rattle.turn_log.proofs.Steps.{takes_turn}
use Rattle.turn_log.proofs.kept.Kept+T.take.Goals as goal

pub compare_exchange-requires : goal.compare_exchange-requires
compare_exchange-requires g c = (search rules, search rules, takes_turn g.T.Sequential.steps _ _ _)
