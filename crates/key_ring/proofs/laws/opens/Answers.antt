use Rattle.key_ring.proofs.KeptOpens.{either-opens, made-opens, same-opens}
use Rattle.key_ring.proofs.laws.opens.Goals as goal

pub returns-clause-made : goal.returns-clause-made
returns-clause-made c = made-opens

pub returns-clause-torn : goal.returns-clause-torn
returns-clause-torn c = either-opens

pub returns-clause-untouched : goal.returns-clause-untouched
returns-clause-untouched c = same-opens
