use Rattle.std.proofs.Common.{arith, refl, rules}
use Rattle.chain_climb.proofs.walk.look_at_path.Goals as goal

pub try_rest-requires : goal.try_rest-requires
try_rest-requires c = (c.requires.own.hints, record { known = c.requires; are = refl }, omega arith)

pub returns-then-len-bounds-clause-looked : goal.returns-then-len-bounds-clause-looked
returns-then-len-bounds-clause-looked c = search rules

pub returns-in-Some-clause-looked : goal.returns-in-Some-clause-looked
returns-in-Some-clause-looked c = search rules
