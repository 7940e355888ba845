use Rattle.std.proofs.Common.{rules}
use Rattle.chain_limits.specs.Reading.{constraints_of}
use Rattle.chain_limits.proofs.Utf8.{HoldsUtf8-reading}
use Rattle.chain_limits.proofs.constraints.Constraints.read.Goals as goal

pub returns-clause-constraints : goal.returns-clause-constraints
unfolding constraints_of
returns-clause-constraints c = search rules

pub returns-clause-utf8 : goal.returns-clause-utf8
returns-clause-utf8 c = λ formed. HoldsUtf8-reading c.args.tree.now _ (returns-clause-constraints c) formed
