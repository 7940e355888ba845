use Rattle.authority_core.proofs.NestingLaws.{states-configured, states-read}
use Rattle.authority_core.proofs.laws.nodes_state_shallowly.Goals as goal

pub returns-clause-configured : goal.returns-clause-configured
returns-clause-configured c = states-configured

pub returns-clause-read : goal.returns-clause-read
returns-clause-read c = states-read
