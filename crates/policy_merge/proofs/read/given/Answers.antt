use Rattle.policy_merge.proofs.read.given.Goals as goal

pub returns : goal.returns
returns c = cc
