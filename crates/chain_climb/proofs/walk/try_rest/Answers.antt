use Rattle.std.proofs.Common.{arith}
use Rattle.chain_climb.proofs.StepLaws.{has-within, rest_arm-none, rest_arm-stop}
use Rattle.chain_climb.proofs.walk.try_rest.Goals as goal

pub try_hints-requires-clause-within : goal.try_hints-requires-clause-within
try_hints-requires-clause-within c = has-within c.args.pages.now c.args.path.now c.in_ok-hints.hints.now c.in_ok-hints.ensures c.args.from c.requires

pub returns-then-at-hints-clause-tried : goal.returns-then-at-hints-clause-tried
returns-then-at-hints-clause-tried c =
    rest_arm-stop c.args.pages.now c.args.path.now c.in_ok-hints.hints.now c.in_ok-hints.ensures c.args.most c.args.from c.args.queue.now c.try_hints.new.queue c.in_ok-at.at c.in_ok-at.ensures.tried (omega arith)

pub returns-else-at-hints-clause-tried : goal.returns-else-at-hints-clause-tried
returns-else-at-hints-clause-tried c =
    rest_arm-none c.args.pages.now c.args.path.now c.in_ok-hints.hints.now c.in_ok-hints.ensures c.args.most c.args.from c.args.queue.now c.try_hints.new.queue c.in_ok-at.at c.in_ok-at.ensures.tried (omega arith)
