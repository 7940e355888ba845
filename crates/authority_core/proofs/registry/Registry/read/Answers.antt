use Rattle.node_config.specs.Told.{told}
use Rattle.authority_core.proofs.ConfigurationLaws.{read-fault, read-is, short-fault, with_ring}
use Rattle.authority_core.proofs.BelowLaws.{below-configuration}
use Rattle.authority_core.proofs.NestingLaws.{states-configured}
use Rattle.authority_core.proofs.registry.Registry.read.Goals as goal

pub returns-in-Err-clause-node : goal.returns-in-Err-clause-node
returns-in-Err-clause-node c = read-fault c.args.config.now c.args.ring c.in-Err.fault c.in-Err.ensures.exact

pub returns-in-Err-check_sizes-clause-node : goal.returns-in-Err-check_sizes-clause-node
returns-in-Err-check_sizes-clause-node c =
    short-fault c.args.config.now c.args.ring (told c.in-Ok.config) c.in-Err-check_sizes.fault c.in-Ok.ensures.exact c.in-Err-check_sizes.ensures.sizes

pub returns-in-Ok-check_sizes-clause-node : goal.returns-in-Ok-check_sizes-clause-node
returns-in-Ok-check_sizes-clause-node c = read-is c.args.config.now c.args.ring (told c.in-Ok.config) c.in-Ok.ensures.exact c.in-Ok-check_sizes.ensures.sizes

pub returns-in-Ok-check_sizes-clause-shallow : goal.returns-in-Ok-check_sizes-clause-shallow
returns-in-Ok-check_sizes-clause-shallow c =
    λ shallow. states-configured c.args.config.now c.args.ring (with_ring c.args.ring (told c.in-Ok.config)) shallow
    (read-is c.args.config.now c.args.ring (told c.in-Ok.config) c.in-Ok.ensures.exact c.in-Ok-check_sizes.ensures.sizes)

pub invariant_of-result : goal.invariant_of-result
invariant_of-result c = (
  record { own = c.in-Ok.ensures.own; about = c.in-Ok.ensures.about },
  c.in-Ok-check_sizes.ensures.signer,
  below-configuration c.args.config.now (told c.in-Ok.config) c.in-Ok.ensures.exact,
  c.in-Ok-check_sizes.ensures.sizes,
)
