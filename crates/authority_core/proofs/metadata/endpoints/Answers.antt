use Rattle.node_config.specs.Told.{told}
use Rattle.authority_core.proofs.MetadataLaws.{endpoints-formed}
use Rattle.authority_core.proofs.metadata.endpoints.Goals as goal

pub returns-clause-members : goal.returns-clause-members
returns-clause-members c = c.in_ok-push_endpoints.ensures.members c.new-all.ensures

pub returns-clause-formed : goal.returns-clause-formed
returns-clause-formed c = endpoints-formed _ (told c.args.node.now) c.in_ok-push_endpoints.ensures.identifier (returns-clause-members c)
