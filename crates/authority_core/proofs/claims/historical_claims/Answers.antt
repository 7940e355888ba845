use Rattle.authority_core.proofs.Wholes.{historical-tree, historical_whole}
use Rattle.authority_core.proofs.claims.historical_claims.Goals as goal

pub returns-clause-tree : goal.returns-clause-tree
returns-clause-tree c = historical-tree c.args.node.now.id c.args.keys c.args.t _ c.push_historical.new.members c.new-members.ensures c.in_ok-push_historical.ensures.members

pub returns-clause-whole : goal.returns-clause-whole
returns-clause-whole c =
    historical_whole _ c.args.node.now.id c.args.keys c.args.t (returns-clause-tree c) c.ranges.t.fits c.in_ok-push_historical.ensures.issuer c.requires
