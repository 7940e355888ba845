use Rattle.node_config.specs.Told.{told, told_subordinate}
use Rattle.authority_core.proofs.ReadLaws.{statement-reads}
use Rattle.authority_core.proofs.Wholes.{statement-tree, statement_whole}
use Rattle.authority_core.proofs.claims.statement_claims.Goals as goal

pub returns-clause-tree : goal.returns-clause-tree
returns-clause-tree c = statement-tree (told c.args.node.now) (told_subordinate c.args.s.now) c.args.t _ c.push_statement.new.members c.new-members.ensures c.in_ok-push_statement.ensures.members

pub returns-clause-whole : goal.returns-clause-whole
returns-clause-whole c =
    let sound = c.in_ok-push_statement.ensures.sound in
    statement_whole _ (told c.args.node.now) (told_subordinate c.args.s.now) c.args.t (returns-clause-tree c) c.ranges.t.fits sound.iss_utf8 sound.sub_utf8 sound.whole c.requires

pub returns-clause-reads_back : goal.returns-clause-reads_back
returns-clause-reads_back c =
    let sound = c.in_ok-push_statement.ensures.sound in
    statement-reads (told c.args.node.now) (told_subordinate c.args.s.now) c.args.t _ (returns-clause-tree c) sound.iss_is sound.sub_is c.requires sound.keys_are
