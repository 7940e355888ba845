use Rattle.std.proofs.Common.{◌∙◌, ap, subst, sym}
use Rattle.fed_json.specs.Forms.{whole}
use Rattle.jwk_set.specs.KeySets.{IsKeySet}
use Rattle.jwk_set.specs.Trees.{set_tree}
use Rattle.fed_json.proofs.Booleans.{left_true}
use Rattle.authority_core.specs.Nodes.{node_of}
use Rattle.authority_core.proofs.ReadLaws.{configuration-reads}
use Rattle.authority_core.proofs.Wholes.{configuration-tree, configuration_whole}
use Rattle.authority_core.proofs.claims.configuration_claims.Goals as goal

pub returns-clause-tree : goal.returns-clause-tree
returns-clause-tree c =
    configuration-tree (node_of c.args.node.now c.args.ring.now) c.args.t c.in_ok-keys.keys.keys _ c.push_configuration.new.members c.new-members.ensures c.in_ok-keys.ensures.keys c.in_ok-push_configuration.ensures.members

pub returns-clause-whole : goal.returns-clause-whole
returns-clause-whole c =
    let sound = c.in_ok-push_configuration.ensures.sound in
    configuration_whole _ (node_of c.args.node.now c.args.ring.now) c.args.t (returns-clause-tree c) c.ranges.t.fits sound.iss_utf8
    (ap (λ keys. whole (set_tree keys)) (sym c.in_ok-keys.ensures.keys) ∙ sound.whole)
    (left_true (whole _) _ c.in_ok-push_configuration.ensures.metadata) c.requires

pub returns-clause-reads_back : goal.returns-clause-reads_back
returns-clause-reads_back c =
    let sound = c.in_ok-push_configuration.ensures.sound in
    configuration-reads (node_of c.args.node.now c.args.ring.now) c.args.t _ (returns-clause-tree c) sound.iss_is c.requires c.in_ok-push_configuration.ensures.metadata
    (subst (λ keys. IsKeySet (set_tree keys) keys) c.in_ok-keys.ensures.keys sound.keys_are)
