use Rattle.std.proofs.Common.{IsTrue, map, sym, subst}
use Rattle.fed_json.specs.declared.tree.Member.{Member}
use Rattle.fed_json.specs.Forms.{rising}
use Rattle.fed_json.specs.Metadata.{IsMetadata}
use Rattle.fed_json.specs.Trees.{member_name, object_members}
use Rattle.fed_json.proofs.Booleans.{left_true}
use Rattle.chain_check.proofs.Overrides.{formed-types, metadata-put_over, own-rises, put-all, upper-rises}
use Rattle.chain_check.proofs.metadata.put_over.Goals as goal

pub type_over-requires-clause-types : goal.type_over-requires-clause-types
type_over-requires-clause-types c = left_true _ _ (formed-types c.args.upper.now _ c.object_members-upper.ensures c.requires.upper)

pub type_over-requires-clause-upper : goal.type_over-requires-clause-upper
type_over-requires-clause-upper c =
    upper-rises c.entity_type-item.result.name c.object_members-upper.result.now (formed-types c.args.upper.now _ c.object_members-upper.ensures c.requires.upper)

pub type_over-requires-clause-own : goal.type_over-requires-clause-own
type_over-requires-clause-own c =
    let items = c.object_members-entity_type-items.result.now in
    subst (λ (m : Member). IsTrue (rising (map member_name (object_members m.value)))) (sym c.entity_type-item.is)
    (own-rises items c.loop-entity_type.entity_type-index c.entity_type-item.result c.loop-entity_type-test.true (formed-types c.args.metadata.now _ c.object_members-entity_type-items.ensures c.requires.own))

pub returns-clause-tree : goal.returns-clause-tree
returns-clause-tree c =
    put-all c.args.upper.now c.args.metadata.now _ _ _ c.loop-entity_type.entity_type-index c.object_members-upper.ensures c.object_members-entity_type-items.ensures c.loop-entity_type-test.false c.loop-entity_type.invariant

pub returns-clause-metadata : goal.returns-clause-metadata
returns-clause-metadata c = subst IsMetadata (sym (returns-clause-tree c)) (metadata-put_over c.args.upper.now c.args.metadata.now c.requires.upper c.requires.own)
