-- What of a node and of its workers goes between threads: the types that have JSON trees inside, of which it isn't found by itself.
use denote.RattleType.{RattleType}
use denote.Param.Send.{IsSend, IsSync, sendable}
use denote.Param.SendFields.{array_field_send, array_field_sync, as_row_send, as_row_sync, declared_send, declared_sync, variants_send, variants_sync}
use Rattle.std.proofs.Crossing.{crosses}
use Rattle.authority_core.specs.contracts.registry.Registry as Registry
use Rattle.entity_id.proofs.identifier.EntityId.TheSendSync as id
use Rattle.fed_base.proofs.seq.Seq.TheSendSync as seq
use Rattle.fed_base.proofs.text.Text.TheSendSync as text
use Rattle.fed_json.specs.contracts.tree.Json as Json
use Rattle.fed_json.proofs.tree.Json.TheLaws.TheKnot.{crosses as tree_crosses}
use Rattle.fed_serve.specs.contracts.desk.Desk as Desk
use Rattle.fed_serve.specs.contracts.node.Node as Node
use Rattle.jwk_set.specs.contracts.jwk.Jwk as Jwk
use Rattle.jwk_set.specs.contracts.set.JwkSet as JwkSet
use Rattle.key_ring.proofs.ring.KeyRing.TheSendSync as ring
use Rattle.node_config.specs.contracts.entities.AnchorPart as AnchorPart
use Rattle.node_config.specs.contracts.node.NodeConfig as NodeConfig
use Rattle.node_config.specs.contracts.resolver.ResolverConfig as ResolverConfig
use Rattle.node_config.specs.contracts.subordinates.SubordinateConfig as SubordinateConfig
use Rattle.resolve_round.specs.contracts.trace.Trace as Trace
use Rattle.resolve_round.proofs.trace.Check.TheSendSync as check
use Rattle.resolve_round.proofs.trace.Search.TheSendSync as round
use Rattle.fed_serve.specs.contracts.part.ResolverPart as ResolverPart
use Rattle.statement_shelf.proofs.calls.ShelfCall.TheSendSync as call
use Rattle.statement_shelf.proofs.calls.ShelfReply.TheSendSync as reply
use Rattle.statement_shelf.proofs.commons.SharedCommons.TheSendSync as commons
use Rattle.statement_shelf.proofs.part.ShelfPart.TheSendSync as shelf
use Rattle.turn_log.proofs.group.Group.TheSendSync as group
use Rattle.turn_log.proofs.kept.KeptTable.TheSendSync as kept
use Rattle.turn_log.proofs.pass.PassSeat.TheSendSync as pass

-- a type goes between threads where its fields do
pub ruleset by_fields = (declared_send, declared_sync, variants_send, variants_sync, array_field_send, array_field_sync, as_row_send, as_row_sync)

-- ---- trees and keys

tree_send : IsSend Json.the_row
tree_send = search (tree_crosses, text.the_send, seq.the_send, sendable, crosses) depth 40 fits 4000

tree_sync : IsSync Json.the_row
tree_sync = search (tree_crosses, text.the_sync, seq.the_sync, sendable, crosses) depth 40 fits 4000

jwk_send : IsSend Jwk.the_row
jwk_send = search (tree_send, text.the_send, by_fields, sendable, crosses) depth 40 fits 4000

jwk_sync : IsSync Jwk.the_row
jwk_sync = search (tree_sync, text.the_sync, by_fields, sendable, crosses) depth 40 fits 4000

keys_send : IsSend JwkSet.the_row
keys_send = search (jwk_send, seq.the_send, by_fields, sendable, crosses) depth 40 fits 4000

keys_sync : IsSync JwkSet.the_row
keys_sync = search (jwk_sync, seq.the_sync, by_fields, sendable, crosses) depth 40 fits 4000

-- ---- what a node has

anchor_sync : IsSync AnchorPart.the_row
anchor_sync = search (keys_sync, id.the_sync, by_fields, sendable, crosses) depth 40 fits 8000

subordinate_sync : IsSync SubordinateConfig.the_row
subordinate_sync = search (tree_sync, keys_sync, text.the_sync, seq.the_sync, id.the_sync, by_fields, sendable, crosses) depth 40 fits 8000

resolver_sync : IsSync ResolverConfig.the_row
resolver_sync = search (anchor_sync, keys_sync, text.the_sync, seq.the_sync, by_fields, sendable, crosses) depth 40 fits 8000

config_sync : IsSync NodeConfig.the_row
config_sync = search (tree_sync, subordinate_sync, resolver_sync, text.the_sync, seq.the_sync, id.the_sync, by_fields, sendable, crosses) depth 40 fits 8000

registry_sync : IsSync Registry.the_row
registry_sync = search (config_sync, ring.the_sync, by_fields, sendable, crosses) depth 40 fits 8000

part_sync : IsSync ResolverPart.the_row
part_sync = search (commons.the_sync, group.the_sync, kept.the_sync, shelf.the_send, keys_sync, keys_send, seq.the_send, id.the_send, id.the_sync, by_fields, sendable, crosses) depth 40 fits 8000

pub node_sync : IsSync Node.the_row
node_sync = search (registry_sync, part_sync, by_fields, sendable, crosses) depth 40 fits 8000

-- ---- what a worker has

trace_send : IsSend Trace.the_row
trace_send = search (keys_send, text.the_send, seq.the_send, id.the_send, check.the_send, round.the_send, call.the_send, reply.the_send, by_fields, sendable, crosses) depth 40 fits 8000

pub desk_send : (P L C G : RattleType) → IsSend P → IsSend L → IsSend C → IsSend G → IsSend (Desk.the_row P L C G)
desk_send P L C G p l c g = search (group.the_send, pass.the_send, shelf.the_send, trace_send, keys_send, seq.the_send, id.the_send, by_fields, sendable, crosses) depth 40 fits 8000
