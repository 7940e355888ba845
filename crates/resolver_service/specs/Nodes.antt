-- The node that a resolver serves as, made of a configuration file and its ring.
use Rattle.std.specs.Prelude.{◌≡◌, List, map, Some}
use Rattle.slh_dsa.specs.Keys.{Keys}
use Rattle.key_ring.specs.Sets.{signer_keys}
use Rattle.node_config.specs.Nodes.{Resolver, entity_of}
use Rattle.authority_core.specs.Nodes.{Node as Authority}
use Rattle.statement_shelf.specs.Book.{opened_with}
use Rattle.statement_shelf.specs.Passes.{opened_book}
use Rattle.statement_shelf.specs.declared.calls.AnchorKeys.{AnchorKeys}
use Rattle.fed_serve.specs.declared.part.ResolverPart.{ResolverPart}
use Rattle.fed_serve.specs.declared.node.Node.{Node}
use Rattle.node_files.specs.ResolvingParts.{booked_entity, signer_of}

-- the part signs by the node's newest live key, keeps pages for the configured age, obeys the configured control keys, and its book was
-- opened with the configured trust anchors
pub record IsPartOf (node : Authority) (resolver : Resolver) (part : ResolverPart) : Type 0 where
  pub keys : Keys
  pub signs : signer_keys node.ring ≡ Some keys
  pub signer : part.signer ≡ signer_of node resolver keys
  pub control : part.control.keys ≡ resolver.control
  pub anchors : List AnchorKeys
  pub listed : map booked_entity anchors ≡ map entity_of resolver.anchors
  pub opened : opened_book part.commons ≡ opened_with anchors

-- the node that serves is that of the file, with such a part
pub record IsNodeWith (node : Authority) (resolver : Resolver) (full : Node) : Type 0 where
  pub resolves : node.settings.resolver ≡ Some resolver
  pub registry : full.registry ≡ node
  pub part : ResolverPart
  pub has : full.resolver ≡ Some part
  pub is : IsPartOf node resolver part
