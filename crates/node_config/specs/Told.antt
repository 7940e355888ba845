-- What the values of the code say.
use Rattle.std.specs.Prelude.{map, option_map}
use Rattle.node_config.specs.declared.entities.AnchorPart.{AnchorPart}
use Rattle.node_config.specs.declared.entities.Bounds.{Bounds as ReadBounds}
use Rattle.node_config.specs.declared.entities.EntityKeys.{EntityKeys}
use Rattle.node_config.specs.declared.node.NodeConfig.{NodeConfig}
use Rattle.node_config.specs.declared.resolver.ResolverConfig.{ResolverConfig}
use Rattle.node_config.specs.declared.settings.FurtherConfig.{FurtherConfig}
use Rattle.node_config.specs.declared.subordinates.SubordinateConfig.{SubordinateConfig}
use Rattle.node_config.specs.Nodes.{Anchor, Bounds, Entity, Further, Resolver, Settings, Subordinate}

-- each key set by its keys
abbrev pub told_entity : EntityKeys → Entity
told_entity e = record { id = e.id; keys = e.keys.keys }

abbrev pub told_bounds : ReadBounds → Bounds
told_bounds b = record { depth = b.depth; calls = b.calls; paths = b.paths }

-- an anchor by its keys, and by how far searches up to it go
abbrev pub told_anchor : AnchorPart → Anchor
told_anchor a = record {
  entity = record { id = a.anchor; keys = a.keys.keys };
  bounds = record { depth = a.depth; calls = a.calls; paths = a.paths };
}

abbrev pub told_subordinate : SubordinateConfig → Subordinate
told_subordinate s = record { entity = record { id = s.id; keys = s.jwks.keys }; claims = s.claims; listing = s.listing }

abbrev pub told_resolver : ResolverConfig → Resolver
told_resolver r = record { anchors = map told_anchor r.anchors; age = r.age; workers = r.workers; control = r.control.keys; routes = r.routes }

abbrev pub told_further : FurtherConfig → Further
told_further f = record { subordinates = map told_subordinate f.subordinates; revoked = f.revoked; resolver = option_map told_resolver f.resolver }

abbrev pub told : NodeConfig → Settings
told c = record {
  id = c.id;
  ring = c.ring;
  lifetime = c.lifetime;
  claims = c.claims;
  subordinates = map told_subordinate c.subordinates;
  revoked = c.revoked;
  resolver = option_map told_resolver c.resolver;
}
