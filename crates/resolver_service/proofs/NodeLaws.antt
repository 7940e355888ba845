-- A node that resolves has at least one worker, since its configuration has the form.
use Rattle.std.proofs.Common.{rules, ◌≡◌, ◌≤◌, ℕ, List, codes, Option, Some, None, Result, Ok, Err, refl, sym, ap, ◌∙◌, ok_or}
use Rattle.fed_base.specs.Answers.{◌>>=◌}
use Rattle.fed_json.specs.declared.tree.Json.{Json}
use Rattle.fed_json.specs.declared.tree.Member.{Member}
use Rattle.fed_json.specs.Trees.{as_object, find, texts_of}
use Rattle.fed_ports.specs.Stores.{Files}
use Rattle.key_ring.specs.Rings.{Ring}
use Rattle.node_config.specs.declared.fault.ConfigFault.{ConfigFault}
use Rattle.node_config.specs.declared.fault.ConfigFault.TheVariants.{Shape}
use Rattle.node_config.specs.Configurations.{basics_in, configuration_in, further_in, member, own_claims_in, settings_in}
use Rattle.node_config.specs.Forms.{possible, possible_list}
use Rattle.node_config.specs.Nodes.{Resolver, Settings}
use Rattle.node_config.specs.Resolvers.{resolver_of}
use Rattle.node_config.specs.Subordinates.{subordinates_of}
use Rattle.authority_core.specs.Configurations.{if_short, node_in, sizes_of}
use Rattle.authority_core.specs.Nodes.{Node}
use Rattle.node_files.specs.NodeFiles.{IsNodeOf}
use Rattle.resolver_service.specs.Steps.{HasWorkers}
use Rattle.resolver_service.proofs.ConfigLaws.{workers_at}

-- what is made of a value was made of one
made_of : {X Y E : Type 0} (r : Result X E) (f : X → Result Y E) (y : Y) → (r >>= f) ≡ Ok y → (x : X) × (r ≡ Ok x) × (f x ≡ Ok y)
made_of (Ok x) f y is = (x, refl, is)
made_of (Err e) f y is = search rules

found : {X E : Type 0} (o : Option X) (e : E) (x : X) → ok_or o e ≡ Ok x → o ≡ Some x
found (Some x') e x is = search rules
found None e x is = search rules

settings_workers : (members : List Member) (settings : Settings) (r : Resolver) → settings_in members ≡ Ok settings → settings.resolver ≡ Some r → 1 ≤ r.workers
unfolding settings_in further_in
settings_workers members settings r is has =
    let basics = made_of (basics_in members) _ settings is in
    let claims = made_of (own_claims_in members) _ settings basics.2 in
    let further = made_of (further_in basics.0.id members) _ settings claims.2 in
    let subordinates = made_of (member (codes "subordinates") (possible_list (codes "subordinates") (subordinates_of basics.0.id) members)) _ further.0 further.1 in
    let revoked = made_of (member (codes "revoked_marks") (possible_list (codes "revoked_marks") texts_of members)) _ further.0 subordinates.2 in
    let resolver = made_of (member (codes "resolver") (possible (codes "resolver") resolver_of members)) _ further.0 revoked.2 in
    let one : resolver.0 ≡ further.0.resolver = search (rules, resolver.2) in
    let other : further.0.resolver ≡ settings.resolver = search (rules, further.2) in
    workers_at (find (codes "resolver") members) r (found (possible (codes "resolver") resolver_of members) (Shape (codes "resolver")) resolver.0 resolver.1 ∙ ap Some (one ∙ other ∙ has))

object_workers : (o : Option (List Member)) (e : ConfigFault) (settings : Settings) (r : Resolver) → (ok_or o e >>= settings_in) ≡ Ok settings → settings.resolver ≡ Some r → 1 ≤ r.workers
object_workers (Some members) e settings r is has = settings_workers members settings r is has
object_workers None e settings r is has = search rules

configured_workers : (tree : Json) (settings : Settings) (r : Resolver) → configuration_in tree ≡ Ok settings → settings.resolver ≡ Some r → 1 ≤ r.workers
unfolding configuration_in
configured_workers tree settings r is has = object_workers (as_object tree) (Shape (codes "entity_id")) settings r is has

short : (node node' : Node) → if_short node ≡ Ok node' → node' ≡ node
short node node' is = search (rules, (made_of (sizes_of node) _ node' is).2)

node_workers : (tree : Json) (ring : Ring) (node : Node) (r : Resolver) → node_in tree ring ≡ Ok node → node.settings.resolver ≡ Some r → 1 ≤ r.workers
unfolding node_in
node_workers tree ring node r is has =
    let made = made_of (configuration_in tree) _ node is in
    configured_workers tree made.0 r made.1 (sym (ap (λ (n : Node). n.settings.resolver) (short _ node made.2)) ∙ has)

pub has_workers : (files : Option Files) (name : List ℕ) (node : Node) → IsNodeOf files name node → HasWorkers node
has_workers files name node is = λ r has. node_workers is.is_node.tree is.is_node.ring node r is.is_node.is_node has
