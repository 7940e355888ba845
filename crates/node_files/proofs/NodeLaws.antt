-- Of a file, a configuration and a ring there is one node.
use Rattle.std.proofs.Common.{rules, ◌≡◌, ◌⊎◌, ⊎_elim, inl, inr, ℕ, List, [], codes, Option, Some, None, Result, Ok, Err, refl, sym, ap, ◌∙◌, subst, ok_or, unwrap_or}
use Rattle.fed_base.specs.Answers.{◌>>=◌}
use Rattle.fed_json.specs.Reading.{tree_in}
use Rattle.fed_json.specs.Trees.{as_object, as_text, text_at}
use Rattle.fed_json.specs.declared.tree.Json.{Json}
use Rattle.fed_json.specs.declared.tree.Member.{Member}
use Rattle.fed_ports.specs.Stores.{Files}
use Rattle.key_ring.proofs.FileLaws.{one-ring}
use Rattle.key_ring.specs.Files.{Opens, repeated_in}
use Rattle.key_ring.specs.Rings.{Ring}
use Rattle.key_ring.specs.declared.fault.RingFault.{RingFault}
use Rattle.key_ring.specs.declared.fault.RingFault.TheVariants.{Shape, Known, Unknown, Order, StoreFault, Memory as RingMemory}
use Rattle.node_config.specs.Configurations.{basics_in, configuration_in, further_in, member, own_claims_in, settings_in}
use Rattle.node_config.specs.Forms.{needed, number_within}
use Rattle.entity_statement.specs.Forms.{identifier}
use Rattle.node_config.specs.Nodes.{Settings}
use Rattle.node_config.specs.declared.fault.ConfigFault.{ConfigFault}
use Rattle.node_config.specs.declared.fault.ConfigFault.TheVariants.{Shape as ConfigShape}
use Rattle.authority_core.specs.Configurations.{if_short, node_in, sizes_of}
use Rattle.authority_core.specs.Nodes.{Node}
use Rattle.node_files.specs.NodeFiles.{Answers, Counts, IsNodeFor, IsNodeOf, IsReadAs, IsRingFor, IsRingOf, fault_of, ring_name}
use Rattle.node_files.specs.declared.fault.NodeFault.{NodeFault}
use Rattle.node_files.specs.declared.fault.NodeFault.TheVariants.{Input, Store, Memory}

-- ---- the name of the ring's file

-- what is made of a value was made of one
made_of : {X Y E : Type 0} (r : Result X E) (f : X → Result Y E) (y : Y) → (r >>= f) ≡ Ok y → (x : X) × (r ≡ Ok x) × (f x ≡ Ok y)
made_of (Ok x) f y is = (x, refl, is)
made_of (Err e) f y is = search rules

found : {X E : Type 0} (o : Option X) (e : E) (x : X) → ok_or o e ≡ Ok x → o ≡ Some x
found (Some x') e x is = search rules
found None e x is = search rules

settings_named : (members : List Member) (settings : Settings) → settings_in members ≡ Ok settings → text_at (codes "ring") members ≡ Some settings.ring
unfolding settings_in basics_in
settings_named members settings is =
    let basics = made_of (basics_in members) _ settings is in
    let claims = made_of (own_claims_in members) _ settings basics.2 in
    let further = made_of (further_in basics.0.id members) _ settings claims.2 in
    let id = made_of (member (codes "entity_id") (needed (codes "entity_id") identifier members)) _ basics.0 basics.1 in
    let ring = made_of (member (codes "ring") (needed (codes "ring") as_text members)) _ basics.0 id.2 in
    let lifetime = made_of (member (codes "lifetime") (needed (codes "lifetime") (number_within 60 31536000) members)) _ basics.0 ring.2 in
    found (needed (codes "ring") as_text members) (ConfigShape (codes "ring")) ring.0 ring.1 ∙ ap Some (search (rules, lifetime.2, further.2))

object_named : (o : Option (List Member)) (e : ConfigFault) (settings : Settings) → (ok_or o e >>= settings_in) ≡ Ok settings
    → text_at (codes "ring") (unwrap_or o []) ≡ Some settings.ring
object_named (Some members) e settings is = settings_named members settings is
object_named None e settings is = search rules

pub configuration_named : (tree : Json) (settings : Settings) → configuration_in tree ≡ Ok settings → ring_name tree ≡ Some settings.ring
unfolding configuration_in
configuration_named tree settings is = object_named (as_object tree) _ settings is

short : (node node' : Node) → if_short node ≡ Ok node' → node' ≡ node
short node node' is = search (rules, (made_of (sizes_of node) _ node' is).2)

pub named : (tree : Json) (ring : Ring) (node : Node) → node_in tree ring ≡ Ok node → ring_name tree ≡ Some node.settings.ring
unfolding node_in
named tree ring node is =
    let made = made_of (configuration_in tree) _ node is in
    configuration_named tree made.0 made.1 ∙ ap (λ (n : Node). Some n.settings.ring) (sym (short _ node made.2))

-- ---- one file, one text, one ring

one_text : (files : Option Files) (name a b : List ℕ) → IsReadAs files name a → IsReadAs files name b → (files ≡ None) ⊎ (a ≡ b)
one_text None name a b one other = inl refl
one_text (Some told) name a b one other = inr (search rules)

one_opened : (bytes : List ℕ) (a b : Ring) → Opens bytes (Ok a) → Opens bytes (Ok b) → a ≡ b
one_opened bytes a b one other = one-ring bytes a b one.0 other.0

one_ring : (files : Option Files) (name : List ℕ) (a b : Ring) → IsRingOf files name a → IsRingOf files name b → (files ≡ None) ⊎ (a ≡ b)
one_ring files name a b one other = ⊎_elim inl
    (λ same. inr (one_opened other.bytes a b (subst (λ bytes. Opens bytes (Ok a)) same one.opened) other.opened))
    (one_text files name one.bytes other.bytes one.read other.read)

-- ---- answers

-- a fault of a part is one of the whole
pub answers_on : {X Y : Type 0} (files : Option Files) (Is : X → Type 0) (IsAll : Y → Type 0) (e : NodeFault) → ((y : Y) → IsAll y → (x : X) × Is x)
    → Answers files Is (Err e) → Answers files IsAll (Err e)
answers_on files Is IsAll Input part none = λ y is. none (part y is).0 (part y is).1
answers_on files Is IsAll Store part none = tt
answers_on files Is IsAll Memory part none = tt

-- an answer of the last part is the whole's
answers_as : {X : Type 0} (files : Option Files) (Is IsAll : X → Type 0) (r : Result X NodeFault) → ((x : X) → Is x → IsAll x)
    → ((x : X) → IsAll x → (files ≡ None) ⊎ Is x) → Answers files Is r → Answers files IsAll r
answers_as files Is IsAll (Ok x) there back is = there x is
answers_as files Is IsAll (Err Input) there back none = λ x is. ⊎_elim (λ untold. untold) (λ one. none x one) (back x is)
answers_as files Is IsAll (Err Store) there back none = tt
answers_as files Is IsAll (Err Memory) there back none = tt

pub counts_on : (X Y : Type 0) (a b : ℕ) (e : NodeFault) → Counts {X = X} a b (Err e) → Counts {X = Y} a b (Err e)
counts_on X Y a b Input same = same
counts_on X Y a b Store rose = rose
counts_on X Y a b Memory same = same

pub counts_after : {X : Type 0} (a b c : ℕ) (r : Result X NodeFault) → b ≡ a → Counts b c r → Counts a c r
counts_after a b c r same counts = subst (λ n. Counts n c r) same counts

-- ---- a ring

-- a file that isn't opened is that of no ring
pub not_opened : (bytes : List ℕ) (fault : RingFault) (files : Option Files) → Opens bytes (Err fault)
    → Answers files (λ (ring : Ring). Opens bytes (Ok ring)) (Err (fault_of fault))
not_opened bytes Shape files none = λ ring it. absurd (none ring it.0)
not_opened bytes (Known kid) files it = λ ring other. search (rules, it.2, other.1, ap repeated_in (one-ring bytes ring it.0 other.0 it.1))
not_opened bytes (Unknown kid) files none = absurd none
not_opened bytes (Order fault) files none = absurd none
not_opened bytes StoreFault files none = absurd none
not_opened bytes RingMemory files none = tt

pub ring_of : (files : Option Files) (name bytes : List ℕ) (r : Result Ring NodeFault) → IsReadAs files name bytes
    → Answers files (λ ring. Opens bytes (Ok ring)) r → Answers files (IsRingOf files name) r
ring_of files name bytes r read = answers_as files _ _ r (λ ring opened. record { bytes = bytes; read = read; opened = opened })
    (λ ring it. ⊎_elim inl (λ same. inr (subst (λ b. Opens b (Ok ring)) same it.opened)) (one_text files name it.bytes bytes it.read read))

pub ring_named : (files : Option Files) (tree : Json) (name : List ℕ) (r : Result Ring NodeFault) → ring_name tree ≡ Some name
    → Answers files (IsRingOf files name) r → Answers files (IsRingFor files tree) r
ring_named files tree name r is_name = answers_as files _ _ r (λ ring it. record { name = name; named = is_name; is_ring = it })
    (λ ring it. inr (subst (λ n. IsRingOf files n ring) (one_name it.name it.named) it.is_ring))
  where
    one_name : (other : List ℕ) → ring_name tree ≡ Some other → other ≡ name
    one_name other is = search (rules, is, is_name)

-- ---- the node of a configuration

pub one_tree : (bytes : List ℕ) (a b : Json) → tree_in bytes ≡ Some a → tree_in bytes ≡ Some b → a ≡ b
one_tree bytes a b one other = search (rules, one, other)

-- a node has the ring that its configuration names
abbrev pub ring_part : (files : Option Files) (bytes : List ℕ) (tree : Json) → tree_in bytes ≡ Some tree → (node : Node) → IsNodeFor files bytes node
    → (ring : Ring) × IsRingFor files tree ring
ring_part files bytes tree is node it =
    (it.ring, record { name = node.settings.ring; named = ap ring_name (one_tree bytes tree it.tree is it.is_tree) ∙ named it.tree it.ring node it.is_node; is_ring = it.is_ring })

pub node_of_ring : (files : Option Files) (bytes : List ℕ) (tree : Json) (ring : Ring) (r : Result Node NodeFault) → tree_in bytes ≡ Some tree
    → IsRingFor files tree ring → Answers files (λ node. node_in tree ring ≡ Ok node) r → Answers files (IsNodeFor files bytes) r
node_of_ring files bytes tree ring r is of_ring = answers_as files _ _ r (λ node made. record {
  tree = tree;
  is_tree = is;
  ring = ring;
  is_ring = subst (λ n. IsRingOf files n ring) (search (rules, of_ring.named, named tree ring node made)) of_ring.is_ring;
  is_node = made;
})
    (λ node it. ⊎_elim inl (λ same. inr (same_made node it same)) (same_ring node it))
  where
    same_ring : (node : Node) (it : IsNodeFor files bytes node) → (files ≡ None) ⊎ (it.ring ≡ ring)
    same_ring node it =
        let other = ring_part files bytes tree is node it in
        one_ring files of_ring.name it.ring ring (subst (λ n. IsRingOf files n it.ring) (search (rules, other.1.named, of_ring.named)) other.1.is_ring) of_ring.is_ring

    same_made : (node : Node) (it : IsNodeFor files bytes node) → it.ring ≡ ring → node_in tree ring ≡ Ok node
    same_made node it same = ap (λ t. node_in t ring) (one_tree bytes tree it.tree is it.is_tree) ∙ ap (node_in it.tree) (sym same) ∙ it.is_node

pub node_of_file : (files : Option Files) (name bytes : List ℕ) (r : Result Node NodeFault) → IsReadAs files name bytes
    → Answers files (IsNodeFor files bytes) r → Answers files (IsNodeOf files name) r
node_of_file files name bytes r read = answers_as files _ _ r (λ node it. record { bytes = bytes; read = read; is_node = it })
    (λ node it. ⊎_elim inl (λ same. inr (subst (λ b. IsNodeFor files b node) same it.is_node)) (one_text files name it.bytes bytes it.read read))

-- a file is the configuration of one node
pub one_node : (files : Option Files) (name : List ℕ) (a b : Node) → IsNodeOf files name a → IsNodeOf files name b → (files ≡ None) ⊎ (a ≡ b)
one_node files name a b one other = ⊎_elim inl (λ same. one_for (subst (λ bytes. IsNodeFor files bytes a) same one.is_node))
    (one_text files name one.bytes other.bytes one.read other.read)
  where
    of_ring : IsRingFor files other.is_node.tree other.is_node.ring
    of_ring = record { name = b.settings.ring; named = named other.is_node.tree other.is_node.ring b other.is_node.is_node; is_ring = other.is_node.is_ring }

    one_for : IsNodeFor files other.bytes a → (files ≡ None) ⊎ (a ≡ b)
    one_for it =
        let tree_is = one_tree other.bytes it.tree other.is_node.tree it.is_tree other.is_node.is_tree in
        let theirs = ring_part files other.bytes other.is_node.tree other.is_node.is_tree a it in
        ⊎_elim inl (λ same. inr (search (rules, ap (λ t. node_in t it.ring) tree_is, ap (node_in other.is_node.tree) same, it.is_node, other.is_node.is_node)))
        (one_ring files of_ring.name it.ring other.is_node.ring (subst (λ n. IsRingOf files n it.ring) (search (rules, theirs.1.named, of_ring.named)) theirs.1.is_ring) of_ring.is_ring)
