-- The node of a configuration file and of the ring file that it names.
use Rattle.std.specs.Prelude.{◌≡◌, ◌≤◌, ℕ, List, codes, length, IsSome, Option, Some, None, Result, Ok, Err}
use Rattle.fed_base.specs.Counts.{Rose}
use Rattle.fed_json.specs.Reading.{tree_in}
use Rattle.fed_json.specs.Trees.{object_members, text_at}
use Rattle.fed_json.specs.declared.tree.Json.{Json}
use Rattle.fed_ports.specs.Stores.{Files, IsFile, file_limit}
use Rattle.key_ring.specs.Files.{Opens}
use Rattle.key_ring.specs.Rings.{Ring}
use Rattle.key_ring.specs.declared.fault.RingFault.{RingFault}
use Rattle.key_ring.specs.declared.fault.RingFault.TheVariants as ring_fault
use Rattle.authority_core.specs.Configurations.{node_in}
use Rattle.authority_core.specs.Nodes.{Node}
use Rattle.node_files.specs.declared.fault.NodeFault.{NodeFault}
use Rattle.node_files.specs.declared.fault.NodeFault.TheVariants.{Input, Store, Memory}

-- the file of that name is there, with these bytes, which are no more than a file may have
pub record IsReadAs (files : Option Files) (name bytes : List ℕ) : Type 0 where
  pub there : IsFile files name (Some bytes)
  pub short : length bytes ≤ file_limit

-- the file of that name is that of this ring
pub record IsRingOf (files : Option Files) (name : List ℕ) (ring : Ring) : Type 0 where
  pub bytes : List ℕ
  pub read : IsReadAs files name bytes
  pub opened : Opens bytes (Ok ring)

-- these bytes are a configuration, and with the ring of the file that it names it is this node
pub record IsNodeFor (files : Option Files) (bytes : List ℕ) (node : Node) : Type 0 where
  pub tree : Json
  pub is_tree : tree_in bytes ≡ Some tree
  pub ring : Ring
  pub is_ring : IsRingOf files node.settings.ring ring
  pub is_node : node_in tree ring ≡ Ok node

-- the file of that name is the configuration of this node
pub record IsNodeOf (files : Option Files) (name : List ℕ) (node : Node) : Type 0 where
  pub bytes : List ℕ
  pub read : IsReadAs files name bytes
  pub is_node : IsNodeFor files bytes node

-- a node that is an authority alone: its configuration says nothing of resolving
abbrev pub IsAuthorityAlone : Node → Type 0
IsAuthorityAlone node = node.settings.resolver ≡ None

-- a node that resolves: its configuration says with what
abbrev pub IsResolver : Node → Type 0
IsResolver node = IsSome node.settings.resolver

-- the answer is such a value; or there is none, where the files are told
abbrev pub Answers : {X : Type 0} → Option Files → (X → Type 0) → Result X NodeFault → Type 0
Answers {X} files Is (Ok x) = Is x
Answers {X} files Is (Err Input) = (x : X) → Is x → files ≡ None
Answers {X} files Is (Err Store) = Unit {0}
Answers {X} files Is (Err Memory) = Unit {0}

-- the name of the ring's file, as the configuration gives it
abbrev pub ring_name : Json → Option (List ℕ)
ring_name tree = text_at (codes "ring") (object_members tree)

-- the file that the configuration names is that of this ring
pub record IsRingFor (files : Option Files) (tree : Json) (ring : Ring) : Type 0 where
  pub name : List ℕ
  pub named : ring_name tree ≡ Some name
  pub is_ring : IsRingOf files name ring

-- the fault that tells a ring's
abbrev pub fault_of : RingFault → NodeFault
fault_of ring_fault.Shape = Input
fault_of (ring_fault.Known kid) = Input
fault_of fault = Memory

-- a fault of the store comes only where its count rose, which else is as before
abbrev pub Counts : {X : Type 0} → ℕ → ℕ → Result X NodeFault → Type 0
Counts before now (Ok x) = now ≡ before
Counts before now (Err Input) = now ≡ before
Counts before now (Err Store) = Rose before now
Counts before now (Err Memory) = now ≡ before
