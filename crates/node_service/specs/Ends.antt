-- How serving as an authority ends.
use Rattle.std.specs.Prelude.{◌≡◌, ◌⊎◌, ◌<◌, ℕ, Option, None, Result, Ok, Err}
use Rattle.fed_base.specs.Counts.{Rose}
use Rattle.fed_ports.specs.Stores.{Files}
use Rattle.fed_ports.specs.declared.clock.Clock.{Ghosts as ClockGhosts}
use Rattle.fed_ports.specs.declared.network.Network.{Ghosts as NetworkGhosts}
use Rattle.authority_core.specs.Nodes.{Node}
use Rattle.node_service.specs.declared.stop.Stop.{Stop}
use Rattle.node_service.specs.declared.stop.Stop.TheVariants as stop
use Rattle.node_files.specs.declared.fault.NodeFault.{NodeFault}
use Rattle.node_files.specs.declared.fault.NodeFault.TheVariants as node_fault
use Rattle.node_service.specs.declared.service.ServiceEnd.{ServiceEnd}
use Rattle.node_service.specs.declared.service.ServiceEnd.TheVariants as ends
use Rattle.node_service.specs.Connections.{Connection, DropsNext, ServesAndDrops, ServesFewer, ServiceAt, Serves, on_port, service_seen}
use Rattle.node_files.specs.Moments.{NodeAt, at_moment as node_moment}
use Rattle.node_files.specs.Orders.{Order}
use Rattle.node_files.specs.declared.post.Post.{Post}
use Rattle.node_files.specs.NodeFiles.{IsAuthorityAlone, IsNodeOf}

-- the network failed only where its count of faults rose, which else is as before
abbrev pub NetworkCause : ℕ → ℕ → Result Unit Stop → Type 0
NetworkCause before now (Ok done) = now ≡ before
NetworkCause before now (Err stop.Network) = Rose before now
NetworkCause before now (Err stop.Memory) = now ≡ before

-- what becomes of the next connection: it is served; or none is accepted; or it is answered and dropped
abbrev pub NextOf : {P A : Type 0} → (Node → Connection P A → Type 0) → Node → ServiceAt P → ServiceAt P → Result Unit Stop → Type 0
NextOf answers node before now (Ok done) = Serves answers node 1 before now
NextOf answers node before now (Err stop.Network) = now ≡ before
NextOf answers node before now (Err stop.Memory) = DropsNext answers node before now

-- what becomes of so many connections: all are served; or the network fails before, or the next one is dropped
abbrev pub StopsAfter : {P A : Type 0} → (Node → Connection P A → Type 0) → Node → ℕ → ServiceAt P → ServiceAt P → Result Unit Stop → Type 0
StopsAfter answers node n before now (Ok done) = Serves answers node n before now
StopsAfter answers node n before now (Err stop.Network) = ServesFewer answers node n before now
StopsAfter answers node n before now (Err stop.Memory) = ServesAndDrops answers node n before now

-- a service and its network's count of faults, at one moment
pub record NetworkAt (P : Type 0) : Type 0 where
  pub service : ServiceAt P
  pub faults : ℕ

-- the same, as a network and a clock show themselves
abbrev pub network_seen : {N P C : Type 0} → NetworkGhosts N P → ClockGhosts C → N → C → NetworkAt P
network_seen network times net clock = record { service = service_seen network times net clock; faults = network.faults net }

-- nobody was listened to; or fewer than so many were served on the port, and then the network failed
abbrev pub FailsAfter : {P A : Type 0} → (Node → Connection P A → Type 0) → Node → Post → ServiceAt P → ServiceAt P → Type 0
FailsAfter answers node post before now = (now ≡ before) ⊎ ServesFewer answers node post.connections (on_port post.port before) now

-- memory was wanting before the port was taken, or to settle a connection
abbrev pub WantsAfter : {P A : Type 0} → (Node → Connection P A → Type 0) → Node → Post → NetworkAt P → NetworkAt P → Type 0
WantsAfter answers node post before now =
    (now ≡ before) ⊎ (ServesAndDrops answers node post.connections (on_port post.port before.service) now.service × (now.faults ≡ before.faults))

-- how the serving of connections on a port ended: all were served, or the network failed, or memory was wanting
abbrev pub EndsOf : {P A : Type 0} → (Node → Connection P A → Type 0) → Node → Post → NetworkAt P → NetworkAt P → ServiceEnd → Type 0
EndsOf answers node post before now ends.Served = Serves answers node post.connections (on_port post.port before.service) now.service × (now.faults ≡ before.faults)
EndsOf answers node post before now ends.NetworkFailed = FailsAfter answers node post before.service now.service × Rose before.faults now.faults
EndsOf answers node post before now ends.Memory = WantsAfter answers node post before now
EndsOf answers node post before now end = ⊥

-- the files, where they are told, and the service, at one moment
abbrev pub At : Type 0 → Type 0
At P = NodeAt (NetworkAt P)

abbrev pub at_moment : {P : Type 0} → Option Files → ServiceAt P → ℕ → ℕ → At P
at_moment files service store_faults network_faults = node_moment files store_faults (record { service = service; faults = network_faults })

-- why there is no node
abbrev pub end_without_node : NodeFault → ServiceEnd
end_without_node node_fault.Input = ends.Input
end_without_node node_fault.Store = ends.StoreFailed
end_without_node node_fault.Memory = ends.Memory

-- a node of the file, which is an authority alone
pub record IsOrdered (order : Order) (files : Option Files) (node : Node) : Type 0 where
  pub is_node : IsNodeOf files order.config node
  pub is_authority : IsAuthorityAlone node

-- so many connections were served on the port by the node of the file
pub record HasServed {P A : Type 0} (answers : Node → Connection P A → Type 0) (order : Order) (before now : At P) : Type 0 where
  pub node : Node
  pub is : IsOrdered order before.files node
  pub serves : Serves answers node order.post.connections (on_port order.post.port before.around.service) now.around.service

-- the node of the file listened to nobody, or served fewer than so many on the port
pub record HasFailed {P A : Type 0} (answers : Node → Connection P A → Type 0) (order : Order) (before now : At P) : Type 0 where
  pub node : Node
  pub is : IsOrdered order before.files node
  pub after : FailsAfter answers node order.post before.around.service now.around.service

-- the node of the file served fewer than so many on the port, and dropped the next one
pub record HasDropped {P A : Type 0} (answers : Node → Connection P A → Type 0) (order : Order) (before now : At P) : Type 0 where
  pub node : Node
  pub is : IsOrdered order before.files node
  pub after : ServesAndDrops answers node order.post.connections (on_port order.post.port before.around.service) now.around.service

-- the end comes only where that count of faults rose, and always where it grew
pub record Tells (result fault : ServiceEnd) (before now : ℕ) : Type 0 where
  pub only : result ≡ fault → Rose before now
  pub always : before < now → result ≡ fault

-- how serving as an authority ends, and what was done
pub record Ends {P A : Type 0} (answers : Node → Connection P A → Type 0) (order : Order) (before now : At P) (result : ServiceEnd) : Type 0 where
  -- all connections were served
  pub served : result ≡ ends.Served → HasServed answers order before now
  -- a file isn't of its form, or the node isn't an authority alone
  pub input : result ≡ ends.Input → (node : Node) → IsNodeOf before.files order.config node → IsAuthorityAlone node → before.files ≡ None
  pub unserved : result ≡ ends.Input → now.around.service ≡ before.around.service
  -- a file couldn't be read
  pub store : Tells result ends.StoreFailed before.store_faults now.store_faults
  pub unread : result ≡ ends.StoreFailed → now.around.service ≡ before.around.service
  -- the network failed to listen, or to accept the next connection
  pub network : Tells result ends.NetworkFailed before.around.faults now.around.faults
  pub failed : result ≡ ends.NetworkFailed → HasFailed answers order before now
  -- memory was wanting before the port was taken, or to settle a connection
  pub memory : result ≡ ends.Memory → (now.around.service ≡ before.around.service) ⊎ HasDropped answers order before now
  pub files : now.files ≡ before.files
