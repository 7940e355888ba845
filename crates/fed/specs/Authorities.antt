-- What `authority` does: the outside before and after, and the status.
use Rattle.std.specs.Prelude.{◌≡◌, ◌⊎◌, ℕ, List, [], ◌∷◌, ◌++◌, take, codes, decimal, Option, None}
use Rattle.fed_ports.specs.Bytes.{Appends}
use Rattle.fed_ports.specs.Exchanges.{Exchange}
use Rattle.authority_core.specs.Nodes.{Node}
use Rattle.cli_commands.specs.Answers.{Tells}
pub use Rattle.cli_inspect.specs.Outputs.{WritesLine}
use Rattle.node_service.specs.Connections.{Connection}
use Rattle.node_service.specs.Ends.{At, HasDropped, HasFailed, HasServed}
use Rattle.node_files.specs.Orders.{Order}
use Rattle.node_files.specs.NodeFiles.{IsAuthorityAlone, IsNodeOf}

-- the output, where it is told, and how often it failed; the files, the network and the clock; and the exchanges of the network, where
-- these are told
pub record Outside (P : Type 0) : Type 0 where
  pub held : Option (List ℕ)
  pub write_faults : ℕ
  pub node : At P
  pub exchanges : Option (List Exchange)

abbrev pub outside : {P : Type 0} → Option (List ℕ) → ℕ → At P → Option (List Exchange) → Outside P
outside held write_faults node exchanges = record { held = held; write_faults = write_faults; node = node; exchanges = exchanges }

-- what is written once all are served
abbrev pub served_line : ℕ → List ℕ
served_line n = codes "served " ++ (decimal n ++ 10 ∷ [])

-- what is written where a file isn't of its form
abbrev pub input_line : List ℕ
input_line = codes "input" ++ 10 ∷ []

-- no file is that of a node that is an authority alone, where the files are told, and nobody was served
pub record HasNoNode {P : Type 0} (order : Order) (before now : At P) : Type 0 where
  pub none : (node : Node) → IsNodeOf before.files order.config node → IsAuthorityAlone node → before.files ≡ None
  pub unserved : now.around.service ≡ before.around.service

-- one field for each status; `answers` says how an authority answers a connection
pub record RunsAuthority {P A : Type 0} (answers : Node → Connection P A → Type 0) (order : Order) (before now : Outside P) (status : ℕ) : Type 0 where
  -- all connections were served by the node of the file, and the line says so
  pub done : status ≡ 0 → HasServed answers order before.node now.node × Appends before.held now.held (served_line order.post.connections)
  -- there is no such node, and the line says so
  pub input : status ≡ 2 → HasNoNode order before.node now.node × Appends before.held now.held input_line
  -- the sink failed, and a beginning of one of the two lines is written, each only where it was due
  pub cut : status ≡ 4 → (n : ℕ) × ((HasServed answers order before.node now.node × Appends before.held now.held (take n (served_line order.post.connections)))
      ⊎ (HasNoNode order before.node now.node × Appends before.held now.held (take n input_line)))
  -- each of these comes only where the count of faults rose, and always where it grew
  pub sink : Tells 4 before.write_faults now.write_faults status
  pub store : Tells 6 before.node.store_faults now.node.store_faults status
  pub network : Tells 7 before.node.around.faults now.node.around.faults status
  -- who was served before one of these, and before memory was wanting
  pub unread : status ≡ 6 → now.node.around.service ≡ before.node.around.service
  pub failed : status ≡ 7 → HasFailed answers order before.node now.node
  pub dropped : status ≡ 5 → (now.node.around.service ≡ before.node.around.service) ⊎ HasDropped answers order before.node now.node
  -- after these and want of memory nothing is written
  pub silent : (status ≡ 5) ⊎ ((status ≡ 6) ⊎ (status ≡ 7)) → now.held ≡ before.held
  -- no connection is opened
  pub exchanges : now.exchanges ≡ before.exchanges
  -- no file is changed
  pub files : now.node.files ≡ before.node.files
  pub range : (status ≡ 0) ⊎ ((status ≡ 2) ⊎ ((status ≡ 4) ⊎ ((status ≡ 5) ⊎ ((status ≡ 6) ⊎ (status ≡ 7)))))
