-- The outside of a node at one moment.
use Rattle.std.specs.Prelude.{ℕ, Option}
use Rattle.fed_ports.specs.Stores.{Files}
use Rattle.fed_ports.specs.declared.store.Store.{Ghosts as StoreGhosts}

-- the files, where they are told, how often the store failed, and what else is around the node
pub record NodeAt (A : Type 0) : Type 0 where
  pub files : Option Files
  pub store_faults : ℕ
  pub around : A

abbrev pub at_moment : {A : Type 0} → Option Files → ℕ → A → NodeAt A
at_moment files store_faults around = record { files = files; store_faults = store_faults; around = around }

-- the same, as a store shows itself
abbrev pub node_seen : {D A : Type 0} → StoreGhosts D → D → A → NodeAt A
node_seen shown store around = at_moment (shown.files store) (shown.store_faults store) around
