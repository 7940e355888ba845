-- What a store in memory holds.
use Rattle.std.specs.Prelude.{ℕ, Bool}
use Rattle.fed_ports.specs.KeptFiles.{files_of}
use Rattle.fed_base.specs.Plans.{Plan, plan_of}
use Rattle.fed_ports.specs.Stores.{Files}
use Rattle.fed_ports.specs.declared.memory_store.MemoryStore.{MemoryStore}

-- the files that it holds
abbrev pub store_files : MemoryStore → Files
store_files store = files_of store.kept.items store.bytes.items store.files

-- the calls that are to fail
abbrev pub store_plan : MemoryStore → Plan
store_plan store = plan_of store.plan

-- how often a call has failed
abbrev pub store_faults : MemoryStore → ℕ
store_faults store = store.faults

-- how many bytes of names and files can still be kept
abbrev pub store_room : MemoryStore → ℕ
store_room store = store.room

-- a call that is to fail leaves the new file
abbrev pub store_leaves_new : MemoryStore → Bool
store_leaves_new store = store.leaves_new
