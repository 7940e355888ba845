-- A change is kept in the store before the ring changes.
use Rattle.std.specs.Prelude.{◌≡◌, ◌≤◌, ℕ, List, Option, Some, Result, Ok, Err}
use Rattle.fed_base.specs.Counts.{Rose}
use Rattle.fed_base.specs.declared.faults.Failed.{Failed}
use Rattle.fed_ports.specs.Stores.{Files, Keeps}
use Rattle.key_ring.specs.declared.fault.RingFault.{RingFault}
use Rattle.key_ring.specs.declared.fault.RingFault.TheVariants.{StoreFault, Memory}
use Rattle.key_ring.specs.Changes.{Answers, Change, after}
use Rattle.key_ring.specs.Files.{IsOldFile, IsWritten, Opens, ring_text}
use Rattle.key_ring.specs.Rings.{Ring}

-- a ring and a store at one moment: the store's files, where it tells them, and its count of faults
pub record Standing : Type 0 where
  pub ring : Ring
  pub files : Option Files
  pub faults : ℕ

abbrev pub standing : Ring → Option Files → ℕ → Standing
standing ring files faults = record { ring = ring; files = files; faults = faults }

-- the changed ring stands, and its file, of version 2, which opens as that ring
pub record IsChanged (before : Standing) (changed : Ring) (name : List ℕ) (now : Standing) : Type 0 where
  pub ring : now.ring ≡ changed
  pub files : Keeps {E = Failed} before.files now.files name (ring_text changed) (Ok tt)
  pub written : IsWritten (ring_text changed) changed
  pub faults : now.faults ≡ before.faults

-- the ring is as before, the file is the old one or that of the changed ring, which opens as that, and the store's count of faults rose
pub record IsTorn (before : Standing) (changed : Ring) (name : List ℕ) (now : Standing) : Type 0 where
  pub ring : now.ring ≡ before.ring
  pub fault : Failed
  pub files : Keeps before.files now.files name (ring_text changed) (Err fault)
  pub written : IsWritten (ring_text changed) changed
  pub faults : Rose before.faults now.faults

-- the ring, all files and the count are as before
pub record IsUntouched (before now : Standing) : Type 0 where
  pub ring : now.ring ≡ before.ring
  pub files : now.files ≡ before.files
  pub faults : now.faults ≡ before.faults

-- what a call leaves, by its answer
abbrev pub Leaves : {X : Type 0} → Standing → Ring → List ℕ → Result X RingFault → Standing → Type 0
Leaves before changed name (Ok x) now = IsChanged before changed name now
Leaves before changed name (Err StoreFault) now = IsTorn before changed name now
Leaves before changed name (Err fault) now = IsUntouched before now

-- a call makes a change: its answer, and what it leaves
pub record Makes {X : Type 0} (before : Standing) (change : Change) (name : List ℕ) (result : Result X RingFault) (now : Standing) : Type 0 where
  pub answer : Answers before.ring change result
  pub left : Leaves before (after before.ring change) name result now
  pub later : before.faults ≤ now.faults

-- a call keeps a ring and then is it: the only faults are those of the store and want of memory
abbrev pub KeepsRing : {X : Type 0} → Standing → Ring → List ℕ → Result X RingFault → Standing → Type 0
KeepsRing before changed name (Ok x) now = IsChanged before changed name now × (before.faults ≤ now.faults)
KeepsRing before changed name (Err StoreFault) now = IsTorn before changed name now × (before.faults ≤ now.faults)
KeepsRing before changed name (Err Memory) now = IsUntouched before now
KeepsRing before changed name (Err fault) now = ⊥

-- the file that was kept of a changed ring opens as that ring, and isn't one of version 1
pub record Migrates (before : Standing) (change : Change) (name : List ℕ) (now : Standing) : Type 0 where
  pub text : List ℕ
  pub files : Keeps {E = Failed} before.files now.files name text (Ok tt)
  pub opens : Opens text (Ok (after before.ring change))
  pub newer : (ring : Ring) → ¬ IsOldFile text ring

-- the files are told, and that of this name opens as that ring
pub record OpensAs (files : Option Files) (name : List ℕ) (ring : Ring) : Type 0 where
  pub all : Files
  pub told : files ≡ Some all
  pub text : List ℕ
  pub stands : all name ≡ Some text
  pub opens : Opens text (Ok ring)
