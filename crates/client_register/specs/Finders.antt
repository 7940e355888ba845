-- What a finder tells of its calls, and how it is used.
use Rattle.std.specs.Prelude.{◌≡◌, ◌≤◌, ◌⊎◌, ℕ, Option, Some, Result, Ok, Err}
use Rattle.fed_base.specs.Counts.{next_count, Rose}
use Rattle.fed_base.specs.declared.faults.Memory.{Memory as NoMemory}
use Rattle.entity_statement.specs.Claims.{Identifier}
use Rattle.client_register.specs.declared.fault.RegisterFault.{RegisterFault}
use Rattle.client_register.specs.declared.fault.RegisterFault.TheVariants.{Memory}
use Rattle.client_register.specs.declared.found.Found.{Found}
use Rattle.client_register.specs.declared.found.Found.TheVariants.{Fault}
use Rattle.client_register.specs.declared.posted.Posted.{Posted}
use Rattle.client_register.specs.declared.posted.Posted.TheVariants.{Configuration}

-- how many calls there were, how often one failed, and the last answer
pub record FinderSeen : Type 0 where
  pub calls : ℕ
  pub faults : ℕ
  pub last : Option Found

-- the last answer after a call: want of memory is none
abbrev pub last_after : Option Found → Result Found NoMemory → Option Found
last_after last (Ok found) = Some found
last_after last (Err memory) = last

-- the count of faults rose, or stands at its last value, where the answer is a fault; any other answer leaves it
abbrev pub CountsFault : ℕ → ℕ → Result Found NoMemory → Type 0
CountsFault before now (Ok Fault) = Rose before now
CountsFault before now answer = now ≡ before

-- a finder was asked once, and answered so
pub record HasAnswered (before now : FinderSeen) (answer : Result Found NoMemory) : Type 0 where
  pub calls : now.calls ≡ next_count before.calls
  pub last : now.last ≡ last_after before.last answer
  pub later : before.faults ≤ now.faults
  pub counted : CountsFault before.faults now.faults answer

-- a finder was asked about this entity at most once
abbrev pub AsksAtMostOnce : {F : Type 0} → (F → F → Identifier → Result Found NoMemory → Type 0) → F → F → Identifier → Type 0
AsksAtMostOnce asked old new entity = (new ≡ old) ⊎ ((answer : Result Found NoMemory) × asked old new entity answer)

-- a finder is asked about an entity, once, where the entity's configuration was posted, and nothing where anything else was; where memory
-- was wanting it may not have been asked yet
abbrev pub Asks : {F X : Type 0} → (F → F → Identifier → Result Found NoMemory → Type 0) → F → F → Posted → Result X RegisterFault → Type 0
Asks asked old new (Configuration entity) (Err Memory) = AsksAtMostOnce asked old new entity
Asks asked old new (Configuration entity) result = (found : Found) × asked old new entity (Ok found)
Asks asked old new posted result = new ≡ old
