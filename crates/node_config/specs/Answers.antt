-- What answers say.
use Rattle.std.specs.Prelude.{◌≡◌, ◌⊎◌, ℕ, List, Option, Some, None, Result, Ok, Err}
use Rattle.node_config.specs.declared.fault.ConfigFault.{ConfigFault}
use Rattle.node_config.specs.declared.fault.ConfigFault.TheVariants.{Shape, Memory}
use Rattle.node_config.specs.declared.fault.FormFault.{FormFault}
use Rattle.node_config.specs.declared.fault.FormFault.TheVariants as form

-- the answer says what is expected, unless memory was wanting
abbrev pub GivesBy : {X Y : Type 0} → (X → Y) → Result X ConfigFault → Result Y ConfigFault → Type 0
GivesBy view (Ok x) expected = expected ≡ Ok (view x)
GivesBy view (Err Memory) expected = Unit {0}
GivesBy view (Err (Shape name)) expected = expected ≡ Err (Shape name)

-- the same of an answer that is seen as it stands
abbrev pub Gives : {X : Type 0} → Result X ConfigFault → Result X ConfigFault → Type 0
Gives = GivesBy (λ x. x)

-- the answer is the value that is expected, and Shape where there is none, unless memory was wanting
abbrev pub ReadsBy : {X Y : Type 0} → (X → Y) → Result X FormFault → Option Y → Type 0
ReadsBy view (Ok x) expected = expected ≡ Some (view x)
ReadsBy view (Err form.Shape) expected = expected ≡ None
ReadsBy view (Err form.Memory) expected = Unit {0}

-- the same of an answer that is seen as it stands
abbrev pub Reads : {X : Type 0} → Result X FormFault → Option X → Type 0
Reads = ReadsBy (λ x. x)

-- what a member says, or its name where it isn't of its form
abbrev pub GivesMember : {X : Type 0} → List ℕ → Result X FormFault → Result X ConfigFault → Type 0
GivesMember name (Ok x) given = (given ≡ Ok x)
GivesMember name (Err form.Shape) given = (given ≡ Err (Shape name)) ⊎ (given ≡ Err Memory)
GivesMember name (Err form.Memory) given = given ≡ Err Memory
