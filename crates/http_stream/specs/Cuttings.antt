-- What is taken from a source up to where a request stands whole.
use Rattle.std.specs.Prelude.{◌≡◌, ◌≤◌, ◌-◌, ℕ, Bool, List, ◌++◌, length, take, MatchBool, Option, Some, Result, Ok, Err}
use Rattle.fed_base.specs.Counts.{Rose}
use Rattle.fed_ports.specs.Inputs.{AtEnd}
use Rattle.fed_ports.specs.Lists.{Gave}
use Rattle.http_messages.specs.declared.cut.Cut.{Cut}
use Rattle.http_messages.specs.declared.cut.Cut.TheVariants.{Whole, More}
use Rattle.http_messages.specs.declared.inflow.Break.{Break}
use Rattle.http_messages.specs.declared.inflow.Break.TheVariants as broke
use Rattle.http_messages.specs.Cuts.{IsCut}
use Rattle.http_messages.specs.Flows.{TakenFew}
use Rattle.http_messages.specs.Heads.{head_end, head_limit}
use Rattle.http_messages.specs.Requests.{EndsEarly, request_limit}
use Rattle.http_stream.specs.declared.fault.StreamFault.{StreamFault}
use Rattle.http_stream.specs.declared.fault.StreamFault.TheVariants.{ReadFault, WriteFault, Ended, Memory}

-- why a stream isn't served on, where reading broke off
abbrev pub fault_of : Break → StreamFault
fault_of broke.Failed = ReadFault
fault_of broke.Memory = Memory

-- where no request stands whole, the end came
abbrev pub IsAtEnd : Option (List ℕ) → Cut → Type 0
IsAtEnd left (Whole asked last used) = Unit {0}
IsAtEnd left More = AtEnd left

-- the bytes have a head
abbrev pub HasHead : List ℕ → Type 0
HasHead x = (len : ℕ) × (head_end (take head_limit x) ≡ Some len)

-- these bytes were taken and added to those that came before, up to a head, or until none will come
pub record HeadReached (left left' : Option (List ℕ)) (old new : List ℕ) (found : Bool) : Type 0 where
  pub got : List ℕ
  pub gave : Gave left got left'
  pub few : length got ≤ head_limit
  pub adds : new ≡ old ++ got
  pub head : MatchBool found (HasHead new) (EndsEarly new → AtEnd left')

-- these bytes were, up to the end of the body or of all
pub record BodyReached (left left' : Option (List ℕ)) (old new : List ℕ) : Type 0 where
  pub got : List ℕ
  pub gave : Gave left got left'
  pub few : length got ≤ request_limit - length old
  pub adds : new ≡ old ++ got
  pub at_end : EndsEarly new → AtEnd left'

-- these bytes were taken and added to those that came before, at whose front this stands
pub record CutsNext (left left' : Option (List ℕ)) (old new : List ℕ) (cut : Cut) : Type 0 where
  pub got : List ℕ
  pub gave : Gave left got left'
  pub few : length got ≤ request_limit
  pub adds : new ≡ old ++ got
  pub is_cut : IsCut new cut
  pub at_end : IsAtEnd left' cut

-- these bytes were taken behind those that came before, and then reading failed: what is there ends early, so that no request stands
-- there yet
pub record BreaksEarly (left left' : Option (List ℕ)) (old : List ℕ) : Type 0 where
  pub got : List ℕ
  pub gave : Gave left got left'
  pub few : length (old ++ got) ≤ request_limit
  pub early : EndsEarly (old ++ got)

abbrev pub Cutting : Option (List ℕ) → Option (List ℕ) → List ℕ → List ℕ → Result Cut StreamFault → Type 0
Cutting left left' old new (Ok cut) = CutsNext left left' old new cut
Cutting left left' old new (Err ReadFault) = BreaksEarly left left' old
Cutting left left' old new (Err Memory) = TakenFew left left' request_limit
Cutting left left' old new (Err WriteFault) = ⊥
Cutting left left' old new (Err Ended) = ⊥

-- a fault of reading comes only where the count rose, and with any other answer it is as it was
abbrev pub ReadCause : {T : Type 0} → ℕ → ℕ → Result T StreamFault → Type 0
ReadCause before now (Ok x) = now ≡ before
ReadCause before now (Err ReadFault) = (before ≤ now) × Rose before now
ReadCause before now (Err WriteFault) = now ≡ before
ReadCause before now (Err Ended) = now ≡ before
ReadCause before now (Err Memory) = now ≡ before

-- the same of writing
abbrev pub WriteCause : {T : Type 0} → ℕ → ℕ → Result T StreamFault → Type 0
WriteCause before now (Ok x) = now ≡ before
WriteCause before now (Err ReadFault) = now ≡ before
WriteCause before now (Err WriteFault) = (before ≤ now) × Rose before now
WriteCause before now (Err Ended) = now ≡ before
WriteCause before now (Err Memory) = now ≡ before
