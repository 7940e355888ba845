-- What reading a request answers.
use Rattle.std.specs.Prelude.{◌≡◌, ◌≤◌, ℕ, List, length, Option, Result, Ok, Err}
use Rattle.fed_base.specs.Counts.{Rose}
use Rattle.fed_ports.specs.Inputs.{AtEnd}
use Rattle.fed_ports.specs.Lists.{Gave}
use Rattle.http_messages.specs.declared.read.ReadEnd.{ReadEnd}
use Rattle.http_messages.specs.declared.read.ReadEnd.TheVariants.{ReadFault, Ended, Memory}
use Rattle.http_messages.specs.declared.request.Incoming.{Incoming}
use Rattle.http_messages.specs.declared.request.Incoming.TheVariants.{Asked, NotARequest}
use Rattle.http_messages.specs.Requests.{Begins, IsNoRequest, EndsEarly, request_limit}

-- the answer that bytes have; a fault is the answer of none
abbrev pub Fits : List ℕ → Result Incoming ReadEnd → Type 0
Fits x (Ok (Asked r)) = Begins x r
Fits x (Ok NotARequest) = IsNoRequest x
Fits x (Err Ended) = EndsEarly x
Fits x (Err ReadFault) = ⊥
Fits x (Err Memory) = ⊥

-- the answer fits the bytes, and no other does
pub record IsTheAnswer (x : List ℕ) (result : Result Incoming ReadEnd) : Type 0 where
  pub fits : Fits x result
  pub only : (other : Result Incoming ReadEnd) → Fits x other → other ≡ result

-- the same unless reading failed or memory was wanting
abbrev pub Reads : List ℕ → Result Incoming ReadEnd → Type 0
Reads x (Ok incoming) = IsTheAnswer x (Ok incoming)
Reads x (Err Ended) = IsTheAnswer x (Err Ended)
Reads x (Err ReadFault) = Unit {0}
Reads x (Err Memory) = Unit {0}

-- the bytes that were taken have the answer; where they end early, nothing is left; and where reading failed they end early: no request
-- stood there yet
abbrev pub Shows : List ℕ → Option (List ℕ) → Result Incoming ReadEnd → Type 0
Shows got new (Ok incoming) = Fits got (Ok incoming)
Shows got new (Err Ended) = EndsEarly got × AtEnd new
Shows got new (Err ReadFault) = EndsEarly got
Shows got new (Err Memory) = Unit {0}

-- what was taken: no more than may be, and what is left stands behind it
pub record Taken (old new : Option (List ℕ)) (result : Result Incoming ReadEnd) : Type 0 where
  pub got : List ℕ
  pub few : length got ≤ request_limit
  pub left : Gave old got new
  pub shown : Shows got new result

-- the count of faults rose where reading failed, and else it is as before
abbrev pub CausedBy : {T : Type 0} → ℕ → ℕ → Result T ReadEnd → Type 0
CausedBy before now (Ok x) = now ≡ before
CausedBy before now (Err ReadFault) = (before ≤ now) × Rose before now
CausedBy before now (Err Ended) = now ≡ before
CausedBy before now (Err Memory) = now ≡ before
