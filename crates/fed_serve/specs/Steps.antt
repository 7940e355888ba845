-- What the parts of serving know of one another.
use Rattle.std.specs.Prelude.{◌≡◌, ◌⊎◌, ℕ, List, true, is_some, Option, Some, None, Result, Ok, Err}
use Rattle.fed_base.specs.declared.faults.Memory.{Memory}
use Rattle.http_messages.specs.declared.read.ReadEnd.{ReadEnd}
use Rattle.http_messages.specs.declared.read.ReadEnd.TheVariants as read
use Rattle.http_messages.specs.declared.request.Incoming.{Incoming}
use Rattle.http_messages.specs.declared.response.Response.{Response}
use Rattle.http_messages.specs.declared.write.WriteEnd.TheVariants as write
use Rattle.fed_ports.specs.Times.{IsOneReading}
use Rattle.http_plain.specs.Readings.{CausedBy}
use Rattle.http_plain.specs.Responses.{HasReason}
use Rattle.http_plain.specs.Writings.{Writes}
use Rattle.authority_core.specs.Nodes.{Node as Authority}
use Rattle.node_requests.specs.declared.asked.Asked.{Asked}
use Rattle.node_requests.specs.declared.asked.Asked.TheVariants as asks
use Rattle.node_requests.specs.declared.change.AnchorChange.{AnchorChange}
use Rattle.node_requests.specs.declared.kind.Kind.TheVariants as kind
use Rattle.resolve_round.specs.declared.request.ResolveRequest.{ResolveRequest}
use Rattle.turn_log.specs.declared.worn.Worn.{Worn}
use Rattle.fed_serve.specs.declared.part.ResolverPart.{ResolverPart}
use Rattle.fed_serve.specs.declared.resolution.ResolveAnswer.{ResolveAnswer}
use Rattle.fed_serve.specs.Resolutions.{CallAt, IsResolveAnswer, Walking}
use Rattle.fed_serve.specs.Rotations.{IsRotateAnswer, RotationAt}
use Rattle.fed_serve.specs.declared.handling.Answer.{Answer}
use Rattle.fed_serve.specs.declared.answering.Answered.{Answered}
use Rattle.fed_serve.specs.declared.answering.AnswerEnd.{AnswerEnd}
use Rattle.fed_serve.specs.declared.answering.AnswerEnd.TheVariants as end
use Rattle.fed_serve.specs.declared.node.Node.{Node}
use Rattle.fed_serve.specs.declared.served.Served.{Served}
use Rattle.fed_serve.specs.declared.serving.ServeFault.{ServeFault}
use Rattle.fed_serve.specs.declared.serving.ServeFault.TheVariants as fault
use Rattle.fed_serve.specs.Handlings.{Handles, Handling, IsIssued, dealt, issued, kind_of, resolved}
use Rattle.fed_serve.specs.Moments.{AnswerAt, PeerAt}
use Rattle.fed_serve.specs.Places.{place_of}
use Rattle.fed_serve.specs.Responses.{out_of_memory, response_of}
use Rattle.fed_serve.specs.Answering.{Came, HandsOut}
use Rattle.fed_serve.specs.Serving.{HasCome}
use Rattle.fed_serve.specs.Uses.{Has, IsUnworn, IsWornBy, Tests, TestsSome, Uses}

-- ---- what came

-- what came, by what is handed on of it: none where memory was wanting
abbrev pub came_of : Option Incoming → Result Incoming ReadEnd
came_of (Some incoming) = Ok incoming
came_of None = Err read.Memory

abbrev pub HandsOn : Result Incoming ReadEnd → Result (Option Incoming) ServeFault → Type 0
HandsOn came (Ok incoming) = came ≡ came_of incoming
HandsOn came (Err fault.Ended) = came ≡ Err read.Ended
HandsOn came (Err fault.ReadFault) = came ≡ Err read.ReadFault
HandsOn came (Err other) = ⊥

-- what reading it leaves of the peer
pub record IsReading (before now : PeerAt) (result : Result (Option Incoming) ServeFault) : Type 0 where
  pub came : Result Incoming ReadEnd
  pub has_come : HasCome before now came
  pub hands_on : HandsOn came result
  pub cause : CausedBy before.read_faults now.read_faults came
  pub held : now.held ≡ before.held
  pub write_faults : now.write_faults ≡ before.write_faults

-- ---- the answer

-- the response to a handling was made, or memory was wanting; how many signatures were tested
abbrev pub IsMade : Authority → ℕ → Handling → ℕ → ℕ → Result Response Memory → Type 0
IsMade node t handling before now (Ok response) = (response_of node t handling ≡ Some response) × Tests node handling before now × HasReason response.status
IsMade node t handling before now (Err m) = TestsSome node handling before now

-- the answer tells of the handling, or a shared object was worn
abbrev pub IsTold : Authority → ℕ → Handling → ℕ → ℕ → Result Answer Worn → Type 0
IsTold node t handling before now (Ok answer) =
    IsUnworn handling × (answer.kind ≡ kind_of handling) × HandsOut handling answer.trace × IsMade node t handling before now answer.response
IsTold node t handling before now (Err w) = IsWornBy handling w.count

-- what a handling used, and what is told of it
pub record Does (node : Node) (walks : Walking) (t : ℕ) (before now : CallAt) (handling : Handling) (result : Result Answer Worn) : Type 0 where
  pub uses : Uses node walks t before now handling
  pub told : IsTold node.registry t handling before.tests now.tests result

-- the handling is one of what is asked
abbrev pub IsOf : Asked → Handling → Type 0
IsOf asked (issued a) = (a ≡ asked) × IsIssued asked
IsOf asked (resolved resolution outcome) = asked ≡ asks.Resolution resolution
IsOf asked (dealt change dealing) = asked ≡ asks.Rotation change
IsOf asked handling = ⊥

-- the node can answer it: a resolver's requests where it is one
abbrev pub IsAble : Node → Asked → Type 0
IsAble node (asks.Resolution resolution) = is_some node.resolver ≡ true
IsAble node (asks.Rotation change) = is_some node.resolver ≡ true
IsAble node asked = Unit {0}

-- what was asked is answered
pub record IsAnswerTo (node : Node) (walks : Walking) (t : ℕ) (before now : CallAt) (asked : Asked) (result : Result Answer Worn) : Type 0 where
  pub handling : Handling
  pub is : IsOf asked handling
  pub does : Does node walks t before now handling result

-- what came was handled at the moment, and so an answer was made
pub record IsAnswer (node : Node) (walks : Walking) (t : ℕ) (before now : CallAt) (came : Came) (result : Result Answer Worn) : Type 0 where
  pub handling : Handling
  pub handles : Handles (place_of node) came handling
  pub does : Does node walks t before now handling result

-- it was, at the clock's one reading
pub record IsMadeOf (node : Node) (walks : Walking) (before now : AnswerAt) (came : Came) (result : Result Answer Worn) : Type 0 where
  pub clock : IsOneReading before.clock now.clock
  pub answer : IsAnswer node walks now.clock.last before.call now.call came result

-- the answer is handed out with its response, or memory was wanting for one, or a shared object was worn
abbrev pub IsHandedOut : Result Answer Worn → Result Answered AnswerEnd → Type 0
IsHandedOut (Ok answer) (Ok answered) =
    (answer.response ≡ Ok answered.response) × (answered.served ≡ record { kind = answer.kind; status = answered.response.status; trace = answer.trace })
IsHandedOut (Ok answer) (Err end.Memory) = (m : Memory) × (answer.response ≡ Err m)
IsHandedOut (Err w) (Err (end.Worn count)) = w.count ≡ count
IsHandedOut made answered = ⊥

-- what is sent: the response, or that memory was wanting
abbrev pub IsSaid : Result Response Memory → Response → Type 0
IsSaid made said = (made ≡ Ok said) ⊎ (said ≡ out_of_memory)

-- it was sent whole, and its status is told; or a prefix of it was
abbrev pub Sends : Option (List ℕ) → Option (List ℕ) → Response → Result ℕ ServeFault → Type 0
Sends old new said (Ok status) = Writes old new said (Ok tt) × (status ≡ said.status)
Sends old new said (Err fault.WriteFault) = Writes old new said (Err write.WriteFault)
Sends old new said (Err other) = ⊥

-- an answer was sent, and told as served
abbrev pub IsTelling : Answer → Response → Result ℕ ServeFault → Result Served ServeFault → Type 0
IsTelling answer said (Ok status) (Ok served) = (served.kind ≡ answer.kind) × (served.status ≡ status) × (served.trace ≡ answer.trace)
IsTelling answer said (Err fault) (Err other) = other ≡ fault
IsTelling answer said sent result = ⊥

pub record IsSent (old new : Option (List ℕ)) (answer : Answer) (result : Result Served ServeFault) : Type 0 where
  pub said : Response
  pub says : IsSaid answer.response said
  pub sent : Result ℕ ServeFault
  pub sends : Sends old new said sent
  pub telling : IsTelling answer said sent result

-- ---- a resolver's answers

-- the answer of one call is handed on with its trace
abbrev pub IsResolvedAnswer : Result ResolveAnswer Worn → Result Answer Worn → Type 0
IsResolvedAnswer (Ok made) (Ok answer) = answer ≡ record { kind = kind.Resolve; response = made.response; trace = Some made.trace }
IsResolvedAnswer (Err w) (Err other) = other ≡ w
IsResolvedAnswer made answer = ⊥

-- an entity was resolved by the node's part for that
pub record ResolvesEntity (node : Node) (walks : Walking) (t : ℕ) (before now : CallAt) (resolution : ResolveRequest) (result : Result Answer Worn) : Type 0 where
  pub part : ResolverPart
  pub has : Has node part
  pub made : Result ResolveAnswer Worn
  pub is : IsResolveAnswer part.signer resolution t walks before now made
  pub told : IsResolvedAnswer made result

-- a trust anchor has other keys, or not
abbrev pub IsKeyAnswer : Result (Result Response Memory) Worn → Result Answer Worn → Type 0
IsKeyAnswer (Ok made) (Ok answer) = answer ≡ record { kind = kind.AnchorKeys; response = made; trace = None }
IsKeyAnswer (Err w) (Err other) = other ≡ w
IsKeyAnswer made answer = ⊥

pub record ChangesKeys (node : Node) (before now : RotationAt) (change : AnchorChange) (result : Result Answer Worn) : Type 0 where
  pub part : ResolverPart
  pub has : Has node part
  pub made : Result (Result Response Memory) Worn
  pub is : IsRotateAnswer part.control.keys change before now made
  pub told : IsKeyAnswer made result
