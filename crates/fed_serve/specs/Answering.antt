-- How what came is answered, before anything is written.
use Rattle.std.specs.Prelude.{◌≡◌, ◌≢◌, ◌⊎◌, ℕ, List, codes, Option, Some, None, Result, Ok, Err}
use Rattle.http_messages.specs.declared.read.ReadEnd.{ReadEnd}
use Rattle.http_messages.specs.declared.request.Incoming.{Incoming}
use Rattle.http_messages.specs.declared.response.Response.{Response}
use Rattle.http_plain.specs.Responses.{HasReason}
use Rattle.authority_core.specs.Nodes.{Node as Authority}
use Rattle.node_requests.specs.declared.asked.Asked.{Asked}
use Rattle.node_requests.specs.declared.asked.Asked.TheVariants as asked
use Rattle.node_requests.specs.declared.change.AnchorChange.{AnchorChange}
use Rattle.resolve_round.specs.declared.request.ResolveRequest.{ResolveRequest}
use Rattle.resolve_round.specs.declared.trace.Trace.{Trace}
use Rattle.fed_resolver.specs.declared.outcome.Outcome.{Outcome}
use Rattle.fed_serve.specs.Resolutions.{CallAt, Walking}
use Rattle.fed_serve.specs.Rotations.{Dealing}
use Rattle.fed_serve.specs.declared.answering.Answered.{Answered}
use Rattle.fed_serve.specs.declared.answering.AnswerEnd.{AnswerEnd}
use Rattle.fed_serve.specs.declared.answering.AnswerEnd.TheVariants.{Worn, Memory}
use Rattle.fed_serve.specs.declared.node.Node.{Node}
use Rattle.fed_serve.specs.Handlings.{Handles, Handling, IsIssued, Wants, WantsNothing, dealt, kind_of, resolved}
use Rattle.fed_serve.specs.Moments.{AnswerAt, answer_at}
use Rattle.fed_serve.specs.Places.{place_of}
use Rattle.fed_serve.specs.Responses.{not_a_request, out_of_memory, response_of, status_of}
use Rattle.fed_serve.specs.Rows.{KeyRows, Refuses, ResolveRows}
use Rattle.fed_serve.specs.Uses.{IsAlone, IsUnworn, IsWornBy, Tests, TestsSome, Uses}
use Rattle.fed_ports.specs.Times.{ClockAt, IsOneReading}

-- what reading a request answered
abbrev pub Came : Type 0
Came = Result Incoming ReadEnd

-- ---- the message

-- the message to a handling is its response, for which all its signatures were tested; or memory was wanting, and no more were
abbrev pub IsMessage : Authority → ℕ → Handling → ℕ → ℕ → Response → Type 0
IsMessage node t handling before now response =
    ((response_of node t handling ≡ Some response) × Tests node handling before now)
    ⊎ ((response ≡ out_of_memory) × TestsSome node handling before now)

-- what came is handled so at the clock's one reading, with all that this uses, and no shared object was worn; this is the message to it
pub record IsHandledBy (node : Node) (walks : Walking) (before now : AnswerAt) (came : Came) (handling : Handling) (response : Response) : Type 0 where
  pub handles : Handles (place_of node) came handling
  pub clock : IsOneReading before.clock now.clock
  pub uses : Uses node walks now.clock.last before.call now.call handling
  pub unworn : IsUnworn handling
  pub message : IsMessage node.registry now.clock.last handling before.call.tests now.call.tests response

-- what came is handled so at the clock's one reading, and a shared object that was called had counted so many calls
pub record IsWornAt (node : Node) (walks : Walking) (before now : AnswerAt) (came : Came) (count : ℕ) : Type 0 where
  pub handling : Handling
  pub handles : Handles (place_of node) came handling
  pub clock : IsOneReading before.clock now.clock
  pub uses : Uses node walks now.clock.last before.call now.call handling
  pub worn : IsWornBy handling count

-- the response is this one, or has this status, or memory was wanting
abbrev pub IsOrWanting : Response → Response → Type 0
IsOrWanting expected response = (response ≡ expected) ⊎ (response ≡ out_of_memory)

abbrev pub HasOrWanting : ℕ → Response → Type 0
HasOrWanting status response = (response.status ≡ status) ⊎ (response ≡ out_of_memory)

-- when each answer comes
pub record ComesWhere (node : Node) (came : Came) (handling : Handling) (response : Response) : Type 0 where
  -- 400 invalid_request exactly where what came is no request of the node
  pub bad_request : Refuses 400 (codes "invalid_request") response → WantsNothing (place_of node) came
  pub refused : WantsNothing (place_of node) came → IsOrWanting not_a_request response
  -- where an authority is asked, 404 exactly where a statement about no subordinate is asked for, and else 200
  pub issued : (asked : Asked) → Wants (place_of node) came asked → IsIssued asked → HasOrWanting (status_of node.registry asked) response
  -- where an entity is to be resolved, by the outcome of the one call
  pub resolved : (resolution : ResolveRequest) → Wants (place_of node) came (asked.Resolution resolution)
      → (response ≡ out_of_memory) ⊎ ((outcome : Outcome) × (handling ≡ resolved resolution outcome) × ResolveRows outcome.result response)
  -- where a trust anchor is to have other keys, by how that was dealt with
  pub dealt : (change : AnchorChange) → Wants (place_of node) came (asked.Rotation change)
      → (response ≡ out_of_memory) ⊎ ((dealing : Dealing) × (handling ≡ dealt change dealing) × KeyRows dealing response)

-- the trace of a resolve call is handed out, and none where there was no such call
abbrev pub HandsOut : Handling → Option Trace → Type 0
HandsOut (resolved resolution outcome) trace = trace ≡ Some outcome.trace
HandsOut handling trace = trace ≡ None

-- ---- the answer to a request

-- it was handled, and the response is that handling's own, for which all its signatures were tested; what is told of it
pub record IsAnswered (node : Node) (walks : Walking) (before now : AnswerAt) (asked : Incoming) (answered : Answered) : Type 0 where
  pub handling : Handling
  pub handled : IsHandledBy node walks before now (Ok asked) handling answered.response
  pub own : (response_of node.registry now.clock.last handling ≡ Some answered.response) × Tests node.registry handling before.call.tests now.call.tests
  pub has_reason : HasReason answered.response.status
  pub kind : answered.served.kind ≡ kind_of handling
  pub status : answered.served.status ≡ answered.response.status
  pub trace : HandsOut handling answered.served.trace
  pub cause : ComesWhere node (Ok asked) handling answered.response

-- it was handled, and memory was wanting for that or for its response
pub record IsWanting (node : Node) (walks : Walking) (before now : AnswerAt) (asked : Incoming) : Type 0 where
  pub handling : Handling
  pub handled : IsHandledBy node walks before now (Ok asked) handling out_of_memory

-- the node answers the request
abbrev pub Answers : Node → Walking → AnswerAt → AnswerAt → Incoming → Result Answered AnswerEnd → Type 0
Answers node walks before now asked (Ok answered) = IsAnswered node walks before now asked answered
Answers node walks before now asked (Err Memory) = IsWanting node walks before now asked
Answers node walks before now asked (Err (Worn count)) = IsWornAt node walks before now (Ok asked) count

-- the same at a moment that somebody read off a clock, whatever clock it was
abbrev pub AnswersAtMoment : Node → Walking → ℕ → CallAt → CallAt → Incoming → Result Answered AnswerEnd → Type 0
AnswersAtMoment node walks t before now asked result =
    (clock clock' : ClockAt) → IsOneReading clock clock' → clock'.last ≡ t → Answers node walks (answer_at clock before) (answer_at clock' now) asked result

-- a node that doesn't resolve leaves the shared objects and the link alone, so that none is worn, and there is no trace
pub record AnswersAsAuthority (before now : CallAt) (result : Result Answered AnswerEnd) : Type 0 where
  pub alone : IsAlone before now
  pub unworn : (count : ℕ) → result ≢ Err (Worn count)
  pub untraced : (answered : Answered) → result ≡ Ok answered → answered.served.trace ≡ None
