-- How a request for an entity's metadata is answered (OpenID Federation 1.0 section 8.3).
use Rattle.std.specs.Prelude.{◌≡◌, ℕ, Option, Some, IfOk, Result, Ok, Err}
use Rattle.fed_base.specs.declared.faults.Memory.{Memory}
use Rattle.fed_ports.specs.Webs.{Web}
use Rattle.http_messages.specs.declared.response.Response.{Response}
use Rattle.http_plain.specs.Responses.{HasReason}
use Rattle.sealed.specs.Sealing.{IsSealedFor}
use Rattle.resolve_reply.specs.Replies.{ReadsBack}
use Rattle.turn_log.specs.declared.worn.Worn.{Worn as WornAt}
use Rattle.statement_shelf.specs.Passes.{CommonsKnown}
use Rattle.resolve_reply.specs.declared.reply.Reply.{Reply}
use Rattle.resolve_reply.specs.declared.signer.Signer.{Signer}
use Rattle.resolve_round.specs.declared.request.ResolveRequest.{ResolveRequest}
use Rattle.resolve_round.specs.declared.trace.Trace.{Trace}
use Rattle.fed_resolver.specs.declared.outcome.Outcome.{Outcome}
use Rattle.fed_resolver.specs.declared.outcome.Refusal.{Refusal}
use Rattle.fed_resolver.specs.declared.outcome.Refusal.TheVariants.{Worn}
use Rattle.fed_resolver.specs.Calls.{Resolves}
use Rattle.fed_resolver.specs.Told.{situation_of}
use Rattle.fed_resolver.specs.Uses.{CountsTests, IsComplete, UsesLink}
use Rattle.fed_serve.specs.declared.resolution.ResolveAnswer.{ResolveAnswer}
use Rattle.fed_serve.specs.ResolverResponses.{resolve_response}

-- what a call is made with, at one moment: what its caller knows of the shared objects, the link's web, calls and faults, and how many
-- signatures its ledger counted
pub record CallAt : Type 0 where
  pub known : CommonsKnown
  pub web : Option Web
  pub calls : ℕ
  pub faults : ℕ
  pub tests : ℕ

abbrev pub call_at : CommonsKnown → Option Web → ℕ → ℕ → ℕ → CallAt
call_at known web calls faults tests = record { known = known; web = web; calls = calls; faults = faults; tests = tests }

-- what the link says of all the calls of an outcome
abbrev pub Walking : Type 1
Walking = Trace → Result Reply Refusal → Type 0

-- the outcome is that of one resolve call at the moment, with all that this says
pub record IsResolved (signer : Signer) (request : ResolveRequest) (t : ℕ) (walks : Walking) (before now : CallAt) (outcome : Outcome) : Type 0 where
  pub resolves : Resolves (situation_of request signer t) signer before.known now.known outcome
  pub link : UsesLink before.web before.calls now.calls before.faults now.faults outcome
  pub walked : walks outcome.trace outcome.result
  pub counted : CountsTests (situation_of request signer t) signer outcome outcome.result before.tests now.tests
  pub complete : IsComplete (situation_of request signer t) signer before.web before.faults now.faults outcome
  pub sealed : IfOk outcome.result (λ reply. IsSealedFor signer.keys reply.text)
  pub reads : IfOk outcome.result (λ reply. ReadsBack signer.keys reply.claims reply.text)

-- the response was made, and its status has a reason; or memory was wanting
abbrev pub IsMade : Option Response → Result Response Memory → Type 0
IsMade said (Ok response) = (said ≡ Some response) × HasReason response.status
IsMade said (Err m) = Unit {0}

-- no shared object was worn
abbrev pub IsUnworn : Result Reply Refusal → Type 0
IsUnworn (Err (Worn count)) = ⊥
IsUnworn result = Unit {0}

-- the outcome is answered so: a worn object with nothing, and any other with its response and the trace
abbrev pub IsAnswerTo : Outcome → Result ResolveAnswer WornAt → Type 0
IsAnswerTo outcome (Ok answer) = IsUnworn outcome.result × IsMade (resolve_response outcome.result) answer.response × (answer.trace ≡ outcome.trace)
IsAnswerTo outcome (Err worn) = outcome.result ≡ Err (Worn worn.count)

-- a request is answered by one call
pub record IsResolveAnswer (signer : Signer) (request : ResolveRequest) (t : ℕ) (walks : Walking) (before now : CallAt) (answer : Result ResolveAnswer WornAt) : Type 0 where
  pub outcome : Outcome
  pub resolved : IsResolved signer request t walks before now outcome
  pub answered : IsAnswerTo outcome answer
