-- How other keys for a trust anchor are answered: a control key has its say, and the book replies.
use Rattle.std.specs.Prelude.{◌≡◌, ℕ, List, [], ◌∷◌, length, Some, Result, Ok, Err}
use Rattle.fed_base.specs.declared.faults.Memory.{Memory}
use Rattle.fed_base.specs.Counts.{counted}
use Rattle.http_messages.specs.declared.response.Response.{Response}
use Rattle.jwk_set.specs.declared.jwk.Jwk.{Jwk}
use Rattle.sealed.specs.Seals.{IsSealedBy}
use Rattle.sealed.specs.declared.fault.SealFault.{SealFault}
use Rattle.sealed.specs.declared.fault.SealFault.TheVariants as fault
use Rattle.sealed.specs.Tests.{tests_under}
use Rattle.turn_log.specs.Groups.{AddsOnBook}
use Rattle.turn_log.specs.Runs.{call_limit}
use Rattle.turn_log.specs.declared.worn.Worn.{Worn}
use Rattle.node_requests.specs.declared.change.AnchorChange.{AnchorChange}
use Rattle.statement_shelf.specs.Passes.{CommonsKnown}
use Rattle.statement_shelf.specs.declared.calls.BookCall.{BookCall}
use Rattle.statement_shelf.specs.declared.calls.BookCall.TheVariants.{Rotate}
use Rattle.statement_shelf.specs.declared.calls.BookReply.{BookReply}
use Rattle.fed_serve.specs.Resolutions.{IsMade}
use Rattle.fed_serve.specs.ResolverResponses.{not_in_control, rotate_response}

-- how the change was dealt with
pub data Dealing : Type 0 where
  -- the body isn't sealed by a control key
  stranger : Dealing
  -- the book was asked to change the keys, and replied
  asked : (reply : BookReply) → Dealing
  -- the book is worn
  worn : Dealing
  -- memory was wanting before the body was tested
  untested : Dealing

-- what is known of the shared objects, and how many signatures the ledger counted
pub record RotationAt : Type 0 where
  pub known : CommonsKnown
  pub tests : ℕ

abbrev pub rotation_at : CommonsKnown → ℕ → RotationAt
rotation_at known tests = record { known = known; tests = tests }

-- the call on the book
abbrev pub rotate_call : AnchorChange → BookCall
rotate_call change = Rotate change.anchor change.epoch change.keys

-- the change was dealt with so: the body under the control keys, the one call on the book with its reply, and the tests
abbrev pub IsDealtWith : List Jwk → AnchorChange → RotationAt → RotationAt → Dealing → Type 0
IsDealtWith control change before now stranger = (¬ IsSealedBy change.body.whole control) × AddsOnBook before.known [] now.known × (now.tests ≡ counted (tests_under control change.body.whole) before.tests)
IsDealtWith control change before now (asked reply) =
    IsSealedBy change.body.whole control × AddsOnBook before.known ((rotate_call change, reply) ∷ []) now.known × (now.tests ≡ counted 1 before.tests)
IsDealtWith control change before now worn =
    IsSealedBy change.body.whole control × AddsOnBook before.known [] now.known × (length now.known.book.seen ≡ call_limit) × (now.tests ≡ counted 1 before.tests)
IsDealtWith control change before now untested = AddsOnBook before.known [] now.known × (now.tests ≡ before.tests)

-- the response to it, or that memory was wanting; a worn book is answered with nothing
abbrev pub IsDealtAnswer : Dealing → Result (Result Response Memory) Worn → Type 0
IsDealtAnswer stranger (Ok made) = IsMade (Some not_in_control) made
IsDealtAnswer (asked reply) (Ok made) = IsMade (rotate_response reply) made
IsDealtAnswer worn (Err w) = w.count ≡ call_limit
IsDealtAnswer untested (Ok (Err m)) = Unit {0}
IsDealtAnswer dealing answer = ⊥

-- the book was asked to change the keys, and its reply is answered; or it is worn
abbrev pub ChangesKeys : AnchorChange → CommonsKnown → CommonsKnown → Result (Result Response Memory) Worn → Type 0
ChangesKeys change old new (Ok made) = (reply : BookReply) × AddsOnBook old ((rotate_call change, reply) ∷ []) new × IsMade (rotate_response reply) made
ChangesKeys change old new (Err w) = AddsOnBook old [] new × (length new.book.seen ≡ call_limit) × (w.count ≡ call_limit)

-- the answer where no seal was found: that the body isn't sealed by a control key, unless memory was wanting
abbrev pub IsUnsealedAnswer : SealFault → Result Response Memory → Type 0
IsUnsealedAnswer fault.Memory made = made ≡ Err (record {})
IsUnsealedAnswer fault made = IsMade (Some not_in_control) made

-- the change is answered
pub record IsRotateAnswer (control : List Jwk) (change : AnchorChange) (before now : RotationAt) (answer : Result (Result Response Memory) Worn) : Type 0 where
  pub dealing : Dealing
  pub dealt : IsDealtWith control change before now dealing
  pub answered : IsDealtAnswer dealing answer
