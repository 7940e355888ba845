-- What `resolve` does: the outside before and after, and the status.
use Rattle.std.specs.Prelude.{◌≡◌, ◌≢◌, ◌⊎◌, ℕ, List, [], ◌∷◌, ◌++◌, codes, Option, Some, None, Result, Ok, Err}
use Rattle.http_plain.specs.Links.{Listening, listening}
use Rattle.resolve_reply.specs.declared.reply.Reply.{Reply}
use Rattle.fed_resolver.specs.declared.outcome.Outcome.{Outcome}
use Rattle.fed_resolver.specs.declared.outcome.Refusal.{Refusal}
use Rattle.fed_resolver.specs.declared.outcome.Refusal.TheVariants.{NoAnchor, NotFound, PolicyOnly, NoChain, Unavailable, Budget, Worn, Memory}
use Rattle.fed_serve.specs.ResolverResponses.{refusal}
use Rattle.node_files.specs.declared.fault.NodeFault.{NodeFault}
use Rattle.node_files.specs.declared.fault.NodeFault.TheVariants as fault
use Rattle.turn_log.specs.Runs.{call_limit}
use Rattle.turn_log.specs.Groups.{known}
use Rattle.turn_log.specs.declared.pass.PassSeat.{PassSeat}
use Rattle.turn_log.specs.declared.group.Group.{Group}
use Rattle.statement_shelf.specs.Book.{Book}
use Rattle.statement_shelf.specs.Entries.{Part}
use Rattle.statement_shelf.specs.declared.calls.ShelfCall.{ShelfCall}
use Rattle.statement_shelf.specs.declared.calls.ShelfReply.{ShelfReply}
use Rattle.statement_shelf.specs.declared.calls.BookCall.{BookCall}
use Rattle.statement_shelf.specs.declared.calls.BookReply.{BookReply}
use Rattle.resolve_round.specs.Acts.{HasCounted}
use Rattle.resolve_call.specs.Calls.{At, Question, ResolvesOnce}
use Rattle.resolve_call.specs.Ports.{around}
use Rattle.node_files.specs.Moments.{at_moment}
use Rattle.fed.specs.Authorities.{Outside, WritesLine, input_line}

-- a text on a line
abbrev pub line_of : List ℕ → List ℕ
line_of text = text ++ 10 ∷ []

-- a refusal as the resolve endpoint words it (OpenID Federation 1.0 section 8.9)
abbrev pub refused_as : List ℕ → List ℕ → List ℕ
refused_as error description = line_of (refusal 0 error description).body

-- the output at one moment: what it holds, where it is told, and how often it failed
pub record Written : Type 0 where
  pub held : Option (List ℕ)
  pub faults : ℕ

-- the line was written and the status says so, or a beginning of it was and the sink failed
abbrev pub Writes : ℕ → List ℕ → Written → Written → ℕ → Type 0
Writes status line before now result = WritesLine status line before.held now.held before.faults now.faults result

-- nothing was written, and the status is this one
abbrev pub IsSilent : ℕ → Written → Written → ℕ → Type 0
IsSilent status before now result = (result ≡ status) × (now ≡ before)

-- a reply's text was written on a line, or memory was wanting for the line
abbrev pub IsReplyTold : Reply → Written → Written → ℕ → Type 0
IsReplyTold reply before now status = Writes 0 (line_of reply.text) before now status ⊎ IsSilent 5 before now status

-- what is written, and the status, by what a call answered
abbrev pub IsToldBy : Result Reply Refusal → Written → Written → ℕ → Type 0
IsToldBy (Ok reply) before now status = IsReplyTold reply before now status
IsToldBy (Err NoAnchor) before now status = Writes 1 (refused_as (codes "invalid_trust_anchor") (codes "no such trust anchor")) before now status
IsToldBy (Err NotFound) before now status = Writes 1 (refused_as (codes "not_found") (codes "no such entity")) before now status
IsToldBy (Err PolicyOnly) before now status = Writes 1 (refused_as (codes "invalid_metadata") (codes "policies refuse the metadata")) before now status
IsToldBy (Err NoChain) before now status = Writes 1 (refused_as (codes "invalid_trust_chain") (codes "no valid trust chain")) before now status
IsToldBy (Err Unavailable) before now status = IsSilent 7 before now status
IsToldBy (Err (Budget calls paths)) before now status = IsSilent 9 before now status
IsToldBy (Err (Worn count)) before now status = IsSilent 8 before now status
IsToldBy (Err Memory) before now status = IsSilent 5 before now status

-- the same where there may be no node
abbrev pub IsTold : Result Outcome NodeFault → Written → Written → ℕ → Type 0
IsTold (Ok outcome) before now status = IsToldBy outcome.result before now status
IsTold (Err fault.Input) before now status = Writes 2 input_line before now status
IsTold (Err fault.Store) before now status = IsSilent 6 before now status
IsTold (Err fault.Memory) before now status = IsSilent 5 before now status

-- the outside as one call of a node sees it
abbrev pub seen_by_call : {P : Type 0} → Outside P → At
seen_by_call o = at_moment o.node.files o.node.store_faults (around o.node.around.service.clock o.exchanges o.node.around.faults)

abbrev pub written_in : {P : Type 0} → Outside P → Written
written_in o = record { held = o.held; faults = o.write_faults }

-- the network as others reach it
abbrev pub listening_in : {P : Type 0} → Outside P → Listening P
listening_in o = listening o.node.around.service.port o.node.around.service.callers o.node.around.service.settled

-- one call of the node was made, or there is no such node, and its result is written and told by the status; the network listens as before,
-- and nobody was accepted or settled
pub record RunsResolve {P : Type 0} (question : Question) (before now : Outside P) (status : ℕ) : Type 0 where
  pub result : Result Outcome NodeFault
  pub resolves : ResolvesOnce question (seen_by_call before) (seen_by_call now) result
  pub told : IsTold result (written_in before) (written_in now) status
  pub still : listening_in now ≡ listening_in before

module _ {S T : Type 0} where
  -- a pass is held exactly after status 8: it has seen all the 2^62 calls on one shared object
  pub record HoldsBy (worn : Option (Group (PassSeat S Part ShelfCall ShelfReply) (PassSeat T Book BookCall BookReply))) (status : ℕ) : Type 0 where
    pub held : status ≡ 8 → (pass : Group (PassSeat S Part ShelfCall ShelfReply) (PassSeat T Book BookCall BookReply)) × (worn ≡ Some pass) × HasCounted (known pass) call_limit
    pub none : status ≢ 8 → worn ≡ None
