-- One resolve call of a node over its network whose reply's marks are asked about: the outside before and after, and what is answered.
use Rattle.std.specs.Prelude.{◌≡◌, ◌≤◌, ℕ, length, Option, Some, None, IfSome, Result, Ok, Err}
use Rattle.jws_form.specs.Compact.{max_bytes}
use Rattle.sealed.specs.Seals.{IsSealedBy}
use Rattle.key_ring.specs.Sets.{live_set}
use Rattle.http_plain.specs.Networks.{NetworkAt}
use Rattle.node_files.specs.declared.fault.NodeFault.{NodeFault}
use Rattle.node_files.specs.declared.parts.Parts.{Parts}
use Rattle.node_files.specs.ResolvingParts.{signer_of}
use Rattle.resolve_reply.specs.declared.reply.Reply.{Reply}
use Rattle.resolve_round.specs.declared.request.ResolveRequest.{ResolveRequest}
use Rattle.resolve_round.specs.declared.trace.Trace.{Trace}
use Rattle.fed_resolver.specs.declared.outcome.Outcome.{Outcome}
use Rattle.fed_resolver.specs.declared.outcome.Refusal.{Refusal}
use Rattle.resolve_call.specs.Ports.{Around}
use Rattle.resolve_call.specs.Calls.{At, IsCallOf, Question, ResolvesOnce}
use Rattle.resolve_call.specs.CallSteps.{IsCallAt}
use Rattle.heeded_reply.specs.declared.reply.HeededReply.{HeededReply}
use Rattle.heeded_reply.specs.declared.reply.Heard.{Heard}
use Rattle.heeded_reply.specs.Heeding.{Caller, HeedsReply, caller_of}
use Rattle.heeded_reply.specs.Posted.{PostedSome, Wire, wire}

-- ---- what comes of a call's result

-- the reply's marks were asked about; or memory was wanting for that, after some posts, one for each mark at most
abbrev pub HearsReply : Caller → Trace → Reply → Wire → Wire → Option HeededReply → Type 0
HearsReply caller trace reply before now (Some heeded) = HeedsReply caller trace reply before now heeded
HearsReply caller trace reply before now None = PostedSome caller.routes (length reply.configs) before.exchanges now.exchanges

-- the same where there may be no reply: then nobody was asked
abbrev pub HearsBy : Caller → Trace → Wire → Wire → Option HeededReply → Result Reply Refusal → Type 0
HearsBy caller trace before now heeded (Ok reply) = HearsReply caller trace reply before now heeded
HearsBy caller trace before now heeded (Err refusal) = (heeded ≡ None) × (now ≡ before)

-- ---- by the parts of a node

abbrev pub wire_at : {P : Type 0} → NetworkAt P → Wire
wire_at net = wire net.exchanges net.faults

-- one call by these parts at a moment, over a network before it and after it, between which the posts of marks stand last
pub record IsHeardAt {P : Type 0} (parts : Parts) (request : ResolveRequest) (moment : ℕ) (before now : NetworkAt P) (heard : Heard) : Type 0 where
  pub between : NetworkAt P
  pub call : IsCallAt parts request moment before between heard.outcome
  pub hears : HearsBy (caller_of request parts.signer parts.routes moment) heard.outcome.trace (wire_at between) (wire_at now) heard.reply heard.outcome.result

-- ---- by the node of a configuration file

abbrev pub wire_of : Around → Wire
wire_of around = wire around.exchanges around.faults

-- one call of this node was made, and the marks of its reply were asked about once it was over
pub record IsHeardOf (question : Question) (before between now : At) (heard : Heard) : Type 0 where
  pub call : IsCallOf question before between heard.outcome
  pub hears : HearsBy (caller_of question.request (signer_of call.node call.resolver call.call.pair) call.resolver.routes between.around.clock.last)
      heard.outcome.trace (wire_of between.around) (wire_of now.around) heard.reply heard.outcome.result
  -- a reply that isn't too long is sealed by the live keys of the node's ring
  pub sealed : IfSome heard.reply (λ reply. length reply.text ≤ max_bytes → IsSealedBy reply.text (live_set call.node.ring))

-- what the call alone answered
abbrev pub outcome_of : Result Heard NodeFault → Result Outcome NodeFault
outcome_of (Ok heard) = Ok heard.outcome
outcome_of (Err fault) = Err fault

abbrev pub HearsOnce : Question → At → At → At → Result Heard NodeFault → Type 0
HearsOnce question before between now (Ok heard) = IsHeardOf question before between now heard
HearsOnce question before between now (Err fault) = now ≡ between

-- what a resolve call of a node does that heeds the marks of its reply: the call up to a moment in between, and then the posts
pub record HeedsOnce (question : Question) (before now : At) (result : Result Heard NodeFault) : Type 0 where
  pub between : At
  pub resolves : ResolvesOnce question before between (outcome_of result)
  pub hears : HearsOnce question before between now result
  -- since then the clock wasn't read, and no file was changed
  pub clock : now.around.clock ≡ between.around.clock
  pub files : now.files ≡ between.files
  pub store : now.store_faults ≡ between.store_faults
