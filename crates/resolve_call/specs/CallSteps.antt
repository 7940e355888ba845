-- What holds between the steps of a call.
use Rattle.std.specs.Prelude.{◌≡◌, ℕ, List, IfOk, Err}
use Rattle.std.specs.declared.snapshot.Snapshot.{Snapshot}
use Rattle.fed_base.specs.Counts.{Rose}
use Rattle.sealed.specs.Sealing.{IsSealedFor}
use Rattle.turn_log.specs.Groups.{IsUnused, OwnsEach}
use Rattle.turn_log.specs.declared.kept.KeptTable.{KeptTable}
use Rattle.turn_log.specs.declared.group.Group.{Group}
use Rattle.statement_shelf.specs.Book.{Book, opened_with}
use Rattle.statement_shelf.specs.Entries.{Part}
use Rattle.statement_shelf.specs.Passes.{CommonsPass, IsPassOfAll, opened_book}
use Rattle.statement_shelf.specs.declared.calls.AnchorKeys.{AnchorKeys}
use Rattle.statement_shelf.specs.declared.commons.SharedCommons.{SharedCommons}
use Rattle.resolve_reply.specs.declared.signer.Signer.{Signer}
use Rattle.resolve_reply.specs.Replies.{ReadsBack}
use Rattle.resolve_round.specs.declared.request.ResolveRequest.{ResolveRequest}
use Rattle.resolve_round.specs.Traces.{asks_in}
use Rattle.fed_resolver.specs.declared.outcome.Outcome.{Outcome}
use Rattle.fed_resolver.specs.declared.outcome.Refusal.TheVariants.{Unavailable}
use Rattle.fed_resolver.specs.Told.{situation_of}
use Rattle.fed_resolver.specs.Uses.{CountsFaults}
use Rattle.node_files.specs.declared.parts.Parts.{Parts}
use Rattle.resolve_call.specs.Alone.{ResolvesAlone}
use Rattle.http_plain.specs.Networks.{NetworkAt}
use Rattle.resolve_call.specs.declared.call.OpenCall.{OpenCall}
use Rattle.resolve_call.specs.Calls.{HasKeys}
use Rattle.resolve_call.specs.Exchanged.{ExchangedBy}
use Rattle.node_files.specs.ResolvingParts.{booked_keys}

-- what one call tells of its trace at a moment, by the keys that its book was opened with
pub record TellsBy (signer : Signer) (anchors : List AnchorKeys) (request : ResolveRequest) (moment : ℕ) (outcome : Outcome) : Type 0 where
  pub alone : ResolvesAlone (situation_of request signer moment) signer anchors outcome
  pub keys : HasKeys (booked_keys request.anchor anchors) outcome.trace.keys.keys outcome.result
  pub sealed : IfOk outcome.result (λ reply. IsSealedFor signer.keys reply.text)
  pub reads : IfOk outcome.result (λ reply. ReadsBack signer.keys reply.claims reply.text)

-- the link or the network failed only where a round had a fault
pub record FailsBy (outcome : Outcome) (before now : ℕ) : Type 0 where
  pub faults : CountsFaults outcome.trace.searches before now
  pub unavailable : outcome.result ≡ Err Unavailable → Rose before now

-- one call by these parts at a moment, over a network before it and after it
pub record IsCallAt {P : Type 0} (parts : Parts) (request : ResolveRequest) (moment : ℕ) (before now : NetworkAt P) (outcome : Outcome) : Type 0 where
  -- the result is the one that the trace calls for, and the trace is true
  pub told : TellsBy parts.signer parts.anchors request moment outcome
  -- what was got is what the exchanges of this call say
  pub exchanges : ExchangedBy parts.routes (asks_in outcome.trace.searches) before.exchanges now.exchanges outcome.result
  -- the network fails only where a round had a fault
  pub fails : FailsBy outcome before.faults now.faults

module _ {S V Q T W U : Type 0} where
  -- the pass is of these objects, has seen nothing and is alone, and the book was opened with these anchors
  pub record IsNew (commons : SharedCommons (Group (KeptTable S V (Snapshot Part) Q) (KeptTable T W (Snapshot Book) U))) (anchors : List AnchorKeys) (pass : CommonsPass S T) : Type 0 where
    pub opened : opened_book commons ≡ opened_with anchors
    pub of : IsPassOfAll commons pass
    pub unused : IsUnused pass
    pub whole : OwnsEach pass

-- a call of these parts is ready: its cache is empty, its book has their anchors, and nothing was done
pub record IsOpenCall {N : Type 0} (parts : Parts) (call : OpenCall N) : Type 0 where
  pub signer : call.signer ≡ parts.signer
  pub routes : call.routes ≡ parts.routes
  pub new : IsNew call.commons parts.anchors call.pass
