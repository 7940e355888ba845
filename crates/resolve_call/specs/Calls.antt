-- One resolve call of a node over its network: what is asked, the outside before and after, and what is answered.
use Rattle.std.specs.Prelude.{◌≡◌, ◌≤◌, ◌⊎◌, ℕ, List, [], length, map, Bool, true, false, Option, Some, None, IfOk, Result, Ok, Err}
use Rattle.fed_base.specs.Counts.{Rose}
use Rattle.fed_ports.specs.Webs.{Web}
use Rattle.fed_ports.specs.Times.{IsOneReading}
use Rattle.jwk_set.specs.declared.jwk.Jwk.{Jwk}
use Rattle.jws_form.specs.Compact.{max_bytes}
use Rattle.sealed.specs.Seals.{IsSealedBy}
use Rattle.slh_dsa.specs.Keys.{Keys}
use Rattle.key_ring.specs.Sets.{live_set, signer_keys}
use Rattle.node_config.specs.Nodes.{Resolver, entity_of}
use Rattle.authority_core.specs.Nodes.{Node}
use Rattle.chain_climb.specs.Elements.{Among}
use Rattle.turn_log.specs.Runs.{call_limit}
use Rattle.turn_log.specs.Groups.{known}
use Rattle.statement_shelf.specs.Passes.{CommonsPass}
use Rattle.statement_shelf.specs.declared.calls.AnchorKeys.{AnchorKeys}
use Rattle.resolve_reply.specs.declared.reply.Reply.{Reply}
use Rattle.resolve_reply.specs.declared.signer.Signer.{Signer}
use Rattle.resolve_reply.specs.Replies.{ReadsBack}
use Rattle.resolve_round.specs.declared.request.ResolveRequest.{ResolveRequest}
use Rattle.resolve_round.specs.declared.trace.Search.{Search}
use Rattle.resolve_round.specs.Traces.{asks_in}
use Rattle.resolve_round.specs.Acts.{HasCounted}
use Rattle.fed_resolver.specs.declared.outcome.Outcome.{Outcome}
use Rattle.fed_resolver.specs.declared.outcome.Refusal.{Refusal}
use Rattle.fed_resolver.specs.declared.outcome.Refusal.TheVariants.{NoAnchor, Unavailable, Memory, Worn}
use Rattle.fed_resolver.specs.Completeness.{HitsAgree}
use Rattle.fed_resolver.specs.Outcomes.{IsAnswered, IsWhole}
use Rattle.fed_resolver.specs.Told.{Situation, situation_of}
use Rattle.fed_resolver.specs.Uses.{CountsFaults, SpeaksFor}
use Rattle.node_files.specs.declared.fault.NodeFault.{NodeFault}
use Rattle.node_files.specs.declared.fault.NodeFault.TheVariants.{Input}
use Rattle.node_files.specs.Moments.{NodeAt}
use Rattle.node_files.specs.NodeFiles.{Counts, IsNodeOf, IsResolver}
use Rattle.resolve_call.specs.Alone.{HasOneRound, HitsAreFetched, ResolvesAlone}
use Rattle.resolve_call.specs.Exchanged.{ExchangedBy}
use Rattle.resolve_call.specs.Ports.{Around}
use Rattle.resolve_call.specs.Webs.{ShowsWeb}
use Rattle.node_files.specs.ResolvingParts.{booked_entity, configured_bounds, configured_keys, signer_of}

-- the name of a node's configuration file, and what is asked of the node
pub record Question : Type 0 where
  pub config : List ℕ
  pub request : ResolveRequest

-- what is around a call, with the files, where they are told, and how often the store failed
abbrev pub At : Type 0
At = NodeAt Around

-- a call's keys are those that its anchor has, and it is refused for its anchor exactly where that has none; where memory was wanting, or
-- an object worn, it may have none yet
abbrev pub HasKeys : Option (List Jwk) → List Jwk → Result Reply Refusal → Type 0
HasKeys listed keys (Err NoAnchor) = listed ≡ None
HasKeys listed keys (Err Memory) = (keys ≡ []) ⊎ (listed ≡ Some keys)
HasKeys listed keys (Err (Worn count)) = (keys ≡ []) ⊎ (listed ≡ Some keys)
HasKeys listed keys result = listed ≡ Some keys

-- the outcome is that of one call of this node, which resolves so
pub record IsCallBy (node : Node) (resolver : Resolver) (request : ResolveRequest) (before now : Around) (outcome : Outcome) : Type 0 where
  -- the key pair that signs is that of the newest live key
  pub pair : Keys
  pub signs : signer_keys node.ring ≡ Some pair
  -- the clock was read once
  pub clock : IsOneReading before.clock now.clock
  -- at the moment that it gave, the result is the one that the trace calls for, and the trace is true; no other call was made on the
  -- cache and the book, which were opened empty and with the anchors of the configuration
  pub anchors : List AnchorKeys
  pub listed : map booked_entity anchors ≡ map entity_of resolver.anchors
  pub alone : ResolvesAlone (situation_of request (signer_of node resolver pair) now.clock.last) (signer_of node resolver pair) anchors outcome
  -- the keys are those that the configuration gives the anchor
  pub keys : HasKeys (configured_keys request.anchor resolver.anchors) outcome.trace.keys.keys outcome.result
  -- its searches go as far as the configuration sets for the anchor
  pub bounds : outcome.trace.bounds ≡ configured_bounds request.anchor resolver.anchors
  -- what was got is what the exchanges of this call say
  pub exchanges : ExchangedBy resolver.routes (asks_in outcome.trace.searches) before.exchanges now.exchanges outcome.result
  -- the network fails only where a round had a fault
  pub faults : CountsFaults outcome.trace.searches before.faults now.faults
  pub unavailable : outcome.result ≡ Err Unavailable → Rose before.faults now.faults
  -- a reply that isn't too long is sealed by the live keys of the node's ring
  pub sealed : IfOk outcome.result (λ reply. length reply.text ≤ max_bytes → IsSealedBy reply.text (live_set node.ring))
  -- who reads its text finds its claims
  pub reads : IfOk outcome.result (λ reply. ReadsBack pair reply.claims reply.text)

-- what follows for such a call, whose cache is empty when it begins
pub record FollowsFrom (resolver : Resolver) (here : Situation) (signer : Signer) (before now : Around) (outcome : Outcome) : Type 0 where
  -- a text that the cache gave was fetched by the same call, at the same URL
  pub hits : HitsAreFetched outcome.trace.searches
  -- the entity that was asked for has one round at most, and the cache gives nothing to it
  pub one_round : (whole : IsWhole here signer outcome) → HasOneRound whole.told.base.leaf
  -- the answer speaks of each web that the exchanges of this call show
  pub speaks : (web : Web) → ShowsWeb resolver.routes before now web → IsAnswered outcome.result → SpeaksFor here signer web outcome
  -- and what the cache gave is that web's too
  pub agrees : (web : Web) → ShowsWeb resolver.routes before now web → IsAnswered outcome.result → (search : Search) → Among search outcome.trace.searches → HitsAgree web search

abbrev pub Follows : (node : Node) (resolver : Resolver) (request : ResolveRequest) (before now : Around) (outcome : Outcome) → IsCallBy node resolver request before now outcome → Type 0
Follows node resolver request before now outcome call =
    FollowsFrom resolver (situation_of request (signer_of node resolver call.pair) now.clock.last) (signer_of node resolver call.pair) before now outcome

-- the same of the node of the configuration file
pub record IsCallOf (question : Question) (before now : At) (outcome : Outcome) : Type 0 where
  pub node : Node
  pub is_node : IsNodeOf before.files question.config node
  pub resolver : Resolver
  pub resolves : node.settings.resolver ≡ Some resolver
  pub call : IsCallBy node resolver question.request before.around now.around outcome
  pub follows : Follows node resolver question.request before.around now.around outcome call

-- there was no call: no file is that of a node that resolves, where the files are told, or the store failed, or memory was wanting
pub record HasNoCall (question : Question) (before now : At) (fault : NodeFault) : Type 0 where
  pub input : fault ≡ Input → (node : Node) → IsNodeOf before.files question.config node → IsResolver node → before.files ≡ None
  pub unasked : now.around ≡ before.around

abbrev pub Calls : Question → At → At → Result Outcome NodeFault → Type 0
Calls question before now (Ok outcome) = IsCallOf question before now outcome
Calls question before now (Err fault) = HasNoCall question before now fault

-- what a resolve call of a node does
pub record ResolvesOnce (question : Question) (before now : At) (result : Result Outcome NodeFault) : Type 0 where
  pub calls : Calls question before now result
  pub files : now.files ≡ before.files
  -- the store failed only where the fault says so
  pub store : Counts before.store_faults now.store_faults result

-- a shared object was worn
abbrev pub is_worn : Result Reply Refusal → Bool
is_worn (Err (Worn count)) = true
is_worn result = false

module _ {S T : Type 0} where
  -- a pass is held exactly where an object was worn: it has seen all the 2^62 calls on one
  abbrev pub HoldsWorn : Result Reply Refusal → Option (CommonsPass S T) → Type 0
  HoldsWorn (Err (Worn count)) worn =
      (pass : CommonsPass S T) × (worn ≡ Some pass) × HasCounted (known pass) call_limit
  HoldsWorn result worn = worn ≡ None

  abbrev pub WornBy : Result Outcome NodeFault → Option (CommonsPass S T) → Type 0
  WornBy (Ok outcome) worn = HoldsWorn outcome.result worn
  WornBy (Err fault) worn = worn ≡ None
