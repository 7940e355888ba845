-- One call, from its parts to the node.
use Rattle.std.proofs.Common.{◌≡◌, ◌≤◌, List, length, true, false, Option, Some, None, IfOk, Result, Ok, Err, sym, ap, ◌∙◌, subst}
use Rattle.std.proofs.lemmas.Result.{IfOk-weaker}
use Rattle.fed_ports.specs.Exchanges.{Exchange}
use Rattle.fed_ports.specs.Times.{ClockAt, IsOneReading}
use Rattle.http_plain.specs.declared.link.HttpLink.{HttpLink}
use Rattle.http_plain.specs.declared.route.Route.{Route}
use Rattle.http_plain.specs.Links.{Listening, link_network, link_routes}
use Rattle.jws_form.specs.Compact.{max_bytes}
use Rattle.sealed.specs.Seals.{IsSealedBy}
use Rattle.sealed.specs.Sealing.{IsSealedFor}
use Rattle.slh_dsa.specs.Keys.{Keys}
use Rattle.key_ring.specs.Rings.{Ring}
use Rattle.key_ring.specs.Sets.{live_set, signer_keys}
use Rattle.key_ring.proofs.SetLaws.{signer_named}
use Rattle.authority_core.specs.Nodes.{Node}
use Rattle.turn_log.specs.Groups.{known}
use Rattle.statement_shelf.specs.Passes.{CommonsPass}
use Rattle.resolve_reply.specs.declared.reply.Reply.{Reply}
use Rattle.resolve_reply.specs.declared.signer.Signer.{Signer}
use Rattle.resolve_reply.specs.Replies.{ReadsBack}
use Rattle.resolve_round.specs.declared.trace.Ask.{Ask}
use Rattle.resolve_round.specs.declared.request.ResolveRequest.{ResolveRequest}
use Rattle.resolve_round.specs.Traces.{asks_in}
use Rattle.resolve_round.specs.Acts.{HasCounted}
use Rattle.fed_resolver.specs.declared.outcome.Outcome.{Outcome}
use Rattle.fed_resolver.specs.declared.outcome.Refusal.{Refusal}
use Rattle.fed_resolver.specs.declared.outcome.Refusal.TheVariants.{NoAnchor, NotFound, PolicyOnly, NoChain, Unavailable, Budget, Worn, Memory}
use Rattle.fed_resolver.specs.Calls.{WornOnly}
use Rattle.fed_resolver.specs.Outcomes.{Tells}
use Rattle.fed_resolver.specs.Told.{Situation, situation_of}
use Rattle.http_plain.specs.Networks.{NetworkAt}
use Rattle.node_files.specs.declared.fault.NodeFault.{NodeFault}
use Rattle.node_files.specs.declared.fault.NodeFault.TheVariants as fault
use Rattle.node_files.specs.NodeFiles.{Answers, IsNodeOf, IsResolver}
use Rattle.node_files.specs.declared.parts.Parts.{Parts}
use Rattle.resolve_call.specs.Alone.{ResolvesAlone}
use Rattle.resolve_call.specs.Calls.{At, HasNoCall, HoldsWorn, IsCallBy, Question, is_worn}
use Rattle.resolve_call.specs.Ports.{around}
use Rattle.resolve_call.specs.Exchanged.{ExchangedBy}
use Rattle.resolve_call.specs.Calls.{HasKeys}
use Rattle.resolve_call.specs.CallSteps.{IsCallAt}
use Rattle.node_files.specs.ResolvingParts.{ArePartsOf}

-- ---- the network is put back

pub put-back : {N : Type 0} (exchanges : N → Option (List Exchange)) (routes : List Route) (asks : List Ask) (result : Result Reply Refusal) (before now : N) (first last : HttpLink N)
    → link_network first ≡ before → link_routes first ≡ routes → now ≡ link_network last
    → ExchangedBy (link_routes first) asks (exchanges (link_network first)) (exchanges (link_network last)) result → ExchangedBy routes asks (exchanges before) (exchanges now) result
put-back exchanges routes asks result before now first last held taken back is =
    subst (λ r. ExchangedBy r asks (exchanges before) (exchanges now) result) taken
    (subst (λ n. ExchangedBy (link_routes first) asks (exchanges n) (exchanges now) result) held
    (subst (λ n. ExchangedBy (link_routes first) asks (exchanges (link_network first)) (exchanges n) result) (sym back) is))

pub listens-back : {N P : Type 0} (listens : N → Listening P) (before now : N) (first last : HttpLink N) → link_network first ≡ before → now ≡ link_network last
    → listens (link_network last) ≡ listens (link_network first) → listens now ≡ listens before
listens-back listens before now first last held back is = ap listens back ∙ is ∙ ap listens held

-- ---- a worn object

module _ {S T : Type 0} where
  pub held-worn : (result : Result Reply Refusal) (pass : CommonsPass S T)
      (worn : Option (CommonsPass S T)) → is_worn result ≡ true → WornOnly (known pass) result → worn ≡ Some pass → HoldsWorn result worn
  held-worn (Err (Worn count)) pass worn worn_so only is = (pass, is, subst (HasCounted (known pass)) only.0 only.1)
  held-worn (Ok reply) pass worn worn_so only is = cc worn_so
  held-worn (Err NoAnchor) pass worn worn_so only is = cc worn_so
  held-worn (Err NotFound) pass worn worn_so only is = cc worn_so
  held-worn (Err PolicyOnly) pass worn worn_so only is = cc worn_so
  held-worn (Err NoChain) pass worn worn_so only is = cc worn_so
  held-worn (Err Unavailable) pass worn worn_so only is = cc worn_so
  held-worn (Err (Budget calls paths)) pass worn worn_so only is = cc worn_so
  held-worn (Err Memory) pass worn worn_so only is = cc worn_so

  pub none-worn : (result : Result Reply Refusal) (worn : Option (CommonsPass S T)) → is_worn result ≡ false → worn ≡ None → HoldsWorn result worn
  none-worn (Err (Worn count)) worn not_worn is = absurd (cc not_worn)
  none-worn (Ok reply) worn not_worn is = is
  none-worn (Err NoAnchor) worn not_worn is = is
  none-worn (Err NotFound) worn not_worn is = is
  none-worn (Err PolicyOnly) worn not_worn is = is
  none-worn (Err NoChain) worn not_worn is = is
  none-worn (Err Unavailable) worn not_worn is = is
  none-worn (Err (Budget calls paths)) worn not_worn is = is
  none-worn (Err Memory) worn not_worn is = is

-- ---- the node

sealed-live : (result : Result Reply Refusal) (ring : Ring) (pair keys : Keys) → signer_keys ring ≡ Some pair → keys ≡ pair → IfOk result (λ reply. IsSealedFor keys reply.text)
    → IfOk result (λ reply. length reply.text ≤ max_bytes → IsSealedBy reply.text (live_set ring))
sealed-live result ring pair keys signs same = IfOk-weaker result _ _
    (λ reply sealed short. subst (λ ks. IsSealedFor ks reply.text) same sealed (live_set ring) (record { short = short; named = signer_named ring pair signs }))

told-bounds : (here : Situation) (signer : Signer) (outcome : Outcome) (result : Result Reply Refusal) → Tells here signer outcome result → outcome.trace.bounds ≡ here.bounds
told-bounds here signer outcome (Ok reply) tells = tells.told.base.bounds
told-bounds here signer outcome (Err NoAnchor) tells = tells.told.base.bounds
told-bounds here signer outcome (Err NotFound) tells = tells.told.base.bounds
told-bounds here signer outcome (Err PolicyOnly) tells = tells.told.base.bounds
told-bounds here signer outcome (Err NoChain) tells = tells.told.base.bounds
told-bounds here signer outcome (Err Unavailable) tells = tells.told.base.bounds
told-bounds here signer outcome (Err (Budget calls paths)) tells = tells.told.base.bounds
told-bounds here signer outcome (Err (Worn count)) tells = tells.bounds
told-bounds here signer outcome (Err Memory) tells = tells.bounds

-- a call by the parts of a node, at the moment that one reading of the clock gave, is one of this node
pub call-by : {P : Type 0} (node : Node) (parts : Parts) (request : ResolveRequest) (first last : ClockAt) (before now : NetworkAt P) (outcome : Outcome) (are : ArePartsOf node parts)
    → IsOneReading first last → IsCallAt parts request last.last before now outcome
    → IsCallBy node are.resolver request (around first before.exchanges before.faults) (around last now.exchanges now.faults) outcome
call-by node parts request first last before now outcome are reading call = record {
  pair = are.keys;
  signs = are.signs;
  clock = reading;
  anchors = parts.anchors;
  listed = are.listed;
  alone = subst (λ (s : Signer). ResolvesAlone (situation_of request s last.last) s parts.anchors outcome) are.signer call.told.alone;
  keys = subst (λ listed. HasKeys listed outcome.trace.keys.keys outcome.result) (are.anchors request.anchor) call.told.keys;
  bounds = told-bounds (situation_of request parts.signer last.last) parts.signer outcome outcome.result call.told.alone.resolves.tells ∙ are.bounds request.anchor;
  exchanges = subst (λ routes. ExchangedBy routes (asks_in outcome.trace.searches) before.exchanges now.exchanges outcome.result) are.routes call.exchanges;
  faults = call.fails.faults;
  unavailable = call.fails.unavailable;
  sealed = sealed-live outcome.result node.ring are.keys parts.signer.keys are.signs (ap (λ (s : Signer). s.keys) are.signer) call.told.sealed;
  reads = subst (λ (keys : Keys). IfOk outcome.result (λ reply. ReadsBack keys reply.claims reply.text)) (ap (λ (s : Signer). s.keys) are.signer) call.told.reads;
}

-- ---- there is no call

pub no-node : (question : Question) (before now : At) (e : NodeFault) → Answers before.files (λ node. IsNodeOf before.files question.config node × IsResolver node) (Err e)
    → now.around ≡ before.around → HasNoCall question before now e
no-node question before now e answers same = record { input = told e answers; unasked = same }
  where
    told : (e : NodeFault) → Answers before.files (λ node. IsNodeOf before.files question.config node × IsResolver node) (Err e) → e ≡ fault.Input
        → (node : Node) → IsNodeOf before.files question.config node → IsResolver node → before.files ≡ None
    told fault.Input none is node of resolves = none node (of, resolves)
    told fault.Store none is node of resolves = cc is
    told fault.Memory none is node of resolves = cc is

pub no-memory : (question : Question) (before now : At) → now.around ≡ before.around → HasNoCall question before now fault.Memory
no-memory question before now same = record { input = λ is. cc is; unasked = same }
