-- One call whose reply's marks are asked about, from its parts to the node.
use Rattle.std.proofs.Common.{◌≡◌, ◌≤◌, ℕ, length, Option, Some, None, Result, Ok, Err, refl, sym, ap, ◌∙◌, subst}
use Rattle.std.specs.Prelude.{IfOk, IfSome}
use Rattle.fed_ports.specs.Stores.{Files}
use Rattle.fed_ports.specs.Times.{ClockAt, IsOneReading}
use Rattle.jws_form.specs.Compact.{max_bytes}
use Rattle.sealed.specs.Seals.{IsSealedBy}
use Rattle.sealed.specs.Sealing.{IsSealedFor}
use Rattle.slh_dsa.specs.Keys.{Keys}
use Rattle.key_ring.specs.Rings.{Ring}
use Rattle.key_ring.specs.Sets.{live_set, signer_keys}
use Rattle.key_ring.proofs.SetLaws.{signer_named}
use Rattle.authority_core.specs.Nodes.{Node}
use Rattle.http_plain.specs.Networks.{NetworkAt}
use Rattle.node_config.specs.Nodes.{Resolver}
use Rattle.node_files.specs.Moments.{at_moment}
use Rattle.node_files.specs.NodeFiles.{IsNodeOf}
use Rattle.node_files.specs.ResolvingParts.{ArePartsOf, signer_of}
use Rattle.node_files.specs.declared.fault.NodeFault.{NodeFault}
use Rattle.node_files.specs.declared.parts.Parts.{Parts}
use Rattle.resolve_reply.specs.declared.reply.Reply.{Reply}
use Rattle.resolve_reply.specs.declared.signer.Signer.{Signer}
use Rattle.resolve_round.specs.declared.request.ResolveRequest.{ResolveRequest}
use Rattle.resolve_round.specs.declared.trace.Trace.{Trace}
use Rattle.fed_resolver.specs.declared.outcome.Outcome.{Outcome}
use Rattle.fed_resolver.specs.declared.outcome.Refusal.{Refusal}
use Rattle.fed_resolver.specs.Outcomes.{HasChainEnd, HasConfigs}
use Rattle.resolve_call.specs.Calls.{At, Follows, IsCallBy, IsCallOf, Question, ResolvesOnce}
use Rattle.resolve_call.specs.Ports.{Around, around}
use Rattle.resolve_call.proofs.CallLaws.{call-by}
use Rattle.heeded_reply.specs.declared.reply.HeededReply.{HeededReply}
use Rattle.heeded_reply.specs.declared.reply.Heard.{Heard}
use Rattle.heeded_reply.specs.Calls.{HearsBy, HeedsOnce, IsHeardAt, wire_at}
use Rattle.heeded_reply.specs.Heeding.{Caller, HeedsMarks, caller_of}
use Rattle.heeded_reply.specs.Posted.{PostedSome, Wire}
use Rattle.heeded_reply.proofs.HeedLaws.{heeds-reply}

-- ---- a call's result

module _ (caller : Caller) (trace : Trace) (before now : Wire) (reply : Reply) where
  pub hears-some : (result : Result Reply Refusal) (heeded : HeededReply) → result ≡ Ok reply → IfOk result (HasChainEnd caller.here caller.signer trace)
      → IfOk result (HasConfigs caller.here caller.signer trace) → HeedsMarks caller.signer caller.routes caller.here.moment reply before now heeded
      → HearsBy caller trace before now (Some heeded) result
  hears-some (Ok other) heeded is chain configs heeds =
      let same : other ≡ reply = cc is in
      heeds-reply caller trace other before now heeded chain configs (subst (λ r. HeedsMarks caller.signer caller.routes caller.here.moment r before now heeded) (sym same) heeds)
  hears-some (Err e) heeded is chain configs heeds = absurd (cc is)

  pub hears-none : (result : Result Reply Refusal) → result ≡ Ok reply → PostedSome caller.routes (length reply.configs) before.exchanges now.exchanges → HearsBy caller trace before now None result
  hears-none (Ok other) is some =
      let same : other ≡ reply = cc is in
      subst (λ (r : Reply). PostedSome caller.routes (length r.configs) before.exchanges now.exchanges) (sym same) some
  hears-none (Err e) is some = absurd (cc is)

pub hears-refused : (caller : Caller) (trace : Trace) (wire : Wire) (result : Result Reply Refusal) (refusal : Refusal) → result ≡ Err refusal → HearsBy caller trace wire wire None result
hears-refused caller trace wire (Ok reply) refusal is = absurd (cc is)
hears-refused caller trace wire (Err e) refusal is = (refl, refl)

-- ---- there is no call

pub heeds-none : (question : Question) (before now : At) (fault : NodeFault) → ResolvesOnce question before now (Err fault) → HeedsOnce question before now (Err fault)
heeds-none question before now fault resolves = record { between = now; resolves = resolves; hears = refl; clock = refl; files = refl; store = refl }

-- ---- the node

sealed-by : (caller : Caller) (trace : Trace) (before now : Wire) (heeded : Option HeededReply) (result : Result Reply Refusal) → HearsBy caller trace before now heeded result
    → IfSome heeded (λ (h : HeededReply). IsSealedFor caller.signer.keys h.text)
sealed-by caller trace before now None result hears = tt
sealed-by caller trace before now (Some heeded) (Ok reply) hears = hears.heeds.sealed
sealed-by caller trace before now (Some heeded) (Err refusal) hears = absurd (cc hears.0)

sealed-live : (heeded : Option HeededReply) (ring : Ring) (pair : Keys) → signer_keys ring ≡ Some pair → IfSome heeded (λ (h : HeededReply). IsSealedFor pair h.text)
    → IfSome heeded (λ (h : HeededReply). length h.text ≤ max_bytes → IsSealedBy h.text (live_set ring))
sealed-live None ring pair signs sealed = tt
sealed-live (Some h) ring pair signs sealed = λ short. sealed (live_set ring) (record { short = short; named = signer_named ring pair signs })

module _ {P : Type 0} (question : Question) (node : Node) (parts : Parts) (files files_now : Option Files) (failed failed_now : ℕ) (first last : ClockAt) (before now : NetworkAt P) (heard : Heard)
    (are : ArePartsOf node parts) (is_node : IsNodeOf files question.config node) (unchanged : files_now ≡ files) (steady : failed_now ≡ failed) (reading : IsOneReading first last)
    (call : IsHeardAt parts question.request last.last before now heard)
    (follows : (n : Node) (r : Resolver) (request : ResolveRequest) (a b : Around) (o : Outcome) → (by : IsCallBy n r request a b o) → Follows n r request a b o by) where
  abbrev start : At
  start = at_moment files failed (around first before.exchanges before.faults)

  abbrev between : At
  between = at_moment files_now failed_now (around last call.between.exchanges call.between.faults)

  -- a call by the parts of a node, at the moment that one reading of the clock gave, is one of this node
  pub heard-once : HeedsOnce question start (at_moment files_now failed_now (around last now.exchanges now.faults)) (Ok heard)
  heard-once =
      let by : IsCallBy node are.resolver question.request (around first before.exchanges before.faults) (around last call.between.exchanges call.between.faults) heard.outcome =
      call-by node parts question.request first last before call.between heard.outcome are reading call.call in
      let both : Some are.keys ≡ Some by.pair = sym are.signs ∙ by.signs in
      let pair : are.keys ≡ by.pair = cc both in
      let signer : parts.signer ≡ signer_of node are.resolver by.pair = are.signer ∙ ap (signer_of node are.resolver) pair in
      let hears =
      subst (λ routes. HearsBy (caller_of question.request (signer_of node are.resolver by.pair) routes last.last) heard.outcome.trace (wire_at call.between) (wire_at now) heard.reply heard.outcome.result) are.routes
      (subst (λ (s : Signer). HearsBy (caller_of question.request s parts.routes last.last) heard.outcome.trace (wire_at call.between) (wire_at now) heard.reply heard.outcome.result) signer call.hears) in
      let of : IsCallOf question start between heard.outcome = record {
        node = node;
        is_node = is_node;
        resolver = are.resolver;
        resolves = are.resolves;
        call = by;
        follows = follows node are.resolver question.request (around first before.exchanges before.faults) (around last call.between.exchanges call.between.faults) heard.outcome by;
      } in
      record {
        between = between;
        resolves = record { calls = of; files = unchanged; store = steady };
        hears = record {
          call = of;
          hears = hears;
          sealed =
              sealed-live heard.reply node.ring by.pair by.signs
              (sealed-by (caller_of question.request (signer_of node are.resolver by.pair) are.resolver.routes last.last) heard.outcome.trace (wire_at call.between) (wire_at now) heard.reply heard.outcome.result hears);
        };
        clock = refl;
        files = refl;
        store = refl;
      }
