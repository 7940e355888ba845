-- One request: what serving it says of the answer that is handed on, and of a worn object.
use Rattle.std.proofs.Common.{◌≡◌, ℕ, [], Some, Result, Ok, Err, IfOk, sym, ap, ◌∙◌, subst, inl}
use Rattle.fed_net.specs.declared.memory_peer.MemoryPeer.{MemoryPeer}
use Rattle.fed_net.specs.MemoryPeers.{peer_held}
use Rattle.turn_log.specs.Runs.{call_limit}
use Rattle.resolve_round.specs.Acts.{HasCounted}
use Rattle.fed_resolver.specs.Calls.{GaveAll, WornOnly}
use Rattle.fed_serve.specs.Resolutions.{CallAt, Walking}
use Rattle.fed_serve.specs.Rotations.{stranger, asked, worn, untested}
use Rattle.fed_serve.specs.declared.node.Node.{Node}
use Rattle.fed_serve.specs.declared.served.Served.{Served}
use Rattle.fed_serve.specs.declared.serving.ServeFault.{ServeFault}
use Rattle.fed_serve.specs.Handlings.{Handling, unread, not_asked, issued, resolved, dealt}
use Rattle.fed_serve.specs.Moments.{Around, PeerAt, around}
use Rattle.fed_serve.specs.Serving.{Serves}
use Rattle.fed_serve.specs.Uses.{Uses}
use Rattle.fed_serve.specs.Uses as uses
use Rattle.rehearsal.specs.declared.fault.RehearsalFault.{RehearsalFault}
use Rattle.rehearsal.specs.declared.fault.RehearsalFault.TheVariants.{Worn, Memory}
use Rattle.rehearsal.specs.declared.requesting.Answer.{Answer}
use Rattle.rehearsal.specs.Requests.{IsAnswer, IsHandedOn, IsWornBy, IsWornOf, Shared, memory_gave, request_text}

pub answers : (node : Node) (before now : Shared) (peer after : PeerAt) (at : MemoryPeer) (served : Result Served ServeFault) (answer : Answer) → peer.left ≡ Some request_text → peer.held ≡ Some []
    → after.held ≡ Some (peer_held at) → Serves node (GaveAll memory_gave before.link now.link) (around peer before.clock before.call) (around after now.clock now.call) served → IsHandedOn at served answer
    → IsAnswer node before now answer
answers node before now peer after at served answer asks nothing holds serves handed = record {
  peer = peer;
  asks = asks;
  holds_nothing = nothing;
  after = after;
  holds = holds ∙ ap (λ (p : MemoryPeer). Some (peer_held p)) (sym handed.kept);
  served = handed.told;
  serves = subst (Serves node (GaveAll memory_gave before.link now.link) (around peer before.clock before.call) (around after now.clock now.call)) handed.is serves;
  good = handed.good;
  told = handed.trace;
}

-- a worn object has counted all that it can
counted_by : (node : Node) (walks : Walking) (t : ℕ) (before now : CallAt) (handling : Handling) (count : ℕ) → Uses node walks t before now handling → uses.IsWornBy handling count → HasCounted now.known call_limit
counted_by node walks t before now unread count met none = absurd none
counted_by node walks t before now not_asked count met none = absurd none
counted_by node walks t before now (issued a) count met none = absurd none
counted_by node walks t before now (resolved resolution outcome) count (part, has, is) worn_so =
    let only = subst (WornOnly now.known) worn_so is.resolves.worn in
    subst (HasCounted now.known) only.0 only.1
counted_by node walks t before now (dealt change stranger) count met none = absurd none
counted_by node walks t before now (dealt change (asked reply)) count met none = absurd none
counted_by node walks t before now (dealt change worn) count (part, has, unlinked, is) worn_so = inl is.2
counted_by node walks t before now (dealt change untested) count met none = absurd none

pub worn-of : (node : Node) (walks : Walking) (before now : Around) (served : Result Served ServeFault) (fault : RehearsalFault) → Serves node walks before now served → IsWornBy served fault → IsWornOf now.call.known fault
worn-of node walks before now served Memory serves by = tt
worn-of node walks before now served Worn serves (count, is) =
    let broken = (serves.worn count is).is in
    counted_by node walks now.clock.last before.call now.call broken.handling count broken.uses broken.worn

-- what holds anyway holds of an answer
pub anyway : {X E : Type 0} {P : Type 0} (result : Result X E) → P → IfOk result (λ _. P)
anyway (Ok x) holds = holds
anyway (Err e) holds = tt
