-- One request of a rehearsal: an entity is resolved by the resolver's node, over a connection in memory.
use Rattle.std.specs.Prelude.{◌≡◌, ℕ, List, [], codes, ◌++◌, Some, None, Result, Ok, Err}
use Rattle.fed_net.specs.declared.memory_link.MemoryLink.{MemoryLink}
use Rattle.fed_net.specs.declared.memory_peer.MemoryPeer.{MemoryPeer}
use Rattle.fed_net.specs.MemoryLinks.{link_calls, link_faults, link_web, page_of}
use Rattle.fed_net.specs.MemoryPeers.{peer_held}
use Rattle.http_plain.specs.Responses.{crlf}
use Rattle.authority_core.specs.Nodes.{Node as Authority}
use Rattle.turn_log.specs.Passes.{unused}
use Rattle.turn_log.specs.Runs.{call_limit}
use Rattle.statement_shelf.specs.Book.{opened_with}
use Rattle.statement_shelf.specs.Passes.{CommonsKnown, opened_book}
use Rattle.resolve_round.specs.Acts.{HasCounted}
use Rattle.resolve_round.specs.Walking.{Giving}
use Rattle.fed_resolver.specs.Calls.{GaveAll}
use Rattle.fed_serve.specs.declared.part.ResolverPart.{ResolverPart}
use Rattle.fed_serve.specs.Resolutions.{CallAt, call_at}
use Rattle.fed_serve.specs.declared.node.Node.{Node}
use Rattle.fed_serve.specs.declared.served.Served.{Served}
use Rattle.fed_serve.specs.declared.serving.ServeFault.{ServeFault}
use Rattle.fed_serve.specs.declared.serving.ServeFault.TheVariants as serve
use Rattle.fed_serve.specs.Moments.{PeerAt, around}
use Rattle.fed_serve.specs.Serving.{Serves}
use Rattle.node_files.specs.declared.parts.Parts.{Parts}
use Rattle.node_files.specs.ResolvingParts.{ArePartsOf}
use Rattle.rehearsal.specs.declared.fault.RehearsalFault.{RehearsalFault}
use Rattle.rehearsal.specs.declared.fault.RehearsalFault.TheVariants.{Worn, Memory}
use Rattle.rehearsal.specs.declared.requesting.Answer.{Answer}
use Rattle.rehearsal.specs.Federations.{Federation, pages_in}
use Rattle.rehearsal.specs.Moments.{moment}
use Rattle.fed_ports.specs.Times.{ClockAt, clock_at}

-- ---- the resolver

-- the part for resolving is that of a configuration: it has the signer, the control keys and the trust anchors that this sets
pub record IsPartOf (configured : Authority) (part : ResolverPart) : Type 0 where
  pub parts : Parts
  pub are : ArePartsOf configured parts
  pub signer : part.signer ≡ parts.signer
  pub control : part.control ≡ parts.control
  pub opened : opened_book part.commons ≡ opened_with parts.anchors

-- the node is that of a configuration, and has such a part
pub record IsResolverNode (configured : Authority) (node : Node) : Type 0 where
  pub registry : node.registry ≡ configured
  pub part : ResolverPart
  pub has : node.resolver ≡ Some part
  pub is_part : IsPartOf configured part

-- ---- what the requests share

-- at one moment: the link, the clock, and what a call is made with, which is the pass, the link's web and counts, and the ledger
pub record Shared : Type 0 where
  pub link : MemoryLink
  pub clock : ClockAt
  pub call : CallAt

-- the same, by how often the clock was read, what the pass knows, and how many signatures were tested
abbrev pub shared_at : MemoryLink → ℕ → CommonsKnown → ℕ → Shared
shared_at link readings known tests = record {
  link = link;
  clock = clock_at readings moment None;
  call = call_at known (Some (link_web link)) (link_calls link) (link_faults link) tests;
}

-- nothing was done yet, and the link has the pages of the federation
pub record IsBegun (f : Federation) (shared : Shared) : Type 0 where
  pub web : shared.call.web ≡ Some (page_of (pages_in f))
  pub uncalled : shared.call.calls ≡ 0
  pub untested : shared.call.tests ≡ 0
  pub parts_unused : (p : ℕ) → shared.call.known.part p ≡ unused
  pub book_unused : shared.call.known.book ≡ unused

-- ---- one request

-- the request: the leaf is to be resolved up to the trust anchor (OpenID Federation 1.0 section 8.3.1)
abbrev pub request_text : List ℕ
request_text =
    codes "GET /resolve?sub=https%3A%2F%2Frp.example&trust_anchor=https%3A%2F%2Fta.example HTTP/1.1" ++ (crlf
    ++ (codes "Host: resolver.example" ++ (crlf ++ crlf)))

-- of a link in memory nothing more is said than that its pages are those of its web
abbrev pub memory_gave : Giving MemoryLink
memory_gave old new url result = Unit {0}

-- a peer that asks for this was served by one call of the node, and answered 200; it holds the response, and this trace was told
pub record IsAnswer (node : Node) (before now : Shared) (answer : Answer) : Type 0 where
  pub peer : PeerAt
  pub asks : peer.left ≡ Some request_text
  pub holds_nothing : peer.held ≡ Some []
  pub after : PeerAt
  pub holds : after.held ≡ Some (peer_held answer.peer)
  pub served : Served
  pub serves : Serves node (GaveAll memory_gave before.link now.link) (around peer before.clock before.call) (around after now.clock now.call) (Ok served)
  pub good : served.status ≡ 200
  pub told : served.trace ≡ Some answer.trace

-- what serving answered is handed on where it is 200
pub record IsHandedOn (peer : MemoryPeer) (served : Result Served ServeFault) (answer : Answer) : Type 0 where
  pub told : Served
  pub is : served ≡ Ok told
  pub good : told.status ≡ 200
  pub trace : told.trace ≡ Some answer.trace
  pub kept : answer.peer ≡ peer

-- ---- a worn object

-- a fault of serving breaks a rehearsal off: a worn object is told as such
abbrev pub IsBrokenOff : ServeFault → RehearsalFault → Type 0
IsBrokenOff (serve.Worn count) fault = fault ≡ Worn
IsBrokenOff other fault = fault ≡ Memory

-- a rehearsal is broken off as worn only where a shared object was worn
abbrev pub IsWornBy : Result Served ServeFault → RehearsalFault → Type 0
IsWornBy served Worn = (count : ℕ) × (served ≡ Err (serve.Worn count))
IsWornBy served Memory = Unit {0}

-- and has counted all that it can
abbrev pub IsWornOf : CommonsKnown → RehearsalFault → Type 0
IsWornOf known Worn = HasCounted known call_limit
IsWornOf known Memory = Unit {0}
