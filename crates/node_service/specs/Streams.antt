-- Connections that are kept behind a response: request after request, each answered by the node at a reading of the clock (RFC 9112 section
-- 9.3).
use Rattle.std.specs.Prelude.{◌≡◌, ℕ, Bool, true, false, IfOk, Result, Ok, Err}
use Rattle.std.specs.Borrow.{GName}
use Rattle.authority_core.specs.Nodes.{Node as Authority}
use Rattle.http_messages.specs.declared.request.Incoming.{Incoming}
use Rattle.http_messages.specs.declared.response.Response.{Response}
use Rattle.http_stream.specs.Conversations.{Serves as ServesStream, StreamAt, stream_at}
use Rattle.http_stream.specs.declared.fault.StreamFault.{StreamFault}
use Rattle.http_stream.specs.declared.fault.StreamFault.TheVariants.{Ended}
use Rattle.http_stream.specs.Streams.{AreRequests, EndInside}
use Rattle.fed_serve.specs.Answering.{Answers}
use Rattle.fed_serve.specs.Moments.{AnswerAt, PeerAt, answer_at}
use Rattle.fed_serve.specs.declared.answering.Answered.{Answered}
use Rattle.fed_serve.specs.declared.answering.AnswerEnd.TheVariants.{Memory}
use Rattle.fed_serve.specs.declared.served.Served.{Served}
use Rattle.fed_serve.specs.declared.serving.ServeFault.{ServeFault}
use Rattle.node_service.specs.Connections.{Connection, IsAnswered, alone, uncalled}

-- an authority at one moment: its node; the clock that it reads, by the name that proofs have for a reference; and what it answers with
pub record AuthorityAt : Type 0 where
  pub node : Authority
  pub reads : GName
  pub at : AnswerAt

abbrev pub authority_at : Authority → GName → AnswerAt → AuthorityAt
authority_at node reads at = record { node = node; reads = reads; at = at }

-- the same node that reads the same clock
pub record IsSame (old new : AuthorityAt) : Type 0 where
  pub node : new.node ≡ old.node
  pub reads : new.reads ≡ old.reads

-- one request is answered so by the node, at one reading of the clock
abbrev pub AnswersOne : AuthorityAt → Incoming → Response → AuthorityAt → Type 0
AnswersOne old asked response new = IsSame old new × ((answered : Answered) × (answered.response ≡ response) × Answers (alone old.node) uncalled old.at new.at asked (Ok answered))

-- for one request, at one reading of the clock, memory was wanting
abbrev pub GivesUp : AuthorityAt → Incoming → AuthorityAt → Type 0
GivesUp old asked new = IsSame old new × Answers (alone old.node) uncalled old.at new.at asked (Err Memory)

-- a peer and the authority that answers its requests, at one moment
abbrev pub stream_of : PeerAt → AuthorityAt → StreamAt AuthorityAt
stream_of peer at = stream_at peer.left peer.held peer.read_faults peer.write_faults at

-- how many requests a connection may have
abbrev pub request_limit : ℕ
request_limit = 100

-- the authority answered the requests of the connection, whose peers are seen so, by one clock
pub record IsStreamed {P : Type 0} (at : P → PeerAt) (node : Authority) (c : Connection P (Result ℕ StreamFault)) : Type 0 where
  pub reads : GName
  -- one after the other, each by one reading of the clock
  pub serves : ServesStream AnswersOne GivesUp request_limit (stream_of (at c.came) (authority_at node reads (answer_at c.clock c.call)))
      (stream_of (at c.gone) (authority_at node reads (answer_at c.clock' c.call'))) c.result
  -- where the peer tells its bytes, they are so many requests, or end inside one
  pub whole : IfOk c.result (AreRequests request_limit (at c.came).left)
  pub ended : c.result ≡ Err Ended → EndInside request_limit (at c.came).left

-- ---- with the option and without it

-- what serving a connection tells
abbrev pub Said : Bool → Type 0
Said true = Result ℕ StreamFault
Said false = Result Served ServeFault

-- the authority answered the connection: the requests of a stream, or one
abbrev pub IsAnsweredBy : {P : Type 0} → (stream : Bool) → (P → PeerAt) → Authority → Connection P (Said stream) → Type 0
IsAnsweredBy true at node c = IsStreamed at node c
IsAnsweredBy false at node c = IsAnswered at node c
