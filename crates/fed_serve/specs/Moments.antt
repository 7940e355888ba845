-- What stands around one connection at one moment.
use Rattle.std.specs.Prelude.{ℕ, List, Option}
use Rattle.fed_ports.specs.Times.{ClockAt}
use Rattle.fed_serve.specs.Resolutions.{CallAt}

-- one end of a connection: what is left to read and what it was given, where it tells them, and how often each failed
pub record PeerAt : Type 0 where
  pub left : Option (List ℕ)
  pub held : Option (List ℕ)
  pub read_faults : ℕ
  pub write_faults : ℕ

-- all that a connection is served with; `call` has what is known of the shared objects, the link's web, calls and faults, and how many
-- signatures the ledger counted
pub record Around : Type 0 where
  pub peer : PeerAt
  pub clock : ClockAt
  pub call : CallAt

abbrev pub peer_at : Option (List ℕ) → Option (List ℕ) → ℕ → ℕ → PeerAt
peer_at left held read_faults write_faults = record { left = left; held = held; read_faults = read_faults; write_faults = write_faults }

abbrev pub around : PeerAt → ClockAt → CallAt → Around
around peer clock call = record { peer = peer; clock = clock; call = call }

-- what a request is answered with, whoever sent it: the clock, and what a call is made with
pub record AnswerAt : Type 0 where
  pub clock : ClockAt
  pub call : CallAt

abbrev pub answer_at : ClockAt → CallAt → AnswerAt
answer_at clock call = record { clock = clock; call = call }

-- the same, of a connection
abbrev pub answer_in : Around → AnswerAt
answer_in a = answer_at a.clock a.call
