-- What serving one connection does: one field for each way in which it ends.
use Rattle.std.specs.Prelude.{◌≡◌, ◌≤◌, ◌<◌, ◌↔◌, ◌⊎◌, ℕ, List, Some, Result, Ok, Err}
use Rattle.fed_base.specs.Counts.{Rose}
use Rattle.http_messages.specs.declared.read.ReadEnd.TheVariants as read
use Rattle.http_messages.specs.declared.response.Response.{Response}
use Rattle.http_messages.specs.declared.write.WriteEnd.TheVariants as write
use Rattle.http_plain.specs.Readings.{Reads, Taken}
use Rattle.http_plain.specs.Writings.{Writes}
use Rattle.fed_serve.specs.Resolutions.{Walking}
use Rattle.fed_serve.specs.declared.node.Node.{Node}
use Rattle.fed_serve.specs.declared.served.Served.{Served}
use Rattle.fed_serve.specs.declared.serving.ServeFault.{ServeFault}
use Rattle.fed_serve.specs.declared.serving.ServeFault.TheVariants.{ReadFault, WriteFault, Ended, Worn}
use Rattle.fed_serve.specs.Answering.{Came, ComesWhere, HandsOut, IsHandledBy, IsWornAt}
use Rattle.fed_serve.specs.Handlings.{Handling, kind_of}
use Rattle.fed_serve.specs.Moments.{Around, PeerAt, answer_in}

-- ---- what came

-- where the peer tells its bytes, this is their one answer as a request; it is that of the bytes that were taken, which stood first
pub record HasCome (before now : PeerAt) (came : Came) : Type 0 where
  pub answer : (x : List ℕ) → before.left ≡ Some x → Reads x came
  pub taken : Taken before.left now.left came

-- ---- the message

-- what came over the connection is handled so; this is the message to it
abbrev pub IsHandled : Node → Walking → Around → Around → Came → Handling → Response → Type 0
IsHandled node walks before now = IsHandledBy node walks (answer_in before) (answer_in now)

-- the text of the message was written, whole, and the answer tells of it
pub record IsServed (node : Node) (walks : Walking) (before now : Around) (came : Came) (served : Served) : Type 0 where
  pub handling : Handling
  pub response : Response
  pub handled : IsHandled node walks before now came handling response
  pub written : Writes before.peer.held now.peer.held response (Ok tt)
  pub kind : served.kind ≡ kind_of handling
  pub status : served.status ≡ response.status
  pub trace : HandsOut handling served.trace
  pub cause : ComesWhere node came handling response

-- a prefix of it was written
pub record IsCut (node : Node) (walks : Walking) (before now : Around) (came : Came) : Type 0 where
  pub handling : Handling
  pub response : Response
  pub handled : IsHandled node walks before now came handling response
  pub written : Writes before.peer.held now.peer.held response (Err write.WriteFault)

-- what came is handled so at the clock's one reading, and a shared object that was called had counted so many calls; nothing was written
pub record IsWorn (node : Node) (walks : Walking) (before now : Around) (came : Came) (count : ℕ) : Type 0 where
  pub is : IsWornAt node walks (answer_in before) (answer_in now) came count
  pub held : now.peer.held ≡ before.peer.held

-- nothing was done but to read from the peer
pub record OnlyReads (before now : Around) : Type 0 where
  pub clock : now.clock ≡ before.clock
  pub held : now.peer.held ≡ before.peer.held
  pub call : now.call ≡ before.call

-- ---- the whole call

-- the fault comes only where the count rose, and always where it grew; the count never falls
pub record Tells (result fault : Result Served ServeFault) (before now : ℕ) : Type 0 where
  pub only : result ≡ fault → Rose before now
  pub always : before < now → result ≡ fault
  pub later : before ≤ now

-- the node serves the connection; `walks` is what the link says of all the calls that were made on it
pub record Serves (node : Node) (walks : Walking) (before now : Around) (result : Result Served ServeFault) : Type 0 where
  -- what the bytes of the peer are
  pub came : Came
  pub has_come : HasCome before.peer now.peer came
  -- the message to it was written whole
  pub answered : (served : Served) → result ≡ Ok served → IsServed node walks before now came served
  -- exactly where the bytes end before the request does
  pub ended : (result ≡ Err Ended) ↔ (came ≡ Err read.Ended)
  -- exactly where the peer failed to give bytes, only where its count rose, and always where it grew
  pub unread : (result ≡ Err ReadFault) ↔ (came ≡ Err read.ReadFault)
  pub read_fault : Tells result (Err ReadFault) before.peer.read_faults now.peer.read_faults
  -- after both nothing was done
  pub silent : (result ≡ Err Ended) ⊎ (result ≡ Err ReadFault) → OnlyReads before now
  -- the peer failed to take bytes, only where its count rose, and always where it grew; a prefix of the message was written
  pub cut : result ≡ Err WriteFault → IsCut node walks before now came
  pub write_fault : Tells result (Err WriteFault) before.peer.write_faults now.peer.write_faults
  -- a shared object that was called is worn
  pub worn : (count : ℕ) → result ≡ Err (Worn count) → IsWorn node walks before now came count
