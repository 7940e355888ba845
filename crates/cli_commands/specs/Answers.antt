-- What the program answers: a status, the text that it writes, and the file that it keeps.
use Rattle.std.specs.Prelude.{◌≡◌, ◌⊎◌, ◌≤◌, ◌<◌, ℕ, List, length, take, nat_lt, Bool, true, false, IsTrue, Option, Some, None, Result, Ok, Err, IfSome, MatchOption, if◌then◌else◌}
use Rattle.fed_ports.specs.Bytes.{Appends}
use Rattle.fed_base.specs.Counts.{Rose}
use Rattle.fed_ports.specs.Inputs.{AtEnd}
use Rattle.fed_ports.specs.Stores.{Files, file_limit, IsFile, Keeps}
use Rattle.fed_ports.specs.Times.{ClockAt, IsOneReading, clock_at}
use Rattle.fed_ports.specs.declared.clock.Clock.{Ghosts as ClockShows}
use Rattle.fed_ports.specs.declared.sink.Sink.{Ghosts as SinkShows}
use Rattle.fed_ports.specs.declared.store.Store.{Ghosts as StoreShows}
use Rattle.fed_base.specs.declared.faults.Failed.{Failed}
use Rattle.cli_commands.specs.declared.answer.Stop.{Stop}
use Rattle.cli_commands.specs.declared.answer.Stop.TheVariants.{Source, Store, Memory}
use Rattle.cli_words.specs.declared.act.Act.TheVariants.{Retire, Revoke}
use Rattle.cli_words.specs.declared.command.Command.{Command}
use Rattle.cli_words.specs.declared.command.Command.TheVariants.{Keygen, Issue, Rotate, Check, Help, Version, Faulty}
use Rattle.cli_rings.specs.declared.reply.Reply.{Reply}
use Rattle.cli_commands.specs.declared.operation.Prepared.{Prepared}
use Rattle.cli_commands.specs.declared.operation.Prepared.TheVariants.{Answered, WantsInput}
use Rattle.cli_commands.specs.Operations.{IsPrepared, IsOutcome}
use Rattle.cli_commands.specs.Streams.{without_line_end}

-- the file that a command names: each looks at it, and `keygen` and `rotate` keep it
abbrev pub named : Command → Option (List ℕ)
named (Keygen ring alg at exp) = Some ring
named (Issue ring typ workers) = Some ring
named (Rotate ring act) = Some ring
named (Check anchor keys at) = Some keys
named command = None

-- the command may want an input
abbrev pub wants_input : Command → Bool
wants_input Help = false
wants_input Version = false
wants_input Faulty = false
wants_input (Rotate ring (Retire kid)) = false
wants_input (Rotate ring (Revoke kid at reason)) = false
wants_input command = true

-- the command reads the clock: a check without a moment of its own
abbrev pub reads_clock : Command → Bool
reads_clock (Check anchor keys None) = true
reads_clock command = false

-- the text of an input: the bytes without their one line end, and none where they are too long
abbrev pub text_of : List ℕ → Option (List ℕ)
text_of input = if nat_lt file_limit (length input) then None else Some (without_line_end input)

-- what the command answers on the bytes of its file, where there is one, and on an input, at a moment in seconds since 1970: the
-- outside's faults and want of memory aside
pub record IsReply (command : Command) (moment : ℕ) (file : Option (List ℕ)) (input : List ℕ) (reply : Reply) : Type 0 where
  pub prepared : Prepared
  pub is_prepared : IsPrepared command moment file prepared
  pub outcome : IsOutcome prepared (text_of input) reply

-- these bytes are the input, where the source tells what it has left
abbrev pub MayBe : Option (List ℕ) → List ℕ → Type 0
MayBe None input = Unit {0}
MayBe (Some left) input = left ≡ input

-- this is the file that the command names, where the store tells its files
abbrev pub IsNamed : Command → Option Files → Option (List ℕ) → Type 0
IsNamed command files file = IfSome (named command) (λ name. IsFile files name file)

-- a command that wants an input reads it to its end, unless it is too long, and one that is answered reads none
abbrev pub IsRead : Prepared → List ℕ → Option (List ℕ) → Option (List ℕ) → Type 0
IsRead (Answered reply) input left left' = left' ≡ left
IsRead (WantsInput work) input left left' = length input ≤ file_limit → AtEnd left'

-- the reply is the command's on its file and its input, which was read
pub record IsReached (command : Command) (moment : ℕ) (files : Option Files) (left left' : Option (List ℕ)) (reply : Reply) : Type 0 where
  pub file : Option (List ℕ)
  pub input : List ℕ
  pub is_file : IsNamed command files file
  pub is_input : MayBe left input
  pub is_reply : IsReply command moment file input reply
  pub read : IsRead is_reply.prepared input left left'

-- what a keeping leaves of the files: where there are bytes to keep the command's file has them, or may have them after a failure
abbrev pub IsKeptAs : Command → Option Files → Option Files → Option (List ℕ) → Result Unit Failed → Type 0
IsKeptAs command files files' None result = files' ≡ files
IsKeptAs command files files' (Some bytes) result = MatchOption (named command) (files' ≡ files) (λ name. Keeps files files' name bytes result)

-- the bytes to keep are the command's file, every other file is as before, and so are all where there is nothing to keep
abbrev pub Stands : Command → Option Files → Option Files → Option (List ℕ) → Type 0
Stands command files files' kept = IsKeptAs command files files' kept (Ok tt)

-- the file that the command names is this one, where it names one
abbrev pub FixesFile : Command → Option Files → Option (List ℕ) → Type 0
FixesFile command files file = IfSome (named command) (λ name. (told : Files) × (files ≡ Some told) × (told name ≡ file))

-- the input is this one, where the command may want one
abbrev pub FixesInput : Command → Option (List ℕ) → List ℕ → Type 0
FixesInput command left input = IsTrue (wants_input command) → left ≡ Some input

-- this is so, or the source, the sink or the store failed, or memory was wanting
abbrev pub Or : Type 0 → ℕ → Type 0
Or answered status = answered ⊎ ((status ≡ 3) ⊎ ((status ≡ 4) ⊎ ((status ≡ 5) ⊎ (status ≡ 6))))

-- the outside at one moment, where it tells it: what is left of the input, what was written, and the files
pub record Outside : Type 0 where
  pub left : Option (List ℕ)
  pub held : Option (List ℕ)
  pub files : Option Files

-- the program answers as the command does on its file and its input, writes that text and nothing else, and keeps that file and no other
pub record Answers (command : Command) (moment : ℕ) (before after : Outside) (status : ℕ) : Type 0 where
  -- a status up to 2 comes only with the reply, whose whole text is written, and whose file stands
  pub done : status ≤ 2 → (reply : Reply) × IsReached command moment before.files before.left after.left reply × (status ≡ reply.status)
      × Appends before.held after.held reply.text × Stands command before.files after.files reply.kept
  -- and where there is one, it comes and is written and kept, but for a fault of the outside or want of memory
  pub exact : (file : Option (List ℕ)) (input : List ℕ) (reply : Reply) → FixesFile command before.files file → FixesInput command before.left input
      → IsReply command moment file input reply
      → Or ((status ≡ reply.status) × Appends before.held after.held reply.text × Stands command before.files after.files reply.kept) status
  -- after a fault of the sink a beginning of that text is written, and the file stands
  pub cut : status ≡ 4 → (reply : Reply) × (n : ℕ) × IsReached command moment before.files before.left after.left reply
      × Appends before.held after.held (take n reply.text) × Stands command before.files after.files reply.kept
  -- after a fault of the store all files are as before, or the one that was to be kept is the old or the new one
  pub torn : status ≡ 6 → (after.files ≡ before.files) ⊎ ((reply : Reply) × (e : Failed) × IsReached command moment before.files before.left after.left reply
      × IsKeptAs command before.files after.files reply.kept (Err e))
  -- after a fault of the source and after want of memory nothing is kept
  pub untouched : (status ≡ 3) ⊎ (status ≡ 5) → after.files ≡ before.files
  -- and nothing is written after these or a fault of the store
  pub silent : (status ≡ 3) ⊎ ((status ≡ 5) ⊎ (status ≡ 6)) → after.held ≡ before.held

-- the status comes only where the count of faults rose, and always where it grew
pub record Tells (wanted before now status : ℕ) : Type 0 where
  pub only : status ≡ wanted → Rose before now
  pub always : before < now → status ≡ wanted

-- why there is no reply: the one object's count of faults rose and the other's is as before, or memory was wanting and both are
abbrev pub StopsAs : Stop → ℕ → ℕ → ℕ → ℕ → Type 0
StopsAs Source source source' store store' = Rose source source' × (store' ≡ store)
StopsAs Store source source' store store' = (source' ≡ source) × Rose store store'
StopsAs Memory source source' store store' = (source' ≡ source) × (store' ≡ store)

-- the status that says so
abbrev pub stop_status : Stop → ℕ
stop_status Source = 3
stop_status Store = 6
stop_status Memory = 5

-- where a reply goes, at one moment: what was written and the files, where that is told, and how often a call to either has failed
pub record Output : Type 0 where
  pub held : Option (List ℕ)
  pub write_faults : ℕ
  pub files : Option Files
  pub store_faults : ℕ

abbrev pub output_of : {K D : Type 0} → SinkShows K → StoreShows D → K → D → Output
output_of sink files out store =
    record { held = sink.held out; write_faults = sink.write_faults out; files = files.files store; store_faults = files.store_faults store }

-- how a run ends that had a reply: it is kept and written; or kept, and the sink failed in the writing; or the store failed in the keeping
abbrev pub IsEnded : Command → Reply → Output → Output → ℕ → Type 0
IsEnded command reply before after status =
    ((status ≡ reply.status) × (after.store_faults ≡ before.store_faults) × (after.write_faults ≡ before.write_faults)
    × Appends before.held after.held reply.text × Stands command before.files after.files reply.kept)
    ⊎ (((status ≡ 4) × (after.store_faults ≡ before.store_faults) × Rose before.write_faults after.write_faults
    × ((n : ℕ) × Appends before.held after.held (take n reply.text)) × Stands command before.files after.files reply.kept)
    ⊎ ((status ≡ 6) × Rose before.store_faults after.store_faults × (after.write_faults ≡ before.write_faults) × (after.held ≡ before.held)
    × ((e : Failed) × IsKeptAs command before.files after.files reply.kept (Err e))))

-- what a clock shows of its readings
abbrev pub readings_of : {C : Type 0} → ClockShows C → C → ClockAt
readings_of shows clock = clock_at (shows.readings clock) (shows.last clock) (shows.told clock)

-- a command that reads the clock reads it once, or not at all where memory is wanting, and no other reads it
pub record UsesClock (command : Command) (before now : ClockAt) (status : ℕ) : Type 0 where
  pub read : reads_clock command ≡ true → IsOneReading before now ⊎ ((now ≡ before) × (status ≡ 5))
  pub unread : reads_clock command ≡ false → now ≡ before

-- the text of an input was read, and no call failed
pub record IsTextRead (left left' : Option (List ℕ)) (before now : ℕ) (text : Option (List ℕ)) : Type 0 where
  pub steady : now ≡ before
  pub input : List ℕ
  pub is_input : MayBe left input
  pub is_text : text_of input ≡ text
  pub ended : length input ≤ file_limit → AtEnd left'

-- the moment of a command that reads the clock is the clock's, which is read once; no other command reads it
pub record IsMomentFor (command : Command) (before now : ClockAt) (moment : ℕ) : Type 0 where
  pub read : reads_clock command ≡ true → IsOneReading before now × (moment ≡ now.last)
  pub unread : reads_clock command ≡ false → now ≡ before
