-- What an inspection answers, and what it leaves of the outside.
use Rattle.std.specs.Prelude.{◌≡◌, ◌⊎◌, ◌≤◌, ℕ, List, take, Bool, true, false, not, Option, Some, None, is_some, unwrap_or}
use Rattle.cli_help.specs.Verbs.{page_of}
use Rattle.fed_ports.specs.Bytes.{Appends}
use Rattle.fed_ports.specs.Stores.{Files, IsFile}
use Rattle.fed_ports.specs.Times.{IsOneReading}
use Rattle.key_ring.specs.Rings.{Ring}
use Rattle.cli_commands.specs.Answers.{Or, Tells}
use Rattle.cli_rings.specs.RingFiles.{IsRingFound}
use Rattle.cli_rings.specs.Replies.{bad_input, plain}
use Rattle.cli_commands.specs.Runs.{World}
use Rattle.cli_rings.specs.declared.reply.Reply.{Reply}
use Rattle.cli_words.specs.declared.inspection.Inspection.{Inspection}
use Rattle.cli_words.specs.declared.inspection.Inspection.TheVariants.{Public, Show, Config, Help, Reply as ReplyCheck}
use Rattle.cli_inspect.specs.Configs.{IsConfigReply}
use Rattle.cli_inspect.specs.Publics.{public_reply}
use Rattle.cli_inspect.specs.ReplyChecks.{IsReplyReport}
use Rattle.cli_inspect.specs.Shows.{IsShowReply}

-- the keys of the ring that was found
abbrev pub of_found : Option (List ℕ) → Option Ring → Reply
of_found kid (Some ring) = public_reply kid ring
of_found kid None = bad_input

-- the file of that name is that of this ring, or of none, and the reply shows its keys
pub record IsPublicReply (files : Option Files) (name : List ℕ) (kid : Option (List ℕ)) (reply : Reply) : Type 0 where
  pub bytes : Option (List ℕ)
  pub is_file : IsFile files name bytes
  pub ring : Option Ring
  pub is_ring : IsRingFound bytes ring
  pub is_reply : reply ≡ of_found kid ring

-- what an inspection answers on the files and the input, at a moment in seconds since 1970: the outside's faults and want of memory aside
abbrev pub IsInspected : Inspection → ℕ → Option Files → Option (List ℕ) → Option (List ℕ) → Reply → Type 0
IsInspected (Public ring kid) moment files left left' reply = IsPublicReply files ring kid reply
IsInspected (Show claims) moment files left left' reply = IsShowReply claims left left' reply
IsInspected (Config config at strict) moment files left left' reply = IsConfigReply files config (record { moment = unwrap_or at moment; strict = strict }) reply
IsInspected (Help verb) moment files left left' reply = reply ≡ plain 0 (page_of verb)
IsInspected (ReplyCheck asked) moment files left left' reply = IsReplyReport files asked (unwrap_or asked.at moment) left left' reply

-- the inspection looks at a file
abbrev pub reads_file : Inspection → Bool
reads_file (Public ring kid) = true
reads_file (Show claims) = false
reads_file (Config config at strict) = true
reads_file (Help verb) = false
reads_file (ReplyCheck asked) = true

-- it reads the input
abbrev pub reads_input : Inspection → Bool
reads_input (Show claims) = true
reads_input (ReplyCheck asked) = true
reads_input inspection = false

-- it reads the clock
abbrev pub reads_clock : Inspection → Bool
reads_clock (Config config None strict) = true
reads_clock (ReplyCheck asked) = not (is_some asked.at)
reads_clock inspection = false

-- the files are told where it looks at one, and the input where it reads it
abbrev pub AreTold : Inspection → Option Files → Option (List ℕ) → Type 0
AreTold inspection files left =
    (reads_file inspection ≡ true → (told : Files) × (files ≡ Some told)) × (reads_input inspection ≡ true → (told : List ℕ) × (left ≡ Some told))

-- one field for each status, and for what is left as it was
pub record Inspects {S D C : Type 0} (inspection : Inspection) (before after : World S D C) (status : ℕ) : Type 0 where
  -- a status up to 2 comes only with the reply, whose whole text is written
  pub done : status ≤ 2 → (reply : Reply) × IsInspected inspection after.readings.last before.files before.left after.left reply × (status ≡ reply.status)
      × Appends before.held after.held reply.text
  -- and where these are told and there is such a reply, it comes and is written, but for a fault of the outside or want of memory
  pub exact : (left : Option (List ℕ)) (reply : Reply) → AreTold inspection before.files before.left
      → IsInspected inspection after.readings.last before.files before.left left reply → Or ((status ≡ reply.status) × Appends before.held after.held reply.text) status
  -- after a fault of the sink a beginning of it is written
  pub cut : status ≡ 4 → (reply : Reply) × (n : ℕ) × IsInspected inspection after.readings.last before.files before.left after.left reply
      × Appends before.held after.held (take n reply.text)
  -- after any other fault and after want of memory nothing is written
  pub silent : (status ≡ 3) ⊎ ((status ≡ 5) ⊎ (status ≡ 6)) → after.held ≡ before.held
  -- each of these comes only where the count of faults rose, and always where it grew
  pub source : Tells 3 before.read_faults after.read_faults status
  pub sink : Tells 4 before.write_faults after.write_faults status
  pub store : Tells 6 before.store_faults after.store_faults status
  pub range : status ≤ 6
  -- no file is changed
  pub files : after.files ≡ before.files
  pub input_apart : reads_input inspection ≡ false → after.input ≡ before.input
  pub store_apart : reads_file inspection ≡ false → after.store ≡ before.store
  -- the clock is read once, or not at all where memory is wanting
  pub clock : reads_clock inspection ≡ true → IsOneReading before.readings after.readings ⊎ ((after.readings ≡ before.readings) × (status ≡ 5))
  pub clock_apart : reads_clock inspection ≡ false → after.clock ≡ before.clock
