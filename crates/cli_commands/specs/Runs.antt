-- All that the run of a command does.
use Rattle.std.specs.Prelude.{◌≡◌, ◌≤◌, ℕ, List, false, Option, None}
use Rattle.fed_ports.specs.Stores.{Files}
use Rattle.fed_ports.specs.declared.clock.Clock.{Ghosts as ClockShows}
use Rattle.fed_ports.specs.declared.sink.Sink.{Ghosts as SinkShows}
use Rattle.fed_ports.specs.declared.source.Source.{Ghosts as SourceShows}
use Rattle.fed_ports.specs.declared.store.Store.{Ghosts as StoreShows}
use Rattle.fed_ports.specs.Times.{ClockAt}
use Rattle.cli_words.specs.declared.command.Command.{Command}
use Rattle.cli_commands.specs.Answers.{Answers, Outside, Tells, UsesClock, named, reads_clock, readings_of, wants_input}
use Rattle.cli_commands.specs.Sealings.{IssuesSealed}

-- the source, the store and the clock at one moment, what they and the sink tell, and how often a call to each has failed
pub record World (S D C : Type 0) : Type 0 where
  pub input : S
  pub store : D
  pub clock : C
  pub left : Option (List ℕ)
  pub read_faults : ℕ
  pub held : Option (List ℕ)
  pub write_faults : ℕ
  pub files : Option Files
  pub store_faults : ℕ
  pub readings : ClockAt

-- what the source, the sink, the store and the clock show of themselves
pub record Views (S K D C : Type 0) : Type 1 where
  pub source : SourceShows S
  pub sink : SinkShows K
  pub files : StoreShows D
  pub moments : ClockShows C

abbrev pub views : {S K D C : Type 0} → SourceShows S → SinkShows K → StoreShows D → ClockShows C → Views S K D C
views source sink files moments = record { source = source; sink = sink; files = files; moments = moments }

abbrev pub world : {S K D C : Type 0} → Views S K D C → S → K → D → C → World S D C
world shown source sink files moments = record {
  input = source;
  store = files;
  clock = moments;
  left = shown.source.left source;
  read_faults = shown.source.read_faults source;
  held = shown.sink.held sink;
  write_faults = shown.sink.write_faults sink;
  files = shown.files.files files;
  store_faults = shown.files.store_faults files;
  readings = readings_of shown.moments moments;
}

-- what is told of it
abbrev pub told_of : {S D C : Type 0} → World S D C → Outside
told_of world = record { left = world.left; held = world.held; files = world.files }

-- one field a promise
pub record IsRun {S D C : Type 0} (command : Command) (before after : World S D C) (status : ℕ) : Type 0 where
  pub answers : Answers command after.readings.last (told_of before) (told_of after) status
  pub sealed : IssuesSealed command before.files before.held after.held status
  pub source : Tells 3 before.read_faults after.read_faults status
  pub sink : Tells 4 before.write_faults after.write_faults status
  pub store : Tells 6 before.store_faults after.store_faults status
  pub clock : UsesClock command before.readings after.readings status
  pub range : status ≤ 6
  pub input_apart : wants_input command ≡ false → after.input ≡ before.input
  pub store_apart : named command ≡ None → after.store ≡ before.store
  pub clock_apart : reads_clock command ≡ false → after.clock ≡ before.clock
