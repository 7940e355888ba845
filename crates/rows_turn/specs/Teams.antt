-- Callers whose passes are of one object.
use Rattle.std.specs.declared.snapshot.Snapshot.{Snapshot}
use Rattle.turn_log.specs.Objects.{IsOf}
use Rattle.turn_log.specs.declared.kept.KeptTable.{KeptTable}
use Rattle.turn_log.specs.declared.pass.PassSeat.{PassSeat}
use Rattle.rows_turn.specs.Tallies.{TallyStep}
use Rattle.rows_turn.specs.declared.tally.Tally.{Tally}
use Rattle.rows_turn.specs.declared.tally.Call.{Call}
use Rattle.rows_turn.specs.declared.tally.Reply.{Reply}
use Rattle.rows_turn.specs.declared.worker.WorkerOf.{WorkerOf}
use Rattle.rows_turn.specs.declared.team.Pair.{Pair}

-- it holds of both
abbrev pub Both : {W : Type 0} → (W → Type 0) → Pair W → Type 0
Both {W} P pair = P pair.first × P pair.second

-- the caller's pass is of this object
abbrev pub IsReady : {S V Q : Type 0} → KeptTable S V (Snapshot Tally) Q → WorkerOf (PassSeat S Tally Call Reply) → Type 0
IsReady {S} {V} {Q} kept worker = IsOf TallyStep kept worker.pass
