-- An object and its passes.
use Rattle.std.specs.declared.snapshot.Snapshot.{Snapshot}
use Rattle.turn_log.specs.Passes.{IsPassOf}
use Rattle.turn_log.specs.declared.kept.KeptTable.{KeptTable}
use Rattle.turn_log.specs.declared.pass.PassSeat.{PassSeat}

module _ {S V X Q : Type 0} where
  -- the state in which the object began
  abbrev pub first_state : KeptTable S V (Snapshot X) Q → X
  first_state kept = kept.table.shared.key.value

module _ {S V X C R Q : Type 0} where
  -- the pass is of this object, and has seen a legal prefix of its calls
  abbrev pub IsOf : (X → C → R → X → Type 0) → KeptTable S V (Snapshot X) Q → PassSeat S X C R → Type 0
  IsOf steps kept pass = IsPassOf steps kept.table.shared.table_id kept.table.shared.key.value pass
