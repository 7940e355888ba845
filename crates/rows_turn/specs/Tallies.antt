-- A sum and a list, and what each call does to them.
use Rattle.std.specs.Prelude.{◌≡◌, ◌+◌, ◌%◌, ◌^◌, ◌∷◌, ◌++◌, [], length}
use Rattle.rows_turn.specs.declared.tally.Tally.{Tally}
use Rattle.rows_turn.specs.declared.tally.Call.{Call}
use Rattle.rows_turn.specs.declared.tally.Call.TheVariants.{Add, Keep, Read}
use Rattle.rows_turn.specs.declared.tally.Reply.{Reply}
use Rattle.rows_turn.specs.declared.tally.Reply.TheVariants.{Before, Done, Memory, Is}

-- nothing changed
abbrev pub Unchanged : Tally → Tally → Type 0
Unchanged old new = (new.sum ≡ old.sum) × (new.values.items ≡ old.values.items)

-- an Add replies the sum before it, a Keep puts the value at the end unless memory is wanting, and a Read tells both
abbrev pub TallyStep : Tally → Call → Reply → Tally → Type 0
TallyStep old (Add amount) (Before sum) new = (sum ≡ old.sum) × (new.sum ≡ (old.sum + amount) % 2 ^ 64) × (new.values.items ≡ old.values.items)
TallyStep old (Keep value room) Done new = (new.sum ≡ old.sum) × (new.values.items ≡ old.values.items ++ value ∷ [])
TallyStep old (Keep value room) Memory new = Unchanged old new
TallyStep old Read (Is sum count) new = (sum ≡ old.sum) × (count ≡ length old.values.items) × Unchanged old new
TallyStep old call reply new = ⊥
