-- Reading a source to its end.
use Rattle.std.specs.Prelude.{◌≡◌, ◌≤◌, ◌<◌, ℕ, List, [], length, Option, IfSome}
use Rattle.fed_base.specs.Counts.{Rose}
use Rattle.fed_ports.specs.Lists.{Gave}
use Rattle.fed_ports.specs.Stores.{file_limit}
use Rattle.fed_ports.specs.declared.input.ReadEnd.{ReadEnd}
use Rattle.fed_ports.specs.declared.input.ReadEnd.TheVariants.{Failed, TooLong, Memory}

-- nothing is left, where that is told
abbrev pub AtEnd : Option (List ℕ) → Type 0
AtEnd new = IfSome new (λ rest. rest ≡ [])

-- how a reading ends without the whole input: the source failed, or gave more than may be, or memory was wanting
abbrev pub EndsAs : Option (List ℕ) → Option (List ℕ) → ℕ → ℕ → ReadEnd → Type 0
EndsAs old new before now Failed = Rose before now
EndsAs old new before now TooLong = (now ≡ before) × ((bytes : List ℕ) × Gave old bytes new × (file_limit < length bytes))
EndsAs old new before now Memory = now ≡ before

-- the whole input was read: it is not too long, nothing is left, and no call failed
pub record IsWholeInput (old new : Option (List ℕ)) (before now : ℕ) (bytes : List ℕ) : Type 0 where
  pub steady : now ≡ before
  pub gave : Gave old bytes new
  pub ended : AtEnd new
  pub small : length bytes ≤ file_limit
