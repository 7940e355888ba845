-- A sum, to which each call adds.
use Rattle.std.specs.Prelude.{◌≡◌, ◌+◌, ◌%◌, ◌^◌, ℕ}
use Rattle.rows_turn.specs.declared.counter.Counter.{Counter}

-- the sum that begins
abbrev pub none_counted : Counter
none_counted = record { sum = 0 }

-- a call adds, and replies the sum after it
abbrev pub CountStep : Counter → ℕ → ℕ → Counter → Type 0
CountStep old call reply new = (new.sum ≡ (old.sum + call) % 2 ^ 64) × (reply ≡ new.sum)
