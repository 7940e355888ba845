-- A text that is written, and the status.
use Rattle.std.specs.Prelude.{◌≡◌, ◌⊎◌, ℕ, List, take, Option}
use Rattle.fed_base.specs.Counts.{Rose}
use Rattle.fed_ports.specs.Bytes.{Appends}

-- the line was written and the status says so, or a beginning of it was and the sink failed
abbrev pub WritesLine : ℕ → List ℕ → Option (List ℕ) → Option (List ℕ) → ℕ → ℕ → ℕ → Type 0
WritesLine status line old new before now result =
    ((result ≡ status) × Appends old new line × (now ≡ before)) ⊎ ((result ≡ 4) × ((n : ℕ) × Appends old new (take n line)) × Rose before now)
