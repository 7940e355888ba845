-- What a source gives and what a sink takes, where it is told.
use Rattle.std.specs.Prelude.{◌≡◌, ◌≤◌, ℕ, List, [], ◌++◌, length, take, drop, Option, Some, None}

-- the first n bytes of what was left stand at the front of the buffer, and none of them is left; n is 0 at the end alone
abbrev pub Takes : Option (List ℕ) → Option (List ℕ) → List ℕ → List ℕ → ℕ → Type 0
Takes None new old_into new_into n = new ≡ None
Takes (Some left) new old_into new_into n =
    (new ≡ Some (drop n left)) × (new_into ≡ take n left ++ drop n old_into) × (n ≤ length left) × (n ≡ 0 → left ≡ [])

-- the piece stands behind what was held
abbrev pub Appends : Option (List ℕ) → Option (List ℕ) → List ℕ → Type 0
Appends None new piece = new ≡ None
Appends (Some held) new piece = new ≡ Some (held ++ piece)
