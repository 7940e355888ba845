-- What ends soon.
use Rattle.std.specs.Prelude.{ℕ, ◌+◌, List, [], ◌∷◌, ◌++◌, codes, nat_le, if◌then◌else◌}
use Rattle.plain_notes.specs.Moments.{moment_text}

-- 30 days, in seconds
abbrev pub soon : ℕ
soon = 2592000

-- a line where the thing of that name has ended at a moment, or ends within 30 days of it
abbrev pub end_line : ℕ → List ℕ → ℕ → List ℕ
end_line moment name exp =
    if nat_le exp moment then codes "ended: " ++ (name ++ (codes " " ++ (moment_text exp ++ 10 ∷ [])))
    else if nat_le exp (moment + soon) then codes "ends soon: " ++ (name ++ (codes " " ++ (moment_text exp ++ 10 ∷ [])))
    else []
