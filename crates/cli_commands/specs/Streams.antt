-- The text of an input.
use Rattle.std.specs.Prelude.{ℕ, ◌-◌, List, [], ◌∷◌, length, take, nat_eq, if◌then◌else◌}
use Rattle.std.specs.List.{ends_with}

-- how many bytes the line end has: two for CR LF, one for LF, none
abbrev pub line_end : List ℕ → ℕ
line_end bytes = if ends_with nat_eq bytes (13 ∷ 10 ∷ []) then 2 else (if ends_with nat_eq bytes (10 ∷ []) then 1 else 0)

-- the bytes without the one line end that may stand behind them
abbrev pub without_line_end : List ℕ → List ℕ
without_line_end bytes = take (length bytes - line_end bytes) bytes
