-- Moments with their dates.
use Rattle.std.specs.Prelude.{ℕ, List, ◌++◌, codes, decimal}
use Rattle.utc_dates.specs.Written.{date_text}

-- a moment, in seconds since 1970, and its date
abbrev pub moment_text : ℕ → List ℕ
moment_text moment = decimal moment ++ (codes " (" ++ (date_text moment ++ codes ")"))
