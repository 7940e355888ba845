-- When a rehearsal takes place.
use Rattle.std.specs.Prelude.{ℕ}

-- its one moment, in seconds since 1970
abbrev pub moment : ℕ
moment = 1800000000

-- for how many seconds what is issued holds
abbrev pub lifetime : ℕ
lifetime = 86400
