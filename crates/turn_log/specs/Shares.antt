-- Shares of an object: of so many equal units of it a pass holds so many.
use Rattle.std.specs.Prelude.{◌≡◌, ◌+◌, ◌*◌, ◌<◌, ◌≤◌, ℕ, List, [], ◌∷◌}
use Rattle.turn_log.specs.declared.view.Share.{Share}

-- all of it, and nothing
abbrev pub whole_share : Share
whole_share = record { units = 1; total = 1 }

abbrev pub no_share : Share
no_share = record { units = 0; total = 1 }

-- half of a share
abbrev pub halved : Share → Share
halved s = record { units = s.units; total = s.total + s.total }

-- two shares together
abbrev pub added : Share → Share → Share
added a b = record { units = a.units * b.total + b.units * a.total; total = a.total * b.total }

-- many together
abbrev pub all_of : List Share → Share
all_of [] = no_share
all_of (s ∷ shares) = added s (all_of shares)

-- all units are held
abbrev pub IsWhole : Share → Type 0
IsWhole s = s.units ≡ s.total

-- some units are, and no more than there are
pub record IsShare (s : Share) : Type 0 where
  pub some : 0 < s.units
  pub total : 0 < s.total
  pub limited : s.units ≤ s.total
