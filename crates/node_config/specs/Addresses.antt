-- Addresses as texts: four whole numbers below 256 in decimal digits, without leading zeros, with full stops between them.
use Rattle.std.specs.Prelude.{ℕ, ◌+◌, ◌-◌, ◌*◌, ◌==◌, List, [], ◌∷◌, ◌++◌, length, nat_le, nat_lt, ◌&&◌, Option, Some, None, option_map, if◌then◌else◌}
use Rattle.std.specs.Option.{option_map_or}
use Rattle.fed_base.specs.Values.{◌>>=◌}
use Rattle.node_config.specs.declared.addresses.Progress.{Progress}
use Rattle.node_config.specs.declared.addresses.Progress.TheVariants.{Digit, Stop, Neither}

-- the full stop
abbrev pub stop : ℕ
stop = 46

-- a decimal digit's value
abbrev pub digit_of : ℕ → Option ℕ
digit_of b = if nat_le 48 b && nat_le b 57 then Some (b - 48) else None

-- one more digit of a number below 256; none follows a leading zero
abbrev pub with_digit : Option ℕ → ℕ → Option ℕ
with_digit None digit = Some digit
with_digit (Some n) digit = if nat_lt 0 n && nat_lt (n * 10 + digit) 256 then Some (n * 10 + digit) else None

-- what a byte is behind the digits that were read of a number: another digit, the full stop behind the number, or neither
abbrev pub step_of : Option ℕ → ℕ → Progress
step_of begun b = option_map_or Digit (digit_of b >>= with_digit begun) (if b == stop then option_map_or Stop begun Neither else Neither)

-- what comes of that for the numbers that were read, and the number that is being read
abbrev pub after_step : Progress → List ℕ → (List ℕ → Option ℕ → Option (List ℕ)) → Option (List ℕ)
after_step (Digit n) done later = later done (Some n)
after_step (Stop n) done later = later (done ++ n ∷ []) None
after_step Neither done later = None

-- the numbers of a text behind those that were read, and the number that is being read
unfoldable pub numbers_after : List ℕ → Option ℕ → List ℕ → Option (List ℕ)
numbers_after done begun [] = option_map (λ n. done ++ n ∷ []) begun
numbers_after done begun (b ∷ bs) = after_step (step_of begun b) done (λ more next. numbers_after more next bs)

abbrev pub if_four : List ℕ → Option (List ℕ)
if_four numbers = if length numbers == 4 then Some numbers else None

-- the four numbers of an address
unfoldable pub ip_of : List ℕ → Option (List ℕ)
ip_of text = numbers_after [] None text >>= if_four
