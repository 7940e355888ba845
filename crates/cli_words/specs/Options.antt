-- Options, their values and numbers among the words.
use Rattle.std.specs.Prelude.{◌+◌, ◌-◌, ◌*◌, ℕ, List, [], ◌∷◌, ◌&&◌, codes, Bool, true, false, not, nat_eq, nat_le, nat_lt, bytes_eq, Option, Some, None, if◌then◌else◌}
use Rattle.std.specs.Option.{option_and_then, option_map_or}
use Rattle.fed_base.specs.Moments.{moment_limit}

-- the value behind the first option of that name, where the words are pairs of an option and its value
unfoldable pub option_in : List ℕ → List (List ℕ) → Option (List ℕ)
option_in name [] = None
option_in name (option ∷ []) = None
option_in name (option ∷ value ∷ words) = if bytes_eq option name then Some value else option_in name words

-- the option's value is `yes`
abbrev pub says_yes : List ℕ → List (List ℕ) → Bool
says_yes name words = option_map_or (λ word. bytes_eq word (codes "yes")) (option_in name words) false

-- the number that the decimal digits make behind those of n, where it is below the limit
unfoldable pub number_after : ℕ → List ℕ → Option ℕ
number_after n [] = Some n
number_after n (digit ∷ digits) =
    if nat_le 48 digit && nat_le digit 57 && nat_lt (n * 10 + (digit - 48)) moment_limit then number_after (n * 10 + (digit - 48)) digits else None

-- the digits have no zero before them, and are not none
abbrev pub is_led : List ℕ → Bool
is_led [] = false
is_led (digit ∷ []) = true
is_led (digit ∷ next ∷ digits) = not (nat_eq digit 48)

-- the number of the decimal digits, without sign and without a leading zero, below 2^62
abbrev pub number_of : List ℕ → Option ℕ
number_of word = if is_led word then number_after 0 word else None

-- the moment that the option's value gives
abbrev pub moment_in : List ℕ → List (List ℕ) → Option ℕ
moment_in name words = option_and_then number_of (option_in name words)

-- the number of the digits, from 1 up to the most that it may be
abbrev pub if_counted : ℕ → ℕ → Option ℕ
if_counted most n = if nat_le 1 n && nat_le n most then Some n else None

abbrev pub count_of : ℕ → List ℕ → Option ℕ
count_of most word = option_and_then (if_counted most) (number_of word)

-- the number that the option's value gives
abbrev pub count_in : List ℕ → ℕ → List (List ℕ) → Option ℕ
count_in name most words = option_and_then (count_of most) (option_in name words)
