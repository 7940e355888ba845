-- How many parameters a rehearsal has.
use Rattle.std.specs.Prelude.{ℕ, List, ◌==◌, length, codes, nat_le, Option, Some, None, if◌then◌else◌}
use Rattle.std.specs.Option.{option_and_then}
use Rattle.cli_words.specs.Options.{number_of, option_in}

-- the number of the digits, from 0 to 200
abbrev pub if_few : ℕ → Option ℕ
if_few n = if nat_le n 200 then Some n else None

abbrev pub params_of : List ℕ → Option ℕ
params_of word = option_and_then if_few (number_of word)

-- one option with its value
unfoldable pub rehearsal_of : List (List ℕ) → Option ℕ
rehearsal_of words = if length words == 2 then option_and_then params_of (option_in (codes "--params") words) else None
