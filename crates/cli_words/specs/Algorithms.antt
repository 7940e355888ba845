-- The names of signature algorithms among the words.
use Rattle.std.specs.Prelude.{ℕ, List, codes, bytes_eq, Option, Some, None, unwrap_or, if◌then◌else◌}
use Rattle.std.specs.Option.{option_and_then}
use Rattle.fed_base.specs.declared.algorithm.Alg.{Alg}
use Rattle.fed_base.specs.declared.algorithm.Alg.TheVariants.{Fast, Small}
use Rattle.cli_words.specs.Options.{option_in}

-- the parameter set that the word names: SLH-DSA-SHA2-128s or SLH-DSA-SHA2-128f (FIPS 205 section 11)
abbrev pub alg_of : List ℕ → Option Alg
alg_of word = if bytes_eq word (codes "128s") then Some Small else (if bytes_eq word (codes "128f") then Some Fast else None)

-- the algorithm that the option's value names
abbrev pub alg_in : List (List ℕ) → Option Alg
alg_in words = option_and_then alg_of (option_in (codes "--alg") words)

-- the algorithm of a new key: the one that is named, or else the one of small signatures
abbrev pub alg_or_small : List (List ℕ) → Alg
alg_or_small words = unwrap_or (alg_in words) Small
