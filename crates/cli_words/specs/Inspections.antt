-- What the words behind a verb ask to be shown.
use Rattle.std.specs.Prelude.{ℕ, ◌+◌, List, [], ◌∷◌, ◌==◌, ◌&&◌, ◌||◌, length, codes, Bool, Option, Some, None, option_map, is_some, if◌then◌else◌}
use Rattle.entity_id.specs.Identifiers.{identifier_of}
use Rattle.fed_base.specs.Values.{◌>>=◌}
use Rattle.cli_help.specs.Verbs.{verb_of}
use Rattle.cli_words.specs.Options.{option_in, moment_in, says_yes}
use Rattle.cli_words.specs.declared.inspection.Inspection.{Inspection}
use Rattle.cli_words.specs.declared.inspection.Inspection.TheVariants.{Public, Show, Config, Help, Reply}
use Rattle.cli_words.specs.declared.inspection.ReplyAsked.{ReplyAsked}

-- the keys of a ring file: an option with its value, or this one and the name of a key
unfoldable pub public_of : List (List ℕ) → Option Inspection
public_of words =
    if length words == 2 || (length words == 4 && is_some (option_in (codes "--kid") words))
    then option_map (λ ring. Public ring (option_in (codes "--kid") words)) (option_in (codes "--ring") words)
    else None

-- what is warned of is refused
abbrev pub is_strict : List (List ℕ) → Bool
is_strict words = says_yes (codes "--strict") words

-- how many words there are, where an option that may be absent is there or isn't
abbrev pub words_for : Bool → ℕ
words_for there = if there then 2 else 0

-- of a signed text its claims alone
abbrev pub wants_claims : List (List ℕ) → Bool
wants_claims words = says_yes (codes "--claims") words

-- the input, and beside it that the claims alone are wanted
unfoldable pub show_of : List (List ℕ) → Option Inspection
show_of words = if length words == words_for (wants_claims words) then Some (Show (wants_claims words)) else None

-- the node of a configuration file: an option with its value, and beside it a moment, that what is warned of is refused, or both
unfoldable pub config_of : List (List ℕ) → Option Inspection
config_of words =
    if length words == 2 + words_for (is_some (moment_in (codes "--at") words)) + words_for (is_strict words)
    then option_map (λ config. Config config (moment_in (codes "--at") words) (is_strict words)) (option_in (codes "--config") words)
    else None

-- a resolver's reply, of the values of its options
unfoldable pub asked_in : List (List ℕ) → Option ReplyAsked
asked_in words = do
  keys ← option_in (codes "--keys") words
  anchor_keys ← option_in (codes "--anchor-keys") words
  anchor ← option_in (codes "--anchor") words >>= identifier_of
  Some (record { keys_file = keys; anchor = anchor; anchor_keys_file = anchor_keys; at = moment_in (codes "--at") words })

-- three options with their values, or these three and a moment
unfoldable pub reply_check_of : List (List ℕ) → Option Inspection
reply_check_of words =
    if length words == 6 || (length words == 8 && is_some (moment_in (codes "--at") words)) then option_map Reply (asked_in words) else None

-- how one command is called
unfoldable pub help_of : List (List ℕ) → Option Inspection
help_of [] = None
help_of (word ∷ []) = option_map Help (verb_of word)
help_of (word ∷ next ∷ words) = None
