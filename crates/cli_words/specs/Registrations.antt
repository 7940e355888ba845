-- What the words of `register` ask for: a file and a trust anchor.
use Rattle.std.specs.Prelude.{ℕ, List, ◌==◌, length, codes, Option, Some, None, if◌then◌else◌}
use Rattle.cli_words.specs.Options.{option_in}
use Rattle.cli_words.specs.Services.{identifier_in}
use Rattle.cli_words.specs.declared.registration.Registration.{Registration}

-- both are there
abbrev pub registration_with : Option (List ℕ) → Option (List ℕ) → Option Registration
registration_with (Some config) (Some anchor) = Some (record { config_file = config; anchor = anchor })
registration_with (Some config) None = None
registration_with None anchor = None

-- two options with their values: a file, and a trust anchor
unfoldable pub registration_in : List (List ℕ) → Option Registration
registration_in words =
    if length words == 4
    then registration_with (option_in (codes "--config") words) (identifier_in (codes "--anchor") words)
    else None
