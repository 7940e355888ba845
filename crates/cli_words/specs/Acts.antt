-- The change of a ring that the words of `rotate` give.
use Rattle.std.specs.Prelude.{ℕ, List, ◌==◌, ◌&&◌, ◌||◌, length, codes, bytes_eq, Option, Some, None, is_some, if◌then◌else◌}
use Rattle.std.specs.Option.{option_and_then}
use Rattle.fed_base.specs.declared.algorithm.Alg.{Alg}
use Rattle.key_ring.specs.Readings.{reason_in}
use Rattle.key_ring.specs.declared.key.RevokeReason.{RevokeReason}
use Rattle.cli_words.specs.Algorithms.{alg_in, alg_or_small}
use Rattle.cli_words.specs.Options.{option_in, moment_in}
use Rattle.cli_words.specs.declared.act.Act.{Act}
use Rattle.cli_words.specs.declared.act.Act.TheVariants.{Add, Retire, Revoke}

-- the change, where both moments are there
abbrev pub add_with : Alg → Option ℕ → Option ℕ → Option Act
add_with alg (Some at) (Some exp) = Some (Add alg at exp)
add_with alg (Some at) None = None
add_with alg None exp = None

-- a new key: four options with their values, two of which are its moments, or these four and its algorithm
unfoldable pub add_in : List (List ℕ) → Option Act
add_in words =
    if length words == 8 || (length words == 10 && is_some (alg_in words))
    then add_with (alg_or_small words) (moment_in (codes "--at") words) (moment_in (codes "--exp") words)
    else None

-- the change, where the name is there
abbrev pub retire_with : Option (List ℕ) → Option Act
retire_with (Some kid) = Some (Retire kid)
retire_with None = None

-- a key is retired: three options with their values, one of which is its name
unfoldable pub retire_in : List (List ℕ) → Option Act
retire_in words = if length words == 6 then retire_with (option_in (codes "--kid") words) else None

-- the reason of a revocation (OpenID Federation 1.0 section 8.7.3)
abbrev pub reason_at : List (List ℕ) → Option RevokeReason
reason_at words = option_and_then reason_in (option_in (codes "--reason") words)

-- the change, where all three are there
abbrev pub revoke_with : Option (List ℕ) → Option ℕ → Option RevokeReason → Option Act
revoke_with (Some kid) (Some at) (Some reason) = Some (Revoke kid at reason)
revoke_with (Some kid) (Some at) None = None
revoke_with (Some kid) None reason = None
revoke_with None at reason = None

-- a key is revoked: five options with their values, three of which are its name, a moment and a reason
unfoldable pub revoke_in : List (List ℕ) → Option Act
revoke_in words =
    if length words == 10 then revoke_with (option_in (codes "--kid") words) (moment_in (codes "--at") words) (reason_at words) else None

-- the change of that name
unfoldable pub act_named : List ℕ → List (List ℕ) → Option Act
act_named act words =
    if bytes_eq act (codes "add") then add_in words
    else (if bytes_eq act (codes "retire") then retire_in words
    else (if bytes_eq act (codes "revoke") then revoke_in words
    else None))

-- the change that the option `--act` names
unfoldable pub act_in : List (List ℕ) → Option Act
act_in words = option_and_then (λ act. act_named act words) (option_in (codes "--act") words)
