-- The command that the words behind its verb give.
use Rattle.std.specs.Prelude.{ℕ, List, [], ◌∷◌, ◌==◌, ◌&&◌, ◌||◌, length, codes, bytes_eq, Option, Some, None, is_some, unwrap_or, if◌then◌else◌}
use Rattle.std.specs.Option.{option_and_then}
use Rattle.base64url.specs.Base64url.{decoded_32}
use Rattle.entity_id.specs.Identifiers.{identifier_of}
use Rattle.fed_base.specs.declared.algorithm.Alg.{Alg}
use Rattle.cli_words.specs.Acts.{act_in}
use Rattle.cli_words.specs.Algorithms.{alg_in, alg_or_small}
use Rattle.cli_words.specs.TextTypes.{type_of}
use Rattle.cli_words.specs.Options.{count_in, option_in, moment_in}
use Rattle.cli_words.specs.declared.act.Act.{Act}
use Rattle.cli_words.specs.declared.command.Command.{Command}
use Rattle.cli_words.specs.declared.text_type.TextType.{TextType}
use Rattle.cli_words.specs.declared.command.Command.TheVariants.{Verify, Keygen, Issue, Rotate, Check, Help, Version, Faulty}

-- a flag stands alone
unfoldable pub flag_of : List ℕ → List (List ℕ) → Command
flag_of verb (word ∷ words) = Faulty
flag_of verb [] = if bytes_eq verb (codes "--help") then Help else (if bytes_eq verb (codes "--version") then Version else Faulty)

-- the command, where the key has its form
abbrev pub verify_with : Option (List ℕ) → Command
verify_with (Some key) = Verify key
verify_with None = Faulty

-- one public key: the base64url of its 32 bytes (RFC 4648 section 5)
unfoldable pub verify_of : List (List ℕ) → Command
verify_of [] = Faulty
verify_of (word ∷ []) = verify_with (decoded_32 word)
verify_of (word ∷ next ∷ words) = Faulty

-- the command, where all three are there
abbrev pub keygen_with : Option (List ℕ) → Alg → Option ℕ → Option ℕ → Command
keygen_with (Some ring) alg (Some at) (Some exp) = Keygen ring alg at exp
keygen_with (Some ring) alg (Some at) None = Faulty
keygen_with (Some ring) alg None exp = Faulty
keygen_with None alg at exp = Faulty

-- three options with their values, in any order, or these three and an algorithm: where so many pairs have these names, each stands once
unfoldable pub keygen_of : List (List ℕ) → Command
keygen_of words =
    if length words == 6 || (length words == 8 && is_some (alg_in words))
    then keygen_with (option_in (codes "--ring") words) (alg_or_small words) (moment_in (codes "--at") words) (moment_in (codes "--exp") words)
    else Faulty

-- the command, where both are there and the type is one that is issued
abbrev pub issue_with : Option (List ℕ) → Option TextType → ℕ → Command
issue_with (Some ring) (Some typ) workers = Issue ring typ workers
issue_with (Some ring) None workers = Faulty
issue_with None typ workers = Faulty

-- by how many workers a text is signed: from 1 to 16
abbrev pub workers_in : List (List ℕ) → Option ℕ
workers_in words = count_in (codes "--workers") 16 words

-- two options with their values, or these two and a number of workers, which else is 1; the type is that of entity statements, of trust
-- marks or of delegations (OpenID Federation 1.0 sections 3.1.1, 7.1 and 7.2.1)
unfoldable pub issue_of : List (List ℕ) → Command
issue_of words =
    if length words == 4 || (length words == 6 && is_some (workers_in words))
    then issue_with (option_in (codes "--ring") words) (option_and_then type_of (option_in (codes "--typ") words)) (unwrap_or (workers_in words) 1)
    else Faulty

-- the command, where the file and the change are there
abbrev pub rotate_with : Option (List ℕ) → Option Act → Command
rotate_with (Some ring) (Some act) = Rotate ring act
rotate_with (Some ring) None = Faulty
rotate_with None act = Faulty

-- a ring file and a change of its ring
unfoldable pub rotate_of : List (List ℕ) → Command
rotate_of words = rotate_with (option_in (codes "--ring") words) (act_in words)

-- the command, where the anchor and the file are there; a moment may be absent
abbrev pub check_with : Option (List ℕ) → Option (List ℕ) → Option ℕ → Command
check_with (Some anchor) (Some keys) at = Check anchor keys at
check_with (Some anchor) None at = Faulty
check_with None keys at = Faulty

-- two options with their values, or these two and a moment
unfoldable pub check_of : List (List ℕ) → Command
check_of words =
    if length words == 4 || (length words == 6 && is_some (moment_in (codes "--at") words))
    then check_with (option_and_then identifier_of (option_in (codes "--anchor") words)) (option_in (codes "--keys") words) (moment_in (codes "--at") words)
    else Faulty
