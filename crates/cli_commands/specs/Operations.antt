-- What each command makes of its file, and then of its input.
use Rattle.std.specs.Prelude.{◌≡◌, ◌≤◌, ◌⊎◌, ℕ, List, [], ◌∷◌, ◌++◌, length, codes, Option, Some, None, unwrap_or}
use Rattle.fed_base.specs.declared.algorithm.Alg.{Alg}
use Rattle.fed_ports.specs.Stores.{file_limit}
use Rattle.key_ring.specs.Changes.{retire_key, revoke_key}
use Rattle.key_ring.specs.Rings.{Ring}
use Rattle.key_ring.specs.Sets.{signer_keys}
use Rattle.slh_dsa.specs.Keys.{Keys}
use Rattle.cli_words.specs.declared.act.Act.{Act}
use Rattle.cli_words.specs.declared.act.Act.TheVariants.{Add, Retire, Revoke}
use Rattle.cli_words.specs.declared.command.Command.{Command}
use Rattle.cli_words.specs.declared.command.Command.TheVariants.{Verify, Keygen, Issue, Rotate, Check, Help, Version, Faulty}
use Rattle.cli_help.specs.declared.overview.TheConstants.{HELP, VERSION}
use Rattle.cli_rings.specs.declared.reply.Reply.{Reply}
use Rattle.cli_commands.specs.declared.operation.Operation.{Operation}
use Rattle.cli_commands.specs.declared.operation.Operation.TheVariants as operation
use Rattle.cli_commands.specs.declared.operation.Prepared.{Prepared}
use Rattle.cli_words.specs.declared.text_type.TextType.{TextType}
use Rattle.cli_commands.specs.declared.operation.Prepared.TheVariants.{Answered, WantsInput}
use Rattle.cli_commands.specs.Checks.{IsChecked, chain_in, keys_in}
use Rattle.cli_commands.specs.Findings.{IsVerified}
use Rattle.cli_rings.specs.Issues.{issue_reply}
use Rattle.cli_rings.specs.Keygens.{keygen_reply}
use Rattle.cli_rings.specs.Replies.{plain, bad_input, refused}
use Rattle.cli_rings.specs.RingFiles.{IsRingFound}
use Rattle.cli_rings.specs.Rotations.{add_reply, change_reply}
use Rattle.jwk_set.specs.declared.set.JwkSet.{JwkSet}

-- claims wait to be sealed by the signer of a ring, as a text of this type, by so many workers
abbrev pub issue_prepared : TextType → ℕ → Option Ring → Prepared
issue_prepared typ workers (Some ring) = WantsInput (operation.Issue ring typ workers)
issue_prepared typ workers None = Answered bad_input

-- seeds wait to be added to a ring; another change is made of the ring alone
abbrev pub rotate_prepared : Act → Option Ring → Prepared
rotate_prepared (Add alg at exp) (Some ring) = WantsInput (operation.Add ring alg at exp)
rotate_prepared (Retire kid) (Some ring) = Answered (change_reply ring (retire_key kid) (codes "done"))
rotate_prepared (Revoke kid at reason) (Some ring) = Answered (change_reply ring (revoke_key kid at reason) (codes "done"))
rotate_prepared act None = Answered bad_input

-- what is made of the ring of a file
abbrev pub IsRingPrepared : (Option Ring → Prepared) → Option (List ℕ) → Prepared → Type 0
IsRingPrepared make file prepared = (found : Option Ring) × IsRingFound file found × (prepared ≡ make found)

-- a key is made only where no file has the ring's name
abbrev pub IsKeygenPrepared : Alg → ℕ → ℕ → Option (List ℕ) → Prepared → Type 0
IsKeygenPrepared alg at exp None prepared = prepared ≡ WantsInput (operation.Keygen alg at exp)
IsKeygenPrepared alg at exp (Some bytes) prepared = prepared ≡ Answered (refused (codes "Exists"))

-- a chain waits to be checked under the keys of a file; another file, one that is too long, or none isn't of the form
abbrev pub IsCheckPrepared : List ℕ → ℕ → Option (List ℕ) → Prepared → Type 0
IsCheckPrepared anchor at None prepared = prepared ≡ Answered bad_input
IsCheckPrepared anchor at (Some bytes) prepared =
    ((keys : JwkSet) × (length bytes ≤ file_limit) × (keys_in bytes ≡ Some keys.keys) × (prepared ≡ WantsInput (operation.Check anchor keys at)))
    ⊎ ((length bytes ≤ file_limit → keys_in bytes ≡ None) × (prepared ≡ Answered bad_input))

-- what each command makes of its file, and of the moment
abbrev pub IsPrepared : Command → ℕ → Option (List ℕ) → Prepared → Type 0
IsPrepared (Verify key) moment file prepared = prepared ≡ WantsInput (operation.Verify key)
IsPrepared (Keygen ring alg at exp) moment file prepared = IsKeygenPrepared alg at exp file prepared
IsPrepared (Issue ring typ workers) moment file prepared = IsRingPrepared (issue_prepared typ workers) file prepared
IsPrepared (Rotate ring act) moment file prepared = IsRingPrepared (rotate_prepared act) file prepared
IsPrepared (Check anchor keys at) moment file prepared = IsCheckPrepared anchor (unwrap_or at moment) file prepared
IsPrepared Help moment file prepared = prepared ≡ Answered (plain 0 HELP.now)
IsPrepared Version moment file prepared = prepared ≡ Answered (plain 0 VERSION.now)
IsPrepared Faulty moment file prepared = prepared ≡ Answered (plain 2 (codes "words" ++ 10 ∷ []))

-- claims are sealed by the ring's signer, as a text of this type; by how many workers doesn't show
abbrev pub IsIssued : Ring → TextType → List ℕ → Reply → Type 0
IsIssued ring typ text reply = (keys : Keys) × (signer_keys ring ≡ Some keys) × (reply ≡ issue_reply keys typ text)

-- the reply of an operation on a text that was read whole
abbrev pub IsPerformedOn : Operation → List ℕ → Reply → Type 0
IsPerformedOn (operation.Verify key) text reply = IsVerified key text reply
IsPerformedOn (operation.Keygen alg at exp) text reply = reply ≡ keygen_reply alg at exp text
IsPerformedOn (operation.Issue ring typ workers) text reply = IsIssued ring typ text reply
IsPerformedOn (operation.Add ring alg at exp) text reply = reply ≡ add_reply ring alg at exp text
IsPerformedOn (operation.Check anchor keys at) text reply = IsChecked anchor at (Some keys.keys) (chain_in text) reply.status reply.text × (reply.kept ≡ None)

-- what is made of an input without its line end, or of one that is too long
abbrev pub IsPerformed : Operation → Option (List ℕ) → Reply → Type 0
IsPerformed work None reply = reply ≡ bad_input
IsPerformed work (Some text) reply = IsPerformedOn work text reply

-- what is made of an input where it is wanted
abbrev pub IsOutcome : Prepared → Option (List ℕ) → Reply → Type 0
IsOutcome (Answered reply') input reply = reply ≡ reply'
IsOutcome (WantsInput work) input reply = IsPerformed work input reply
