-- What `issue` seals verifies under the signer's key (RFC 7515 section 5.2).
use Rattle.std.specs.Prelude.{◌≡◌, ℕ, List, Option, Some}
use Rattle.fed_ports.specs.Bytes.{Appends}
use Rattle.fed_ports.specs.Stores.{Files, IsFile}
use Rattle.key_ring.specs.Rings.{Ring}
use Rattle.key_ring.specs.Sets.{signer_keys}
use Rattle.slh_dsa.specs.Keys.{Keys}
use Rattle.cli_words.specs.declared.command.Command.{Command}
use Rattle.cli_words.specs.declared.command.Command.TheVariants.{Issue}
use Rattle.cli_rings.specs.declared.reply.Reply.{Reply}
use Rattle.cli_words.specs.declared.text_type.TextType.{TextType}
use Rattle.cli_rings.specs.RingFiles.{IsOpened}
use Rattle.cli_rings.specs.SealedLines.{IsSealedLine}

-- a reply with status 0 is a sealed line by the signer of the ring
abbrev pub IsSealedBySigner : Ring → Reply → Type 0
IsSealedBySigner ring reply = reply.status ≡ 0 → (keys : Keys) × (signer_keys ring ≡ Some keys) × IsSealedLine keys reply.text

-- a reply with status 0 is so sealed by the signer of the ring in the file of that name
abbrev pub IsSealedFrom : List ℕ → Option Files → Reply → Type 0
IsSealedFrom name files reply = reply.status ≡ 0
    → (bytes : List ℕ) × (ring : Ring) × (keys : Keys) × IsFile files name (Some bytes) × IsOpened bytes ring × (signer_keys ring ≡ Some keys)
    × IsSealedLine keys reply.text

-- the reply of `issue` is so sealed by the signer of the ring in the file that the command names
abbrev pub RepliesSealed : Command → Option Files → Reply → Type 0
RepliesSealed command files reply = (name : List ℕ) (typ : TextType) (workers : ℕ) → command ≡ Issue name typ workers → IsSealedFrom name files reply

-- after `issue` has answered 0, whatever the number of workers, it has written a text and its line end, and the text is sealed by each
-- set in which the newest live key of the ring file that the command names stands under its thumbprint (RFC 7515 section 5.2, RFC 7638)
abbrev pub IssuesSealed : Command → Option Files → Option (List ℕ) → Option (List ℕ) → ℕ → Type 0
IssuesSealed command files held held' status = (name : List ℕ) (typ : TextType) (workers : ℕ) → command ≡ Issue name typ workers → status ≡ 0
    → (bytes : List ℕ) × (ring : Ring) × (keys : Keys) × (line : List ℕ) × IsFile files name (Some bytes) × IsOpened bytes ring
    × (signer_keys ring ≡ Some keys) × Appends held held' line × IsSealedLine keys line
