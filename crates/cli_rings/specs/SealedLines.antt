-- What `issue` seals verifies under the signer's key (RFC 7515 section 5.2).
use Rattle.std.specs.Prelude.{◌≡◌, ℕ, List, [], ◌∷◌, ◌++◌}
use Rattle.sealed.specs.Sealing.{IsSealedFor}
use Rattle.slh_dsa.specs.Keys.{Keys}
use Rattle.cli_rings.specs.declared.reply.Reply.{Reply}

-- a line is a text that each set seals in which the key of this pair stands under its thumbprint (RFC 7638), up to 262,144 bytes,
-- and its line end
abbrev pub IsSealedLine : Keys → List ℕ → Type 0
IsSealedLine keys line = (text : List ℕ) × (line ≡ text ++ 10 ∷ []) × IsSealedFor keys text

-- a reply with status 0 is such a line
abbrev pub IsSealedReply : Keys → Reply → Type 0
IsSealedReply keys reply = reply.status ≡ 0 → IsSealedLine keys reply.text
