-- What a text says as a resolver's reply (OpenID Federation 1.0 section 8.3.2).
use Rattle.std.specs.Prelude.{◌≡◌, ℕ, List, [], codes, Option, Some, None, Ok, if◌then◌else◌}
use Rattle.std.specs.Option.{option_map_or}
use Rattle.std.specs.Result.{result_ok}
use Rattle.fed_base.specs.Values.{◌>>=◌}
use Rattle.fed_json.specs.declared.tree.Json.{Json}
use Rattle.fed_json.specs.declared.tree.Member.{Member}
use Rattle.fed_json.specs.Reading.{tree_in}
use Rattle.fed_json.specs.Trees.{as_object, find, texts_of}
use Rattle.jws_form.specs.declared.compact.Compact.{Compact}
use Rattle.jws_form.specs.Splitting.{long_splitting}
use Rattle.jwk_set.specs.declared.jwk.Jwk.{Jwk}
use Rattle.sealed.specs.Seals.{named_key}
use Rattle.slh_dsa.specs.Verifying.{Verifies}
use Rattle.entity_statement.specs.declared.marks.MarkEntry.{MarkEntry}
use Rattle.entity_statement.specs.Claims.{Identifier}
use Rattle.entity_statement.specs.Forms.{identifier, marks_of, metadata_of, moment}
use Rattle.trust_mark.specs.Claims.{has_type}
use Rattle.trust_mark.specs.declared.signed.Signed.{Signed}
use Rattle.resolve_reply.specs.declared.said.Said.{Said}
use Rattle.resolve_reply.specs.Replies.{reply_type}
use Rattle.reply_check.specs.declared.claimed.Claimed.{Claimed}

-- ---- claims

-- an identifier, and a moment, that must be there (section 8.3.2, `iss` and `sub`, `iat` and `exp`)
unfoldable pub identifier_at : List ℕ → List Member → Option Identifier
identifier_at name members = find name members >>= identifier

unfoldable pub moment_at : List ℕ → List Member → Option ℕ
moment_at name members = find name members >>= moment

-- the marks, of which there are none where the claim is absent (section 8.3.2, `trust_marks`)
unfoldable pub marks_at : List Member → Option (List MarkEntry)
marks_at members = option_map_or marks_of (find (codes "trust_marks") members) (Some [])

-- the metadata, and the texts of the chain (section 8.3.2, `metadata` and `trust_chain`)
unfoldable pub metadata_at : List Member → Option Json
metadata_at members = find (codes "metadata") members >>= metadata_of

unfoldable pub chain_at : List Member → Option (List (List ℕ))
chain_at members = find (codes "trust_chain") members >>= texts_of

-- what is said of this entity, issued and ending at these moments (section 8.3.2)
unfoldable pub said_of : Identifier → ℕ → ℕ → List Member → Option Said
said_of sub iat exp members = do
  metadata ← metadata_at members
  chain ← chain_at members
  marks ← marks_at members
  Some (record { sub = sub; iat = iat; exp = exp; metadata = metadata; chain = chain; marks = marks })

-- what the members of a reply's payload say (section 8.3.2)
unfoldable pub said_in : List Member → Option Said
said_in members = do
  iat ← moment_at (codes "iat") members
  exp ← moment_at (codes "exp") members
  sub ← identifier_at (codes "sub") members
  said_of sub iat exp members

-- the same with who says it (section 8.3.2, `iss`)
unfoldable pub claimed_in : List Member → Option Claimed
claimed_in members = do
  iss ← identifier_at (codes "iss") members
  said ← said_in members
  Some (record { iss = iss; said = said })

-- ---- texts

-- the claims of a compact text of this type, whose payload is the JSON text of an object
unfoldable pub claims_of : Compact → Option Claimed
claims_of c = if has_type reply_type c.typ then (tree_in c.payload >>= as_object) >>= claimed_in else None

-- the reply that a text is, whatever its length, where it is one
unfoldable pub reply_of : List ℕ → Option Claimed
reply_of text = result_ok (long_splitting text) >>= claims_of

-- the text reads as this, and these are its parts; or it reads as nothing
abbrev pub IsReading : List ℕ → Option (Signed Claimed) → Type 0
IsReading text (Some s) = (reply_of text ≡ Some s.claims) × (long_splitting text ≡ Ok s.compact)
IsReading text None = reply_of text ≡ None

-- a compact text verifies under the own key of the set that its header names, by its `kid` and its `alg` (RFC 7515 sections 4.1.1,
-- 4.1.4 and 5.2)
pub record IsSignedBy (compact : Compact) (keys : List Jwk) : Type 0 where
  pub public : List ℕ
  pub named : named_key compact keys ≡ Some public
  pub verifies : Verifies compact.alg public compact.signed compact.signature

-- the text, whatever its length, does
pub record IsSealedReply (text : List ℕ) (keys : List Jwk) : Type 0 where
  pub compact : Compact
  pub splits : long_splitting text ≡ Ok compact
  pub signed : IsSignedBy compact keys
