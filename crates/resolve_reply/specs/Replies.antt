-- What a reply claims, and its text (OpenID Federation 1.0 section 8.3.2).
use Rattle.std.specs.Prelude.{◌≡◌, ◌≤◌, ◌<◌, ◌^◌, ℕ, List, [], ◌∷◌, ◌++◌, length, map, fold, min, codes, bytes_eq, Bool, not, if◌then◌else◌, Option, Some, IsTrue}
use Rattle.std.specs.List.{filter, list_all, list_any}
use Rattle.std.specs.Option.{option_map_or}
use Rattle.std.specs.Str.{IsUtf8, is_utf8}
use Rattle.fed_base.specs.Values.{◌>>=◌}
use Rattle.fed_json.specs.declared.tree.Json.{Json, Text, Object, List as ListOf}
use Rattle.fed_json.specs.declared.tree.Member.{Member}
use Rattle.fed_json.specs.Compact.{compact}
use Rattle.fed_json.specs.Forms.{IsWhole, nesting}
use Rattle.fed_json.specs.Members.{number_member, text_member}
use Rattle.fed_json.specs.Reading.{member_of, tree_in}
use Rattle.fed_json.specs.Trees.{find, object_members, texts_of}
use Rattle.jws_form.specs.Compact.{max_bytes}
use Rattle.sealed.specs.Sealing.{HasParts, sealed_text}
use Rattle.slh_dsa.specs.Keys.{Keys}
use Rattle.entity_statement.specs.Claims.{Identifier, mark_utf8}
use Rattle.entity_statement.specs.declared.marks.MarkEntry.{MarkEntry}
use Rattle.trust_mark.specs.declared.mark.Mark.{Mark}
use Rattle.resolve_reply.specs.declared.signer.Signer.{Signer}
use Rattle.resolve_reply.specs.declared.reply.Reply.{Reply}
use Rattle.resolve_reply.specs.declared.said.Said.{Said}

-- ---- metadata

-- the member is of a wanted type (section 8.3.1, `entity_type`)
abbrev pub is_wanted : List (List ℕ) → Member → Bool
is_wanted types m = list_any (bytes_eq m.name) types

-- the metadata of the wanted types, and of all where no type is named (section 8.3.1, `entity_type`)
unfoldable pub cut_to : List (List ℕ) → Json → Json
cut_to [] metadata = metadata
cut_to (t ∷ types) metadata = Object (filter (is_wanted (t ∷ types)) (object_members metadata))

-- ---- the end

-- the least of a moment and the end of a mark; a mark without one never ends (section 7.1, `exp`)
abbrev pub least_end : ℕ → Option ℕ → ℕ
least_end least end = option_map_or (min least) end least

-- the least of a chain's end and those of marks (section 8.3.2, `exp`)
abbrev pub least_with : ℕ → List Mark → ℕ
least_with exp marks = fold (λ least mark. least_end least mark.exp) exp marks

-- ---- claims

-- the entry of a mark (section 3.1.2, `trust_marks`)
abbrev pub mark_tree : MarkEntry → Json
mark_tree entry = Object (text_member (codes "trust_mark") entry.text ∷ text_member (codes "trust_mark_type") entry.mark_type ∷ [])

-- the claim of the marks, where there is one (section 8.3.2, `trust_marks`)
abbrev pub marks_member : List MarkEntry → List Member
marks_member [] = []
marks_member (entry ∷ entries) = member_of (codes "trust_marks") (ListOf (map mark_tree (entry ∷ entries))) ∷ []

-- the claims that each reply has, with their members in byte order (section 8.3.2)
abbrev pub common_members : Identifier → Said → List Member
common_members iss said =
    number_member (codes "exp") said.exp
    ∷ number_member (codes "iat") said.iat
    ∷ text_member (codes "iss") iss
    ∷ member_of (codes "metadata") said.metadata
    ∷ text_member (codes "sub") said.sub
    ∷ member_of (codes "trust_chain") (ListOf (map Text said.chain))
    ∷ []

-- the claims of a reply (section 8.3.2)
unfoldable pub reply_claims : Identifier → Said → Json
reply_claims iss said = Object (common_members iss said ++ marks_member said.marks)

-- what is said can be written as JSON (RFC 8259 section 8.1)
pub record IsWritable (said : Said) : Type 0 where
  pub metadata : IsWhole said.metadata
  pub chain : IsTrue (list_all is_utf8 said.chain)
  pub marks : IsTrue (list_all mark_utf8 said.marks)

-- these are the claims of a reply, and can be written as JSON with any end
pub record SaysReply (claims : Json) : Type 0 where
  pub iss : Identifier
  pub said : Said
  pub claims_are : claims ≡ reply_claims iss said
  pub writable : IsWritable said
  pub iat : said.iat < 2 ^ 64
  pub iss_utf8 : IsUtf8 iss
  pub sub_utf8 : IsUtf8 said.sub

-- ---- the same claims with another end and other marks

-- the member is not the claim of the marks
abbrev pub is_unmarked : Member → Bool
is_unmarked m = not (bytes_eq m.name (codes "trust_marks"))

-- the member, where it is the claim `exp` with this end
abbrev pub with_end : ℕ → Member → Member
with_end exp m = if bytes_eq m.name (codes "exp") then number_member (codes "exp") exp else m

-- the claims of a reply with this end and these marks (section 8.3.2)
unfoldable pub resealed_claims : Json → ℕ → List MarkEntry → Json
resealed_claims claims exp marks = Object (map (with_end exp) (filter is_unmarked (object_members claims)) ++ marks_member marks)

-- the trust chain that claims carry, a list of texts (section 8.3.2, `trust_chain`)
unfoldable pub chain_of : Json → Option (List (List ℕ))
chain_of claims = find (codes "trust_chain") (object_members claims) >>= texts_of

-- ---- texts

-- the header's type of a reply (section 8.3.2)
abbrev pub reply_type : List ℕ
reply_type = codes "resolve-response+jwt"

-- the reply claims what is said, and its text is these claims, sealed by the signer
pub record IsReplyOf (signer : Signer) (said : Said) (reply : Reply) : Type 0 where
  pub claims : reply.claims ≡ reply_claims signer.iss said
  pub text : reply.text ≡ sealed_text signer.keys reply_type reply.claims

-- what a reader of these claims' text gets
pub record ReadsBack (keys : Keys) (claims : Json) (text : List ℕ) : Type 0 where
  -- of a text that isn't too long: the signer's algorithm and name, this type, and the claims' text (RFC 7515 section 5.2)
  pub splits : length text ≤ max_bytes → HasParts keys reply_type (compact claims) text
  -- and of that the claims, where they are nested at most 127 deep
  pub reads_back : nesting claims ≤ 127 → tree_in (compact claims) ≡ Some claims
