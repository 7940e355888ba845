-- What is signed is short enough to be read where its claims are short.
use Rattle.std.specs.Prelude.{IfOk}
use Rattle.std.specs.List.{list_any}
use Rattle.std.proofs.Common.{◌≡◌, ◌≤◌, ◌<◌, ◌+◌, ◌^◌, ℕ, List, [], ◌∷◌, length, codes, true, false, Some, Ok, Err, lit≤, length-append, inl, inr, refl, ap, sym, subst, arith}
use Rattle.base64url.specs.Base64url.{base64url}
use Rattle.base64url.proofs.Canonical.{length-base64url}
use Rattle.sha2.specs.Sha256.{sha256}
use Rattle.sha2.proofs.Facts256.{length-sha256}
use Rattle.fed_base.specs.declared.algorithm.Alg.{Alg}
use Rattle.fed_base.specs.declared.algorithm.Alg.TheVariants.{Small, Fast}
use Rattle.fed_json.specs.declared.tree.Json.{Json}
use Rattle.fed_json.specs.Compact.{compact}
use Rattle.fed_json.specs.Members.{text_member}
use Rattle.http_messages.specs.declared.response.Media.{Media}
use Rattle.http_messages.specs.declared.response.Media.TheVariants.{Statement}
use Rattle.entity_statement.specs.Table.{statement_type}
use Rattle.jwk_set.specs.Thumbprints.{required_members, thumbprint_of}
use Rattle.jws_form.specs.Compact.{max_bytes, signing_input_of}
use Rattle.jws_form.specs.Header.{algorithm}
use Rattle.slh_dsa.specs.Algorithms.{signature_length}
use Rattle.slh_dsa.specs.Keys.{Keys}
use Rattle.slh_dsa.proofs.LengthLaws.{signature-short}
use Rattle.sealed.specs.Sealing.{header_of, sealed_payload, sealed_text, signature_by, signed_of, signer_key, signer_name}
use Rattle.node_config.specs.Nodes.{Subordinate}
use Rattle.authority_core.specs.Answers.{good}
use Rattle.authority_core.specs.Configurations.{StatesShortly}
use Rattle.authority_core.specs.Issued.{IsIssuedType, configuration_claims, is_short, statement_claims}
use Rattle.authority_core.specs.Lengths.{members_length}
use Rattle.authority_core.specs.Nodes.{Node, registered}
use Rattle.authority_core.proofs.LengthLaws.{object-short, text_member-length}
use Rattle.authority_core.proofs.Quoted.{hash-plain, is_escaped, quoted-plain}
use Rattle.authority_core.proofs.Responses.{Answer}
use Rattle.authority_core.proofs.StatementLengths.{algorithm-length, short-most, stated-about, stated-itself}

-- ---- the signature

most-bytes : (alg : Alg) → signature_length alg ≤ 17088
most-bytes Small = lit≤ tt
most-bytes Fast = lit≤ tt

most : (keys : Keys) (message : List ℕ) → length (signature_by keys message) ≤ 17088
most keys message = omega (arith, signature-short keys.alg keys.seeds message, most-bytes keys.alg)

-- ---- the header

-- no text that stands in a header is escaped: the names of the algorithms,
algorithm-plain : (alg : Alg) → list_any is_escaped (algorithm alg) ≡ false
algorithm-plain Small = refl
algorithm-plain Fast = refl

-- the name of the signer, of 43 characters,
name-plain : (keys : Keys) → list_any is_escaped (signer_name keys) ≡ false
unfolding signer_name thumbprint_of
name-plain keys = hash-plain (required_members keys.alg (signer_key keys))

name-length : (keys : Keys) → length (signer_name keys) ≡ 43
unfolding signer_name thumbprint_of
name-length keys =
    let text = required_members keys.alg (signer_key keys) in
    omega (arith, length-base64url (sha256 text), length-sha256 text)

-- and the type, of at most 25
record IsPlain (typ : List ℕ) : Type 0 where
  plain : list_any is_escaped typ ≡ false
  few : length typ ≤ 25

issued-plain : (typ : List ℕ) → IsIssuedType typ → IsPlain typ
issued-plain typ (inl is) = subst IsPlain (sym is) (record { plain = refl; few = lit≤ tt })
issued-plain typ (inr (inl is)) = subst IsPlain (sym is) (record { plain = refl; few = lit≤ tt })
issued-plain typ (inr (inr is)) = subst IsPlain (sym is) (record { plain = refl; few = lit≤ tt })

member-plain : (name text : List ℕ) → list_any is_escaped name ≡ false → list_any is_escaped text ≡ false → members_length (text_member name text ∷ []) ≡ length name + length text + 6
member-plain name text first second = omega (arith, text_member-length name text, quoted-plain name first, quoted-plain text second)

header-short : (keys : Keys) (typ : List ℕ) → IsPlain typ → length (compact (header_of keys.alg (signer_name keys) typ)) ≤ 114
header-short keys typ is =
    let name = signer_name keys in
    omega (
      arith,
      object-short (text_member (codes "alg") (algorithm keys.alg) ∷ text_member (codes "kid") name ∷ text_member (codes "typ") typ ∷ []),
      member-plain (codes "alg") (algorithm keys.alg) refl (algorithm-plain keys.alg),
      member-plain (codes "kid") name refl (name-plain keys),
      member-plain (codes "typ") typ refl is.plain,
      algorithm-length keys.alg,
      name-length keys,
      is.few,
    )

-- ---- the text

-- 152 and 22,784 characters, and four for three bytes of the claims
text-short : (keys : Keys) (typ payload : List ℕ) → IsPlain typ → length payload ≤ 179100 → length (sealed_payload keys typ payload) ≤ max_bytes
unfolding sealed_payload signed_of
text-short keys typ payload is few =
    let header = compact (header_of keys.alg (signer_name keys) typ) in
    let input = signing_input_of header payload in
    let signature = signature_by keys input in
    omega (
      arith,
      length-append input (46 ∷ base64url signature),
      length-append (base64url header) (46 ∷ base64url payload),
      length-base64url header,
      length-base64url payload,
      length-base64url signature,
      header-short keys typ is,
      most keys input,
      few,
    )

pub short-fit : (keys : Keys) (typ : List ℕ) (claims : Json) → IsIssuedType typ → is_short claims ≡ true → length (sealed_text keys typ claims) ≤ max_bytes
short-fit keys typ claims is short = text-short keys typ (compact claims) (issued-plain typ is) (omega (arith, short-most claims short))

-- an answer whose claims have at most 179,100 bytes is read
answer-short : (r : Answer) (media : Media) (keys : Keys) (claims : Json) → length (compact claims) ≤ 179100
    → IfOk r (λ x. x ≡ good media (sealed_text keys statement_type claims)) → IfOk r (λ x. length x.body ≤ max_bytes)
answer-short (Err e) media keys claims few is = tt
answer-short (Ok x) media keys claims few is = subst (λ text. length text ≤ max_bytes) (sym (ap (λ y. y.body) is)) (text-short keys statement_type (compact claims) (issued-plain statement_type (inl refl)) few)

-- so are the statements of a node, since their lengths were looked at
pub configuration-brief : (r : Answer) (node : Node) (t : ℕ) (keys : Keys) (claims : Json) → t < 2 ^ 64 → StatesShortly node → claims ≡ configuration_claims node t
    → IfOk r (λ x. x ≡ good Statement (sealed_text keys statement_type claims)) → IfOk r (λ x. length x.body ≤ max_bytes)
configuration-brief r node t keys claims small short made is =
    answer-short r Statement keys claims (subst (λ tree. length (compact tree) ≤ 179100) (sym made) (stated-itself node t small short)) is

pub statement-brief : (r : Answer) (node : Node) (t : ℕ) (sub : List ℕ) (keys : Keys) (s : Subordinate) (claims : Json) → t < 2 ^ 64 → StatesShortly node → registered sub node.settings ≡ Some s
    → claims ≡ statement_claims node.settings s t → IfOk r (λ x. x ≡ good Statement (sealed_text keys statement_type claims)) → IfOk r (λ x. length x.body ≤ max_bytes)
statement-brief r node t sub keys s claims small short found made is =
    answer-short r Statement keys claims (subst (λ tree. length (compact tree) ≤ 179100) (sym made) (stated-about node t sub s small short found)) is
