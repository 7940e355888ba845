-- One key of a set (RFC 7517 section 4): a key of one of this project's algorithms, or a foreign one.
use Rattle.std.specs.Prelude.{ℕ, List, length, codes, bytes_eq, Bool, false, ◌&&◌, not, nat_lt, Option, Some, None, is_some, is_none, if◌then◌else◌}
use Rattle.std.specs.Option.{option_and_then, option_map_or}
use Rattle.std.specs.Str.{is_utf8}
use Rattle.fed_base.specs.declared.algorithm.Alg.{Alg}
use Rattle.fed_base.specs.Values.{◌>>=◌}
use Rattle.base64url.specs.Base64url.{decoded_32}
use Rattle.fed_json.specs.declared.tree.Json.{Json}
use Rattle.fed_json.specs.declared.tree.Member.{Member}
use Rattle.fed_json.specs.Trees.{as_object, find, text_at}
use Rattle.fed_json.specs.Forms.{has_odd, well_formed}
use Rattle.jws_form.specs.Header.{algorithm_of}
use Rattle.jwk_set.specs.declared.jwk.Jwk.{Jwk}
use Rattle.jwk_set.specs.declared.jwk.Jwk.TheVariants.{Own, Foreign}

-- the `kty` of this project's keys (draft-ietf-cose-sphincs-plus)
abbrev pub key_type : List ℕ
key_type = codes "AKP"

-- the member of that name is that text (RFC 7517 section 4)
abbrev pub is_text_at : List ℕ → List ℕ → List Member → Bool
is_text_at name text members = option_map_or (λ t. bytes_eq t text) (text_at name members) false

-- the algorithm that the members name, where it is one of this project's (RFC 7517 section 4.4)
unfoldable pub algorithm_at : List Member → Option Alg
algorithm_at members = option_and_then algorithm_of (text_at (codes "alg") members)

-- the members are those of a key of this project (RFC 7517 sections 4.1 and 4.4)
unfoldable pub is_own : List Member → Bool
is_own members = is_text_at (codes "kty") key_type members && is_some (algorithm_at members)

-- the text, where it isn't empty
abbrev pub unless_empty : List ℕ → Option (List ℕ)
unless_empty text = if nat_lt 0 (length text) then Some text else None

-- the name of a key: a text that isn't empty (RFC 7517 section 4.5)
abbrev pub name_at : List Member → Option (List ℕ)
name_at members = option_and_then unless_empty (text_at (codes "kid") members)

-- the public key: 32 bytes in base64url (FIPS 205 section 9.1)
abbrev pub public_at : List Member → Option (List ℕ)
public_at members = option_and_then decoded_32 (text_at (codes "pub") members)

-- such a key has a name, an algorithm, a public key, and no private part
unfoldable pub own_key : List Member → Option Jwk
own_key members =
    if is_some (find (codes "priv") members) then None
    else (do
      kid ← name_at members
      alg ← algorithm_at members
      public ← public_at members
      Some (Own kid alg public))

-- the key with these members, by its type (RFC 7517 section 4.1) and its algorithm
unfoldable pub key_of : Json → List Member → Option Jwk
key_of tree members =
    if is_none (text_at (codes "kty") members) then None
    else if is_own members then own_key members
    else Some (Foreign tree)

-- the key that a member of a set is, where it has the form of one: an object without an Odd
unfoldable pub key_in : Json → Option Jwk
key_in tree = if has_odd tree then None else option_and_then (key_of tree) (as_object tree)

-- the tree is a foreign key, which is kept as it is
unfoldable pub is_foreign : Json → Bool
is_foreign tree = not (has_odd tree)
    && option_map_or (λ members. is_some (text_at (codes "kty") members) && not (is_own members)) (as_object tree) false

-- the key can stand in a set
abbrev pub is_key : Jwk → Bool
is_key (Own kid alg public) = nat_lt 0 (length kid) && is_utf8 kid
is_key (Foreign tree) = well_formed tree && is_foreign tree
