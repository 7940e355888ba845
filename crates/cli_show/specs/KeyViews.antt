-- Keys as they are shown: what they are for and their thumbprints, and nothing of a key itself, public or private (RFC 7517, RFC 7638).
use Rattle.std.specs.Prelude.{ℕ, List, [], ◌∷◌, ◌++◌, filter, codes, bytes_eq, Bool, ◌||◌, Option, Some, None, is_some, if◌then◌else◌}
use Rattle.sha2.specs.Sha256.{sha256}
use Rattle.base64url.specs.Base64url.{base64url}
use Rattle.fed_base.specs.Values.{◌>>=◌}
use Rattle.fed_json.specs.declared.tree.Json.{Json, Null, Bool as Truth, Int, Odd, Text, List as ListOf, Object, fold-Json}
use Rattle.fed_json.specs.declared.tree.Json.TheOpen.{Json-F, Member-F}
use Rattle.fed_json.specs.declared.tree.Member.{Member}
use Rattle.fed_json.specs.Members.{text_member}
use Rattle.fed_json.specs.Reading.{member_of}
use Rattle.fed_json.specs.Trees.{text_at}

-- the members that the thumbprint of a key covers, by its type, as compact JSON in byte order (RFC 7638 section 3.2, RFC 8037 section 2)
abbrev pub covered_rsa : List Member → Option (List ℕ)
covered_rsa members = do
  e ← text_at (codes "e") members
  n ← text_at (codes "n") members
  Some (codes "{\"e\":\"" ++ (e ++ (codes "\",\"kty\":\"RSA\",\"n\":\"" ++ (n ++ codes "\"}"))))

abbrev pub covered_ec : List Member → Option (List ℕ)
covered_ec members = do
  crv ← text_at (codes "crv") members
  x ← text_at (codes "x") members
  y ← text_at (codes "y") members
  Some (codes "{\"crv\":\"" ++ (crv ++ (codes "\",\"kty\":\"EC\",\"x\":\"" ++ (x ++ (codes "\",\"y\":\"" ++ (y ++ codes "\"}"))))))

abbrev pub covered_okp : List Member → Option (List ℕ)
covered_okp members = do
  crv ← text_at (codes "crv") members
  x ← text_at (codes "x") members
  Some (codes "{\"crv\":\"" ++ (crv ++ (codes "\",\"kty\":\"OKP\",\"x\":\"" ++ (x ++ codes "\"}"))))

-- that of this project's keys (draft-ietf-cose-sphincs-plus)
abbrev pub covered_akp : List Member → Option (List ℕ)
covered_akp members = do
  alg ← text_at (codes "alg") members
  public ← text_at (codes "pub") members
  Some (codes "{\"alg\":\"" ++ (alg ++ (codes "\",\"kty\":\"AKP\",\"pub\":\"" ++ (public ++ codes "\"}"))))

-- of any other type none is told
abbrev pub covered_by : List ℕ → List Member → Option (List ℕ)
covered_by kty members =
    if bytes_eq kty (codes "RSA") then covered_rsa members
    else if bytes_eq kty (codes "EC") then covered_ec members
    else if bytes_eq kty (codes "OKP") then covered_okp members
    else if bytes_eq kty (codes "AKP") then covered_akp members
    else None

-- the thumbprint of a key with these members (RFC 7638 section 3)
unfoldable pub thumbprint_in : List Member → Option (List ℕ)
thumbprint_in members = do
  kty ← text_at (codes "kty") members
  text ← covered_by kty members
  Some (base64url (sha256 text))

-- the members of a key that are shown: its type, what it is for, its name and its moments (RFC 7517 section 4, OpenID Federation 1.0
-- section 8.7.2)
abbrev pub is_told : List ℕ → Bool
is_told name =
    bytes_eq name (codes "alg") || (bytes_eq name (codes "crv") || (bytes_eq name (codes "exp") || (bytes_eq name (codes "iat") || (bytes_eq name (codes "kid")
    || (bytes_eq name (codes "kty") || (bytes_eq name (codes "nbf") || (bytes_eq name (codes "revoked") || bytes_eq name (codes "use"))))))))

-- the thumbprint as a member, where there is one
abbrev pub thumbprint_members : Option (List ℕ) → List Member
thumbprint_members (Some thumbprint) = text_member (codes "thumbprint") thumbprint ∷ []
thumbprint_members None = []

-- what is shown of a key
unfoldable pub key_view : List Member → List Member
key_view members = filter (λ m. is_told m.name) members ++ thumbprint_members (thumbprint_in members)

-- an object is a key where its type is a text (RFC 7517 section 4.1)
unfoldable pub members_view : List Member → List Member
members_view members = if is_some (text_at (codes "kty") members) then key_view members else members

-- one level of a tree whose parts are as they are shown
abbrev pub view_step : Json-F Json Member → Json
view_step Json-F.Null = Null
view_step (Json-F.Bool b) = Truth b
view_step (Json-F.Int n) = Int n
view_step Json-F.Odd = Odd
view_step (Json-F.Text bytes) = Text bytes
view_step (Json-F.List items) = ListOf items
view_step (Json-F.Object members) = Object (members_view members)

abbrev pub member_view : Member-F Json Member → Member
member_view m = member_of m.name m.value

-- the tree with each key in it as it is shown
abbrev pub view : Json → Json
view = fold-Json Json Member view_step member_view
