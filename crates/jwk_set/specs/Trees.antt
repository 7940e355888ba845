-- The trees that keys and sets are written as (RFC 7517 sections 4 and 5).
use Rattle.std.specs.Prelude.{ℕ, List, [], ◌∷◌, map, codes}
use Rattle.base64url.specs.Base64url.{base64url}
use Rattle.fed_base.specs.declared.algorithm.Alg.{Alg}
use Rattle.fed_json.specs.declared.tree.Json.{Json, List as ListOf, Object}
use Rattle.fed_json.specs.Members.{text_member}
use Rattle.fed_json.specs.Reading.{member_of}
use Rattle.jwk_set.specs.declared.jwk.Jwk.{Jwk}
use Rattle.jwk_set.specs.declared.jwk.Jwk.TheVariants.{Own, Foreign}
use Rattle.jws_form.specs.Header.{algorithm}
use Rattle.jwk_set.specs.Keys.{key_type}

-- an own key, with its members in byte order
abbrev pub own_tree : List ℕ → Alg → List ℕ → Json
own_tree kid alg public = Object
    (text_member (codes "alg") (algorithm alg) ∷ text_member (codes "kid") kid ∷ text_member (codes "kty") key_type
    ∷ text_member (codes "pub") (base64url public) ∷ [])

-- a foreign key is written as it was read
unfoldable pub key_tree : Jwk → Json
key_tree (Own kid alg public) = own_tree kid alg public
key_tree (Foreign tree) = tree

-- the set of these keys
unfoldable pub set_tree : List Jwk → Json
set_tree keys = Object (member_of (codes "keys") (ListOf (map key_tree keys)) ∷ [])
