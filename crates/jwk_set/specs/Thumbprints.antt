-- The thumbprint of a key (RFC 7638).
use Rattle.std.specs.Prelude.{ℕ, List, ◌++◌, codes}
use Rattle.sha2.specs.Sha256.{sha256}
use Rattle.fed_base.specs.declared.algorithm.Alg.{Alg}
use Rattle.base64url.specs.Base64url.{base64url}
use Rattle.jws_form.specs.Header.{algorithm}
use Rattle.jwk_set.specs.Keys.{key_type}

-- the JSON text of the required members, in byte order and without white space (RFC 7638 section 3.1)
abbrev pub required_members : Alg → List ℕ → List ℕ
required_members alg public =
    codes "{\"alg\":\"" ++ algorithm alg ++ codes "\",\"kty\":\"" ++ key_type ++ codes "\",\"pub\":\"" ++ base64url public ++ codes "\"}"

-- the base64url of its SHA-256 (RFC 7638 section 3)
unfoldable pub thumbprint_of : Alg → List ℕ → List ℕ
thumbprint_of alg public = base64url (sha256 (required_members alg public))
