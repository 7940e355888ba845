-- Where the documents of an entity are asked for (OpenID Federation 1.0 sections 8.1 and 9).
use Rattle.std.specs.Prelude.{ℕ, ◌-◌, ◌==◌, List, ◌++◌, length, take, codes, nat_eq, if◌then◌else◌}
use Rattle.std.specs.List.{list_any, ends_with}
use Rattle.form_urlencoded.specs.Form.{byte_serialize}

-- the text without the slash at its end, where one stands there (section 9)
unfoldable pub base_of : List ℕ → List ℕ
base_of text = if ends_with nat_eq text (codes "/") then take (length text - 1) text else text

-- the URL of an entity's configuration (section 9)
unfoldable pub well_known_of : List ℕ → List ℕ
well_known_of id = base_of id ++ codes "/.well-known/openid-federation"

-- the URL at which a superior is asked for its statement about the subject (section 8.1.1)
unfoldable pub fetch_url_of : List ℕ → List ℕ → List ℕ
fetch_url_of endpoint subject =
    endpoint ++ (if list_any (λ b. b == 63) endpoint then codes "&sub=" else codes "?sub=") ++ byte_serialize subject
