-- What is shown of a signed text where its claims alone are wanted.
use Rattle.std.specs.Prelude.{ℕ, List, codes, Bool, Option, Some, None, is_some, if◌then◌else◌}
use Rattle.std.specs.Option.{option_and_then}
use Rattle.base64url.specs.Base64url.{decoded}
use Rattle.fed_json.specs.Reading.{tree_in}
use Rattle.fed_json.specs.Trees.{as_object}
use Rattle.jws_form.specs.Faults.{part}
use Rattle.cli_show.specs.Findings.{good, refused, text_found}
use Rattle.cli_show.specs.declared.view.View.{View}

-- the bytes are the JSON text of an object (RFC 8259 section 4)
abbrev pub is_object : List ℕ → Bool
is_object bytes = is_some (option_and_then as_object (tree_in bytes))

-- a payload as it was signed, on a line; one that isn't an object has no claims (RFC 7519 section 3)
abbrev pub payload_found : Option (List ℕ) → View
payload_found (Some payload) = if is_object payload then good payload else refused (codes "Tree")
payload_found None = refused (codes "Tree")

-- the claims of a text that is what it says; else the first reason why it isn't
unfoldable pub claims_view : List ℕ → View
claims_view text = if (text_found text).refused then text_found text else payload_found (decoded (part text 1))
