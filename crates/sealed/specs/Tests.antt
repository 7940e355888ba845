-- Which key of a set a text is tested under, and how many tests that takes.
use Rattle.std.specs.Prelude.{ℕ, List, Option, is_some, option_and_then, if◌then◌else◌}
use Rattle.std.specs.Result.{result_ok}
use Rattle.jws_form.specs.Splitting.{splitting}
use Rattle.jwk_set.specs.declared.jwk.Jwk.{Jwk}
use Rattle.sealed.specs.Seals.{named_key}

-- the own key of a set that the header of a text names (RFC 7515 section 4.1.4)
unfoldable pub key_in : List Jwk → List ℕ → Option (List ℕ)
key_in keys text = option_and_then (λ compact. named_key compact keys) (result_ok (splitting text))

-- one test of a text under the keys of a set, where its header names one of them
unfoldable pub tests_under : List Jwk → List ℕ → ℕ
tests_under keys text = if is_some (key_in keys text) then 1 else 0
