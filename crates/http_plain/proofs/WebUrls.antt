-- The URL that a text is, beside what is read of it.
use Rattle.std.proofs.Common.{◌≡◌, ℕ, List, Bool, true, false, Option, None, Some, Ok, cond, refl, sym, ap, ◌∙◌}
use Rattle.std.specs.Result.{result_ok}
use Rattle.std.specs.Str.{IsUtf8, is_utf8}
use Rattle.std.proofs.lemmas.Str.{is_utf8-from_IsUtf8, IsUtf8-from_is_utf8}
use Rattle.fed_base.specs.Values.{◌>>=◌}
use Rattle.url.specs.Parser.{parse_url}
use Rattle.url.specs.Parts.{Parts}
use Rattle.http_plain.specs.Clients.{is_web, url_in}

not_text : (bytes : List ℕ) (b : Bool) → is_utf8 bytes ≡ b → ¬ IsUtf8 bytes → is_utf8 bytes ≡ false
not_text bytes true e no_text = absurd (no_text (IsUtf8-from_is_utf8 bytes e))
not_text bytes false e no_text = e

abbrev if_web : Option Parts → Option Parts
if_web o = o >>= λ url. cond (is_web url) (Some url) None

pub none_in : (bytes : List ℕ) → ¬ IsUtf8 bytes → None ≡ url_in bytes
unfolding url_in
none_in bytes fails = sym (ap (λ b. cond b (if_web (result_ok (parse_url None bytes))) None) (not_text bytes (is_utf8 bytes) refl fails))

pub some_in : (bytes text : List ℕ) (url : Parts) → IsUtf8 bytes → text ≡ bytes → parse_url None text ≡ Ok url → is_web url ≡ true → Some url ≡ url_in bytes
unfolding url_in
some_in bytes text url is same parsed web =
    sym (ap (λ b. cond b (if_web (result_ok (parse_url None bytes))) None) (is_utf8-from_IsUtf8 bytes is)
    ∙ ap (λ t. if_web (result_ok (parse_url None t))) (sym same)
    ∙ ap (λ r. if_web (result_ok r)) parsed
    ∙ ap (λ b. cond b (Some url) None) web)
