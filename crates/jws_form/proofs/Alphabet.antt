-- Base64url has no full stop.
use Rattle.std.proofs.Common.{◌≡◌, ℕ, zero, suc, ◌+◌, ◌*◌, ◌/◌, ◌%◌, ◌||◌, Bool, true, false, List, [], ◌∷◌, get_or, slice_index, refl, ap, ◌∙◌, append-nil, arith, true≢false}
use Rattle.std.specs.List.{All, list_any}
use Rattle.base64.specs.Rfc4648.{encode_symbols}
use Rattle.base64.specs.Engines.{url_safe_no_pad}
use Rattle.base64url.specs.Base64url.{base64url}
use Rattle.jws_form.specs.Splitting.{is_stop}

-- no symbol is a full stop

first : (a b : Bool) → (a || b) ≡ false → a ≡ false
first true b e = e
first false b e = refl

second : (a b : Bool) → (a || b) ≡ false → b ≡ false
second true b e = absurd (true≢false e)
second false b e = e

none_at : (p : ℕ → Bool) (t : List ℕ) (i : ℕ) → list_any p t ≡ false → p 0 ≡ false → p (get_or t i 0) ≡ false
none_at p [] i none z = z
none_at p (x ∷ xs) zero none z = first (p x) _ none
none_at p (x ∷ xs) (suc i) none z = none_at p xs i (second (p x) _ none) z

abbrev table : List ℕ
table = url_safe_no_pad.encode_table

symbol : (i : ℕ) → is_stop (slice_index table i) ≡ false
symbol i = none_at is_stop table i refl refl

none_in_symbols : (b : List ℕ) → list_any is_stop (encode_symbols table b) ≡ false
unfolding encode_symbols
none_in_symbols [] = refl
none_in_symbols (x ∷ []) = rw (symbol (x / 4), symbol (x % 4 * 16)) refl
none_in_symbols (x ∷ y ∷ []) = rw (symbol (x / 4), symbol (x % 4 * 16 + y / 16), symbol (y % 16 * 4)) refl
none_in_symbols (x ∷ y ∷ z ∷ rest) = rw (symbol (x / 4), symbol (x % 4 * 16 + y / 16), symbol (y % 16 * 4 + z / 64), symbol (z % 64), none_in_symbols rest) refl

each : (p : ℕ → Bool) (t : List ℕ) → list_any p t ≡ false → All (λ x. p x ≡ false) t
each p [] none k d within = absurd (omega arith)
each p (x ∷ t) none zero d within = first (p x) _ none
each p (x ∷ t) none (suc k) d within = each p t (second (p x) _ none) k d (omega arith)

pub no_stop : (b : List ℕ) → All (λ x. is_stop x ≡ false) (base64url b)
unfolding base64url
no_stop b = each is_stop _ (ap (list_any is_stop) (append-nil (encode_symbols table b)) ∙ none_in_symbols b)
