-- How long a text gets between quotation marks: each byte of base64url stands for itself, and an escape has six bytes at most.
use Rattle.std.specs.List.{AllByRecursion, list_any}
use Rattle.std.proofs.Common.{◌≡◌, ◌≤◌, ◌<◌, ◌+◌, ◌*◌, ◌/◌, ◌%◌, ◌==◌, ◌||◌, ℕ, zero, suc, List, [], ◌∷◌, ◌++◌, length, get_or, slice_index, flat_map, Bool, true, false, true≢false, cond, nat_lt, length-append, append-nil, refl, ap, ◌∙◌, arith, lit≤}
use Rattle.std.specs.Char.{digit_char}
use Rattle.std.specs.Int.{bytes_high_first}
use Rattle.serde_json.proofs.OnLiterals.{serde_json_on_literals}
use Rattle.base64.specs.Engines.{url_safe_no_pad}
use Rattle.base64.specs.Rfc4648.{encode_symbols}
use Rattle.sha2.specs.Sha256.{digest_bytes, final_hash, initial_hash_256, sha256}
use Rattle.base64url.specs.Base64url.{base64url}
use Rattle.fed_json.specs.Compact.{quoted}
use Rattle.fed_json.proofs.Booleans.{left_false, right_false}

-- ---- escapes

-- the letter of a byte's short escape, or 0 where it has none, and what stands for the byte (RFC 8259 section 7)
abbrev letter : ℕ → ℕ
letter x = cond ((x == 34) || (x == 92)) x (cond (x == 8) 98 (cond (x == 12) 102 (cond (x == 10) 110 (cond (x == 13) 114 (cond (x == 9) 116 0)))))

abbrev escaped : ℕ → List ℕ
escaped x =
    cond (nat_lt 0 (letter x)) (92 ∷ letter x ∷ [])
    (cond (nat_lt x 32) (92 ∷ 117 ∷ 48 ∷ 48 ∷ digit_char (x / 16) ∷ digit_char (x % 16) ∷ []) (x ∷ []))

quoted-is : (s : List ℕ) → quoted s ≡ 34 ∷ (flat_map escaped s ++ 34 ∷ [])
unfolding serde_json_on_literals
quoted-is s = refl

of_three : (a b : Bool) (p q r : List ℕ) → length p ≤ 6 → length q ≤ 6 → length r ≤ 6 → length (cond a p (cond b q r)) ≤ 6
of_three true b p q r P Q R = P
of_three false true p q r P Q R = Q
of_three false false p q r P Q R = R

escaped-short : (x : ℕ) → length (escaped x) ≤ 6
escaped-short x = of_three (nat_lt 0 (letter x)) (nat_lt x 32) _ _ _ (lit≤ tt) (lit≤ tt) (lit≤ tt)

all-short : (s : List ℕ) → length (flat_map escaped s) ≤ 6 * length s
all-short [] = lit≤ tt
all-short (x ∷ s) = omega (arith, length-append (escaped x) (flat_map escaped s), escaped-short x, all-short s)

-- a byte that doesn't stand for itself
abbrev pub is_escaped : ℕ → Bool
is_escaped x = nat_lt 0 (letter x) || nat_lt x 32

itself : (a b : Bool) (p q r : List ℕ) → (a || b) ≡ false → cond a p (cond b q r) ≡ r
itself true b p q r plain = absurd (true≢false plain)
itself false true p q r plain = absurd (true≢false plain)
itself false false p q r plain = refl

all-plain : (s : List ℕ) → list_any is_escaped s ≡ false → flat_map escaped s ≡ s
all-plain [] plain = refl
all-plain (x ∷ s) plain =
    let here : escaped x ≡ x ∷ [] = itself (nat_lt 0 (letter x)) (nat_lt x 32) _ _ (x ∷ []) (left_false (is_escaped x) (list_any is_escaped s) plain) in
    ap (λ y. y ++ flat_map escaped s) here ∙ ap (λ y. x ∷ y) (all-plain s (right_false (is_escaped x) (list_any is_escaped s) plain))

-- a text without such bytes stands as it is
pub quoted-plain : (s : List ℕ) → list_any is_escaped s ≡ false → length (quoted s) ≡ length s + 2
quoted-plain s plain = omega (arith, ap length (quoted-is s), length-append (flat_map escaped s) (34 ∷ []), ap length (all-plain s plain))

-- an escape has six bytes at most
pub quoted-short : (s : List ℕ) → length (quoted s) ≤ 6 * length s + 2
quoted-short s = omega (arith, ap length (quoted-is s), length-append (flat_map escaped s) (34 ∷ []), all-short s)

-- ---- base64url

abbrev IsByte : ℕ → Type 0
IsByte x = x < 256

abbrev table : List ℕ
table = url_safe_no_pad.encode_table

item : (p : ℕ → Bool) (t : List ℕ) (i : ℕ) → list_any p t ≡ false → i < length t → p (get_or t i 0) ≡ false
item p [] i none within = absurd (omega arith)
item p (x ∷ t) zero none within = left_false (p x) (list_any p t) none
item p (x ∷ t) (suc i) none within = item p t i (right_false (p x) (list_any p t) none) (omega arith)

-- what no symbol is, no character of the text of bytes is
module _ (p : ℕ → Bool) (none : list_any p table ≡ false) where
  symbol : (i : ℕ) → i < 64 → p (slice_index table i) ≡ false
  symbol i small = item p table i none small

  in_symbols : (b : List ℕ) → AllByRecursion IsByte b → list_any p (encode_symbols table b) ≡ false
  unfolding encode_symbols
  in_symbols [] bytes = refl
  in_symbols (x ∷ []) bytes = rw (symbol (x / 4) (omega (arith, bytes.0)), symbol (x % 4 * 16) (omega arith)) refl
  in_symbols (x ∷ y ∷ []) bytes =
      rw (symbol (x / 4) (omega (arith, bytes.0)), symbol (x % 4 * 16 + y / 16) (omega (arith, bytes.1.0)), symbol (y % 16 * 4) (omega arith)) refl
  in_symbols (x ∷ y ∷ z ∷ rest) bytes =
      rw (symbol (x / 4) (omega (arith, bytes.0)), symbol (x % 4 * 16 + y / 16) (omega (arith, bytes.1.0)), symbol (y % 16 * 4 + z / 64) (omega (arith, bytes.1.1.0)), symbol (z % 64) (omega arith), in_symbols rest bytes.1.1.1) refl

base64url-plain : (b : List ℕ) → AllByRecursion IsByte b → list_any is_escaped (base64url b) ≡ false
unfolding base64url
base64url-plain b bytes = ap (list_any is_escaped) (append-nil (encode_symbols table b)) ∙ in_symbols is_escaped refl b bytes

-- ---- the bytes of a hash

both : (xs ys : List ℕ) → AllByRecursion IsByte xs → AllByRecursion IsByte ys → AllByRecursion IsByte (xs ++ ys)
both [] ys one next = next
both (x ∷ xs) ys one next = (one.0, both xs ys one.1 next)

number-bytes : (k n : ℕ) → AllByRecursion IsByte (bytes_high_first k n)
number-bytes zero n = tt
number-bytes (suc zero) n = (omega arith, tt)
number-bytes (suc (suc k)) n = (omega arith, number-bytes (suc k) n)

digest-bytes : (h : List ℕ) (n : ℕ) → AllByRecursion IsByte (digest_bytes h n)
unfolding digest_bytes
digest-bytes h zero = tt
digest-bytes h (suc n) = both (digest_bytes h n) _ (digest-bytes h n) (number-bytes 4 (slice_index h n))

hash-bytes : (m : List ℕ) → AllByRecursion IsByte (sha256 m)
unfolding sha256
hash-bytes m = digest-bytes (final_hash initial_hash_256 m) 8

-- the text of a hash stands as it is
pub hash-plain : (m : List ℕ) → list_any is_escaped (base64url (sha256 m)) ≡ false
hash-plain m = base64url-plain (sha256 m) (hash-bytes m)
