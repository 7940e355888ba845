-- What is made of bytes below 256: pieces of a list, and text in UTF-8.
use Rattle.std.proofs.Common.{◌≡◌, ◌<◌, ℕ, zero, suc, ◌+◌, ◌/◌, ◌%◌, ⊎_elim, Bool, true, false, ◌&&◌, cond, nat_lt, List, [], ◌∷◌, ◌++◌, refl, sym, subst, arith, true≢false}
use Rattle.std.proofs.Math.Utf8.{scalar, scalars, scalar_cases, encode, encodes}
use Rattle.std.proofs.lemmas.Bool.Decides.{nat_tests}
use Rattle.std.specs.Str.{IsUtf8}
use Rattle.base64.specs.GeneralPurpose.{IsBytes}

pub IsBytes-back : (a b : List ℕ) → IsBytes (a ++ b) → IsBytes b
IsBytes-back [] b bytes = bytes
IsBytes-back (x ∷ a) b bytes = IsBytes-back a b (λ i. bytes (suc i))

IsBytes-nil : IsBytes []
IsBytes-nil i = omega arith

IsBytes-cons : (x : ℕ) (b : List ℕ) → x < 256 → IsBytes b → IsBytes (x ∷ b)
IsBytes-cons x b small bytes zero = small
IsBytes-cons x b small bytes (suc i) = bytes i

pub IsBytes-append : (a b : List ℕ) → IsBytes a → IsBytes b → IsBytes (a ++ b)
IsBytes-append [] b front back = back
IsBytes-append (x ∷ a) b front back = IsBytes-cons x (a ++ b) (front 0) (IsBytes-append a b (λ i. front (suc i)) back)

one : (x : ℕ) → x < 256 → IsBytes (x ∷ [])
one x small = IsBytes-cons x [] small IsBytes-nil

two : (x y : ℕ) → x < 256 → y < 256 → IsBytes (x ∷ y ∷ [])
two x y sx sy = IsBytes-cons x (y ∷ []) sx (one y sy)

three : (x y z : ℕ) → x < 256 → y < 256 → z < 256 → IsBytes (x ∷ y ∷ z ∷ [])
three x y z sx sy sz = IsBytes-cons x (y ∷ z ∷ []) sx (two y z sy sz)

-- the bytes of a character, by its range (RFC 3629 section 3)
encode_by : (c : ℕ) (x y z : Bool) → nat_lt c 128 ≡ x → nat_lt c 2048 ≡ y → nat_lt c 65536 ≡ z → c < 1114112
    → IsBytes (cond x (c ∷ []) (cond y ((192 + c / 64) ∷ (128 + c % 64) ∷ []) (cond z ((224 + c / 4096) ∷ (128 + c / 64 % 64) ∷ (128 + c % 64) ∷ []) ((240 + c / 262144) ∷ (128 + c / 4096 % 64) ∷ (128 + c / 64 % 64) ∷ (128 + c % 64) ∷ []))))
encode_by c true y z ex ey ez small = one c (grind (arith, nat_tests))
encode_by c false true z ex ey ez small = let low : c < 2048 = grind (arith, nat_tests) in two _ _ (omega arith) (omega arith)
encode_by c false false true ex ey ez small = let low : c < 65536 = grind (arith, nat_tests) in three _ _ _ (omega arith) (omega arith) (omega arith)
encode_by c false false false ex ey ez small = IsBytes-cons (240 + c / 262144) ((128 + c / 4096 % 64) ∷ (128 + c / 64 % 64) ∷ (128 + c % 64) ∷ []) (omega arith) (three (128 + c / 4096 % 64) (128 + c / 64 % 64) (128 + c % 64) (omega arith) (omega arith) (omega arith))

encode_bytes : (c : ℕ) → scalar c ≡ true → IsBytes (encode c)
unfolding encode
encode_bytes c is = encode_by c _ _ _ refl refl refl (⊎_elim (λ low. omega arith) (λ high. high.1) (scalar_cases c is))

and_true : (a b : Bool) → (a && b) ≡ true → (a ≡ true) × (b ≡ true)
and_true true b e = (refl, e)
and_true false b e = absurd (true≢false (sym e))

encodes_bytes : (cs : List ℕ) → scalars cs ≡ true → IsBytes (encodes cs)
encodes_bytes [] is = IsBytes-nil
encodes_bytes (c ∷ cs) is = let both = and_true (scalar c) _ is in IsBytes-append (encode c) (encodes cs) (encode_bytes c both.0) (encodes_bytes cs both.1)

pub IsBytes-from_IsUtf8 : (s : List ℕ) → IsUtf8 s → IsBytes s
IsBytes-from_IsUtf8 s is = subst IsBytes is.1.1 (encodes_bytes is.0 is.1.0)
