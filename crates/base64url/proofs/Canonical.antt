-- Each list of bytes has one text, and no other text decodes to it.
use Rattle.std.proofs.Common.{◌≡◌, ◌<◌, ◌≤◌, ◌≢◌, ℕ, ◌+◌, ◌*◌, ◌/◌, true, List, [], ◌++◌, length, take, drop, Option, Some, None, Result, Ok, Err, OnOk, ◌↔◌, MatchOption, Fits, w8, get_or, Bor, refl, sym, ap, ◌∙◌, append-nil, length-take, length-drop, arith}
use Rattle.std.proofs.lemmas.List.{nil_from_length}
use Rattle.std.specs.Option.{option_and_then, option_copied}
use Rattle.std.specs.Array.{IsFirstChunk}
use Rattle.std.specs.Result.{result_ok}
use Rattle.std.specs.Str.{is_utf8}
use Rattle.std.proofs.lemmas.Str.{is_utf8-from_IsUtf8, IsUtf8-from_ascii}
use Rattle.std.proofs.lemmas.Bool.Decides.{nat_tests}
use Rattle.base64.specs.declared.decode.DecodeError.{DecodeError}
use Rattle.base64.specs.declared.encode.EncodeSliceError.{EncodeSliceError}
use Rattle.base64.specs.Rfc4648.{encode_symbols}
use Rattle.base64.specs.Engines.{url_safe_no_pad}
use Rattle.base64.specs.GeneralPurpose.{encode_of, decode_of, encoded_size_of, IsBytes, IsEncodedOver}
use Rattle.base64.proofs.EngineFacts.{IsAscii-encode_of, decode_of-encode_of, decode_of_strict}
use Rattle.base64.proofs.RoundTrip.{length-encode_symbols}
use Rattle.base64url.specs.Base64url.{base64url, decoded, of_32, decoded_32}

-- a slice of bytes
pub bytes_fit : (s : List ℕ) → ((i : ℕ) → Fits w8 (get_or s i 0)) → IsBytes s
bytes_fit s fit i = let small = fit i in omega arith

pub decoded-base64url : (b : List ℕ) → IsBytes b → decoded (base64url b) ≡ Some b
unfolding decoded base64url
decoded-base64url b bytes = ap result_ok (decode_of-encode_of url_safe_no_pad b refl bytes)

was_ok : (r : Result (List ℕ) DecodeError) (b : List ℕ) → result_ok r ≡ Some b → r ≡ Ok b
was_ok (Ok x) b e = cc
was_ok (Err x) b e = cc

pub base64url-decoded : (s b : List ℕ) → IsBytes s → decoded s ≡ Some b → s ≡ base64url b
unfolding decoded base64url
base64url-decoded s b bytes is = decode_of_strict url_safe_no_pad s b (refl, refl) bytes (was_ok _ b is)

-- a text decodes to bytes exactly where it is theirs
pub decoded_iff : (s b : List ℕ) → IsBytes s → IsBytes b → (decoded s ≡ Some b) ↔ (s ≡ base64url b)
decoded_iff s b sb bb = (base64url-decoded s b sb, λ e. ap decoded e ∙ decoded-base64url b bb)

-- four characters for three bytes
pub length-base64url : (b : List ℕ) → length (base64url b) ≡ (4 * length b + 2) / 3
unfolding base64url
length-base64url b = ap length (append-nil (encode_symbols url_safe_no_pad.encode_table b)) ∙ length-encode_symbols url_safe_no_pad.encode_table b

-- ---- 32 bytes in 43 characters

of_32_some : (b : List ℕ) → length b ≡ 32 → of_32 b ≡ Some b
of_32_some b size = rw size refl

of_32_was : (o : Option (List ℕ)) (b : List ℕ) → option_and_then of_32 o ≡ Some b → o ≡ Some b
of_32_was None b e = cc e
of_32_was (Some x) b e = grind (arith, nat_tests, e)

pub decoded_32_iff : (s b : List ℕ) → IsBytes s → IsBytes b → length b ≡ 32 → (decoded_32 s ≡ Some b) ↔ (s ≡ base64url b)
unfolding decoded_32
decoded_32_iff s b sb bb size =
    (λ e. base64url-decoded s b sb (of_32_was (decoded s) b e), λ e. ap (option_and_then of_32) (ap decoded e ∙ decoded-base64url b bb) ∙ of_32_some b size)

-- 43 characters that decode are the text of 32 bytes
size_32 : (s b : List ℕ) → IsBytes s → decoded s ≡ Some b → length s ≡ 43 → length b ≡ 32
size_32 s b bytes is size = omega (arith, ap length (base64url-decoded s b bytes is), length-base64url b)

-- what such a text decodes to, at the front of a longer buffer
pub decoded_32_front : (s new : List ℕ) (n : ℕ) → IsBytes s → length s ≡ 43 → decode_of url_safe_no_pad s ≡ Ok (take n new) → n ≤ length new
    → Some (take 32 new) ≡ decoded_32 s
unfolding decoded decoded_32
decoded_32_front s new n bytes size is within =
    let b32 : length (take n new) ≡ 32 = size_32 s (take n new) bytes (ap result_ok is) size in
    let n32 : n ≡ 32 = omega (arith, b32, within, length-take n new) in
    sym (ap (λ r. option_and_then of_32 (result_ok r)) is ∙ of_32_some (take n new) b32 ∙ ap (λ k. Some (take k new)) n32)

-- a text of another length is not that of 32 bytes
other_size : (s : List ℕ) (o : Option (List ℕ)) → IsBytes s → decoded s ≡ o → length s ≢ 43 → None ≡ option_and_then of_32 o
other_size s None bytes is other = refl
other_size s (Some b) bytes is other = let ne : length b ≢ 32 = omega (arith, ap length (base64url-decoded s b bytes is), length-base64url b, other) in grind (arith, nat_tests, ne)

pub decoded_32_other : (s : List ℕ) → IsBytes s → length s ≢ 43 → None ≡ decoded_32 s
unfolding decoded_32
decoded_32_other s bytes other = other_size s (decoded s) bytes refl other

pub decoded_32_err : (s : List ℕ) (e : DecodeError) → decode_of url_safe_no_pad s ≡ Err e → None ≡ decoded_32 s
unfolding decoded decoded_32
decoded_32_err s e is = ap (λ r. option_and_then of_32 (result_ok r)) (sym is)

-- the first 32 items of a list, as a slice gives them
pub first_32 : (xs : List ℕ) (o : Option (Bor (List ℕ))) → length xs ≡ 33 → MatchOption o (length xs < 32) (λ y. IsFirstChunk xs y.now 32) → option_copied o ≡ Some (take 32 xs)
first_32 xs None size cases = absurd (omega arith)
first_32 xs (Some y) size cases = ap Some cases.same

-- ---- a buffer of 43 characters, written whole

pub written : (m old new : List ℕ) (r : Result ℕ EncodeSliceError) → length m ≡ 32 → length old ≡ 43
    → (encoded_size_of url_safe_no_pad (length m) ≤ length old → r ≡ Ok (encoded_size_of url_safe_no_pad (length m)))
    → OnOk r (IsEncodedOver url_safe_no_pad m old new) → new ≡ base64url m
unfolding base64url
written m old new r size room fits over =
    let ok = fits (omega (arith, size, room)) in
    let is : new ≡ encode_of url_safe_no_pad m ++ drop (encoded_size_of url_safe_no_pad (length m)) old = rw ok at over in
    let none : drop (encoded_size_of url_safe_no_pad (length m)) old ≡ [] = nil_from_length _ (omega (arith, size, room, length-drop (encoded_size_of url_safe_no_pad (length m)) old)) in
    is ∙ ap (λ x. encode_of url_safe_no_pad m ++ x) none ∙ append-nil _

-- ---- the text is ASCII

pub is_utf8-base64url : (b : List ℕ) → is_utf8 (base64url b) ≡ true
unfolding base64url
is_utf8-base64url b = is_utf8-from_IsUtf8 _ (IsUtf8-from_ascii _ (IsAscii-encode_of url_safe_no_pad b))

pub IsBytes-base64url : (b : List ℕ) → IsBytes (base64url b)
unfolding base64url
IsBytes-base64url b i = let below = IsAscii-encode_of url_safe_no_pad b i in omega arith
