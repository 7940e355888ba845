-- What plain texts and notes are made of.
use Rattle.std.proofs.Common.{◌≡◌, ◌<◌, ℕ, List, [], ◌∷◌, ◌++◌, Bool, true, false, ◌&&◌, refl, sym, ap, ◌∙◌, arith}
use Rattle.std.specs.Prelude.{IsTrue, IsUtf8}
use Rattle.std.specs.List.{list_all, AllPass}
use Rattle.std.proofs.lemmas.Bool.{and_parts}
use Rattle.std.proofs.lemmas.Bool.Decides.{nat_tests}
use Rattle.std.proofs.lemmas.List.Folds.{list_all-append}
use Rattle.std.proofs.lemmas.List.Sums.{AllPass-from_list_all}
use Rattle.std.proofs.lemmas.List.Elements.{All-weaker}
use Rattle.std.proofs.lemmas.Str.{IsUtf8-from_ascii}
use Rattle.std.proofs.lemmas.Str.Ascii.{IsAscii-from_all}
use Rattle.plain_notes.specs.Notes.{IsNotes, IsPlain, is_note_byte, is_printable}

both : (a b : Bool) → a ≡ true → b ≡ true → (a && b) ≡ true
both true true p q = refl
both true false p q = q
both false b p q = p

-- what stands behind a plain text and is plain leaves it plain
pub plain_append : (xs ys : List ℕ) → IsPlain xs → IsPlain ys → IsPlain (xs ++ ys)
plain_append xs ys p q = list_all-append is_printable xs ys ∙ both _ _ p q

-- the same of notes
pub notes_append : (xs ys : List ℕ) → IsNotes xs → IsNotes ys → IsNotes (xs ++ ys)
notes_append xs ys p q = list_all-append is_note_byte xs ys ∙ both _ _ p q

note_of : (b : ℕ) → is_printable b ≡ true → is_note_byte b ≡ true
note_of b p = grind (arith, nat_tests)

-- a plain text makes notes
pub plain_notes : (xs : List ℕ) → IsPlain xs → IsNotes xs
plain_notes [] p = refl
plain_notes (b ∷ xs) p = both _ _ (note_of b (and_parts _ _ p).0) (plain_notes xs (and_parts _ _ p).1)

-- a plain text with a line end makes notes
pub line_notes : (xs : List ℕ) → IsPlain xs → IsNotes (xs ++ 10 ∷ [])
line_notes xs p = notes_append xs (10 ∷ []) (plain_notes xs p) refl

below_128 : (b : ℕ) → is_note_byte b ≡ true → b < 128
below_128 b note = grind (arith, nat_tests)

-- notes are UTF-8
pub notes_utf8 : (xs : List ℕ) → IsNotes xs → IsUtf8 xs
notes_utf8 xs p = IsUtf8-from_ascii xs (IsAscii-from_all xs
    (All-weaker (λ b. is_note_byte b ≡ true) (λ b. b < 128) below_128 xs (AllPass-from_list_all is_note_byte xs p)))
