-- A string has no line end, so that no margin shows in it.
use Rattle.std.proofs.Common.{◌≡◌, ◌/◌, ◌%◌, ℕ, List, [], ◌∷◌, ◌++◌, flat_map, Bool, true, false, ◌&&◌, ◌||◌, nat_eq, nat_le, cond, refl, ap, ap₂, ◌∙◌, arith}
use Rattle.std.proofs.lemmas.Bool.Decides.{nat_tests}
use Rattle.plain_notes.specs.Notes.{digit}
use Rattle.plain_notes.specs.Strings.{is_calm, shown_byte, string}
use Rattle.cli_show.specs.Indented.{inset_by}
use Rattle.cli_show.proofs.MarginLaws.{inset-append}

escaped : (b : ℕ) → (nat_eq b 34 || nat_eq b 92) ≡ true → nat_eq b 10 ≡ false
escaped b is = grind (arith, nat_tests)

as-it-is : (calm : Bool) (b : ℕ) → ((nat_le 32 b && nat_le b 126) || (calm && nat_le 128 b)) ≡ true → nat_eq b 10 ≡ false
as-it-is calm b is = grind (arith, nat_tests)

digit-line : (n : ℕ) → nat_eq (digit n) 10 ≡ false
unfolding digit
digit-line n = grind (arith, nat_tests)

-- a byte as it is shown
byte-line : (m : List ℕ) (calm : Bool) (b : ℕ) → inset_by m (shown_byte calm b) ≡ shown_byte calm b
byte-line m calm b = by (nat_eq b 34 || nat_eq b 92) ((nat_le 32 b && nat_le b 126) || (calm && nat_le 128 b)) (escaped b) (as-it-is calm b)
  where
    by : (e i : Bool) → (e ≡ true → nat_eq b 10 ≡ false) → (i ≡ true → nat_eq b 10 ≡ false)
        → inset_by m (cond e (92 ∷ b ∷ []) (cond i (b ∷ []) (92 ∷ 120 ∷ digit (b / 16) ∷ digit (b % 16) ∷ [])))
        ≡ cond e (92 ∷ b ∷ []) (cond i (b ∷ []) (92 ∷ 120 ∷ digit (b / 16) ∷ digit (b % 16) ∷ []))
    by true i p q = ap (λ t. 92 ∷ b ∷ (cond t m [] ++ [])) (p refl)
    by false true p q = ap (λ t. b ∷ (cond t m [] ++ [])) (q refl)
    by false false p q =
        ap₂ (λ s t. 92 ∷ 120 ∷ digit (b / 16) ∷ (cond s m [] ++ (digit (b % 16) ∷ (cond t m [] ++ [])))) (digit-line (b / 16)) (digit-line (b % 16))

bytes-line : (m : List ℕ) (calm : Bool) (text : List ℕ) → inset_by m (flat_map (shown_byte calm) text) ≡ flat_map (shown_byte calm) text
bytes-line m calm [] = refl
bytes-line m calm (b ∷ text) =
    inset-append m (shown_byte calm b) (flat_map (shown_byte calm) text) ∙ ap₂ (λ x y. x ++ y) (byte-line m calm b) (bytes-line m calm text)

pub string-line : (m text : List ℕ) → inset_by m (string text) ≡ string text
string-line m text =
    ap (λ x. 34 ∷ x) (inset-append m (flat_map (shown_byte (is_calm text)) text) (34 ∷ [])
    ∙ ap (λ x. x ++ 34 ∷ []) (bytes-line m (is_calm text) text))
