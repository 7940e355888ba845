-- Words that are joined with spaces.
use Rattle.std.proofs.Common.{◌≡◌, ◌≤◌, ◌<◌, ◌+◌, ℕ, List, [], ◌∷◌, ◌++◌, Option, Some, None, option_map, MatchOption, drop, length, get_or, refl, sym, ap, ◌∙◌, append_assoc, append-nil}
use Rattle.std.specs.Option.{option_and_then}
use Rattle.std.specs.List.{join_with_byte}
use Rattle.std.proofs.lemmas.List.{drop_more, drop_all}
use Rattle.fed_json.specs.Trees.{as_text, texts_in}
use Rattle.fed_json.specs.declared.tree.Json.{Json}
use Rattle.fed_json.proofs.Options.{option_map_none, option_map_some}

-- each word with a space behind it
abbrev pub ended : List (List ℕ) → List ℕ
ended [] = []
ended (word ∷ words) = word ++ 32 ∷ ended words

-- what is left to do makes the whole of what was made
abbrev pub Joining : List Json → List ℕ → List Json → Type 0
Joining list text rest = option_map ended (texts_in list) ≡ option_map (λ more. text ++ ended more) (texts_in rest)

pub joining-start : (list : List Json) → Joining list [] list
joining-start list = refl

with_word : (word : List ℕ) (text : List ℕ) (o : Option (List (List ℕ)))
    → option_map (λ more. text ++ ended more) (option_map (λ rest. word ∷ rest) o) ≡ option_map (λ more. ((text ++ word) ++ 32 ∷ []) ++ ended more) o
with_word word text None = refl
with_word word text (Some rest) = ap Some (sym (append_assoc (text ++ word) (32 ∷ []) (ended rest) ∙ append_assoc text word (32 ∷ ended rest)))

-- one more word
pub joining-more : (list : List Json) (text : List ℕ) (i : ℕ) (x : Json) (word : List ℕ) → i < length list → x ≡ get_or list i x → as_text x ≡ Some word
    → Joining list text (drop i list) → Joining list ((text ++ word) ++ 32 ∷ []) (drop (i + 1) list)
joining-more list text i x word lt is word_is joining =
    joining ∙ ap (λ xs. option_map (λ more. text ++ ended more) (texts_in xs)) (drop_more list i x lt ∙ ap (λ y. y ∷ drop (i + 1) list) (sym is))
    ∙ ap (λ o. option_map (λ more. text ++ ended more) (option_and_then (λ w. option_map (λ rest. w ∷ rest) (texts_in (drop (i + 1) list))) o)) word_is
    ∙ with_word word text (texts_in (drop (i + 1) list))

-- a value that isn't a text
pub joining-broken : (list : List Json) (text : List ℕ) (i : ℕ) (x : Json) → i < length list → x ≡ get_or list i x → as_text x ≡ None
    → Joining list text (drop i list) → option_map (join_with_byte 32) (texts_in list) ≡ None
joining-broken list text i x lt is other joining =
    let none : texts_in list ≡ None = option_map_none ended (texts_in list) (joining ∙ ap (λ xs. option_map (λ more. text ++ ended more) (texts_in xs)) (drop_more list i x lt ∙ ap (λ y. y ∷ drop (i + 1) list) (sym is))
    ∙ ap (λ o. option_map (λ more. text ++ ended more) (option_and_then (λ w. option_map (λ rest. w ∷ rest) (texts_in (drop (i + 1) list))) o)) other) in
    ap (option_map (join_with_byte 32)) none

ended-join : (word : List ℕ) (words : List (List ℕ)) → ended (word ∷ words) ≡ join_with_byte 32 (word ∷ words) ++ 32 ∷ []
ended-join word [] = refl
ended-join word (next ∷ words) = ap (λ rest. word ++ 32 ∷ rest) (ended-join next words) ∙ sym (append_assoc word (32 ∷ join_with_byte 32 (next ∷ words)) (32 ∷ []))

-- the last space is taken off
pub joining-end : (list : List Json) (text : List ℕ) (i : ℕ) → length list ≤ i → Joining list text (drop i list)
    → (words : List (List ℕ)) × (texts_in list ≡ Some words) × (ended words ≡ text)
joining-end list text i done joining =
    let all : option_map ended (texts_in list) ≡ Some text = joining ∙ ap (λ xs. option_map (λ more. text ++ ended more) (texts_in xs)) (drop_all i list done) ∙ ap Some (append-nil text) in
    option_map_some ended (texts_in list) text all

snoc_same : (xs ys : List ℕ) (x y : ℕ) → xs ++ x ∷ [] ≡ ys ++ y ∷ [] → xs ≡ ys
snoc_same [] [] x y e = refl
snoc_same [] (b ∷ []) x y e = absurd (cc)
snoc_same [] (b ∷ c ∷ ys) x y e = absurd (cc)
snoc_same (a ∷ []) [] x y e = absurd (cc)
snoc_same (a ∷ b ∷ xs) [] x y e = absurd (cc)
snoc_same (a ∷ xs) (b ∷ ys) x y e =
    let head : a ≡ b = (cc) in
    let tail : xs ++ x ∷ [] ≡ ys ++ y ∷ [] = (cc) in
    ap (λ c. c ∷ xs) head ∙ ap (λ zs. b ∷ zs) (snoc_same xs ys x y tail)

pub joined-none : (words : List (List ℕ)) (text : List ℕ) → ended words ≡ [] → text ≡ [] → text ≡ join_with_byte 32 words
joined-none [] text e is = is
joined-none (word ∷ words) text e is = not_empty word e
  where
    not_empty : (word : List ℕ) → word ++ 32 ∷ ended words ≡ [] → text ≡ join_with_byte 32 (word ∷ words)
    not_empty [] e = absurd (cc)
    not_empty (x ∷ word) e = absurd (cc)

pub joined-some : (words : List (List ℕ)) (text : List ℕ) (byte : ℕ) → ended words ≡ text ++ byte ∷ [] → text ≡ join_with_byte 32 words
joined-some [] text byte e = not_empty text e
  where
    not_empty : (text : List ℕ) → [] ≡ text ++ byte ∷ [] → text ≡ []
    not_empty [] e = absurd (cc)
    not_empty (x ∷ text) e = absurd (cc)
joined-some (word ∷ words) text byte e = snoc_same text (join_with_byte 32 (word ∷ words)) byte 32 (sym e ∙ ended-join word words)

-- by what `pop` answers
pub popped : (words : List (List ℕ)) (before after : List ℕ) (r : Option ℕ) → ended words ≡ before → MatchOption r ((before ≡ []) × (after ≡ [])) (λ byte. before ≡ after ++ byte ∷ []) → after ≡ join_with_byte 32 words
popped words before after None e cases = joined-none words after (e ∙ cases.0) cases.1
popped words before after (Some byte) e cases = joined-some words after byte (e ∙ cases)
