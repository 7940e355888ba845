-- The words of a text.
use Rattle.std.proofs.Common.{◌≡◌, ◌<◌, ◌+◌, ◌==◌, ℕ, List, [], ◌∷◌, ◌++◌, Option, Some, None, option_map, Bool, true, false, not, cond, map, filter, length, get_or, refl, sym, ap, ◌∙◌, subst, append_assoc, append-nil, length-append, arith}
use Rattle.std.proofs.Math.Seq.{get_or-append_seam, take-append_seam, drop-append-add}
use Rattle.std.proofs.lemmas.Str.{IsUtf8-take, IsUtf8-drop, IsCharBoundary-before_ascii, IsCharBoundary-after_ascii, is_utf8-from_IsUtf8, IsUtf8-from_is_utf8}
use Rattle.std.specs.Str.{IsUtf8, is_utf8}
use Rattle.std.specs.Option.{option_or}
use Rattle.std.specs.List.{list_all, slice_split, onto_first}
use Rattle.std.proofs.lemmas.Bool.{eqb-true}
use Rattle.fed_json.specs.Forms.{whole}
use Rattle.fed_json.specs.Trees.{as_text, as_list}
use Rattle.fed_json.proofs.Layers.{whole-Text}
use Rattle.fed_json.specs.Tables.{Name}
use Rattle.fed_json.proofs.Booleans.{left_true, right_true, both_true}
use Rattle.fed_json.proofs.Accessors.{Text-as_text, whole-items}
use Rattle.std.specs.Iterator.{Yields}
use Rattle.std.proofs.lemmas.Iterator.{YieldsList}
use Rattle.std.proofs.lemmas.Iterator.Consumers.{YieldsList-end}
use Rattle.fed_json.specs.declared.tree.Json.{Json, Text}
use Rattle.policy_merge.specs.Scope.{is_empty, is_scope, word_members, members_of}

-- the pieces that are words, as texts
abbrev pub kept : List (List ℕ) → List Json
kept pieces = map Text (filter (λ word. not (is_empty word)) pieces)

-- `YieldsList-end`, with what the loop knows first
pub all_yielded : {S A B : Type 0} {steps : S → Option A → S → Type 0} {v : A → B} {s : S} {all : List B} (xs : List A) (t : S) (y : Yields steps s xs t) (r : Option A) (u : S)
    → r ≡ None → steps t r u → YieldsList steps v s all → map v xs ≡ all
all_yielded xs t y r u none step e = (YieldsList-end e xs t y r u none step).0

-- ---- the words of a text are texts

-- there is a part
split_there : (p : ℕ → Bool) (bs : List ℕ) → (part : List ℕ) × (parts : List (List ℕ)) × (slice_split p bs ≡ part ∷ parts)
split_there p [] = ([], [], refl)
split_there p (b ∷ bs) = by (p b) (split_there p bs)
  where
    by : (c : Bool) → (part : List ℕ) × (parts : List (List ℕ)) × (slice_split p bs ≡ part ∷ parts)
        → (part : List ℕ) × (parts : List (List ℕ)) × (cond c ([] ∷ slice_split p bs) (onto_first b (slice_split p bs)) ≡ part ∷ parts)
    by true later = ([], slice_split p bs, refl)
    by false later = (b ∷ later.0, later.1, ap (onto_first b) later.2)

-- the parts, the first of which has more before it
abbrev onto : List ℕ → List (List ℕ) → List (List ℕ)
onto before [] = before ∷ []
onto before (part ∷ parts) = (before ++ part) ∷ parts

onto-onto_first : (before : List ℕ) (x : ℕ) (parts : List (List ℕ)) → onto before (onto_first x parts) ≡ onto (before ++ x ∷ []) parts
onto-onto_first before x [] = refl
onto-onto_first before x (part ∷ parts) = ap (λ p. p ∷ parts) (sym (append_assoc before (x ∷ []) part))

onto-nil : (parts : List (List ℕ)) → (first : List ℕ) × (rest : List (List ℕ)) × (parts ≡ first ∷ rest) → onto [] parts ≡ parts
onto-nil parts there = ap (onto []) there.2 ∙ sym there.2

-- the byte is a space (RFC 6749 section 3.3)
abbrev pub is_space : ℕ → Bool
is_space byte = byte == 32

utf8_before : (before : List ℕ) (x : ℕ) (rest : List ℕ) → IsUtf8 (before ++ x ∷ rest) → x ≡ 32 → IsUtf8 before
utf8_before before x rest text is =
    let long : length before < length (before ++ x ∷ rest) = simp length-append (omega arith) in
    let here : get_or (before ++ x ∷ rest) (length before) 0 ≡ x = get_or-append_seam before x rest 0 in
    subst IsUtf8 (take-append_seam before (x ∷ rest)) (IsUtf8-take (before ++ x ∷ rest) (length before) text (IsCharBoundary-before_ascii (before ++ x ∷ rest) (length before) long (omega (arith, here, is))))

utf8_behind : (before : List ℕ) (x : ℕ) (rest : List ℕ) → IsUtf8 (before ++ x ∷ rest) → x ≡ 32 → IsUtf8 rest
utf8_behind before x rest text is =
    let long : length before < length (before ++ x ∷ rest) = simp length-append (omega arith) in
    let here : get_or (before ++ x ∷ rest) (length before) 0 ≡ x = get_or-append_seam before x rest 0 in
    subst IsUtf8 (drop-append-add before (x ∷ rest) 1) (IsUtf8-drop (before ++ x ∷ rest) (length before + 1) text (IsCharBoundary-after_ascii (before ++ x ∷ rest) (length before) text long (omega (arith, here, is))))

parts-utf8 : (before bs : List ℕ) → IsUtf8 (before ++ bs) → list_all is_utf8 (onto before (slice_split is_space bs)) ≡ true
parts-utf8 before [] text = both_true (is_utf8-from_IsUtf8 (before ++ []) text) refl
parts-utf8 before (x ∷ bs) text =
    by (x == 32) refl (λ rest. parts-utf8 [] bs rest) (parts-utf8 (before ++ x ∷ []) bs (subst IsUtf8 (sym (append_assoc before (x ∷ []) bs)) text))
  where
    by : (b : Bool) → (x == 32) ≡ b → (IsUtf8 bs → list_all is_utf8 (onto [] (slice_split is_space bs)) ≡ true) → list_all is_utf8 (onto (before ++ x ∷ []) (slice_split is_space bs)) ≡ true
        → list_all is_utf8 (onto before (cond b ([] ∷ slice_split is_space bs) (onto_first x (slice_split is_space bs)))) ≡ true
    by true is after more =
        let space : x ≡ 32 = eqb-true x 32 is in
        both_true (is_utf8-from_IsUtf8 (before ++ []) (subst IsUtf8 (sym (append-nil before)) (utf8_before before x bs text space)))
        (subst (λ parts. list_all is_utf8 parts ≡ true) (onto-nil (slice_split is_space bs) (split_there is_space bs)) (after (utf8_behind before x bs text space)))
    by false is after more = subst (λ parts. list_all is_utf8 parts ≡ true) (sym (onto-onto_first before x (slice_split is_space bs))) more

texts-whole : (parts : List (List ℕ)) → list_all is_utf8 parts ≡ true → list_all whole (kept parts) ≡ true
texts-whole [] all = refl
texts-whole (part ∷ parts) all = by (is_empty part) (texts-whole parts (right_true (is_utf8 part) _ all))
  where
    by : (b : Bool) → list_all whole (kept parts) ≡ true → list_all whole (map Text (cond (not b) (part ∷ filter (λ word. not (is_empty word)) parts) (filter (λ word. not (is_empty word)) parts))) ≡ true
    by true rest = rest
    by false rest = both_true (whole-Text part ∙ left_true (is_utf8 part) _ all) rest

-- the words of a text can be written
pub words-whole : (text : List ℕ) → is_utf8 text ≡ true → list_all whole (word_members text) ≡ true
words-whole text good =
    texts-whole (slice_split is_space text)
    (subst (λ parts. list_all is_utf8 parts ≡ true) (onto-nil (slice_split is_space text) (split_there is_space text)) (parts-utf8 [] text (IsUtf8-from_is_utf8 text good)))

-- the members of a value that can be written can be
pub members-whole : (name : Name) (t : Json) (members : List Json) → whole t ≡ true → members_of name t ≡ Some members → list_all whole members ≡ true
members-whole name t members good e = by (is_scope name) (as_text t) refl e
  where
    by : (b : Bool) (o : Option (List ℕ)) → as_text t ≡ o → option_or (cond b (option_map word_members o) None) (as_list t) ≡ Some members → list_all whole members ≡ true
    by false o is e = whole-items t members good e
    by true None is e = whole-items t members good e
    by true (Some text) is e =
        let same : word_members text ≡ members = (cc) in
        ap (list_all whole) (sym same) ∙ words-whole text (sym (whole-Text text) ∙ ap whole (sym (Text-as_text t text is)) ∙ good)
