-- The values that `add` and `subset_of` make, and their members.
use Rattle.std.proofs.Common.{◌≡◌, ◌⊎◌, inl, inr, ◌==◌, ℕ, List, [], ◌∷◌, ◌++◌, Option, Some, None, option_map, Ok, Err, Bool, true, false, ◌&&◌, not, cond, map, filter, refl, sym, ap, ap₂, ◌∙◌, rules}
use Rattle.std.specs.Option.{option_and_then, option_map_or, option_or}
use Rattle.std.specs.List.{list_all, slice_split, onto_first, join_with_byte}
use Rattle.fed_json.specs.Trees.{as_text, as_list, texts_in}
use Rattle.fed_json.specs.Sets.{union_of, intersection_of}
use Rattle.fed_json.specs.declared.tree.Json.{Json, Text, List as ListOf, the_lemmas}
use Rattle.policy_merge.specs.declared.operator.Operator.{Operator}
use Rattle.policy_merge.specs.declared.operator.Operator.TheVariants.{Add, SubsetOf}
use Rattle.policy_merge.specs.declared.operators.Operators.{Operators}
use Rattle.fed_json.specs.Tables.{Name}
use Rattle.fed_base.specs.Values.{if_there}
use Rattle.policy_merge.specs.Scope.{is_scope, is_empty, words, word_members, members_of}
use Rattle.fed_json.proofs.Booleans.{left_true, right_true, both_true, not_true}
use Rattle.fed_json.proofs.Accessors.{Text-as_text, as_text-Text, as_list-List}
use Rattle.fed_json.proofs.Among.{all-union, all-intersection}
use Rattle.policy_merge.proofs.Words.{is_space}
use Rattle.policy_apply.specs.Acting.{joined_words, is_text, stays_text, made, with_added, by_add, with_kept, by_subset_of}
use Rattle.policy_apply.specs.Keeping.{is_word, AddsWords}

-- ---- words that are joined are there again

abbrev pub spaceless : List ℕ → Bool
spaceless bytes = list_all (λ byte. not (byte == 32)) bytes

abbrev pub good_word : List ℕ → Bool
good_word bytes = not (is_empty bytes) && spaceless bytes

no_space : (x : ℕ) (w : List ℕ) → spaceless (x ∷ w) ≡ true → is_space x ≡ false
no_space x w good = not_true (x == 32) (left_true (not (x == 32)) _ good)

split_word : (w : List ℕ) → spaceless w ≡ true → slice_split is_space w ≡ w ∷ []
split_word [] good = refl
split_word (x ∷ w) good =
    ap (λ b. cond b ([] ∷ slice_split is_space w) (onto_first x (slice_split is_space w))) (no_space x w good)
    ∙ ap (onto_first x) (split_word w (right_true (not (x == 32)) _ good))

split_next : (w rest : List ℕ) → spaceless w ≡ true → slice_split is_space (w ++ 32 ∷ rest) ≡ w ∷ slice_split is_space rest
split_next [] rest good = refl
split_next (x ∷ w) rest good =
    ap (λ b. cond b ([] ∷ slice_split is_space (w ++ 32 ∷ rest)) (onto_first x (slice_split is_space (w ++ 32 ∷ rest)))) (no_space x w good)
    ∙ ap (onto_first x) (split_next w rest (right_true (not (x == 32)) _ good))

split_joined : (w : List ℕ) (ws : List (List ℕ)) → list_all good_word (w ∷ ws) ≡ true → slice_split is_space (join_with_byte 32 (w ∷ ws)) ≡ w ∷ ws
split_joined w [] good = split_word w (right_true (not (is_empty w)) _ (left_true (good_word w) _ good))
split_joined w (v ∷ ws) good =
    split_next w (join_with_byte 32 (v ∷ ws)) (right_true (not (is_empty w)) _ (left_true (good_word w) _ good))
    ∙ ap (λ parts. w ∷ parts) (split_joined v ws (right_true (good_word w) _ good))

kept_all : (ws : List (List ℕ)) → list_all good_word ws ≡ true → filter (λ word. not (is_empty word)) ws ≡ ws
kept_all [] good = refl
kept_all (w ∷ ws) good =
    ap (λ b. cond b (w ∷ filter (λ word. not (is_empty word)) ws) (filter (λ word. not (is_empty word)) ws)) (left_true (not (is_empty w)) _ (left_true (good_word w) _ good))
    ∙ ap (λ rest. w ∷ rest) (kept_all ws (right_true (good_word w) _ good))

words-joined : (ws : List (List ℕ)) → list_all good_word ws ≡ true → words (join_with_byte 32 ws) ≡ ws
words-joined [] good = refl
words-joined (w ∷ ws) good = ap (filter (λ word. not (is_empty word))) (split_joined w ws good) ∙ kept_all (w ∷ ws) good

-- ---- the words of a text are words

onto_spaceless : (x : ℕ) (parts : List (List ℕ)) → (x == 32) ≡ false → list_all spaceless parts ≡ true → list_all spaceless (onto_first x parts) ≡ true
onto_spaceless x [] e good = both_true (both_true (ap not e) refl) refl
onto_spaceless x (part ∷ parts) e good = both_true (both_true (ap not e) (left_true (spaceless part) _ good)) (right_true (spaceless part) _ good)

split_spaceless : (bs : List ℕ) → list_all spaceless (slice_split is_space bs) ≡ true
split_spaceless [] = refl
split_spaceless (x ∷ bs) = by (x == 32) refl (split_spaceless bs)
  where
    by : (b : Bool) → (x == 32) ≡ b → list_all spaceless (slice_split is_space bs) ≡ true → list_all spaceless (cond b ([] ∷ slice_split is_space bs) (onto_first x (slice_split is_space bs))) ≡ true
    by true is rest = rest
    by false is rest = onto_spaceless x (slice_split is_space bs) is rest

is_word-Text : (w : List ℕ) → is_word (Text w) ≡ good_word w
is_word-Text w = ap (λ o. option_map_or good_word o false) (as_text-Text w)

all_words : (parts : List (List ℕ)) → list_all spaceless parts ≡ true → list_all is_word (map Text (filter (λ word. not (is_empty word)) parts)) ≡ true
all_words [] good = refl
all_words (part ∷ parts) good = by (is_empty part) refl (all_words parts (right_true (spaceless part) _ good))
  where
    by : (b : Bool) → is_empty part ≡ b → list_all is_word (map Text (filter (λ word. not (is_empty word)) parts)) ≡ true
        → list_all is_word (map Text (cond (not b) (part ∷ filter (λ word. not (is_empty word)) parts) (filter (λ word. not (is_empty word)) parts))) ≡ true
    by true is rest = rest
    by false is rest = both_true (is_word-Text part ∙ both_true (ap not is) (left_true (spaceless part) _ good)) rest

word_members-words : (text : List ℕ) → list_all is_word (word_members text) ≡ true
word_members-words text = all_words (slice_split is_space text) (split_spaceless text)

-- ---- texts of a list

pub texts-list : (list : List Json) (ws : List (List ℕ)) → texts_in list ≡ Some ws → map Text ws ≡ list
texts-list [] ws e = let is : ◌≡◌ {A = List (List ℕ)} [] ws = (cc) in ap (map Text) (sym is)
texts-list (x ∷ xs) ws e = by (as_text x) refl (texts_in xs) refl e (texts-list xs)
  where
    by : (o : Option (List ℕ)) → as_text x ≡ o → (r : Option (List (List ℕ))) → texts_in xs ≡ r → option_and_then (λ word. option_map (λ rest. word ∷ rest) r) o ≡ Some ws
        → ((vs : List (List ℕ)) → texts_in xs ≡ Some vs → map Text vs ≡ xs) → map Text ws ≡ x ∷ xs
    by None is_o r is_r e later = absurd (cc)
    by (Some w) is_o None is_r e later = absurd (cc)
    by (Some w) is_o (Some vs) is_r e later =
        let is : w ∷ vs ≡ ws = (cc) in
        ap (map Text) (sym is) ∙ ap₂ (λ t ts. t ∷ ts) (sym (Text-as_text x w is_o)) (later vs is_r)

words-good : (ws : List (List ℕ)) → list_all is_word (map Text ws) ≡ true → list_all good_word ws ≡ true
words-good [] good = refl
words-good (w ∷ ws) good = both_true (sym (is_word-Text w) ∙ left_true (is_word (Text w)) _ good) (words-good ws (right_true (is_word (Text w)) _ good))

-- ---- members

as_text-List : (list : List Json) → as_text (ListOf list) ≡ None
as_text-List list = search (rules, the_lemmas)

pub members-List : (p : Name) (list : List Json) → members_of p (ListOf list) ≡ Some list
members-List p list = ap₂ option_or (no_words (is_scope p)) (as_list-List list)
  where
    no_words : (b : Bool) → cond b (option_map word_members (as_text (ListOf list))) None ≡ None
    no_words true = ap (option_map word_members) (as_text-List list)
    no_words false = refl

pub members-Text : (p : Name) (text : List ℕ) → is_scope p ≡ true → members_of p (Text text) ≡ Some (word_members text)
members-Text p text scope =
    ap (λ b. option_or (cond b (option_map word_members (as_text (Text text))) None) (as_list (Text text))) scope
    ∙ ap (λ o. option_or (option_map word_members o) (as_list (Text text))) (as_text-Text text)

-- how a value was made: a list, or a text of words
abbrev pub Made : Name → Option Json → List Json → Option Json → Type 0
Made p before list y =
    (y ≡ Some (ListOf list)) ⊎ ((stays_text p before ≡ true) × (ws : List (List ℕ)) × (texts_in list ≡ Some ws) × (y ≡ Some (joined_words ws)))

pub made-ok : (p : Name) (operator : Operator) (before : Option Json) (list : List Json) (y : Option Json) → made p operator before list ≡ Ok y → Made p before list y
unfolding made
made-ok p operator before list y e = by (stays_text p before) refl (texts_in list) refl e
  where
    by : (b : Bool) → stays_text p before ≡ b → (o : Option (List (List ℕ))) → texts_in list ≡ o
        → cond b (option_map_or (λ ws. Ok (Some (joined_words ws))) o (Err operator)) (Ok (Some (ListOf list))) ≡ Ok y → Made p before list y
    by false is o is_o e = let same : Some (ListOf list) ≡ y = (cc) in inl (sym same)
    by true is None is_o e = absurd (cc)
    by true is (Some ws) is_o e = let same : Some (joined_words ws) ≡ y = (cc) in inr (is, ws, is_o, sym same)

-- the value that was made has exactly the members of the list
abbrev pub Has : Name → Option Json → List Json → Type 0
Has p y list = (v : Json) × (y ≡ Some v) × (members_of p v ≡ Some list)

pub made-has : (p : Name) (before : Option Json) (list : List Json) (y : Option Json) → (stays_text p before ≡ true → list_all is_word list ≡ true) → Made p before list y → Has p y list
made-has p before list y one_word (inl is) = (ListOf list, is, members-List p list)
made-has p before list y one_word (inr m) =
    let is_list = texts-list list m.1 m.2 in
    let good = words-good m.1 (ap (list_all is_word) is_list ∙ one_word m.0) in (
      joined_words m.1,
      m.3,
      members-Text p (join_with_byte 32 m.1) (left_true (is_scope p) _ m.0) ∙ ap (λ ws. Some (map Text ws)) (words-joined m.1 good) ∙ ap Some is_list,
    )

-- the value was made of the list, and has its members
abbrev pub Fresh : Name → Option Json → List Json → Type 0
Fresh p y list = (before : Option Json) × Made p before list y × Has p y list

fresh : (p : Name) (operator : Operator) (before : Option Json) (list : List Json) (y : Option Json) → (stays_text p before ≡ true → list_all is_word list ≡ true) → made p operator before list ≡ Ok y → Fresh p y list
fresh p operator before list y one_word e = let m = made-ok p operator before list y e in (before, m, made-has p before list y one_word m)

is_text-List : (list : List Json) → is_text (ListOf list) ≡ false
is_text-List list = ap (λ o. option_map_or (λ _. true) o false) (as_text-List list)

is_text-Text : (text : List ℕ) → is_text (Text text) ≡ true
is_text-Text text = ap (λ o. option_map_or (λ _. true) o false) (as_text-Text text)

and_false : (a : Bool) → (a && false) ≡ false
and_false true = refl
and_false false = refl

-- what was made of the list is made of it again
pub made-again : (p : Name) (operator : Operator) (before : Option Json) (list : List Json) (w : Json) → Made p before list (Some w) → made p operator (Some w) list ≡ Ok (Some w)
unfolding made
made-again p operator before list w (inl is) =
    let same : w ≡ ListOf list = (cc) in
    ap (λ b. cond b (option_map_or (λ ws. Ok (Some (joined_words ws))) (texts_in list) (Err operator)) (Ok (Some (ListOf list)))) (ap (λ v. is_scope p && is_text v) same ∙ ap (λ b. is_scope p && b) (is_text-List list) ∙ and_false (is_scope p))
    ∙ ap Ok (sym is)
made-again p operator before list w (inr m) =
    let same : w ≡ joined_words m.1 = (cc) in
    ap₂ (λ b o. cond b (option_map_or (λ ws. Ok (Some (joined_words ws))) o (Err operator)) (Ok (Some (ListOf list))))
    (ap (λ v. is_scope p && is_text v) same ∙ both_true (left_true (is_scope p) _ m.0) (is_text-Text (join_with_byte 32 m.1))) m.2
    ∙ ap Ok (sym m.3)

-- the members of a text are words
before-words : (p : Name) (v : Json) (members : List Json) → stays_text p (Some v) ≡ true → members_of p v ≡ Some members → list_all is_word members ≡ true
before-words p v members stays e = by (as_text v) refl (right_true (is_scope p) _ stays)
  where
    by : (o : Option (List ℕ)) → as_text v ≡ o → option_map_or (λ _. true) o false ≡ true → list_all is_word members ≡ true
    by None is there = absurd (cc)
    by (Some text) is there =
        let same : Some (word_members text) ≡ Some members = sym (members-Text p text (left_true (is_scope p) _ stays)) ∙ ap (members_of p) (sym (Text-as_text v text is)) ∙ e in
        let are : word_members text ≡ members = (cc) in
        ap (list_all is_word) (sym are) ∙ word_members-words text

-- ---- what `add` leaves

added_words : (p : Name) (o : Operators) (list : List Json) → o.add ≡ Some list → AddsWords p o → is_scope p ≡ true → list_all is_word list ≡ true
added_words p o list is words scope = sym (ap₂ (λ b add. cond b (if_there (list_all is_word) add) true) scope is) ∙ words

pub add-absent : (p : Name) (o : Operators) (list : List Json) (y : Option Json) → o.add ≡ Some list → AddsWords p o → by_add p o None ≡ Ok y → Fresh p y (union_of list [])
unfolding by_add
add-absent p o list y is words e =
    fresh p Add None (union_of list []) y
    (λ stays. all-union is_word list [] (added_words p o list is words (left_true (is_scope p) _ stays)) refl)
    (sym (ap (λ add. option_map_or (λ list. with_added p list None) add (Ok None)) is) ∙ e)

pub add-present : (p : Name) (o : Operators) (list : List Json) (v : Json) (y : Option Json) → o.add ≡ Some list → AddsWords p o → by_add p o (Some v) ≡ Ok y
    → (members : List Json) × (members_of p v ≡ Some members) × Fresh p y (union_of members list)
unfolding by_add
add-present p o list v y is words e = by (members_of p v) refl (sym (ap (λ add. option_map_or (λ list. with_added p list (Some v)) add (Ok (Some v))) is) ∙ e)
  where
    by : (m : Option (List Json)) → members_of p v ≡ m → option_map_or (λ members. made p Add (Some v) (union_of members list)) m (Err Add) ≡ Ok y
        → (members : List Json) × (members_of p v ≡ Some members) × Fresh p y (union_of members list)
    by None is_m e = absurd (cc)
    by (Some members) is_m e = (
      members,
      is_m,
      fresh p Add (Some v) (union_of members list) y
          (λ stays. all-union is_word members list (before-words p v members stays is_m) (added_words p o list is words (left_true (is_scope p) _ stays)))
          e,
    )

pub add-nothing : (p : Name) (o : Operators) (x y : Option Json) → o.add ≡ None → by_add p o x ≡ Ok y → y ≡ x
unfolding by_add
add-nothing p o x y is e = let same : Ok x ≡ Ok y = sym (ap (λ add. option_map_or (λ list. with_added p list x) add (Ok x)) is) ∙ e in (cc)

-- ---- what `subset_of` leaves

pub kept-absent : (p : Name) (o : Operators) (y : Option Json) → by_subset_of p o None ≡ Ok y → y ≡ None
unfolding by_subset_of
kept-absent p o y e = by o.subset_of e
  where
    by : (l : Option (List Json)) → option_map_or (λ list. with_kept p list None) l (Ok None) ≡ Ok y → y ≡ None
    by None e = (cc)
    by (Some list) e = (cc)

pub kept-present : (p : Name) (o : Operators) (list : List Json) (v : Json) (y : Option Json) → o.subset_of ≡ Some list → by_subset_of p o (Some v) ≡ Ok y
    → (members : List Json) × (members_of p v ≡ Some members) × Fresh p y (intersection_of members list)
unfolding by_subset_of
kept-present p o list v y is e = by (members_of p v) refl (sym (ap (λ subset. option_map_or (λ list. with_kept p list (Some v)) subset (Ok (Some v))) is) ∙ e)
  where
    by : (m : Option (List Json)) → members_of p v ≡ m → option_map_or (λ members. made p SubsetOf (Some v) (intersection_of members list)) m (Err SubsetOf) ≡ Ok y
        → (members : List Json) × (members_of p v ≡ Some members) × Fresh p y (intersection_of members list)
    by None is_m e = absurd (cc)
    by (Some members) is_m e = (
      members,
      is_m,
      fresh p SubsetOf (Some v) (intersection_of members list) y
          (λ stays. all-intersection is_word members list (before-words p v members stays is_m))
          e,
    )

pub kept-nothing : (p : Name) (o : Operators) (x y : Option Json) → o.subset_of ≡ None → by_subset_of p o x ≡ Ok y → y ≡ x
unfolding by_subset_of
kept-nothing p o x y is e = let same : Ok x ≡ Ok y = sym (ap (λ subset. option_map_or (λ list. with_kept p list x) subset (Ok x)) is) ∙ e in (cc)
