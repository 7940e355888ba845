-- The compact text of a tree is that of a value that stands for it.
use Rattle.std.proofs.Common.{◌≡◌, ℕ, ℤ, pos, List, [], ◌∷◌, ◌++◌, map, true, false, codes, refl, sym, ap, ap₂, ◌∙◌, append_assoc, append-nil, true≢false, rules}
use Rattle.std.specs.Fmt.{signed_decimal}
use Rattle.serde_json.specs.Data as data_of
use Rattle.serde_json.specs.Data.{Data, Items, Members, Num}
use Rattle.serde_json.specs.Written.{compact_text, items_text, members_text, number_text, has_float, items_have_float, members_have_float}
use Rattle.serde_json.specs.Find.{is_float}
use Rattle.fed_json.specs.declared.tree.Json.{Json, Null, Bool as Truth, Int, Text, List as ListOf, Object, the_lemmas}
use Rattle.fed_json.specs.declared.tree.Member.{Member}
use Rattle.fed_json.specs.Compact.{compact, quoted, listed}
use Rattle.fed_json.proofs.Booleans.{left_false, right_false}
use Rattle.fed_json.specs.Reading.{tree_of, items_of, members_of, number_tree}

-- ---- one level of `compact`

-- the text of a member
abbrev written : Member → List ℕ
written m = quoted m.name ++ 58 ∷ compact m.value

compact-Null : compact Null ≡ codes "null"
compact-Null = search (rules, the_lemmas)

compact-true : compact (Truth true) ≡ codes "true"
compact-true = search (rules, the_lemmas)

compact-false : compact (Truth false) ≡ codes "false"
compact-false = search (rules, the_lemmas)

compact-Int : (n : ℤ) → compact (Int n) ≡ signed_decimal n
compact-Int n = search (rules, the_lemmas)

compact-Text : (bytes : List ℕ) → compact (Text bytes) ≡ quoted bytes
compact-Text bytes = search (rules, the_lemmas)

compact-List : (ts : List Json) → compact (ListOf ts) ≡ 91 ∷ (listed (map compact ts) ++ 93 ∷ [])
compact-List ts = search (rules, the_lemmas)

compact-Object : (ms : List Member) → compact (Object ms) ≡ 123 ∷ (listed (map written ms) ++ 125 ∷ [])
compact-Object ms = search (rules, the_lemmas)

-- ---- commas

-- each piece behind a comma
abbrev behind : List (List ℕ) → List ℕ
behind [] = []
behind (x ∷ xs) = 44 ∷ (x ++ behind xs)

listed-cons : (x : List ℕ) (xs : List (List ℕ)) → listed (x ∷ xs) ≡ x ++ behind xs
listed-cons x [] = sym (append-nil x)
listed-cons x (y ∷ xs) = ap (λ rest. x ++ 44 ∷ rest) (listed-cons y xs)

number-compact : (n : Num) → is_float n ≡ false → number_text n ≡ compact (number_tree n)
number-compact (data_of.unsigned n) e = sym (compact-Int (pos n))
number-compact (data_of.negative n) e = sym (compact-Int n)
number-compact (data_of.float x) e = absurd (true≢false e)

-- a name, a colon, a value and what follows
piece : (name text rest text' rest' : List ℕ) → text ≡ text' → rest ≡ rest' → name ++ 58 ∷ (text ++ rest) ≡ (name ++ 58 ∷ text') ++ rest'
piece name text rest text' rest' e f = ap₂ (λ x y. name ++ 58 ∷ (x ++ y)) e f ∙ sym (append_assoc name (58 ∷ text') rest')

mutual
  pub compact-tree_of : (d : Data) → has_float d ≡ false → compact_text d ≡ compact (tree_of d)
  compact-tree_of data_of.null e = sym compact-Null
  compact-tree_of (data_of.boolean true) e = sym compact-true
  compact-tree_of (data_of.boolean false) e = sym compact-false
  compact-tree_of (data_of.number n) e = number-compact n e
  compact-tree_of (data_of.string s) e = sym (compact-Text s)
  compact-tree_of (data_of.array ds) e = ap (λ rest. 91 ∷ rest) (items-compact ds e) ∙ sym (compact-List (items_of ds))
  compact-tree_of (data_of.object ms) e = ap (λ rest. 123 ∷ rest) (members-compact ms e) ∙ sym (compact-Object (members_of ms))

  items-compact : (ds : Items) → items_have_float ds ≡ false → items_text false ds ≡ listed (map compact (items_of ds)) ++ 93 ∷ []
  items-compact data_of.no_items e = refl
  items-compact (data_of.item d ds) e =
      ap₂ (λ x rest. x ++ rest) (compact-tree_of d (left_false _ _ e)) (more_items ds (right_false (has_float d) _ e))
      ∙ sym (ap (λ x. x ++ 93 ∷ []) (listed-cons (compact (tree_of d)) (map compact (items_of ds))) ∙ append_assoc (compact (tree_of d)) _ _)

  more_items : (ds : Items) → items_have_float ds ≡ false → items_text true ds ≡ behind (map compact (items_of ds)) ++ 93 ∷ []
  more_items data_of.no_items e = refl
  more_items (data_of.item d ds) e =
      ap (λ rest. 44 ∷ rest)
      (ap₂ (λ x rest. x ++ rest) (compact-tree_of d (left_false _ _ e)) (more_items ds (right_false (has_float d) _ e)) ∙ sym (append_assoc (compact (tree_of d)) _ _))

  members-compact : (ms : Members) → members_have_float ms ≡ false → members_text false ms ≡ listed (map written (members_of ms)) ++ 125 ∷ []
  members-compact data_of.no_members e = refl
  members-compact (data_of.member name d ms) e = piece (quoted name) _ _ _ _ (compact-tree_of d (left_false _ _ e)) (more_members ms (right_false (has_float d) _ e))
      ∙ sym (ap (λ x. x ++ 125 ∷ []) (listed-cons (quoted name ++ 58 ∷ compact (tree_of d)) (map written (members_of ms))) ∙ append_assoc (quoted name ++ 58 ∷ compact (tree_of d)) _ _)

  more_members : (ms : Members) → members_have_float ms ≡ false → members_text true ms ≡ behind (map written (members_of ms)) ++ 125 ∷ []
  more_members data_of.no_members e = refl
  more_members (data_of.member name d ms) e = ap (λ rest. 44 ∷ rest) (piece (quoted name) _ _ _ _ (compact-tree_of d (left_false _ _ e)) (more_members ms (right_false (has_float d) _ e)) ∙ sym (append_assoc (quoted name ++ 58 ∷ compact (tree_of d)) _ _))
