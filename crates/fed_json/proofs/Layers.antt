-- The definitions of `Forms`, one level of a tree at a time.
use Rattle.std.proofs.Common.{◌≡◌, ℕ, suc, List, [], ◌∷◌, Bool, true, false, ◌&&◌, ◌||◌, not, map, refl, sym, ap, ap₂, ◌∙◌, rules, ℤ}
use Rattle.std.specs.List.{list_all, list_any}
use Rattle.std.specs.Str.{IsUtf8, is_utf8}
use Rattle.std.proofs.lemmas.Str.{IsUtf8-from_is_utf8}
use Rattle.std.proofs.lemmas.List.Folds.{list_all-map}
use Rattle.fed_json.specs.declared.tree.Json.{Json, List as ListOf, Object, Text, Null, Bool as Truth, Int, Odd, the_lemmas}
use Rattle.fed_json.specs.declared.tree.Member.{Member}
use Rattle.fed_json.proofs.Booleans.{left_true}
use Rattle.fed_json.specs.Forms.{well_formed, members_well_formed, has_odd, whole, IsWhole, members_whole, rising, nesting, greatest}

abbrev seen : Member → List ℕ × Bool
seen m = (m.name, is_utf8 m.name && well_formed m.value)

names_seen : (ms : List Member) → map (λ p. p.0) (map seen ms) ≡ map (λ m. m.name) ms
names_seen [] = refl
names_seen (m ∷ ms) = ap (λ names. m.name ∷ names) (names_seen ms)

well_formed-fold_List : (ts : List Json) → well_formed (ListOf ts) ≡ list_all (λ good. good) (map well_formed ts)
well_formed-fold_List ts = search (rules, the_lemmas)

well_formed-fold_Object : (ms : List Member) → well_formed (Object ms) ≡ (rising (map (λ p. p.0) (map seen ms)) && list_all (λ p. p.1) (map seen ms))
well_formed-fold_Object ms = search (rules, the_lemmas)

pub well_formed-List : (ts : List Json) → well_formed (ListOf ts) ≡ list_all well_formed ts
well_formed-List ts = well_formed-fold_List ts ∙ list_all-map (λ good. good) well_formed ts

pub well_formed-Object : (ms : List Member) → well_formed (Object ms) ≡ members_well_formed ms
well_formed-Object ms = well_formed-fold_Object ms ∙ ap₂ (λ a b. a && b) (ap rising (names_seen ms)) (list_all-map (λ (p : List ℕ × Bool). p.1) seen ms)

any_of : {X : Type 0} (f : X → Bool) (xs : List X) → list_any (λ odd. odd) (map f xs) ≡ list_any f xs
any_of f [] = refl
any_of f (x ∷ xs) = ap (λ b. f x || b) (any_of f xs)

has_odd-fold_List : (ts : List Json) → has_odd (ListOf ts) ≡ list_any (λ odd. odd) (map has_odd ts)
has_odd-fold_List ts = search (rules, the_lemmas)

has_odd-fold_Object : (ms : List Member) → has_odd (Object ms) ≡ list_any (λ odd. odd) (map (λ m. has_odd m.value) ms)
has_odd-fold_Object ms = search (rules, the_lemmas)

pub has_odd-List : (ts : List Json) → has_odd (ListOf ts) ≡ list_any has_odd ts
has_odd-List ts = has_odd-fold_List ts ∙ any_of has_odd ts

pub has_odd-Object : (ms : List Member) → has_odd (Object ms) ≡ list_any (λ m. has_odd m.value) ms
has_odd-Object ms = has_odd-fold_Object ms ∙ any_of (λ (m : Member). has_odd m.value) ms

-- two tests of each, one of which is to pass and the other to fail, as one test
both_of : {X : Type 0} (good bad : X → Bool) (xs : List X) → (list_all good xs && not (list_any bad xs)) ≡ list_all (λ x. good x && not (bad x)) xs
both_of good bad [] = refl
both_of good bad (x ∷ xs) = regroup (good x) (bad x) _ _ ∙ ap (λ b. (good x && not (bad x)) && b) (both_of good bad xs)
  where
    regroup : (a b c d : Bool) → ((a && c) && not (b || d)) ≡ ((a && not b) && (c && not d))
    regroup true true true d = refl
    regroup true true false d = refl
    regroup true false c d = refl
    regroup false b c d = refl

pub whole-List : (ts : List Json) → whole (ListOf ts) ≡ list_all whole ts
whole-List ts = ap₂ (λ a b. a && not b) (well_formed-List ts) (has_odd-List ts) ∙ both_of well_formed has_odd ts

and_assoc : (a b c : Bool) → ((a && b) && c) ≡ (a && (b && c))
and_assoc true b c = refl
and_assoc false b c = refl

-- one test of each with a part drawn out
drawn_out : (ms : List Member) → list_all (λ m. (is_utf8 m.name && well_formed m.value) && not (has_odd m.value)) ms ≡ list_all (λ m. is_utf8 m.name && whole m.value) ms
drawn_out [] = refl
drawn_out (m ∷ ms) = ap₂ (λ a b. a && b) (and_assoc (is_utf8 m.name) _ _) (drawn_out ms)

pub whole-Object : (ms : List Member) → whole (Object ms) ≡ members_whole ms
whole-Object ms =
    ap₂ (λ a b. a && not b) (well_formed-Object ms) (has_odd-Object ms)
    ∙ (and_assoc (rising (map (λ m. m.name) ms)) _ _ ∙ ap (λ b. rising (map (λ m. m.name) ms) && b) (both_of (λ (m : Member). is_utf8 m.name && well_formed m.value) (λ m. has_odd m.value) ms ∙ drawn_out ms))

pub well_formed-Text : (bytes : List ℕ) → well_formed (Text bytes) ≡ is_utf8 bytes
well_formed-Text bytes = search (rules, the_lemmas)

has_odd-Text : (bytes : List ℕ) → has_odd (Text bytes) ≡ false
has_odd-Text bytes = search (rules, the_lemmas)

and_true : (b : Bool) → (b && true) ≡ b
and_true true = refl
and_true false = refl

pub whole-Text : (bytes : List ℕ) → whole (Text bytes) ≡ is_utf8 bytes
whole-Text bytes = ap₂ (λ a b. a && not b) (well_formed-Text bytes) (has_odd-Text bytes) ∙ and_true (is_utf8 bytes)

pub nesting-List : (ts : List Json) → nesting (ListOf ts) ≡ suc (greatest (map nesting ts))
nesting-List ts = search (rules, the_lemmas)

pub nesting-Object : (ms : List Member) → nesting (Object ms) ≡ suc (greatest (map (λ m. nesting m.value) ms))
nesting-Object ms = search (rules, the_lemmas)

pub nesting-Null : nesting Null ≡ 0
nesting-Null = search (rules, the_lemmas)

pub nesting-Bool : (b : Bool) → nesting (Truth b) ≡ 0
nesting-Bool b = search (rules, the_lemmas)

pub nesting-Int : (n : ℤ) → nesting (Int n) ≡ 0
nesting-Int n = search (rules, the_lemmas)

pub nesting-Odd : nesting Odd ≡ 0
nesting-Odd = search (rules, the_lemmas)

pub nesting-Text : (bytes : List ℕ) → nesting (Text bytes) ≡ 0
nesting-Text bytes = search (rules, the_lemmas)

pub IsUtf8-whole_Text : (bytes : List ℕ) → IsWhole (Text bytes) → IsUtf8 bytes
IsUtf8-whole_Text bytes good = IsUtf8-from_is_utf8 bytes (sym (well_formed-Text bytes) ∙ left_true (well_formed (Text bytes)) _ good)
