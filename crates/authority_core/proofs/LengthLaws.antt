-- A tree's text isn't longer than what is counted for it.
use Rattle.std.specs.Prelude.{IfSome, SomeIff}
use Rattle.std.proofs.Common.{◌≡◌, ◌≤◌, ◌<◌, ◌+◌, ◌-◌, ◌*◌, ◌^◌, ℕ, suc, ℤ, pos, negsuc, List, [], ◌∷◌, ◌++◌, length, map, take, get_or, true, Option, Some, None, length-append, sym, ap, ◌∙◌, subst, arith, lit<, lit≤, rules}
use Rattle.std.specs.Fmt.{signed_decimal}
use Rattle.std.proofs.lemmas.Bool.Decides.{nat_tests}
use Rattle.std.proofs.lemmas.Fmt.{length-decimal-le_wide}
use Rattle.std.proofs.lemmas.List.{map-append, map_push, take_more}
use Rattle.fed_json.specs.declared.tree.Json.{Json, Int, Text, List as ListOf, Object, the_lemmas}
use Rattle.fed_json.specs.declared.tree.Member.{Member}
use Rattle.fed_json.specs.Compact.{compact, listed, quoted}
use Rattle.fed_json.specs.Forms.{IsWhole, in_bounds}
use Rattle.fed_json.specs.Members.{text_member}
use Rattle.authority_core.specs.Lengths.{items_length, member_text, members_length, pieces_length}
use Rattle.authority_core.proofs.Quoted.{quoted-short}

-- ---- pieces with commas

pub pieces-append : (xs ys : List (List ℕ)) → pieces_length (xs ++ ys) ≡ pieces_length xs + pieces_length ys
pieces-append [] ys = omega arith
pieces-append (x ∷ xs) ys = omega (arith, pieces-append xs ys)

pub listed-short : (xs : List (List ℕ)) → length (listed xs) ≤ pieces_length xs
listed-short [] = lit≤ tt
listed-short (x ∷ []) = omega arith
listed-short (x ∷ y ∷ xs) = omega (arith, length-append x (44 ∷ listed (y ∷ xs)), listed-short (y ∷ xs))

pub listed-long : (xs : List (List ℕ)) → pieces_length xs ≤ length (listed xs) + 1
listed-long [] = lit≤ tt
listed-long (x ∷ []) = omega arith
listed-long (x ∷ y ∷ xs) = omega (arith, length-append x (44 ∷ listed (y ∷ xs)), listed-long (y ∷ xs))

pub pieces-more : {X : Type 0} (f : X → List ℕ) (xs : List X) (i : ℕ) (x : X) → i < length xs → x ≡ get_or xs i x
    → pieces_length (map f (take (i + 1) xs)) ≡ pieces_length (map f (take i xs)) + (length (f x) + 1)
pieces-more f xs i x inside is =
    let more : take (i + 1) xs ≡ take i xs ++ x ∷ [] = take_more xs i x inside ∙ ap (λ y. take i xs ++ y ∷ []) (sym is) in
    let last = pieces-append (map f (take i xs)) (f x ∷ []) in
    omega (arith, ap (λ l. pieces_length (map f l)) more ∙ ap pieces_length (map_push f (take i xs) x), last)

-- ---- trees

compact-List : (ts : List Json) → compact (ListOf ts) ≡ 91 ∷ (listed (map compact ts) ++ 93 ∷ [])
compact-List ts = search (rules, the_lemmas)

compact-Object : (ms : List Member) → compact (Object ms) ≡ 123 ∷ (listed (map (λ m. member_text m.name m.value) ms) ++ 125 ∷ [])
compact-Object ms = search (rules, the_lemmas)

compact-Int : (n : ℤ) → compact (Int n) ≡ signed_decimal n
compact-Int n = search (rules, the_lemmas)

compact-Text : (bytes : List ℕ) → compact (Text bytes) ≡ quoted bytes
compact-Text bytes = search (rules, the_lemmas)

pub list-short : (ts : List Json) → length (compact (ListOf ts)) ≤ items_length ts + 2
list-short ts = omega (arith, ap length (compact-List ts), length-append (listed (map compact ts)) (93 ∷ []), listed-short (map compact ts))

pub object-short : (ms : List Member) → length (compact (Object ms)) ≤ members_length ms + 2
object-short ms =
    let texts = map (λ (m : Member). member_text m.name m.value) ms in
    omega (arith, ap length (compact-Object ms), length-append (listed texts) (125 ∷ []), listed-short texts)

pub object-long : (ms : List Member) → members_length ms ≤ length (compact (Object ms))
object-long ms =
    let texts = map (λ (m : Member). member_text m.name m.value) ms in
    omega (arith, ap length (compact-Object ms), length-append (listed texts) (125 ∷ []), listed-long texts)

pub member-length : (name : List ℕ) (value : Json) → length (member_text name value) ≡ length (quoted name) + 1 + length (compact value)
member-length name value = omega (arith, length-append (quoted name) (58 ∷ compact value))

-- ---- what is left of the room

pub less-fits : (o : Option ℕ) (room most n : ℕ) → SomeIff o (most ≤ room) (room - most) → n ≤ most → IfSome o (λ left. n + left ≤ room)
less-fits None room most n is few = tt
less-fits (Some x) room most n is few = omega (arith, is.0, is.1, few)

pub then-fits : (o : Option ℕ) (room before m p n : ℕ) → IfSome o (λ left. p + left ≤ before) → m + before ≤ room → n ≤ m + p → IfSome o (λ left. n + left ≤ room)
then-fits None room before m p n is fits few = tt
then-fits (Some x) room before m p n is fits few = omega (arith, is, fits, few)

pub less-then : (o : Option ℕ) (room before m p n : ℕ) → SomeIff o (p ≤ before) (before - p) → m + before ≤ room → n ≤ m + p → IfSome o (λ left. n + left ≤ room)
less-then o room before m p n is fits few = then-fits o room before m p n (less-fits o before p p is (omega arith)) fits few

-- ---- one level of a tree

bounded : (z : ℤ) → in_bounds z ≡ true → length (signed_decimal z) ≤ 21
bounded (pos n) e = let small : n < 2 ^ 64 = grind (arith, nat_tests, e) in omega (arith, length-decimal-le_wide 20 n (lit< tt) (omega (arith, small)) (omega (arith, small)))
bounded (negsuc n) e = let small : n < 2 ^ 63 = grind (arith, nat_tests, e) in omega (arith, length-decimal-le_wide 20 (suc n) (lit< tt) (omega (arith, small)) (omega (arith, small)))

whole-Int : (z : ℤ) → IsWhole (Int z) → in_bounds z ≡ true
whole-Int z good = sym (search (rules, the_lemmas)) ∙ good

pub number-fits : (tree : Json) (z : ℤ) (o : Option ℕ) (room : ℕ) → tree ≡ Int z → IsWhole tree → SomeIff o (21 ≤ room) (room - 21) → IfSome o (λ left. length (compact tree) + left ≤ room)
number-fits tree z o room is good fits =
    less-fits o room 21 (length (compact tree)) fits (omega (arith, ap (λ t. length (compact t)) is, ap length (compact-Int z), bounded z (whole-Int z (subst IsWhole is good))))

pub list-fits : (tree : Json) (items slice : List Json) (o : Option ℕ) (room before : ℕ) → tree ≡ ListOf items → slice ≡ items → 2 ≤ room → before ≡ room - 2
    → IfSome o (λ left. items_length slice + left ≤ before) → IfSome o (λ left. length (compact tree) + left ≤ room)
list-fits tree items slice o room before is same big less fits =
    then-fits o room before 2 (items_length slice) (length (compact tree)) fits (omega (arith, big, less))
    (omega (arith, ap (λ t. length (compact t)) is, list-short items, ap items_length same))

pub object-fits : (tree : Json) (members slice : List Member) (o : Option ℕ) (room before : ℕ) → tree ≡ Object members → slice ≡ members → 2 ≤ room → before ≡ room - 2
    → IfSome o (λ left. members_length slice + left ≤ before) → IfSome o (λ left. length (compact tree) + left ≤ room)
object-fits tree members slice o room before is same big less fits =
    then-fits o room before 2 (members_length slice) (length (compact tree)) fits (omega (arith, big, less))
    (omega (arith, ap (λ t. length (compact t)) is, object-short members, ap members_length same))

-- ---- members

pub members-append : (xs ys : List Member) → members_length (xs ++ ys) ≡ members_length xs + members_length ys
members-append xs ys =
    ap pieces_length (map-append (λ (m : Member). member_text m.name m.value) xs ys)
    ∙ pieces-append (map (λ (m : Member). member_text m.name m.value) xs) (map (λ (m : Member). member_text m.name m.value) ys)

pub text_member-length : (name text : List ℕ) → members_length (text_member name text ∷ []) ≡ length (quoted name) + length (quoted text) + 2
text_member-length name text = omega (arith, member-length name (Text text), ap length (compact-Text text))

-- a member that is a number of 64 bits
pub number-length : (name : List ℕ) (n : ℕ) → n < 2 ^ 64 → length (member_text name (Int (pos n))) ≤ 6 * length name + 23
number-length name n small =
    omega (arith, member-length name (Int (pos n)), ap length (compact-Int (pos n)), length-decimal-le_wide 20 n (lit< tt) (omega (arith, small)) (omega (arith, small)), quoted-short name)
