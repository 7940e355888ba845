-- What holds of each tree that was read, and which trees can be written.
use Rattle.std.specs.Prelude.{ℕ, suc, max, ◌^◌, ℤ, pos, negsuc, List, [], ◌∷◌, map, Bool, true, false, ◌&&◌, not, nat_lt, IsTrue}
use Rattle.std.specs.List.{list_all, list_any}
use Rattle.std.specs.Ordering.{nat_cmp, is_lt}
use Rattle.std.specs.Cmp.Lexicographic.{slice_cmp}
use Rattle.std.specs.Str.{is_utf8}
use Rattle.fed_json.specs.declared.tree.Json.{Json, fold-Json}
use Rattle.fed_json.specs.declared.tree.Json.TheOpen.{Json-F, Member-F}
use Rattle.fed_json.specs.declared.tree.Member.{Member}

-- from -2^63 to 2^64 - 1, as far as integers are read exactly (RFC 8259 section 6)
abbrev pub in_bounds : ℤ → Bool
in_bounds (pos n) = nat_lt n (2 ^ 64)
in_bounds (negsuc n) = nat_lt n (2 ^ 63)

-- the first name stands before the second in byte order
abbrev pub is_before : List ℕ → List ℕ → Bool
is_before a b = is_lt (slice_cmp nat_cmp a b)

-- each name stands before the next, so no name stands twice (RFC 8259 section 4)
abbrev pub rising : List (List ℕ) → Bool
rising [] = true
rising (a ∷ []) = true
rising (a ∷ b ∷ names) = is_before a b && rising (b ∷ names)

-- one level of `well_formed`, where each part has its answer
abbrev pub form_step : Json-F Bool (List ℕ × Bool) → Bool
form_step (Json-F.Int n) = in_bounds n
form_step (Json-F.Text bytes) = is_utf8 bytes
form_step (Json-F.List items) = list_all (λ good. good) items
form_step (Json-F.Object members) = rising (map (λ m. m.0) members) && list_all (λ m. m.1) members
form_step _ = true

-- the same of a member, which keeps its name
abbrev pub member_form_step : Member-F Bool (List ℕ × Bool) → List ℕ × Bool
member_form_step m = (m.name, is_utf8 m.name && m.value)

-- integers are in bounds, texts and names are UTF-8 (RFC 8259 section 8.1), and the names of each object rise
abbrev pub well_formed : Json → Bool
well_formed = fold-Json Bool (List ℕ × Bool) form_step member_form_step

-- `well_formed` of the members of an object
abbrev pub members_well_formed : List Member → Bool
members_well_formed members = rising (map (λ m. m.name) members) && list_all (λ m. is_utf8 m.name && well_formed m.value) members

-- one level of `has_odd`
abbrev pub odd_step : Json-F Bool Bool → Bool
odd_step Json-F.Odd = true
odd_step (Json-F.List items) = list_any (λ odd. odd) items
odd_step (Json-F.Object members) = list_any (λ odd. odd) members
odd_step _ = false

-- an Odd stands in the tree
abbrev pub has_odd : Json → Bool
has_odd = fold-Json Bool Bool odd_step (λ m. m.value)

-- the tree has a text: it is well formed, and no Odd stands in it
abbrev pub whole : Json → Bool
whole tree = well_formed tree && not (has_odd tree)

-- `whole` of the members of an object
abbrev pub members_whole : List Member → Bool
members_whole members = rising (map (λ m. m.name) members) && list_all (λ m. is_utf8 m.name && whole m.value) members

-- the greatest of the numbers, and 0 where there is none
abbrev pub greatest : List ℕ → ℕ
greatest [] = 0
greatest (n ∷ ns) = max n (greatest ns)

-- one level of `nesting`
abbrev pub nesting_step : Json-F ℕ ℕ → ℕ
nesting_step (Json-F.List items) = suc (greatest items)
nesting_step (Json-F.Object members) = suc (greatest members)
nesting_step _ = 0

-- how many lists and objects are open at the deepest place (RFC 8259 section 9)
abbrev pub nesting : Json → ℕ
nesting = fold-Json ℕ ℕ nesting_step (λ m. m.value)

-- what each tree that was read keeps, and what the calls on trees ask for
abbrev pub IsWellFormed : Json → Type 0
IsWellFormed tree = IsTrue (well_formed tree)

-- an Odd stands in the tree, as a fact
abbrev pub HasOdd : Json → Type 0
HasOdd tree = IsTrue (has_odd tree)

-- the tree has a text, as a fact
abbrev pub IsWhole : Json → Type 0
IsWhole tree = IsTrue (whole tree)
