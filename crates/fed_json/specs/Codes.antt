-- Codes of trees, and places of values by their codes, by which a value is found in a long list; no public clause cites them.
use Rattle.std.specs.Prelude.{◌≡◌, ◌<◌, ◌+◌, ◌*◌, ◌%◌, ◌^◌, ◌⊎◌, ℕ, List, [], ◌∷◌, ◌++◌, Bool, true, false, Option, Some, None, length, fold, get_or, unwrap_or, decimal, Contains, IsTrue, Vec}
use Rattle.std.specs.BTreeMap.{BTreeMap, get_by}
use Rattle.std.specs.Cmp.Lexicographic.{slice_cmp}
use Rattle.std.specs.Fmt.{signed_decimal}
use Rattle.std.specs.List.{concat, slice_get}
use Rattle.std.specs.Option.{is_some}
use Rattle.std.specs.Ordering.{nat_cmp}
use Rattle.fed_json.specs.declared.places.Places.{Places}
use Rattle.fed_json.specs.declared.tree.Json.{Json, fold-Json}
use Rattle.fed_json.specs.declared.tree.Json.TheOpen.{Json-F, Member-F}
use Rattle.fed_json.specs.declared.tree.Member.{Member}
use Rattle.fed_json.specs.Trees.{as_text}

-- the length in decimal digits, a colon and the bytes
abbrev pub counted : List ℕ → List ℕ
counted bytes = decimal (length bytes) ++ 58 ∷ bytes

-- one level of `code_of`, where each part has its code
abbrev pub code_step : Json-F (List ℕ) (List ℕ) → List ℕ
code_step Json-F.Null = 110 ∷ []
code_step (Json-F.Bool true) = 116 ∷ []
code_step (Json-F.Bool false) = 102 ∷ []
code_step (Json-F.Int n) = 105 ∷ (signed_decimal n ++ 101 ∷ [])
code_step Json-F.Odd = 111 ∷ []
code_step (Json-F.Text bytes) = counted bytes
code_step (Json-F.List items) = 108 ∷ (concat items ++ 101 ∷ [])
code_step (Json-F.Object members) = 100 ∷ (concat members ++ 101 ∷ [])

-- the same of a member
abbrev pub code_member_step : Member-F (List ℕ) (List ℕ) → List ℕ
code_member_step m = counted m.name ++ m.value

-- the code of a tree, as bencode has it, with n, t, f and o for what that lacks: each value has its own
abbrev pub code_of : Json → List ℕ
code_of = fold-Json (List ℕ) (List ℕ) code_step code_member_step

-- the code of a member
abbrev pub member_code : Member → List ℕ
member_code m = counted m.name ++ code_of m.value

-- one more byte in a hash
abbrev pub hash_step : ℕ → ℕ → ℕ
hash_step hash byte = (hash * 16777619 % 2 ^ 32 + byte) % 2 ^ 32

-- the bytes that are hashed: those of a text, or the code of any other tree
abbrev pub hashed : Json → List ℕ
hashed tree = unwrap_or (as_text tree) (code_of tree)

-- the hash of a tree
unfoldable pub hash_of : Json → ℕ
hash_of tree = fold hash_step 0 (hashed tree)

-- the slot of a tree, of so many
unfoldable pub slot_of : ℕ → Json → ℕ
slot_of size tree = hash_of tree % size

-- a value with this code has a place
abbrev pub has_place : {Z : Type 0} → BTreeMap (Vec ℕ Z) ℕ → List ℕ → Bool
has_place by_code code = is_some (get_by (λ key. slice_cmp nat_cmp code key.items) by_code)

-- the value stands at the place that its slot has, or its code has one
abbrev pub IsAt : Places → List Json → Json → Option ℕ → Type 0
IsAt places list x None = ⊥
IsAt places list x (Some place) = (slice_get list place ≡ Some x) ⊎ IsTrue (has_place places.by_code (code_of x))

-- the place that the slot of the value has
abbrev pub place_at : Places → Json → Option ℕ
place_at places x = get_or places.slots.items (slot_of (length places.slots.items) x) None

-- each value of the part has a place in the list
abbrev pub HavePlaces : Places → List Json → List Json → Type 0
HavePlaces places list part = (x : Json) → Contains part x → IsAt places list x (place_at places x)

-- where places are kept, each value of the list has one
abbrev pub Knows : Places → List Json → Type 0
Knows places list = places.scans ≡ false → (0 < length places.slots.items) × HavePlaces places list list
