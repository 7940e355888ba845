-- Lists as sets: the members of a list are its values without regard to order or repeats.
use Rattle.std.specs.Prelude.{List, [], ◌∷◌, ◌++◌, Bool, true, false, ◌&&◌, not, bytes_eq, filter}
use Rattle.std.specs.List.{list_all, list_any}
use Rattle.std.specs.Ordering.{int_eq}
use Rattle.std.specs.Bool.{beq}
use Rattle.fed_json.specs.declared.tree.Json.{Json, fold-Json, out-Json}
use Rattle.fed_json.specs.declared.tree.Json.TheOpen.{Json-F, Member-F}
use Rattle.fed_json.specs.declared.tree.Member.{Member}

-- each test holds of the value at its place, and there are as many of both
abbrev pub each_passes : {X : Type 0} → List (X → Bool) → List X → Bool
each_passes [] [] = true
each_passes (test ∷ tests) (x ∷ xs) = test x && each_passes tests xs
each_passes _ _ = false

-- one level of `same`, where each part has its test
abbrev pub same_layer : Json-F (Json → Bool) (Member → Bool) → Json-F Json Member → Bool
same_layer Json-F.Null Json-F.Null = true
same_layer (Json-F.Bool a) (Json-F.Bool b) = beq a b
same_layer (Json-F.Int a) (Json-F.Int b) = int_eq a b
same_layer Json-F.Odd Json-F.Odd = true
same_layer (Json-F.Text a) (Json-F.Text b) = bytes_eq a b
same_layer (Json-F.List a) (Json-F.List b) = each_passes a b
same_layer (Json-F.Object a) (Json-F.Object b) = each_passes a b
same_layer _ _ = false

-- the same against a tree
abbrev pub same_step : Json-F (Json → Bool) (Member → Bool) → Json → Bool
same_step layer other = same_layer layer (out-Json other)

-- the same of a member: one name and one value
abbrev pub same_member_step : Member-F (Json → Bool) (Member → Bool) → Member → Bool
same_member_step m other = bytes_eq m.name other.name && m.value other.value

-- the two trees are one value
abbrev pub same : Json → Json → Bool
same = fold-Json (Json → Bool) (Member → Bool) same_step same_member_step

-- the tree is a member of the list
abbrev pub is_among : List Json → Json → Bool
is_among list tree = list_any (same tree) list

-- each tree of the part is a member of the list
abbrev pub are_among : List Json → List Json → Bool
are_among list part = list_all (is_among list) part

-- each value once, at its first place
abbrev pub once : List Json → List Json
once [] = []
once (x ∷ xs) = x ∷ filter (λ y. not (same y x)) (once xs)

-- the members of both, those of a first
abbrev pub union_of : List Json → List Json → List Json
union_of a b = once (a ++ b)

-- the members of a that are in b
abbrev pub intersection_of : List Json → List Json → List Json
intersection_of a b = once (filter (is_among b) a)
