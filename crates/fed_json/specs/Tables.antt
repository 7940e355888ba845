-- Lists of items with names, in rising byte order of the names, and two such lists side by side, as two policies are
-- merged (OpenID Federation 1.0 section 6.1.4.1) and one is applied to metadata (section 6.1.4.2).
use Rattle.std.specs.Prelude.{ℕ, List, [], ◌∷◌, Option, Some, None, map, bytes_eq, if◌then◌else◌}
use Rattle.std.specs.Option.{option_map_or}
use Rattle.std.specs.Ordering.{nat_cmp, match_ordering}
use Rattle.std.specs.Cmp.Lexicographic.{slice_cmp}

-- the bytes of a name
abbrev pub Name : Type 0
Name = List ℕ

-- rising names and one more, at its place in byte order; a name that is there isn't added
abbrev pub with_name : Name → List Name → List Name
with_name name [] = name ∷ []
with_name name (other ∷ others) =
    match_ordering (slice_cmp nat_cmp name other) (name ∷ other ∷ others) (other ∷ others) (other ∷ with_name name others)

-- the names of two lists, each once, in byte order
unfoldable pub names_of_both : List Name → List Name → List Name
names_of_both [] names = names
names_of_both (name ∷ more) names = with_name name (names_of_both more names)

-- the first item of that name
abbrev pub item_of : {X : Type 0} → (X → Name) → Name → List X → Option X
item_of name_of name [] = None
item_of name_of name (x ∷ xs) = if bytes_eq (name_of x) name then Some x else item_of name_of name xs

-- what an upper and a lower list have under one name
pub record Side (U L : Type 0) : Type 0 where
  pub name : Name
  pub upper : Option U
  pub lower : Option L

-- what the two lists have under that name
abbrev pub side_at : {U L : Type 0} → (U → Name) → (L → Name) → List U → List L → Name → Side U L
side_at upper_name lower_name upper lower name =
    record { name = name; upper = item_of upper_name name upper; lower = item_of lower_name name lower }

-- two lists side by side, name by name in byte order
unfoldable pub sides : {U L : Type 0} → (U → Name) → (L → Name) → List U → List L → List (Side U L)
sides upper_name lower_name upper lower =
    map (side_at upper_name lower_name upper lower) (names_of_both (map upper_name upper) (map lower_name lower))

-- the first answer that the items give
abbrev pub first : {X Y : Type 0} → (X → Option Y) → List X → Option Y
first answer [] = None
first answer (x ∷ xs) = option_map_or Some (answer x) (first answer xs)
