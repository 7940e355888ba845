-- Places of a configuration, and what is warned of there.
use Rattle.std.specs.Prelude.{ℕ, ◌+◌, List, [], ◌∷◌, ◌++◌, decimal, codes}
use Rattle.config_warnings.specs.declared.warning.Kind.{Kind}
use Rattle.config_warnings.specs.declared.warning.Warning.{Warning}

-- names of members with full stops between them, and places in lists between brackets
abbrev pub Place : Type 0
Place = List ℕ

-- the member of that name of the object at a place
abbrev pub under : Place → List ℕ → Place
under place name = place ++ (46 ∷ name)

-- that place of the list at a place, counted from 0
abbrev pub item_at : Place → ℕ → Place
item_at place i = place ++ (91 ∷ (decimal i ++ 93 ∷ []))

-- one warning
abbrev pub warn : Kind → Place → List ℕ → List Warning
warn kind place name = record { kind = kind; place = place; name = name } ∷ []

-- what is warned of each item of a list, by its place, from a place on
unfoldable pub each_from : {X : Type 0} → (ℕ → X → List Warning) → ℕ → List X → List Warning
each_from warned i [] = []
each_from warned i (x ∷ xs) = warned i x ++ each_from warned (i + 1) xs
