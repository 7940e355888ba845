-- Lists that an object may tell: what was taken from the front, and what was added behind the end.
use Rattle.std.specs.Prelude.{◌≡◌, List, ◌++◌, Option, option_map}

-- these were taken from the front of what was left, where that is told
abbrev pub Gave : {A : Type 0} → Option (List A) → List A → Option (List A) → Type 0
Gave old items new = old ≡ option_map (λ rest. items ++ rest) new

-- these were added behind what was held, where that is told
abbrev pub Added : {A : Type 0} → Option (List A) → List A → Option (List A) → Type 0
Added old items new = new ≡ option_map (λ held. held ++ items) old
