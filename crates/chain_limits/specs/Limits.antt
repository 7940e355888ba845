-- The limits that superiors set along a chain. Place 0 is the leaf's, and each later place speaks of those before it
-- (OpenID Federation 1.0 section 6.2).
use Rattle.std.specs.Prelude.{◌≡◌, ◌≤◌, ◌<◌, ◌-◌, ℕ, List, length, Bool, true, not, ◌&&◌, IsTrue, Some, IfSome, slice_get}
use Rattle.std.specs.Option.{option_map_or}
use Rattle.std.specs.List.{list_any}
use Rattle.entity_id.specs.Names.{matches}
use Rattle.chain_limits.specs.declared.constraints.Constraints.{Constraints}
use Rattle.chain_limits.specs.declared.place.Place.{Place}
use Rattle.chain_limits.specs.declared.verdict.LimitVerdict.{LimitVerdict}
use Rattle.chain_limits.specs.declared.verdict.LimitVerdict.TheVariants.{Met, PathLength, Name}

-- the host matches one of the permitted names, where these are given, and none of the excluded ones (section 6.2.2)
abbrev pub admits : Constraints → List ℕ → Bool
admits limits host = option_map_or (list_any (matches host)) limits.permitted true && not (list_any (matches host) limits.excluded)

-- the j - 1 entities between place j and the leaf are no more than it allows (section 6.2.1)
abbrev pub PathFits : List Place → ℕ → Type 0
PathFits places j = (place : Place) → slice_get places j ≡ Some place → IfSome place.limits.max_path (λ most. j - 1 ≤ most)

-- the names of place j admit the subject of place i (section 6.2.2)
abbrev pub NameFits : List Place → ℕ → ℕ → Type 0
NameFits places i j = (subject place : Place) → slice_get places i ≡ Some subject → slice_get places j ≡ Some place → IsTrue (admits place.limits subject.host)

-- the limits of place j are met by all subjects up to it (sections 6.2.1 and 6.2.2)
pub record Fits (places : List Place) (j : ℕ) : Type 0 where
  pub path : PathFits places j
  pub names : (i : ℕ) → i ≤ j → NameFits places i j

-- the limits of each place below n are met; the leaf sets none (section 6.2)
abbrev pub FitsBelow : List Place → ℕ → Type 0
FitsBelow places n = (j : ℕ) → 1 ≤ j → j < n → Fits places j

-- place j is a superior's, and all limits of the places before it are met (section 6.2)
pub record IsReached (places : List Place) (j : ℕ) : Type 0 where
  pub superior : 1 ≤ j
  pub within : j < length places
  pub below : FitsBelow places j

-- the answer on the places: the least whose limits aren't met, and of its limits the path before the names (section 6.2)
abbrev pub IsVerdict : List Place → LimitVerdict → Type 0
IsVerdict places Met = FitsBelow places (length places)
IsVerdict places (PathLength j) = IsReached places j × ¬ PathFits places j
IsVerdict places (Name j) = IsReached places j × PathFits places j × ((i : ℕ) × (i ≤ j) × ¬ NameFits places i j)
