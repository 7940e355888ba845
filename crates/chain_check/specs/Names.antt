-- Which statements make a chain by their issuers and subjects (OpenID Federation 1.0 section 4).
use Rattle.std.specs.Prelude.{◌≡◌, ◌≢◌, ◌<◌, ◌≤◌, ◌+◌, ◌-◌, ◌⊎◌, ◌↔◌, ℕ, List, [], length, slice_get}
use Rattle.std.specs.Option.{option_map_or}
use Rattle.entity_statement.specs.Claims.{Claims}
use Rattle.fed_base.specs.Places.{HoldsBelow, FailsFirst}

-- the issuer and the subject of the statement at a place
abbrev pub issuer_at : List Claims → ℕ → List ℕ
issuer_at chain j = option_map_or (λ s. s.iss) (slice_get chain j) []

abbrev pub subject_at : List Claims → ℕ → List ℕ
subject_at chain j = option_map_or (λ s. s.sub) (slice_get chain j) []

-- the leaf's place, and the trust anchor's
abbrev pub IsLeaf : ℕ → Type 0
IsLeaf j = j ≡ 0

abbrev pub IsAnchor : List Claims → ℕ → Type 0
IsAnchor chain j = j + 1 ≡ length chain

-- a statement about its issuer is a configuration (section 3.1)
abbrev pub IsConfiguration : List Claims → ℕ → Type 0
IsConfiguration chain j = issuer_at chain j ≡ subject_at chain j

-- what the names of the statement at a place must be
pub record NamesFit (chain : List Claims) (anchor : List ℕ) (j : ℕ) : Type 0 where
  -- two configurations need a statement between them, so a second one ends no chain
  pub apart : ¬ ((length chain ≡ 2) × (j ≡ 1))
  -- the leaf's and the trust anchor's are configurations, and no others
  pub kind : IsConfiguration chain j ↔ (IsLeaf j ⊎ IsAnchor chain j)
  -- it speaks of the issuer of the one before
  pub linked : 1 ≤ j → subject_at chain j ≡ issuer_at chain (j - 1)
  -- below the trust anchor's configuration no entity issues two statements
  pub distinct : j + 1 < length chain → HoldsBelow (λ i. issuer_at chain i ≢ issuer_at chain j) j
  -- the last is the trust anchor's
  pub anchored : IsAnchor chain j → issuer_at chain j ≡ anchor

-- the names of each statement are those of a chain up to the anchor
abbrev pub HasNames : List Claims → List ℕ → Type 0
HasNames chain anchor = HoldsBelow (NamesFit chain anchor) (length chain)

-- the first place at which they are not
abbrev pub LosesNames : List Claims → List ℕ → ℕ → Type 0
LosesNames chain anchor place = FailsFirst (NamesFit chain anchor) (length chain) place
