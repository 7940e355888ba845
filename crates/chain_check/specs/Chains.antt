-- A trust chain as a list of texts, the leaf's first, and the statements that it holds (OpenID Federation 1.0 section 4).
use Rattle.std.specs.Prelude.{◌≡◌, ◌<◌, ◌-◌, ℕ, List, length, take, drop, max, Some, IsSome, slice_get}
use Rattle.std.specs.List.{filter_map}
use Rattle.entity_statement.specs.Claims.{Claims}
use Rattle.entity_statement.specs.Signed.{statement_of}
use Rattle.fed_base.specs.Places.{HoldsBelow, FailsFirst}

-- the texts of a chain, the leaf's first (section 4)
abbrev pub Texts : Type 0
Texts = List (List ℕ)

-- the statements of the texts that read as one
unfoldable pub statements_of : Texts → List Claims
statements_of texts = filter_map statement_of texts

-- how many statements a chain has at most: two configurations and twelve subordinate statements
abbrev pub max_statements : ℕ
max_statements = 14

-- the place is one of a chain, and the text there reads as a statement
pub record ReadsAt (texts : Texts) (j : ℕ) : Type 0 where
  pub near : j < max_statements
  pub text : List ℕ
  pub there : slice_get texts j ≡ Some text
  pub reads : IsSome (statement_of text)

-- the places that are looked at: those of the texts, and the leaf's always
abbrev pub places_of : Texts → ℕ
places_of texts = max 1 (length texts)

-- from 1 to 14 texts, each of which reads as a statement
abbrev pub HasForm : Texts → Type 0
HasForm texts = HoldsBelow (ReadsAt texts) (places_of texts)

-- the first place at which there is no statement; the empty chain has none at place 0, and a longer one than 14 none at place 14
abbrev pub LosesForm : Texts → ℕ → Type 0
LosesForm texts place = FailsFirst (ReadsAt texts) (places_of texts) place

-- the statements but the last, the trust anchor's configuration
abbrev pub below_anchor : List Claims → List Claims
below_anchor chain = take (length chain - 1) chain

-- the subordinate statements, from that about the leaf up: the statements between the two configurations
abbrev pub subordinate : List Claims → List Claims
subordinate chain = drop 1 (below_anchor chain)
