-- Under which keys each text of a chain is signed, and that its statements are current (OpenID Federation 1.0 section 10.2).
use Rattle.std.specs.Prelude.{◌≡◌, ◌≤◌, ◌+◌, ℕ, List, [], length, IsTrue, Option, Some, slice_get, slice_index_or}
use Rattle.std.specs.Option.{option_map_or}
use Rattle.fed_base.specs.declared.algorithm.Alg.{Alg}
use Rattle.jwk_set.specs.declared.jwk.Jwk.{Jwk}
use Rattle.jwk_set.specs.KeySets.{key_named}
use Rattle.sealed.specs.Seals.{IsSealedBy}
use Rattle.sealed.specs.Tests.{key_in}
use Rattle.entity_statement.specs.Claims.{Claims}
use Rattle.entity_statement.specs.Use.{current_at}
use Rattle.chain_check.specs.Chains.{Texts}
use Rattle.fed_base.specs.Places.{HoldsBelow}

-- the statement at the place is current at that moment
abbrev pub CurrentAt : List Claims → ℕ → ℕ → Type 0
CurrentAt chain t j = (statement : Claims) → slice_get chain j ≡ Some statement → IsTrue (current_at statement.iat statement.exp t)

-- each statement of the chain is current at that moment (section 3.1.1)
abbrev pub AreCurrent : List Claims → ℕ → Type 0
AreCurrent chain t = HoldsBelow (CurrentAt chain t) (length chain)

-- the keys that the statement at a place gives its subject, or others where the chain has no such place
abbrev pub keys_at : List Claims → ℕ → List Jwk → List Jwk
keys_at chain j others = option_map_or (λ s. s.keys) (slice_get chain j) others

-- the keys of the superior of the entity at the place: those in the next statement, and the trust anchor's for the last
abbrev pub superior_keys : List Claims → List Jwk → ℕ → List Jwk
superior_keys chain keys j = keys_at chain (j + 1) keys

-- the text at the place is signed by a key of its superior, and the leaf's by a key of its own too
pub record SignedAt (texts : Texts) (chain : List Claims) (keys : List Jwk) (j : ℕ) : Type 0 where
  pub by_itself : j ≡ 0 → IsSealedBy (slice_index_or texts j []) (keys_at chain 0 [])
  pub by_superior : IsSealedBy (slice_index_or texts j []) (superior_keys chain keys j)

-- each text of the chain is signed so
abbrev pub AreSigned : Texts → List Claims → List Jwk → Type 0
AreSigned texts chain keys = HoldsBelow (SignedAt texts chain keys) (length chain)

-- the leaf's text names one key in its own set and in its superior's, each of the text's algorithm
abbrev pub NamesOneKey : Texts → List Claims → List Jwk → Type 0
NamesOneKey texts chain keys = key_in (keys_at chain 0 []) (slice_index_or texts 0 []) ≡ key_in (superior_keys chain keys 0) (slice_index_or texts 0 [])

-- each own key of the first stands among the others too, by its name and its algorithm
abbrev pub Extends : List Jwk → List Jwk → Type 0
Extends keys more = (kid : List ℕ) (alg : Alg) (public : List ℕ) → key_named kid alg keys ≡ Some public → key_named kid alg more ≡ Some public

-- a statement of the chain has expired at the moment
pub record HasExpired (chain : List Claims) (t : ℕ) : Type 0 where
  pub statement : Claims
  pub place : ℕ
  pub there : slice_get chain place ≡ Some statement
  pub ended : statement.exp ≤ t
