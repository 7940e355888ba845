-- A set of keys (RFC 7517 section 5), and the keys that a tree gives.
use Rattle.std.specs.Prelude.{◌≡◌, ℕ, List, [], ◌∷◌, ◌++◌, length, map, codes, bytes_eq, Bool, true, false, ◌&&◌, not, IsTrue, Option, Some, None, ok_or, Result, Ok, Err, if◌then◌else◌}
use Rattle.std.specs.Option.{option_and_then}
use Rattle.std.specs.List.{list_any}
use Rattle.fed_json.specs.declared.tree.Json.{Json}
use Rattle.fed_json.specs.Trees.{as_object, text_at}
use Rattle.fed_base.specs.declared.algorithm.Alg.{Alg}
use Rattle.fed_base.specs.declared.algorithm.Alg.TheVariants.{Small, Fast}
use Rattle.fed_base.specs.Answers.{◌>>=◌}
use Rattle.jwk_set.specs.declared.jwk.Jwk.{Jwk}
use Rattle.jwk_set.specs.declared.jwk.Jwk.TheVariants.{Own, Foreign}
use Rattle.jwk_set.specs.declared.fault.SetFault.{SetFault}
use Rattle.jwk_set.specs.declared.fault.SetFault.TheVariants.{NotSet, Shape, DoubleKid, Memory}
use Rattle.jwk_set.specs.Keys.{key_in}
use Rattle.jwk_set.specs.Listed.{listed_in}

-- the name of a key, where it is a text (RFC 7517 section 4.5)
abbrev pub kid_of : Jwk → Option (List ℕ)
kid_of (Own kid alg public) = Some kid
kid_of (Foreign tree) = option_and_then (text_at (codes "kid")) (as_object tree)

-- both are there, and they are one text
abbrev pub is_one_text : Option (List ℕ) → Option (List ℕ) → Bool
is_one_text (Some a) (Some b) = bytes_eq a b
is_one_text (Some a) None = false
is_one_text None b = false

-- one of the keys has the kid of this one
unfoldable pub repeats_kid : List Jwk → Jwk → Bool
repeats_kid keys key = list_any (λ k. is_one_text (kid_of k) (kid_of key)) keys

-- no key has the kid of an earlier one, after the earlier keys
abbrev pub distinct_after : List Jwk → List Jwk → Bool
distinct_after earlier [] = true
distinct_after earlier (key ∷ keys) = not (repeats_kid earlier key) && distinct_after (earlier ++ key ∷ []) keys

-- no two keys have one kid (RFC 7517 section 4.5)
unfoldable pub are_distinct : List Jwk → Bool
are_distinct keys = distinct_after [] keys

-- both are one algorithm
abbrev pub is_one_algorithm : Alg → Alg → Bool
is_one_algorithm Small Small = true
is_one_algorithm Small Fast = false
is_one_algorithm Fast Small = false
is_one_algorithm Fast Fast = true

-- the public key of the own key of that kid and algorithm
unfoldable pub key_named : List ℕ → Alg → List Jwk → Option (List ℕ)
key_named kid alg [] = None
key_named kid alg (Own k a public ∷ keys) = if bytes_eq k kid && is_one_algorithm a alg then Some public else key_named kid alg keys
key_named kid alg (Foreign tree ∷ keys) = key_named kid alg keys

-- the tree is a set of these keys: each member has the form of its key, and no two have one kid
pub record IsKeySet (tree : Json) (keys : List Jwk) : Type 0 where
  pub members : List Json
  pub listed : listed_in tree ≡ Some members
  pub each : map key_in members ≡ map Some keys
  pub distinct : IsTrue (are_distinct keys)

-- the answer is the one that is expected, unless memory was wanting
abbrev pub GivesBy : {X Y : Type 0} → (X → Y) → Result X SetFault → Result Y SetFault → Type 0
GivesBy view (Ok x) expected = expected ≡ Ok (view x)
GivesBy view (Err Memory) expected = Unit {0}
GivesBy view (Err fault) expected = expected ≡ Err fault

-- the same of an answer that is seen as it stands
abbrev pub Gives : {X : Type 0} → Result X SetFault → Result X SetFault → Type 0
Gives = GivesBy (λ x. x)

-- the keys that the members are, after the earlier keys, or the fault of the first member that has one: its
-- form is looked at first, then its kid
unfoldable pub keys_after : List Jwk → List Json → Result (List Jwk) SetFault
keys_after earlier [] = Ok earlier
keys_after earlier (member ∷ members) = do
  key ← ok_or (key_in member) (Shape (length earlier))
  if repeats_kid earlier key then Err (DoubleKid (length earlier)) else keys_after (earlier ++ key ∷ []) members

-- the keys that the tree is a set of, or its first fault
unfoldable pub key_set_in : Json → Result (List Jwk) SetFault
key_set_in tree = ok_or (listed_in tree) NotSet >>= keys_after []
