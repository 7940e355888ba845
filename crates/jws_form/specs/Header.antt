-- The protected header of a text (RFC 7515 section 4).
use Rattle.std.specs.Prelude.{◌≡◌, ℕ, List, codes, bytes_eq, Option, Some, None, option_map, IfSome, if◌then◌else◌}
use Rattle.std.specs.Str.{IsUtf8}
use Rattle.fed_base.specs.declared.algorithm.Alg.{Alg}
use Rattle.fed_base.specs.declared.algorithm.Alg.TheVariants.{Small, Fast}
use Rattle.fed_json.specs.declared.tree.Json.{Json, Text, Object}
use Rattle.fed_json.specs.declared.tree.Member.{Member}
use Rattle.fed_json.specs.Trees.{find}
use Rattle.fed_json.specs.Reading.{tree_in}

-- the name of an algorithm, which is its parameter set's (FIPS 205 section 11)
abbrev pub algorithm : Alg → List ℕ
algorithm Small = codes "SLH-DSA-SHA2-128s"
algorithm Fast = codes "SLH-DSA-SHA2-128f"

-- the algorithm of a name (RFC 7515 section 4.1.1)
unfoldable pub algorithm_of : List ℕ → Option Alg
algorithm_of name =
    if bytes_eq name (algorithm Small) then Some Small
    else if bytes_eq name (algorithm Fast) then Some Fast
    else None

-- the tree is an object that asks for no extension, names this algorithm, and has a type and a key
-- name that are texts where they are there (RFC 7515 sections 4.1.1, 4.1.4, 4.1.9 and 4.1.11)
pub record IsHeader (tree : Json) (alg : Alg) (typ kid : Option (List ℕ)) : Type 0 where
  pub members : List Member
  pub object_is : tree ≡ Object members
  pub no_crit : find (codes "crit") members ≡ None
  pub alg_is : find (codes "alg") members ≡ Some (Text (algorithm alg))
  pub typ_is : find (codes "typ") members ≡ option_map Text typ
  pub kid_is : find (codes "kid") members ≡ option_map Text kid

-- the bytes are a JSON text of such a tree, whose texts are UTF-8 (RFC 8259 section 8.1)
pub record IsHeaderText (bytes : List ℕ) (alg : Alg) (typ kid : Option (List ℕ)) : Type 0 where
  pub tree : Json
  pub reads : tree_in bytes ≡ Some tree
  pub says : IsHeader tree alg typ kid
  pub typ_utf8 : IfSome typ IsUtf8
  pub kid_utf8 : IfSome kid IsUtf8
