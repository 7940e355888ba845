-- Values of serde_json that are written for trees; for private clauses.
use Rattle.std.specs.Prelude.{◌≡◌, List, false}
use Rattle.serde_json.specs.Data.{Data, Items, Members}
use Rattle.serde_json.specs.Written.{has_float, items_have_float, members_have_float}
use Rattle.fed_json.specs.declared.tree.Json.{Json}
use Rattle.fed_json.specs.declared.tree.Member.{Member}
use Rattle.fed_json.specs.Reading.{tree_of, items_of, members_of}

-- the value reads as the tree, and no number of it is a float
pub record StandsFor (tree : Json) (value : Data) : Type 0 where
  pub tree_is : tree_of value ≡ tree
  pub no_float : has_float value ≡ false

-- the same of a list
pub record ItemsStandFor (list : List Json) (values : Items) : Type 0 where
  pub items_are : items_of values ≡ list
  pub no_float : items_have_float values ≡ false

-- the same of an object's members
pub record MembersStandFor (object : List Member) (values : Members) : Type 0 where
  pub members_are : members_of values ≡ object
  pub no_float : members_have_float values ≡ false
