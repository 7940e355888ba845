-- The tree that a text reads as (RFC 8259).
use Rattle.std.specs.Prelude.{◌≡◌, ℕ, pos, List, [], ◌∷◌, Option, Some, None, option_map, if◌then◌else◌, Result, Ok, Err}
use Rattle.std.specs.Str.{is_utf8}
use Rattle.serde_json.specs.Data as data_of
use Rattle.serde_json.specs.Data.{Data, Items, Members, Num}
use Rattle.serde_json.specs.Read.{read}
use Rattle.fed_json.specs.declared.fault.TreeFault.{TreeFault}
use Rattle.fed_json.specs.declared.fault.TreeFault.TheVariants.{Syntax, Memory}
use Rattle.fed_json.specs.declared.tree.Json.{Json, Null, Bool, Int, Odd, Text, List as ListOf, Object}
use Rattle.fed_json.specs.declared.tree.Json.TheViews.{roll-Member}
use Rattle.fed_json.specs.declared.tree.Member.{Member}

-- a member of that name and value (RFC 8259 section 4)
abbrev pub member_of : List ℕ → Json → Member
member_of name value = roll-Member (record { name = name; value = value })

-- a number that is an integer of 64 bits, or any other (RFC 8259 section 6)
abbrev pub number_tree : Num → Json
number_tree (data_of.unsigned n) = Int (pos n)
number_tree (data_of.negative n) = Int n
number_tree (data_of.float x) = Odd

-- the tree of a value that serde_json finds (RFC 8259 section 3)
abbrev mutual
  pub tree_of : Data → Json
  tree_of data_of.null = Null
  tree_of (data_of.boolean b) = Bool b
  tree_of (data_of.number n) = number_tree n
  tree_of (data_of.string s) = Text s
  tree_of (data_of.array ds) = ListOf (items_of ds)
  tree_of (data_of.object ms) = Object (members_of ms)

  pub items_of : Items → List Json
  items_of data_of.no_items = []
  items_of (data_of.item d ds) = tree_of d ∷ items_of ds

  pub members_of : Members → List Member
  members_of data_of.no_members = []
  members_of (data_of.member name d ms) = member_of name (tree_of d) ∷ members_of ms

-- the tree that the text reads as, where it is UTF-8 and serde_json finds a value in it (RFC 8259 section 9)
unfoldable pub tree_in : List ℕ → Option Json
tree_in text = if is_utf8 text then option_map tree_of (read text) else None

-- the answer is the tree that is expected, and Syntax where there is none; of want of memory nothing is said
abbrev pub Reads : Result Json TreeFault → Option Json → Type 0
Reads (Ok tree) expected = expected ≡ Some tree
Reads (Err Syntax) expected = expected ≡ None
Reads (Err Memory) expected = Unit {0}
