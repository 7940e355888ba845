-- Other keys for a trust anchor, as the body of a request states them. This request is the project's own.
use Rattle.std.specs.Prelude.{◌≡◌, ◌<◌, ◌^◌, ℕ, pos, List, codes, Some}
use Rattle.fed_json.specs.declared.tree.Json.{Int, Object}
use Rattle.fed_json.specs.declared.tree.Member.{Member}
use Rattle.fed_json.specs.Reading.{tree_in}
use Rattle.fed_json.specs.Tables.{Name}
use Rattle.fed_json.specs.Trees.{find}
use Rattle.jws_form.specs.Compact.{IsCompact}
use Rattle.entity_statement.specs.Grammar.{HoldsKeys, NamesEntity}
use Rattle.node_requests.specs.declared.change.AnchorChange.{AnchorChange}

-- the header's type of such a text (RFC 7515 section 4.1.9)
abbrev pub anchor_keys_type : List ℕ
anchor_keys_type = codes "anchor-keys+jwt"

-- what every epoch is below that a request can name
abbrev pub epoch_limit : ℕ
epoch_limit = 2 ^ 62

-- the claim is this epoch, a whole number from 0 on
abbrev pub NamesEpoch : Name → List Member → ℕ → Type 0
NamesEpoch name members n = (find name members ≡ Some (Int (pos n))) × (n < epoch_limit)

-- the body is a compact text of that type (RFC 7515 section 7.1), and its payload is an object that names the anchor, the epoch that the
-- keys are to follow, and the keys; its other claims are left unread
pub record IsAnchorChange (body : List ℕ) (change : AnchorChange) : Type 0 where
  pub compact : IsCompact body change.body
  pub typed : change.body.typ ≡ Some anchor_keys_type
  pub members : List Member
  pub object : tree_in change.body.payload ≡ Some (Object members)
  pub anchor : NamesEntity (codes "anchor") members change.anchor
  pub epoch : NamesEpoch (codes "epoch") members change.epoch
  pub jwks : HoldsKeys (codes "jwks") members change.keys.keys

-- the body states no other keys
abbrev pub StatesNone : List ℕ → Type 0
StatesNone body = (change : AnchorChange) → ¬ IsAnchorChange body change
