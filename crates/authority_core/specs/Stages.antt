-- What the stages of an answer answer; no public clause cites it.
use Rattle.std.specs.Prelude.{◌≡◌, ℕ, List, [], ◌∷◌, codes}
use Rattle.std.specs.Str.{IsUtf8}
use Rattle.entity_id.specs.Identifiers.{IsIdentifier}
use Rattle.fed_json.specs.Forms.{IsWhole}
use Rattle.fed_json.specs.Members.{number_member, text_member}
use Rattle.fed_json.specs.Reading.{member_of}
use Rattle.fed_json.specs.declared.tree.Json.{Json}
use Rattle.fed_json.specs.declared.tree.Member.{Member}
use Rattle.jwk_set.specs.KeySets.{IsKeySet}
use Rattle.jwk_set.specs.Trees.{set_tree}
use Rattle.jwk_set.specs.declared.jwk.Jwk.{Jwk}
use Rattle.entity_statement.specs.Claims.{Identifier}
use Rattle.node_config.specs.Nodes.{Settings}
use Rattle.node_config.specs.declared.fault.ConfigFault.{ConfigFault}
use Rattle.node_config.specs.declared.fault.ConfigFault.TheVariants.{Shape, Memory}
use Rattle.authority_core.specs.Issued.{end_of}

-- when claims are made, and by whom
abbrev pub stamp_members : Identifier → ℕ → List Member
stamp_members id t = number_member (codes "iat") t ∷ text_member (codes "iss") id ∷ []

-- and when they end
abbrev pub making_members : Settings → ℕ → List Member
making_members settings t = number_member (codes "exp") (end_of settings.lifetime t) ∷ stamp_members settings.id t

abbrev pub historical_members : Identifier → Json → ℕ → List Member
historical_members id keys t = number_member (codes "iat") t ∷ text_member (codes "iss") id ∷ member_of (codes "keys") keys ∷ []

-- what a statement names is an identifier, and its keys read back
pub record AreSound (iss sub : Identifier) (keys : List Jwk) : Type 0 where
  pub iss_utf8 : IsUtf8 iss
  pub iss_is : IsIdentifier iss
  pub sub_utf8 : IsUtf8 sub
  pub sub_is : IsIdentifier sub
  pub whole : IsWhole (set_tree keys)
  pub keys_are : IsKeySet (set_tree keys) keys

-- the fault carries the member's name, unless memory was wanting
abbrev pub IsFaultOf : List ℕ → ConfigFault → Type 0
IsFaultOf member (Shape name) = name ≡ member
IsFaultOf member Memory = Unit {0}
