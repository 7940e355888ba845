-- What a node says of a trust mark (OpenID Federation 1.0 section 8.4).
use Rattle.std.specs.Prelude.{ℕ, List, bytes_eq, nat_le, Bool, false, Option, Some, None, if◌then◌else◌}
use Rattle.std.specs.Option.{option_map_or}
use Rattle.fed_base.specs.Values.{◌>>=◌}
use Rattle.fed_json.specs.declared.tree.Json.{Json}
use Rattle.key_ring.specs.Sets.{kept_set}
use Rattle.sealed.specs.Deciding.{is_sealed_by}
use Rattle.sealed.specs.Tests.{tests_under}
use Rattle.entity_statement.specs.Claims.{Identifier}
use Rattle.trust_mark.specs.Marks.{mark_of}
use Rattle.trust_mark.specs.Statuses.{answer_of, status_tree}
use Rattle.trust_mark.specs.declared.mark.Mark.{Mark}
use Rattle.trust_mark.specs.declared.status.MarkStatus.{MarkStatus}
use Rattle.trust_mark.specs.declared.status.MarkStatus.TheVariants.{Active, Expired, Revoked, Invalid}
use Rattle.authority_core.specs.Issued.{is_among}
use Rattle.authority_core.specs.Nodes.{Node}

-- the mark that a text reads as, where it names that issuer (section 7.1)
abbrev pub if_issued_by : Identifier → Mark → Option Mark
if_issued_by id mark = if bytes_eq mark.iss id then Some mark else None

unfoldable pub mark_by : Identifier → List ℕ → Option Mark
mark_by id text = mark_of text >>= if_issued_by id

-- the mark of the node's own that a text is: a live or a retired key of the node seals it
unfoldable pub own_mark : Node → List ℕ → Option Mark
own_mark node text = if is_sealed_by text (kept_set node.ring) then mark_by node.settings.id text else None

-- a mark has ended; one without `exp` never ends (section 7.1)
abbrev pub has_ended : ℕ → Mark → Bool
has_ended t mark = option_map_or (λ exp. nat_le exp t) mark.exp false

-- the first that holds of a mark of the node's own: it is revoked, it has ended, it is good
abbrev pub standing : List (List ℕ) → ℕ → List ℕ → Mark → MarkStatus
standing revoked t text mark = if is_among revoked text then Revoked else (if has_ended t mark then Expired else Active)

-- the status of a text; one that is no mark of the node's own is invalid (section 8.4.2)
unfoldable pub status_of : Node → ℕ → List ℕ → MarkStatus
status_of node t text = option_map_or (standing node.settings.revoked t text) (own_mark node text) Invalid

-- the claims of the answer (section 8.4.2)
unfoldable pub status_claims : Node → ℕ → List ℕ → Json
status_claims node t text = status_tree (answer_of node.settings.id t text (status_of node t text))

-- how many signatures are tested: one, where the text names the node as its issuer and its header a key of the node
unfoldable pub status_tests : Node → List ℕ → ℕ
status_tests node text = option_map_or (λ mark. tests_under (kept_set node.ring) text) (mark_by node.settings.id text) 0
