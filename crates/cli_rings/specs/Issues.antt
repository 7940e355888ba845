-- What `issue` makes of claims (OpenID Federation 1.0 sections 3 and 7).
use Rattle.std.specs.Prelude.{ℕ, List, [], ◌∷◌, ◌++◌, length, codes, nat_lt, Bool, not, Option, Some, None, is_some, is_ok, if◌then◌else◌}
use Rattle.entity_statement.specs.Table.{claims_of_tree}
use Rattle.fed_json.specs.declared.tree.Json.{Json}
use Rattle.fed_json.specs.Compact.{compact}
use Rattle.fed_json.specs.Forms.{whole}
use Rattle.fed_json.specs.Reading.{tree_in}
use Rattle.fed_json.specs.Trees.{as_object}
use Rattle.sealed.specs.Sealing.{sealed_text}
use Rattle.slh_dsa.specs.Keys.{Keys}
use Rattle.cli_rings.specs.Replies.{plain, bad_input, refused}
use Rattle.trust_mark.specs.Claims.{delegation_of_tree, mark_of_tree}
use Rattle.cli_rings.specs.declared.reply.Reply.{Reply}
use Rattle.cli_words.specs.TextTypes.{type_name}
use Rattle.cli_words.specs.declared.text_type.TextType.{TextType}
use Rattle.cli_words.specs.declared.text_type.TextType.TheVariants.{Statement, Mark, Delegation}

-- the claims are those of a text of the type (sections 3.1.1, 7.1 and 7.2.1)
abbrev pub claims_read : TextType → Json → Bool
claims_read Statement tree = is_ok (claims_of_tree tree)
claims_read Mark tree = is_ok (mark_of_tree tree)
claims_read Delegation tree = is_ok (delegation_of_tree tree)

-- the sealed text, on its own line (RFC 7515 section 7.1)
unfoldable pub sealed_reply : Keys → TextType → Json → Reply
sealed_reply keys typ tree = plain 0 (sealed_text keys (type_name typ) tree ++ 10 ∷ [])

-- an object: first whether it has a JSON text, then how long that is, then whether it reads
unfoldable pub of_object : Keys → TextType → Json → Reply
of_object keys typ tree =
    if not (whole tree) then refused (codes "Form")
    else (if nat_lt 179000 (length (compact tree)) then refused (codes "TooLong")
    else (if not (claims_read typ tree) then refused (codes "Form")
    else sealed_reply keys typ tree))

-- the same of the input as a tree, where it is one
unfoldable pub of_tree : Keys → TextType → Option Json → Reply
of_tree keys typ None = bad_input
of_tree keys typ (Some tree) = if is_some (as_object tree) then of_object keys typ tree else bad_input

-- the claims are a JSON object
unfoldable pub issue_reply : Keys → TextType → List ℕ → Reply
issue_reply keys typ input = of_tree keys typ (tree_in input)
