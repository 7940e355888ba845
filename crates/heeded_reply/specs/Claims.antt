-- The marks that the claims of a reply name, and what a reply says once its marks were asked about (OpenID Federation 1.0 section 8.3.2).
use Rattle.std.specs.Prelude.{ℕ, List, [], codes, if◌then◌else◌, option_and_then, unwrap_or}
use Rattle.std.specs.List.{list_all}
use Rattle.fed_json.specs.declared.tree.Json.{Json}
use Rattle.fed_json.specs.Trees.{find, object_members}
use Rattle.sealed.specs.Sealing.{sealed_text}
use Rattle.entity_statement.specs.Forms.{marks_of}
use Rattle.entity_statement.specs.declared.marks.MarkEntry.{MarkEntry}
use Rattle.mark_status.specs.declared.heeded.Heeded.{Heeded}
use Rattle.mark_status.specs.Tells.{keeps}
use Rattle.resolve_reply.specs.declared.reply.Reply.{Reply}
use Rattle.resolve_reply.specs.declared.said.Said.{Said}
use Rattle.resolve_reply.specs.declared.signer.Signer.{Signer}
use Rattle.resolve_reply.specs.Replies.{least_end, reply_type, resealed_claims}

-- the marks that claims name: none where the claim is absent or isn't a list of marks (section 8.3.2, `trust_marks`)
unfoldable pub claimed_marks : Json → List MarkEntry
claimed_marks claims = unwrap_or (option_and_then marks_of (find (codes "trust_marks") (object_members claims))) []

-- what is said once the marks were asked about: the same where each is kept; else with the marks that are kept, and the least of the
-- chain's end and theirs
abbrev pub heeded_said : Said → ℕ → Heeded → Said
heeded_said said chain_exp what =
    if list_all keeps what.tells then said else record said { exp = least_end chain_exp what.exp; marks = what.kept }

-- the text of a reply then: it stays where each mark is kept; else the claims with that end and those marks are sealed anew
abbrev pub heeded_text : Signer → Reply → Heeded → List ℕ
heeded_text signer reply what =
    if list_all keeps what.tells
    then reply.text
    else sealed_text signer.keys reply_type (resealed_claims reply.claims (least_end reply.chain_exp what.exp) what.kept)
