-- The marks that claims name, and what is said once they were asked about.
use Rattle.std.proofs.Common.{◌≡◌, ℕ, List, [], ◌∷◌, ◌++◌, map, codes, Bool, true, false, cond, Option, Some, refl, sym, ap, ◌∙◌}
use Rattle.std.specs.Prelude.{option_and_then, unwrap_or}
use Rattle.std.specs.List.{list_all}
use Rattle.fed_json.specs.declared.tree.Json.{Json, Object, List as ListOf}
use Rattle.fed_json.specs.declared.tree.Member.{Member}
use Rattle.fed_json.specs.Members.{text_member}
use Rattle.fed_json.specs.Trees.{each, find, object_members}
use Rattle.fed_json.proofs.Accessors.{as_list-List, as_object-Object, as_text-Text}
use Rattle.sealed.specs.Sealing.{sealed_text}
use Rattle.entity_statement.specs.Claims.{Identifier}
use Rattle.entity_statement.specs.Forms.{mark_in, mark_of, marks_of}
use Rattle.entity_statement.specs.declared.marks.MarkEntry.{MarkEntry}
use Rattle.mark_status.specs.declared.heeded.Heeded.{Heeded}
use Rattle.mark_status.specs.Tells.{keeps}
use Rattle.resolve_reply.specs.declared.reply.Reply.{Reply}
use Rattle.resolve_reply.specs.declared.said.Said.{Said}
use Rattle.resolve_reply.specs.declared.signer.Signer.{Signer}
use Rattle.resolve_reply.specs.Replies.{IsReplyOf, common_members, least_end, mark_tree, marks_member, reply_claims, reply_type, resealed_claims}
use Rattle.resolve_reply.proofs.ClaimLaws.{resealed}
use Rattle.heeded_reply.specs.Claims.{claimed_marks, heeded_said, heeded_text}

-- ---- marks that claims name

mark-read : (entry : MarkEntry) → mark_of (mark_tree entry) ≡ Some entry
unfolding mark_of
mark-read entry =
    ap (option_and_then mark_in) (as_object-Object (text_member (codes "trust_mark") entry.text ∷ text_member (codes "trust_mark_type") entry.mark_type ∷ []))
    ∙ rw (as_text-Text entry.mark_type, as_text-Text entry.text) refl

each-mark : (entries : List MarkEntry) → each mark_of (map mark_tree entries) ≡ Some entries
each-mark [] = refl
each-mark (e ∷ es) = rw (mark-read e, each-mark es) refl

marks-read : (entries : List MarkEntry) → marks_of (ListOf (map mark_tree entries)) ≡ Some entries
unfolding marks_of
marks-read entries = ap (option_and_then (each mark_of)) (as_list-List (map mark_tree entries)) ∙ each-mark entries

abbrev marks_in : List Member → List MarkEntry
marks_in members = unwrap_or (option_and_then marks_of (find (codes "trust_marks") members)) []

marks-found : (iss : Identifier) (said : Said) (entries : List MarkEntry) → marks_in (common_members iss said ++ marks_member entries) ≡ entries
marks-found iss said [] = refl
marks-found iss said (e ∷ es) = ap (λ o. unwrap_or o []) (marks-read (e ∷ es))

members-are : (ms : List Member) → object_members (Object ms) ≡ ms
members-are ms = ap (λ o. unwrap_or o []) (as_object-Object ms)

-- the marks that a reply's claims name are those that are said
pub marks-said : (iss : Identifier) (said : Said) → claimed_marks (reply_claims iss said) ≡ said.marks
unfolding claimed_marks reply_claims
marks-said iss said = ap marks_in (members-are (common_members iss said ++ marks_member said.marks)) ∙ marks-found iss said said.marks

-- ---- the text

by_keeping : (b : Bool) (signer : Signer) (said other : Said) (reply : Reply) (text : List ℕ) → reply.text ≡ sealed_text signer.keys reply_type (reply_claims signer.iss said)
    → text ≡ sealed_text signer.keys reply_type (reply_claims signer.iss other) → cond b reply.text text ≡ sealed_text signer.keys reply_type (reply_claims signer.iss (cond b said other))
by_keeping true signer said other reply text same anew = same
by_keeping false signer said other reply text same anew = anew

-- what is sealed is what the reply says, but for the marks that aren't kept and its end
pub text-said : (signer : Signer) (said : Said) (reply : Reply) (what : Heeded) → IsReplyOf signer said reply
    → heeded_text signer reply what ≡ sealed_text signer.keys reply_type (reply_claims signer.iss (heeded_said said reply.chain_exp what))
text-said signer said reply what is =
    let exp = least_end reply.chain_exp what.exp in
    by_keeping (list_all keeps what.tells) signer said (record said { exp = exp; marks = what.kept }) reply (sealed_text signer.keys reply_type (resealed_claims reply.claims exp what.kept))
    (is.text ∙ ap (sealed_text signer.keys reply_type) is.claims)
    (ap (λ claims. sealed_text signer.keys reply_type (resealed_claims claims exp what.kept)) is.claims ∙ ap (sealed_text signer.keys reply_type) (resealed signer.iss said exp what.kept))
