-- What a signed text is, by its form, its type and its claims, or the first reason why it isn't. No signature is looked at.
use Rattle.std.specs.Prelude.{ℕ, List, [], ◌∷◌, ◌++◌, length, codes, bytes_eq, nat_lt, true, false, Option, Some, None, Result, Ok, Err, if◌then◌else◌}
use Rattle.std.specs.Option.{option_and_then}
use Rattle.jws_form.specs.declared.compact.Compact.{Compact}
use Rattle.jws_form.specs.declared.fault.FormFault.{FormFault}
use Rattle.jws_form.specs.declared.fault.FormFault.TheVariants.{TooLong}
use Rattle.jws_form.specs.Compact.{max_bytes}
use Rattle.jws_form.specs.Splitting.{long_splitting, splitting}
use Rattle.entity_id.specs.Identifiers.{identifier_of}
use Rattle.fed_json.specs.declared.tree.Json.{Json}
use Rattle.fed_json.specs.Reading.{tree_in}
use Rattle.fed_json.specs.Trees.{object_members, text_at}
use Rattle.entity_statement.specs.Claims.{Claims, Identifier}
use Rattle.entity_statement.specs.Table.{claims_of, statement_type}
use Rattle.entity_statement.specs.declared.fault.StatementFault.{StatementFault}
use Rattle.trust_mark.specs.Claims.{delegation_claims, delegation_type_name, has_type, mark_claims, mark_type_name, status_claims, status_type_name}
use Rattle.trust_mark.specs.Statuses.{status_word}
use Rattle.trust_mark.specs.declared.fault.MarkFault.{MarkFault}
use Rattle.trust_mark.specs.declared.mark.Mark.{Mark}
use Rattle.trust_mark.specs.declared.status.StatusAnswer.{StatusAnswer}
use Rattle.plain_notes.specs.Strings.{string}
use Rattle.cli_show.specs.Faults.{form_reason, mark_reason, statement_reason}
use Rattle.cli_show.specs.declared.view.View.{View}

-- what is found, and its line
abbrev pub good : List ℕ → View
good words = record { refused = false; text = words ++ 10 ∷ [] }

-- the first reason against it
abbrev pub refused : List ℕ → View
refused reason = record { refused = true; text = codes "refused " ++ (reason ++ 10 ∷ []) }

-- a statement of an entity about itself is its configuration (OpenID Federation 1.0 section 3)
abbrev pub about : Identifier → Identifier → List ℕ
about iss sub = if bytes_eq iss sub then codes "configuration of " ++ sub else codes "statement of " ++ (iss ++ (codes " about " ++ sub))

abbrev pub statement_found : Result Claims StatementFault → View
statement_found (Ok claims) = good (about claims.iss claims.sub)
statement_found (Err fault) = refused (statement_reason fault)

-- a trust mark: its type, whom it is about, and who issued it (section 7.1)
abbrev pub mark_words : Mark → List ℕ
mark_words mark = codes "trust mark " ++ (string mark.mark_type ++ (codes " for " ++ (mark.sub ++ (codes " by " ++ mark.iss))))

abbrev pub mark_found : Result Mark MarkFault → View
mark_found (Ok mark) = good (mark_words mark)
mark_found (Err fault) = refused (mark_reason fault)

-- a delegation: the type, who may issue marks of it, and who owns it (section 7.2.1)
abbrev pub delegation_words : Mark → List ℕ
delegation_words mark = codes "delegation of " ++ (string mark.mark_type ++ (codes " to " ++ (mark.sub ++ (codes " by " ++ mark.iss))))

abbrev pub delegation_found : Result Mark MarkFault → View
delegation_found (Ok mark) = good (delegation_words mark)
delegation_found (Err fault) = refused (mark_reason fault)

-- an answer on a mark's status: the status, and who answers (section 8.4.2)
abbrev pub status_words : StatusAnswer → List ℕ
status_words answer = codes "trust mark " ++ (status_word answer.status ++ (codes " by " ++ answer.iss))

abbrev pub status_found : Result StatusAnswer MarkFault → View
status_found (Ok answer) = good (status_words answer)
status_found (Err fault) = refused (mark_reason fault)

-- a text of another type, of which nothing is known here
abbrev pub other_found : Option (List ℕ) → View
other_found (Some typ) = good (codes "signed text of type " ++ string typ)
other_found None = good (codes "signed text without a type")

-- a registration of a relying party: whom it registers, and who does (section 12.2.3)
abbrev pub registration_words : Identifier → Identifier → List ℕ
registration_words sub iss = codes "registration of " ++ (sub ++ (codes " by " ++ iss))

-- the entity identifier that a claim is (section 1.2)
abbrev pub identifier_at : List ℕ → Json → Option Identifier
identifier_at name tree = option_and_then identifier_of (text_at name (object_members tree))

-- one that doesn't name both is a text of its type, and no more is known of it
abbrev pub registration_by : Option (List ℕ) → Option Identifier → Option Identifier → View
registration_by typ (Some sub) (Some iss) = good (registration_words sub iss)
registration_by typ (Some sub) None = other_found typ
registration_by typ None iss = other_found typ

abbrev pub registration_found : Option (List ℕ) → Option Json → View
registration_found typ (Some tree) = registration_by typ (identifier_at (codes "sub") tree) (identifier_at (codes "iss") tree)
registration_found typ None = other_found typ

-- the type of a resolver's reply (section 8.3.2), and that of a registration (section 12.2.3)
abbrev pub reply_type_name : List ℕ
reply_type_name = codes "resolve-response+jwt"

abbrev pub registration_type_name : List ℕ
registration_type_name = codes "explicit-registration-response+jwt"

-- a text that is none of these has too many bytes
abbrev pub too_long : View
too_long = refused (form_reason TooLong)

-- a text in compact form, by the type that its header tells (RFC 7515 section 4.1.9)
unfoldable pub compact_found : Compact → View
compact_found c =
    if has_type statement_type c.typ then statement_found (claims_of c)
    else (if has_type mark_type_name c.typ then mark_found (mark_claims c)
    else (if has_type delegation_type_name c.typ then delegation_found (delegation_claims c)
    else (if has_type status_type_name c.typ then status_found (status_claims c)
    else (if has_type registration_type_name c.typ then registration_found c.typ (tree_in c.payload)
    else other_found c.typ))))

abbrev pub split_found : Result Compact FormFault → View
split_found (Ok c) = compact_found c
split_found (Err fault) = refused (form_reason fault)

-- a text that is longer than statements and marks may be is shown as a resolver's reply or a registration, which hold the texts of a chain
-- (sections 8.3.2 and 12.2.3)
abbrev pub long_found : Result Compact FormFault → View
long_found (Ok c) =
    if has_type reply_type_name c.typ then other_found c.typ
    else (if has_type registration_type_name c.typ then registration_found c.typ (tree_in c.payload) else too_long)
long_found (Err fault) = too_long

-- any text
unfoldable pub text_found : List ℕ → View
text_found text = if nat_lt max_bytes (length text) then long_found (long_splitting text) else split_found (splitting text)
