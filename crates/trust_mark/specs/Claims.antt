-- What trust marks, delegations and answers on a mark's status claim, or their first fault (OpenID Federation 1.0 sections 7 and 8.4).
use Rattle.std.specs.Prelude.{◌≡◌, ℕ, List, codes, bytes_eq, Bool, false, Option, Some, None, Result, Ok, Err, if◌then◌else◌}
use Rattle.std.specs.Option.{ok_or, option_map_or}
use Rattle.fed_base.specs.Answers.{◌>>=◌}
use Rattle.fed_json.specs.declared.tree.Json.{Json}
use Rattle.fed_json.specs.declared.tree.Member.{Member}
use Rattle.fed_json.specs.Trees.{as_object, as_text, find}
use Rattle.fed_json.specs.Reading.{tree_in}
use Rattle.jws_form.specs.declared.compact.Compact.{Compact}
use Rattle.entity_statement.specs.Forms.{identifier, moment}
use Rattle.trust_mark.specs.declared.fault.MarkFault.{MarkFault}
use Rattle.trust_mark.specs.declared.fault.MarkFault.TheVariants.{Typ, Tree, Missing, Shape, Memory}
use Rattle.trust_mark.specs.declared.mark.Mark.{Mark}
use Rattle.trust_mark.specs.declared.status.MarkStatus.{MarkStatus}
use Rattle.trust_mark.specs.declared.status.StatusAnswer.{StatusAnswer}
use Rattle.trust_mark.specs.Statuses.{status_of_word}

-- ---- answers

-- the answer says what is expected, unless memory was wanting
abbrev pub GivesBy : {X Y : Type 0} → (X → Y) → Result X MarkFault → Result Y MarkFault → Type 0
GivesBy view (Ok x) expected = expected ≡ Ok (view x)
GivesBy view (Err Memory) expected = Unit {0}
GivesBy view (Err fault) expected = expected ≡ Err fault

-- the answer is the one that is expected, unless memory was wanting
abbrev pub Gives : {X : Type 0} → Result X MarkFault → Result X MarkFault → Type 0
Gives = GivesBy (λ x. x)

-- ---- claims

-- the name of a claim (RFC 7519 section 4)
abbrev pub Name : Type 0
Name = List ℕ

-- any text (RFC 8259 section 7)
unfoldable pub any_text : Json → Option (List ℕ)
any_text tree = as_text tree

-- the claim must be there, in its form (section 7.1)
abbrev pub claim : {X : Type 0} → Name → (Json → Option X) → List Member → Result X MarkFault
claim name form members = ok_or (find name members) (Missing name) >>= λ tree. ok_or (form tree) (Shape name)

-- what a value says that may be absent (section 7.1)
abbrev pub said : {X : Type 0} → Name → (Json → Option X) → Option Json → Result (Option X) MarkFault
said name form None = Ok None
said name form (Some tree) = ok_or (form tree) (Shape name) >>= λ x. Ok (Some x)

-- the claim may be absent (section 7.1)
abbrev pub claim_if_there : {X : Type 0} → Name → (Json → Option X) → List Member → Result (Option X) MarkFault
claim_if_there name form members = said name form (find name members)

-- ---- objects

-- the claims of a delegation, or its first fault (section 7.2.1)
unfoldable pub delegation_in : List Member → Result Mark MarkFault
delegation_in members = do
  iss ← claim (codes "iss") identifier members
  sub ← claim (codes "sub") identifier members
  mark_type ← claim (codes "trust_mark_type") any_text members
  iat ← claim (codes "iat") moment members
  exp ← claim_if_there (codes "exp") moment members
  Ok (record { iss = iss; sub = sub; mark_type = mark_type; iat = iat; exp = exp; delegation = None })

-- the claims of a mark: those of a delegation, and one more (section 7.1)
unfoldable pub mark_in : List Member → Result Mark MarkFault
mark_in members = do
  mark ← delegation_in members
  delegation ← claim_if_there (codes "delegation") any_text members
  Ok (record { iss = mark.iss; sub = mark.sub; mark_type = mark.mark_type; iat = mark.iat; exp = mark.exp; delegation = delegation })

-- what has become of a mark: one of the four words (section 8.4.2)
unfoldable pub status_at : List Member → Result MarkStatus MarkFault
status_at members = claim (codes "status") any_text members >>= λ word. ok_or (status_of_word word) (Shape (codes "status"))

-- the claims of an answer on a mark's status, or its first fault (section 8.4.2)
unfoldable pub status_answer_in : List Member → Result StatusAnswer MarkFault
status_answer_in members = do
  iss ← claim (codes "iss") identifier members
  iat ← claim (codes "iat") moment members
  trust_mark ← claim (codes "trust_mark") any_text members
  status ← status_at members
  Ok (record { iss = iss; iat = iat; trust_mark = trust_mark; status = status })

-- ---- trees

-- what an object's members say; any other tree is none
abbrev pub in_object : {X : Type 0} → (List Member → Result X MarkFault) → Json → Result X MarkFault
in_object says tree = ok_or (as_object tree) Tree >>= says

-- what a tree says as the payload of a mark (section 7.1), of a delegation (section 7.2.1), of an answer (section 8.4.2)
unfoldable pub mark_of_tree : Json → Result Mark MarkFault
mark_of_tree tree = in_object mark_in tree

unfoldable pub delegation_of_tree : Json → Result Mark MarkFault
delegation_of_tree tree = in_object delegation_in tree

unfoldable pub status_of_tree : Json → Result StatusAnswer MarkFault
status_of_tree tree = in_object status_answer_in tree

-- ---- texts

-- the header's types (sections 7.1, 7.2.1 and 8.4.2)
abbrev pub mark_type_name : List ℕ
mark_type_name = codes "trust-mark+jwt"

abbrev pub delegation_type_name : List ℕ
delegation_type_name = codes "trust-mark-delegation+jwt"

abbrev pub status_type_name : List ℕ
status_type_name = codes "trust-mark-status-response+jwt"

-- the header's type is this one
abbrev pub has_type : List ℕ → Option (List ℕ) → Bool
has_type name typ = option_map_or (λ t. bytes_eq t name) typ false

-- the payload of a text of this type
unfoldable pub payload_of : List ℕ → Compact → Result Json MarkFault
payload_of name c = if has_type name c.typ then ok_or (tree_in c.payload) Tree else Err Typ

-- what a compact text says as a mark, as a delegation, as an answer: its claims, or its first fault
unfoldable pub mark_claims : Compact → Result Mark MarkFault
mark_claims c = payload_of mark_type_name c >>= mark_of_tree

unfoldable pub delegation_claims : Compact → Result Mark MarkFault
delegation_claims c = payload_of delegation_type_name c >>= delegation_of_tree

unfoldable pub status_claims : Compact → Result StatusAnswer MarkFault
status_claims c = payload_of status_type_name c >>= status_of_tree
