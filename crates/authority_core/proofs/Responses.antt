-- What is signed is what a node answers.
use Rattle.std.proofs.Common.{◌≡◌, ◌≢◌, ◌≤◌, ◌<◌, ℕ, List, [], length, Option, Some, None, Result, Ok, Err, true, sym, ap, ◌∙◌, subst}
use Rattle.std.specs.Prelude.{IfOk, IsSome, option_and_then, unwrap_or}
use Rattle.std.specs.Result.{result_ok}
use Rattle.fed_base.specs.Moments.{moment_limit}
use Rattle.fed_base.specs.declared.faults.Memory.{Memory}
use Rattle.http_messages.specs.declared.response.Response.{Response}
use Rattle.fed_json.specs.Compact.{compact}
use Rattle.fed_json.specs.Forms.{nesting}
use Rattle.fed_json.specs.Reading.{tree_in}
use Rattle.jws_form.specs.declared.compact.Compact.{Compact}
use Rattle.jws_form.specs.declared.fault.FormFault.{FormFault}
use Rattle.jws_form.specs.Compact.{max_bytes}
use Rattle.jws_form.proofs.Laws.{IsCompact-unique, only}
use Rattle.fed_base.specs.declared.algorithm.Alg.TheVariants.{Small}
use Rattle.slh_dsa.specs.Keys.{Keys}
use Rattle.key_ring.specs.Rings.{Ring, ring_pair}
use Rattle.key_ring.specs.Sets.{IsNamedIn, live_set}
use Rattle.sealed.specs.Sealing.{HasParts, IsSealedFor}
use Rattle.sealed.specs.Seals.{IsSealedBy}
use Rattle.node_config.specs.Subordinates.{are_below}
use Rattle.fed_json.specs.declared.tree.Json.{Json, List as ListOf}
use Rattle.http_messages.specs.declared.response.Media.TheVariants.{Statement, JwkSet, Status}
use Rattle.entity_statement.specs.Claims.{Claims}
use Rattle.entity_statement.specs.Signed.{statement_of}
use Rattle.entity_statement.specs.Table.{claims_of, statement_type}
use Rattle.key_ring.specs.Sets.{historical_keys, signer_keys}
use Rattle.sealed.specs.Sealing.{sealed_text}
use Rattle.node_config.specs.Nodes.{Subordinate}
use Rattle.trust_mark.specs.Claims.{status_type_name}
use Rattle.authority_core.specs.Answers.{configuration_response, fetch_response, good, historical_response, not_found, statement_response, status_response}
use Rattle.authority_core.specs.Issued.{configuration_claims, historical_claims, historical_tree, historical_type, signed_by, statement_claims}
use Rattle.authority_core.specs.Issues.{IsIssue, Issue, NamesSigner, SaysAs, issue_by}
use Rattle.authority_core.specs.Nodes.{Node, node_signer, registered}
use Rattle.authority_core.specs.ReadBack.{ReadsAs, claims_about}
use Rattle.authority_core.specs.Statuses.{status_claims, status_of}
use Rattle.trust_mark.specs.Statuses.{answer_of, status_tree}
use Rattle.trust_mark.specs.declared.status.MarkStatus.{MarkStatus}
use Rattle.authority_core.proofs.BelowLaws.{found-below}

signer-is : (node : Node) (keys : Keys) → signer_keys node.ring ≡ Some keys → keys ≡ node_signer node
signer-is node keys signs = sym (ap (λ o. unwrap_or o (ring_pair Small [])) signs)

signed-by : (node : Node) (typ : List ℕ) (keys : Keys) (claims : Json) → signer_keys node.ring ≡ Some keys → sealed_text keys typ claims ≡ signed_by node typ claims
signed-by node typ keys claims signs = ap (λ k. sealed_text k typ claims) (signer-is node keys signs)

pub configuration-is : (node : Node) (t : ℕ) (keys : Keys) (claims : Json) → signer_keys node.ring ≡ Some keys → claims ≡ configuration_claims node t
    → good Statement (sealed_text keys statement_type claims) ≡ configuration_response node t
unfolding configuration_response
configuration-is node t keys claims signs made =
    ap (λ c. good Statement (sealed_text keys statement_type c)) made ∙ ap (good Statement) (signed-by node statement_type keys (configuration_claims node t) signs)

pub historical-is : (node : Node) (t : ℕ) (keys : Keys) (set claims : Json) → signer_keys node.ring ≡ Some keys → set ≡ ListOf (historical_keys node.ring)
    → claims ≡ historical_tree node.settings.id set t → good JwkSet (sealed_text keys historical_type claims) ≡ historical_response node t
unfolding historical_response historical_claims
historical-is node t keys set claims signs listed made =
    ap (λ c. good JwkSet (sealed_text keys historical_type c)) (made ∙ ap (λ s. historical_tree node.settings.id s t) listed)
    ∙ ap (good JwkSet) (signed-by node historical_type keys (historical_claims node t) signs)

pub statement-is : (node : Node) (t : ℕ) (sub : List ℕ) (keys : Keys) (s : Subordinate) (claims : Json) → signer_keys node.ring ≡ Some keys → registered sub node.settings ≡ Some s
    → claims ≡ statement_claims node.settings s t → good Statement (sealed_text keys statement_type claims) ≡ fetch_response node t sub
unfolding fetch_response
statement-is node t sub keys s claims signs found made =
    ap (λ c. good Statement (sealed_text keys statement_type c)) made ∙ ap (good Statement) (signed-by node statement_type keys (statement_claims node.settings s t) signs)
    ∙ sym (ap (statement_response node t) found)

pub stranger-is : (node : Node) (t : ℕ) (sub : List ℕ) → registered sub node.settings ≡ None → not_found ≡ fetch_response node t sub
unfolding fetch_response
stranger-is node t sub none = sym (ap (statement_response node t) none)

pub status-is : (node : Node) (t : ℕ) (mark : List ℕ) (keys : Keys) (status : MarkStatus) (claims : Json) → signer_keys node.ring ≡ Some keys → status ≡ status_of node t mark
    → claims ≡ status_tree (answer_of node.settings.id t mark status) → good Status (sealed_text keys status_type_name claims) ≡ status_response node t mark
unfolding status_response status_claims
status-is node t mark keys status claims signs is made =
    ap (λ c. good Status (sealed_text keys status_type_name c)) (made ∙ ap (λ s. status_tree (answer_of node.settings.id t mark s)) is)
    ∙ ap (good Status) (signed-by node status_type_name keys (status_claims node t mark) signs)

-- ---- who seals it

abbrev pub Answer : Type 0
Answer = Result Response Memory

-- what is signed is sealed by the live keys, where the text is short enough to be read
pub answer-live : (r : Answer) (ring : Ring) (keys : Keys) → signer_keys ring ≡ Some keys → IsNamedIn (signer_keys ring) (live_set ring) → IfOk r (λ x. IsSealedFor keys x.body)
    → IfOk r (λ x. length x.body ≤ max_bytes → IsSealedBy x.body (live_set ring))
answer-live (Err e) ring keys signs named sealed = tt
answer-live (Ok x) ring keys signs named sealed = λ short. sealed (live_set ring) (record { short = short; named = named keys signs })

-- and it is
pub short-live : (r : Answer) (ring : Ring) → IfOk r (λ x. length x.body ≤ max_bytes → IsSealedBy x.body (live_set ring)) → IfOk r (λ x. length x.body ≤ max_bytes)
    → IfOk r (λ x. IsSealedBy x.body (live_set ring))
short-live (Err e) ring sealed short = tt
short-live (Ok x) ring sealed short = sealed short

-- ---- what it is

-- the parts of a sealed text say what is stated
issued : (issue : Issue) (tree : Json) → HasParts issue.signer statement_type (compact tree) issue.text → tree_in (compact tree) ≡ Some tree → ReadsAs tree issue.claims
    → IsSealedFor issue.signer issue.text → length issue.text ≤ max_bytes → (issue.claims.iss ≡ issue.claims.sub → NamesSigner issue.signer issue.claims.keys) → IsIssue issue
unfolding statement_of
issued issue tree has back reads sealed short own =
    let says : claims_of has.parts ≡ Ok issue.claims = reads has.parts has.typed (ap tree_in has.says ∙ back) in
    let here : SaysAs issue has.parts = record { claims = says; algorithm = has.signed_in; named = has.named } in
    record {
      reads = ap (λ (r : Result Compact FormFault). option_and_then (λ compact. result_ok (claims_of compact)) (result_ok r)) (only issue.text has.parts has.splits) ∙ ap result_ok says;
      parts = λ other is. subst (SaysAs issue) (IsCompact-unique issue.text has.parts other has.splits is) here;
      seals = λ keys named. sealed keys (record { short = short; named = named });
      own = own;
    }

pub answer-issued : (r : Answer) (node : Node) (keys : Keys) (tree stated : Json) (claims : Claims) (small : Type 0) → signer_keys node.ring ≡ Some keys → tree ≡ stated
    → (small → ReadsAs tree claims) → (claims.iss ≡ claims.sub → NamesSigner keys claims.keys) → IfOk r (λ x. IsSealedFor keys x.body)
    → IfOk r (λ x. length x.body ≤ max_bytes → HasParts keys statement_type (compact tree) x.body) → IfOk r (λ _. nesting tree ≤ 127 → tree_in (compact tree) ≡ Some tree)
    → IfOk r (λ x. length x.body ≤ max_bytes) → IfOk r (λ x. small → nesting stated ≤ 127 → IsIssue (issue_by node x.body claims))
answer-issued (Err e) node keys tree stated claims small signs made reads own sealed splits back short = tt
answer-issued (Ok x) node keys tree stated claims small signs made reads own sealed splits back short = λ now nested.
    let shallow : nesting tree ≤ 127 = subst (λ y. nesting y ≤ 127) (sym made) nested in
    let issue : Issue = record { signer = keys; text = x.body; claims = claims } in
    subst (λ k. IsIssue (record { signer = k; text = x.body; claims = claims })) (signer-is node keys signs)
    (issued issue tree (splits short) (back shallow) (reads now) sealed short own)

-- ---- subjects that are registered, and those that aren't

pub whatever : (r : Answer) (P Q : Response → Type 0) → IfOk r P → ((x : Response) → P x → Q x) → IfOk r Q
whatever (Err e) P Q holds so = tt
whatever (Ok x) P Q holds so = so x holds

pub always : (r : Answer) (Q : Response → Type 0) → ((x : Response) → Q x) → IfOk r Q
always (Err e) Q so = tt
always (Ok x) Q so = so x

none-some : (o : Option Subordinate) → o ≡ None → IsSome o → ⊥
none-some None none some = cc some
none-some (Some s) none some = cc none

pub stranger-sealed : (r : Answer) (node : Node) (sub : List ℕ) → registered sub node.settings ≡ None → IfOk r (λ x. IsSome (registered sub node.settings) → IsSealedBy x.body (live_set node.ring))
stranger-sealed r node sub none = always r _ (λ x some. absurd (none-some _ none some))

pub stranger-short : (r : Answer) (node : Node) (sub : List ℕ) → registered sub node.settings ≡ None → IfOk r (λ x. IsSome (registered sub node.settings) → length x.body ≤ max_bytes)
stranger-short r node sub none = always r _ (λ x some. absurd (none-some _ none some))

pub stranger-reads : (r : Answer) (node : Node) (t : ℕ) (sub : List ℕ) → registered sub node.settings ≡ None
    → IfOk r (λ x. (s : Subordinate) → registered sub node.settings ≡ Some s → t < moment_limit → ReadsAs (statement_claims node.settings s t) (claims_about node.settings s t))
stranger-reads r node t sub none = always r _ (λ x s found. let bad = sym none ∙ found in cc bad)

pub subordinate-reads : (r : Answer) (node : Node) (t : ℕ) (sub : List ℕ) (s : Subordinate) (claims : Json) → are_below node.settings.id node.settings.subordinates ≡ true
    → registered sub node.settings ≡ Some s → claims ≡ statement_claims node.settings s t
    → (t < moment_limit → node.settings.id ≢ s.entity.id → ReadsAs claims (claims_about node.settings s t))
    → IfOk r (λ x. (other : Subordinate) → registered sub node.settings ≡ Some other → t < moment_limit → ReadsAs (statement_claims node.settings other t) (claims_about node.settings other t))
subordinate-reads r node t sub s claims below found made reads =
    always r _ (λ x other is small.
    let same : s ≡ other = (let e = sym found ∙ is in cc e) in
    subst (λ (y : Subordinate). ReadsAs (statement_claims node.settings y t) (claims_about node.settings y t)) same
    (subst (λ c. ReadsAs c (claims_about node.settings s t)) made (reads small (found-below node.settings.id sub node.settings.subordinates s below found))))

pub stranger-issues : (r : Answer) (node : Node) (t : ℕ) (sub : List ℕ) → registered sub node.settings ≡ None
    → IfOk r (λ x. (s : Subordinate) → registered sub node.settings ≡ Some s → t < moment_limit → nesting (statement_claims node.settings s t) ≤ 127
    → IsIssue (issue_by node x.body (claims_about node.settings s t)))
stranger-issues r node t sub none = always r _ (λ x s found. let bad = sym none ∙ found in cc bad)

pub subordinate-issues : (r : Answer) (node : Node) (t : ℕ) (sub : List ℕ) (keys : Keys) (s : Subordinate) (claims : Json) → signer_keys node.ring ≡ Some keys
    → are_below node.settings.id node.settings.subordinates ≡ true → registered sub node.settings ≡ Some s → claims ≡ statement_claims node.settings s t
    → (t < moment_limit → node.settings.id ≢ s.entity.id → ReadsAs claims (claims_about node.settings s t)) → IfOk r (λ x. IsSealedFor keys x.body)
    → IfOk r (λ x. length x.body ≤ max_bytes → HasParts keys statement_type (compact claims) x.body) → IfOk r (λ _. nesting claims ≤ 127 → tree_in (compact claims) ≡ Some claims)
    → IfOk r (λ x. length x.body ≤ max_bytes) → IfOk r (λ x. (other : Subordinate) → registered sub node.settings ≡ Some other → t < moment_limit → nesting (statement_claims node.settings other t) ≤ 127
    → IsIssue (issue_by node x.body (claims_about node.settings other t)))
subordinate-issues r node t sub keys s claims signs below found made reads sealed splits back short =
    let apart = found-below node.settings.id sub node.settings.subordinates s below found in
    whatever r _ _ (answer-issued r node keys claims (statement_claims node.settings s t) (claims_about node.settings s t) (t < moment_limit) signs made
    (λ small. reads small apart) (λ own. absurd (apart own)) sealed splits back short)
    (λ x is other same. let one : s ≡ other = (let e = sym found ∙ same in cc e) in
    subst (λ (y : Subordinate). t < moment_limit → nesting (statement_claims node.settings y t) ≤ 127 → IsIssue (issue_by node x.body (claims_about node.settings y t))) one is)
