-- When each answer comes.
use Rattle.std.proofs.Common.{◌≡◌, ◌⊎◌, ℕ, true, false, List, Some, None, Result, Ok, Err, refl, sym, ap, ◌∙◌, subst, inl, inr, arith}
use Rattle.std.specs.Prelude.{IfOk, IfSome, MatchResult, codes, is_some, if◌then◌else◌}
use Rattle.fed_base.specs.declared.faults.Memory.{Memory}
use Rattle.fed_base.specs.Counts.{CountsAtMost, counted}
use Rattle.http_messages.specs.declared.read.ReadEnd.{ReadEnd}
use Rattle.http_messages.specs.declared.request.Incoming.{Incoming}
use Rattle.http_messages.specs.declared.request.Incoming.TheVariants.{Asked as Request, NotARequest}
use Rattle.http_messages.specs.declared.response.Response.{Response}
use Rattle.http_plain.specs.Responses.{HasReason}
use Rattle.authority_core.specs.Answers.{configuration_response, fetch_response, historical_response, list_response, statement_response, status_response}
use Rattle.authority_core.specs.Nodes.{Node as Authority, registered}
use Rattle.node_requests.specs.declared.asked.Asked.{Asked}
use Rattle.node_requests.specs.declared.asked.Asked.TheVariants as asked
use Rattle.node_requests.specs.declared.change.AnchorChange.{AnchorChange}
use Rattle.node_requests.specs.declared.place.Place.{Place}
use Rattle.resolve_round.specs.declared.request.ResolveRequest.{ResolveRequest}
use Rattle.node_requests.proofs.Asking.{one_asked}
use Rattle.statement_shelf.specs.declared.calls.BookReply.{BookReply}
use Rattle.statement_shelf.specs.declared.calls.BookReply.TheVariants as book
use Rattle.resolve_reply.specs.declared.reply.Reply.{Reply}
use Rattle.fed_resolver.specs.declared.outcome.Outcome.{Outcome}
use Rattle.fed_resolver.specs.declared.outcome.Refusal.{Refusal}
use Rattle.fed_resolver.specs.declared.outcome.Refusal.TheVariants.{NoAnchor, NotFound, PolicyOnly, NoChain, Unavailable, Budget, Worn, Memory as OutOfMemory}
use Rattle.fed_serve.specs.ResolverResponses.{resolve_response, rotate_response}
use Rattle.fed_serve.specs.Rotations.{Dealing, stranger, asked as replied, worn, untested}
use Rattle.fed_serve.specs.declared.node.Node.{Node}
use Rattle.fed_serve.specs.Handlings.{Handles, Handling, IsIssued, Wants, WantsNothing, dealt, issued, not_asked, resolved, unread}
use Rattle.fed_serve.specs.Places.{place_of}
use Rattle.fed_serve.specs.Responses.{dealt_response, issued_response, not_a_request, out_of_memory, status_of, tests_asked}
use Rattle.fed_serve.specs.Rows.{Refuses}
use Rattle.fed_serve.specs.Answering.{ComesWhere, IsMessage}
use Rattle.fed_serve.specs.Steps.{IsMade}
use Rattle.fed_serve.proofs.Rows.{key_rows, other_sign, other_status, resolve_rows}

-- ---- what came is one thing

pub one_wanted : (place : Place) (came : Result Incoming ReadEnd) (a b : Asked) → Wants place came a → Wants place came b → a ≡ b
one_wanted place (Ok (Request r)) a b first second = one_asked place r a b first second
one_wanted place (Ok NotARequest) a b first second = absurd first
one_wanted place (Err fault) a b first second = absurd first

pub not_both : {X : Type 0} (place : Place) (came : Result Incoming ReadEnd) (a : Asked) → Wants place came a → WantsNothing place came → X
not_both place (Ok (Request r)) a wanted none = absurd (none a wanted)
not_both place (Ok NotARequest) a wanted none = absurd wanted
not_both place (Err fault) a wanted none = absurd wanted

-- ---- the status of a handling

-- that of a statement, where the subordinate is registered
statement_status : (node : Authority) (t : ℕ) (sub : List ℕ) → (fetch_response node t sub).status ≡ (if is_some (registered sub node.settings) then 200 else 404)
unfolding fetch_response
statement_status node t sub =
    elim (registered sub node.settings) as (λ o. (statement_response node t o).status ≡ (if is_some o then 200 else 404)) [ None ↦ refl | Some s ↦ refl ]

-- the response that is there has that status
status_so : (r s : Response) (n : ℕ) → Some r ≡ Some s → r.status ≡ n → s.status ≡ n
status_so r s n is status = let same : r ≡ s = cc is in subst (λ (x : Response). x.status ≡ n) same status

issued_status : (node : Authority) (t : ℕ) (a : Asked) (r : Response) → issued_response node t a ≡ Some r → r.status ≡ status_of node a
unfolding configuration_response list_response historical_response status_response
issued_status node t asked.Configuration r is = status_so (configuration_response node t) r 200 is refl
issued_status node t (asked.Fetch sub) r is = status_so (fetch_response node t sub) r _ is (statement_status node t sub)
issued_status node t (asked.List query) r is = status_so (list_response node query) r 200 is refl
issued_status node t asked.HistoricalKeys r is = status_so (historical_response node t) r 200 is refl
issued_status node t (asked.Status mark) r is = status_so (status_response node t mark) r 200 is refl
issued_status node t (asked.Resolution resolution) r is = cc is
issued_status node t (asked.Rotation change) r is = cc is

-- it is one of two
two_statuses : (node : Authority) (a : Asked) → (status_of node a ≡ 200) ⊎ (status_of node a ≡ 404)
two_statuses node asked.Configuration = inl refl
two_statuses node (asked.Fetch sub) =
    elim (is_some (registered sub node.settings)) as (λ b. let n : ℕ = if b then 200 else 404 in (n ≡ 200) ⊎ (n ≡ 404)) [ true ↦ inl refl | false ↦ inr refl ]
two_statuses node (asked.List query) = inl refl
two_statuses node asked.HistoricalKeys = inl refl
two_statuses node (asked.Status mark) = inl refl
two_statuses node (asked.Resolution resolution) = inl refl
two_statuses node (asked.Rotation change) = inl refl

apart : {X : Type 0} → ⊥ → X
apart never = absurd never

has_reason : (n : ℕ) → (n ≡ 200) ⊎ (n ≡ 404) → HasReason n
has_reason n (inl is) = subst HasReason (sym is) (λ e. cc e)
has_reason n (inr is) = subst HasReason (sym is) (λ e. cc e)

-- a response that the registry made
pub issued_made : (node : Authority) (t : ℕ) (a : Asked) (before now : ℕ) (made : Result Response Memory) → IfOk made (λ r. issued_response node t a ≡ Some r)
    → MatchResult made (λ r. now ≡ counted (tests_asked node a) before) (λ m. CountsAtMost (tests_asked node a) before now)
    → IsMade node t (issued a) before now made
issued_made node t a before now (Ok r) is counts =
    (is, counts, subst HasReason (sym (issued_status node t a r is)) (has_reason (status_of node a) (two_statuses node a)))
issued_made node t a before now (Err m) is counts = counts

-- ---- no response is another's

same_status : (r s : Response) → r ≡ s → r.status ≡ s.status
same_status r s is = ap (λ (x : Response). x.status) is

-- what an authority answers isn't 400
unlike : {X : Type 0} (n : ℕ) → (n ≡ 200) ⊎ (n ≡ 404) → n ≡ 400 → X
unlike n (inl is) e = apart (omega (arith, is, e))
unlike n (inr is) e = apart (omega (arith, is, e))

-- nor is what a resolver answers 400 invalid_request
abbrev is_other : Response → Type 0
is_other r = Refuses 400 (codes "invalid_request") r → ⊥

other_result : (result : Result Reply Refusal) → IfSome (resolve_response result) is_other
other_result (Ok reply) = λ is. other_status _ _ (λ e. omega (arith, e)) is.1
other_result (Err NoAnchor) = λ is. other_status _ _ (λ e. omega (arith, e)) is.1
other_result (Err NotFound) = λ is. other_status _ _ (λ e. omega (arith, e)) is.1
other_result (Err PolicyOnly) = λ is. other_sign _ _ (λ e. omega (arith, e)) is.1
other_result (Err NoChain) = λ is. other_sign _ _ (λ e. omega (arith, e)) is.1
other_result (Err Unavailable) = λ is. other_status _ _ (λ e. omega (arith, e)) is.1
other_result (Err (Budget calls paths)) = λ is. other_status _ _ (λ e. omega (arith, e)) is.1
other_result (Err (Worn count)) = tt
other_result (Err OutOfMemory) = tt

other_reply : (reply : BookReply) → IfSome (rotate_response reply) is_other
other_reply (book.Rotated epoch) = λ is. other_status _ _ (λ e. omega (arith, e)) is.1
other_reply (book.Behind epoch) = λ is. other_status _ _ (λ e. omega (arith, e)) is.1
other_reply book.NoAnchor = λ is. other_status _ _ (λ e. omega (arith, e)) is.1
other_reply (book.Keys epoch keys) = tt
other_reply (book.At epoch) = tt
other_reply book.Memory = tt

other_dealing : (dealing : Dealing) → IfSome (dealt_response dealing) is_other
other_dealing stranger = λ is. other_status _ _ (λ e. omega (arith, e)) is.1
other_dealing (replied reply) = other_reply reply
other_dealing worn = tt
other_dealing untested = tt

not_invalid : (result : Result Reply Refusal) (r : Response) → resolve_response result ≡ Some r → is_other r
not_invalid result r is = subst (λ o. IfSome o is_other) is (other_result result)

not_invalid_change : (dealing : Dealing) (r : Response) → dealt_response dealing ≡ Some r → is_other r
not_invalid_change dealing r is = subst (λ o. IfSome o is_other) is (other_dealing dealing)

same_resolution : (a b : ResolveRequest) → asked.Resolution a ≡ asked.Resolution b → a ≡ b
same_resolution a b is = cc is

same_change : (a b : AnchorChange) → asked.Rotation a ≡ asked.Rotation b → a ≡ b
same_change a b is = cc is

no_change : {X : Type 0} (resolution : ResolveRequest) (change : AnchorChange) → asked.Resolution resolution ≡ asked.Rotation change → X
no_change resolution change is = cc is

-- ---- each handling

wanting : (node : Node) (came : Result Incoming ReadEnd) (h : Handling) → ComesWhere node came h out_of_memory
wanting node came h = record {
  bad_request = λ is. other_status _ _ (λ e. omega (arith, e)) is.1;
  refused = λ none. inr refl;
  issued = λ a is answered. inr refl;
  resolved = λ resolution is. inl refl;
  dealt = λ change is. inl refl;
}

refusing : (node : Node) (came : Result Incoming ReadEnd) → WantsNothing (place_of node) came → ComesWhere node came not_asked not_a_request
refusing node came none = record {
  bad_request = λ is. none;
  refused = λ is. inl refl;
  issued = λ a is answered. not_both (place_of node) came a is none;
  resolved = λ resolution is. not_both (place_of node) came (asked.Resolution resolution) is none;
  dealt = λ change is. not_both (place_of node) came (asked.Rotation change) is none;
}

-- an authority isn't asked to resolve
no_resolution : {X : Type 0} (a : Asked) (resolution : ResolveRequest) → IsIssued a → a ≡ asked.Resolution resolution → X
no_resolution a resolution issues is = absurd (subst IsIssued is issues)

no_rotation : {X : Type 0} (a : Asked) (change : AnchorChange) → IsIssued a → a ≡ asked.Rotation change → X
no_rotation a change issues is = absurd (subst IsIssued is issues)

issuing : (node : Node) (came : Result Incoming ReadEnd) (a : Asked) (r : Response) → Wants (place_of node) came a → IsIssued a → r.status ≡ status_of node.registry a
    → ComesWhere node came (issued a) r
issuing node came a r wants issues status = record {
  bad_request = λ is. unlike (status_of node.registry a) (two_statuses node.registry a) (sym status ∙ same_status _ _ is.1);
  refused = λ none. not_both (place_of node) came a wants none;
  issued = λ b is answered. inl (status ∙ ap (status_of node.registry) (one_wanted (place_of node) came a b wants is));
  resolved = λ resolution is. no_resolution a resolution issues (one_wanted (place_of node) came a (asked.Resolution resolution) wants is);
  dealt = λ change is. no_rotation a change issues (one_wanted (place_of node) came a (asked.Rotation change) wants is);
}

resolving : (node : Node) (came : Result Incoming ReadEnd) (resolution : ResolveRequest) (outcome : Outcome) (r : Response)
    → Wants (place_of node) came (asked.Resolution resolution) → resolve_response outcome.result ≡ Some r → ComesWhere node came (resolved resolution outcome) r
resolving node came resolution outcome r wants is = record {
  bad_request = λ refuses. absurd (not_invalid outcome.result r is refuses);
  refused = λ none. not_both (place_of node) came (asked.Resolution resolution) wants none;
  issued = λ a asks answered. no_resolution a resolution answered (one_wanted (place_of node) came a (asked.Resolution resolution) asks wants);
  resolved = λ other asks. inr (outcome, ap (λ r'. resolved r' outcome) (same_resolution resolution other (one_wanted (place_of node) came _ _ wants asks)), resolve_rows outcome.result r is);
  dealt = λ change asks. no_change resolution change (one_wanted (place_of node) came _ _ wants asks);
}

dealing_with : (node : Node) (came : Result Incoming ReadEnd) (change : AnchorChange) (dealing : Dealing) (r : Response)
    → Wants (place_of node) came (asked.Rotation change) → dealt_response dealing ≡ Some r → ComesWhere node came (dealt change dealing) r
dealing_with node came change dealing r wants is = record {
  bad_request = λ refuses. absurd (not_invalid_change dealing r is refuses);
  refused = λ none. not_both (place_of node) came (asked.Rotation change) wants none;
  issued = λ a asks answered. no_rotation a change answered (one_wanted (place_of node) came a (asked.Rotation change) asks wants);
  resolved = λ resolution asks. no_change resolution change (one_wanted (place_of node) came _ _ asks wants);
  dealt = λ other asks. inr (dealing, ap (λ c. dealt c dealing) (same_change change other (one_wanted (place_of node) came _ _ wants asks)), key_rows dealing r is);
}

its_response : {X : Type 0} (r s : X) → Some r ≡ Some s → r ≡ s
its_response r s is = cc is

pub cause : (node : Node) (t before now : ℕ) (came : Result Incoming ReadEnd) (h : Handling) (response : Response)
    → Handles (place_of node) came h → IsMessage node.registry t h before now response → ComesWhere node came h response
cause node t before now came h response handles (inr memory) = subst (ComesWhere node came h) (sym memory.0) (wanting node came h)
cause node t before now came unread response handles (inl is) = cc is.0
cause node t before now came not_asked response handles (inl is) =
    subst (ComesWhere node came not_asked) (its_response not_a_request response is.0) (refusing node came handles)
cause node t before now came (issued a) response handles (inl is) =
    issuing node came a response handles.0 handles.1 (issued_status node.registry t a response is.0)
cause node t before now came (resolved resolution outcome) response handles (inl is) = resolving node came resolution outcome response handles is.0
cause node t before now came (dealt change dealing) response handles (inl is) = dealing_with node came change dealing response handles is.0
