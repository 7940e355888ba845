-- What a resolver is asked is read exactly where the parameters say it.
use Rattle.std.proofs.Common.{◌≡◌, ℕ, List, codes, Some, Result, Ok, Err, refl, sym, ap, ◌∙◌, subst}
use Rattle.std.specs.Result.{result_ok}
use Rattle.std.proofs.lemmas.Option.{option_and_then_some}
use Rattle.fed_base.specs.Values.{◌>>=◌}
use Rattle.entity_id.specs.declared.fault.IdFault.{IdFault}
use Rattle.entity_id.specs.Identifiers.{IsIdentifier, identifier_in, identifier_of}
use Rattle.entity_id.proofs.Identifying.{identifier_in-found, identifier_in-only}
use Rattle.entity_statement.specs.Claims.{Identifier}
use Rattle.http_messages.specs.declared.request.Pair.{Pair}
use Rattle.resolve_round.specs.declared.request.ResolveRequest.{ResolveRequest}
use Rattle.node_requests.specs.Parameters.{values_of}
use Rattle.node_requests.specs.Requests.{IsResolution, NamesOnce}
use Rattle.node_requests.specs.Steps.{identifier_once, resolution_in}

-- ---- an identifier

is_read : (r : Result (List ℕ) IdFault) (id : List ℕ) → result_ok r ≡ Some id → r ≡ Ok id
is_read (Ok x) id e = let same : x ≡ id = cc e in ap Ok same
is_read (Err fault) id e = cc e

names-found : (pairs : List Pair) (name : List ℕ) (id : Identifier) → identifier_once (values_of name pairs) ≡ Some id → NamesOnce pairs name id
names-found pairs name id e =
    option_and_then_some _ _ id e (λ text has is.
    let read = identifier_in-found text id (is_read (identifier_in text) id is) in
    (has ∙ ap Some read.1, subst IsIdentifier read.1 read.0))

names-only : (pairs : List Pair) (name : List ℕ) (id : Identifier) → NamesOnce pairs name id → identifier_once (values_of name pairs) ≡ Some id
names-only pairs name id names = ap (λ o. o >>= identifier_of) names.0 ∙ ap (λ r. result_ok r) (identifier_in-only id names.1)

-- ---- a resolution

pub resolution_found : (pairs : List Pair) (resolution : ResolveRequest) → resolution_in pairs ≡ Some resolution → IsResolution pairs resolution
unfolding resolution_in
resolution_found pairs resolution is =
    option_and_then_some _ _ resolution is (λ sub first then.
    option_and_then_some _ _ resolution then (λ anchor second then.
    let made : record { sub = sub; anchor = anchor; types = values_of (codes "entity_type") pairs } ≡ resolution = cc then in
    subst (IsResolution pairs) made (record {
      sub = names-found pairs (codes "sub") sub first;
      anchor = names-found pairs (codes "trust_anchor") anchor second;
      types = refl;
    })))

pub resolution_only : (pairs : List Pair) (resolution : ResolveRequest) → IsResolution pairs resolution → resolution_in pairs ≡ Some resolution
unfolding resolution_in
resolution_only pairs resolution is =
    let sub = names-only pairs (codes "sub") resolution.sub is.sub in
    let anchor = names-only pairs (codes "trust_anchor") resolution.anchor is.anchor in
    let types = sym is.types in
    λ i. sub i >>= λ s. anchor i >>= λ a. Some (record { sub = s; anchor = a; types = types i })
