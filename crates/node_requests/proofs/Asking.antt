-- What a request asks for, by its kind.
use Rattle.std.proofs.Common.{◌≡◌, ◌≢◌, ℕ, List, ◌++◌, codes, Bool, true, false, Option, Some, None, option_map, Result, Ok, Err, refl, sym, ap, ◌∙◌, subst}
use Rattle.std.specs.Prelude.{IfOk, MatchOption}
use Rattle.std.proofs.lemmas.Option.{option_and_then_some}
use Rattle.fed_base.specs.declared.faults.Memory.{Memory}
use Rattle.fed_base.specs.Values.{◌>>=◌}
use Rattle.http_messages.specs.declared.request.Pair.{Pair}
use Rattle.http_messages.specs.declared.request.Request.{Request}
use Rattle.authority_core.specs.declared.query.ListQuery.{ListQuery}
use Rattle.node_requests.specs.declared.asked.Asked.{Asked}
use Rattle.node_requests.specs.declared.asked.Asked.TheVariants as asked
use Rattle.node_requests.specs.declared.kind.Kind.{Kind}
use Rattle.node_requests.specs.declared.kind.Kind.TheVariants as kind
use Rattle.node_requests.specs.declared.place.Place.{Place}
use Rattle.node_requests.specs.Parameters.{at_most_once, flag_of, values_of}
use Rattle.node_requests.specs.Places.{place_at}
use Rattle.node_requests.specs.Requests.{AsksFor, AsksNothing, IsListQuery, kind_of}
use Rattle.node_requests.specs.Steps.{IsAskedBy, IsRotation, kind_at, kind_had, kind_named, query_in}
use Rattle.node_requests.proofs.KindLaws.{IsRow, kind_is, one_kind, row, suffix}
use Rattle.node_requests.proofs.Resolving.{resolution_found, resolution_only}
use Rattle.node_requests.proofs.Rotating.{one_change}

-- ---- the parameters

mapped : {X Y P : Type 0} (f : X → Y) (o : Option X) (y : Y) → option_map f o ≡ Some y → ((x : X) → o ≡ Some x → f x ≡ y → P) → P
mapped f None y is then = cc is
mapped f (Some x) y is then = then x refl (cc is)

query_found : (pairs : List Pair) (query : ListQuery) → query_in pairs ≡ Some query → IsListQuery pairs query
unfolding query_in
query_found pairs query is =
    option_and_then_some _ _ query is (λ marked first then.
    option_and_then_some _ _ query then (λ intermediate second then.
    option_and_then_some _ _ query then (λ mark_type third then.
    let made : record { types = values_of (codes "entity_type") pairs; trust_marked = marked; mark_type = mark_type; intermediate = intermediate } ≡ query = cc then in
    subst (IsListQuery pairs) made (record { types = refl; trust_marked = first; mark_type = third; intermediate = second }))))

query_only : (pairs : List Pair) (query : ListQuery) → IsListQuery pairs query → query_in pairs ≡ Some query
unfolding query_in
query_only pairs query is =
    ap (λ o. o >>= λ marked. flag_of (values_of (codes "intermediate") pairs) >>= λ intermediate.
    at_most_once (values_of (codes "trust_mark_type") pairs) >>= λ mark_type. made marked mark_type intermediate) is.trust_marked
    ∙ ap (λ o. o >>= λ intermediate. at_most_once (values_of (codes "trust_mark_type") pairs) >>= λ mark_type.
    made query.trust_marked mark_type intermediate) is.intermediate
    ∙ ap (λ o. o >>= λ mark_type. made query.trust_marked mark_type query.intermediate) is.mark_type
    ∙ ap (λ types. Some (record query { types = types })) (sym is.types)
  where
    made : Bool → Option (List ℕ) → Bool → Option ListQuery
    made marked mark_type intermediate =
        Some (record { types = values_of (codes "entity_type") pairs; trust_marked = marked; mark_type = mark_type; intermediate = intermediate })

-- ---- what is answered is asked for

same_path : (r : Request) (path rest name : List ℕ) → r.path ≡ path ++ rest → rest ≡ name → r.path ≡ path ++ name
same_path r path rest name is same = is ∙ ap (λ x. path ++ x) same

-- what a node has where it resolves
resolving : (place : Place) (rest : List ℕ) (r : Request) (a : Asked) (b : Bool) → r.path ≡ place.path ++ rest → IsRow r.method rest kind.Resolve → place.resolves ≡ b
    → IsAskedBy (kind_had b kind.Resolve) r (Some a) → AsksFor place r a
resolving place rest r a true at row resolves is =
    mapped asked.Resolution _ a (sym is) (λ resolution has same.
    subst (AsksFor place r) same ((row.0, same_path r place.path rest _ at row.1), resolution_found r.pairs resolution has, resolves))
resolving place rest r a false at row resolves is = cc is

rotated : (place : Place) (rest : List ℕ) (r : Request) (a : Asked) → r.path ≡ place.path ++ rest → IsRow r.method rest kind.AnchorKeys → place.resolves ≡ true
    → IsRotation r.body (Some a) → AsksFor place r a
rotated place rest r (asked.Rotation change) at row resolves is = ((row.0, same_path r place.path rest _ at row.1), is, resolves)
rotated place rest r a at row resolves is = absurd is

rotating : (place : Place) (rest : List ℕ) (r : Request) (a : Asked) (b : Bool) → r.path ≡ place.path ++ rest → IsRow r.method rest kind.AnchorKeys → place.resolves ≡ b
    → IsAskedBy (kind_had b kind.AnchorKeys) r (Some a) → AsksFor place r a
rotating place rest r a true at row resolves is = rotated place rest r a at row resolves is
rotating place rest r a false at row resolves is = cc is

found_by : (place : Place) (rest : List ℕ) (r : Request) (k : Kind) (a : Asked) → r.path ≡ place.path ++ rest → IsRow r.method rest k
    → IsAskedBy (kind_had place.resolves k) r (Some a) → AsksFor place r a
found_by place rest r kind.Configuration a at row is =
    let same : asked.Configuration ≡ a = cc is in
    subst (AsksFor place r) same (row.0, same_path r place.path rest _ at row.1)
found_by place rest r kind.Fetch a at row is =
    mapped asked.Fetch _ a (sym is) (λ sub has same. subst (AsksFor place r) same ((row.0, same_path r place.path rest _ at row.1), has))
found_by place rest r kind.List a at row is =
    mapped asked.List _ a (sym is) (λ query has same. subst (AsksFor place r) same ((row.0, same_path r place.path rest _ at row.1), query_found r.pairs query has))
found_by place rest r kind.HistoricalKeys a at row is =
    let same : asked.HistoricalKeys ≡ a = cc is in
    subst (AsksFor place r) same (row.0, same_path r place.path rest _ at row.1)
found_by place rest r kind.Status a at row is =
    mapped asked.Status _ a (sym is) (λ mark has same. subst (AsksFor place r) same ((row.0, same_path r place.path rest _ at row.1), has))
found_by place rest r kind.Resolve a at row is = resolving place rest r a place.resolves at row refl is
found_by place rest r kind.AnchorKeys a at row is = rotating place rest r a place.resolves at row refl is
found_by place rest r kind.Other a at row is = cc is

found : (place : Place) (rest : List ℕ) (r : Request) (a : Asked) → r.path ≡ place.path ++ rest → IsAskedBy (kind_at place.resolves r.method rest) r (Some a)
    → AsksFor place r a
found place rest r a at is = found_by place rest r (kind_named r.method rest) a at (row r.method rest) is

-- ---- where nothing is answered, nothing is asked for

never : (place : Place) (r : Request) (a : Asked) → AsksFor place r a → ¬ IsAskedBy (kind_of a) r None
never place r asked.Configuration is none = cc none
never place r (asked.Fetch sub) is none = let bad = none ∙ ap (option_map asked.Fetch) is.1 in cc bad
never place r (asked.List query) is none = let bad = none ∙ ap (option_map asked.List) (query_only r.pairs query is.1) in cc bad
never place r asked.HistoricalKeys is none = cc none
never place r (asked.Status mark) is none = let bad = none ∙ ap (option_map asked.Status) is.1 in cc bad
never place r (asked.Resolution resolution) is none =
    let bad = none ∙ ap (option_map asked.Resolution) (resolution_only r.pairs resolution is.1) in cc bad
never place r (asked.Rotation change) is none = none change is.1

pub elsewhere : (place : Place) (r : Request) → ((rest : List ℕ) → r.path ≢ place.path ++ rest) → AsksNothing place r
elsewhere place r never a is = let at = suffix place r a is in never at.0 at.1

nothing : (place : Place) (rest : List ℕ) (r : Request) → r.path ≡ place.path ++ rest → IsAskedBy (kind_at place.resolves r.method rest) r None → AsksNothing place r
nothing place rest r at none a is = never place r a is (subst (λ k. IsAskedBy k r None) (kind_is place rest r a at is) none)

-- ---- the answer

answer : (place : Place) (rest : List ℕ) (r : Request) (o : Option Asked) → r.path ≡ place.path ++ rest → IsAskedBy (kind_at place.resolves r.method rest) r o
    → MatchOption o (AsksNothing place r) (AsksFor place r)
answer place rest r None at is = nothing place rest r at is
answer place rest r (Some a) at is = found place rest r a at is

pub answered : (place : Place) (rest : List ℕ) (r : Request) (k : Kind) (result : Result (Option Asked) Memory) → r.path ≡ place.path ++ rest
    → k ≡ kind_at place.resolves r.method rest → IfOk result (IsAskedBy k r) → IfOk result (λ o. MatchOption o (AsksNothing place r) (AsksFor place r))
answered place rest r k (Ok o) at kind is = answer place rest r o at (subst (λ x. IsAskedBy x r o) kind is)
answered place rest r k (Err m) at kind is = tt

-- ---- a request asks for one thing

one_some : {X : Type 0} (o : Option X) (a b : X) → o ≡ Some a → o ≡ Some b → a ≡ b
one_some o a b first second = let same : Some a ≡ Some b = sym first ∙ second in cc same

of_one_kind : (place : Place) (r : Request) (a b : Asked) → kind_of a ≡ kind_of b → AsksFor place r a → AsksFor place r b → a ≡ b
of_one_kind place r asked.Configuration asked.Configuration e first second = refl
of_one_kind place r (asked.Fetch a) (asked.Fetch b) e first second = ap asked.Fetch (one_some _ a b first.1 second.1)
of_one_kind place r (asked.List a) (asked.List b) e first second =
    ap asked.List (one_some _ a b (query_only r.pairs a first.1) (query_only r.pairs b second.1))
of_one_kind place r asked.HistoricalKeys asked.HistoricalKeys e first second = refl
of_one_kind place r (asked.Status a) (asked.Status b) e first second = ap asked.Status (one_some _ a b first.1 second.1)
of_one_kind place r (asked.Resolution a) (asked.Resolution b) e first second =
    ap asked.Resolution (one_some _ a b (resolution_only r.pairs a first.1) (resolution_only r.pairs b second.1))
of_one_kind place r (asked.Rotation a) (asked.Rotation b) e first second = ap asked.Rotation (one_change r.body a b first.1 second.1)
of_one_kind place r a b e first second = cc e

pub one_asked : (place : Place) (r : Request) (a b : Asked) → AsksFor place r a → AsksFor place r b → a ≡ b
one_asked place r a b first second = of_one_kind place r a b (one_kind place r r a b refl refl first second) first second

-- ---- a node that resolves is asked what any other is

pub as_any : (path : List ℕ) (r : Request) (a : Asked) → AsksFor (place_at path false) r a → AsksFor (place_at path true) r a
as_any path r asked.Configuration is = is
as_any path r (asked.Fetch sub) is = is
as_any path r (asked.List query) is = is
as_any path r asked.HistoricalKeys is = is
as_any path r (asked.Status mark) is = is
as_any path r (asked.Resolution resolution) is = (is.0, is.1, refl)
as_any path r (asked.Rotation change) is = (is.0, is.1, refl)
