-- The metadata of a node's own configuration is metadata.
use Rattle.std.proofs.Common.{◌≡◌, ◌<◌, ℕ, zero, suc, ◌-◌, List, [], ◌∷◌, ◌++◌, length, take, get_or, Bool, true, false, cond, nat_lt, Option, Some, None, map, refl, ap, ◌∙◌, append_assoc, arith, rules}
use Rattle.std.specs.Prelude.{is_some, codes, IfSome}
use Rattle.std.specs.List.{list_all}
use Rattle.std.specs.Option.{option_map_or}
use Rattle.std.specs.Str.{IsAscii}
use Rattle.std.proofs.lemmas.Bool.{ltb-true}
use Rattle.std.proofs.lemmas.Str.{IsAscii-append, IsAscii-take, IsUtf8-from_ascii, is_utf8-from_IsUtf8}
use Rattle.fed_json.specs.declared.tree.Json.{Json, Text, Object, the_lemmas}
use Rattle.fed_json.specs.declared.tree.Member.{Member}
use Rattle.fed_json.specs.Forms.{IsWhole, rising, whole}
use Rattle.fed_json.specs.Reading.{member_of}
use Rattle.fed_json.specs.Trees.{member_name, object_members}
use Rattle.fed_json.proofs.Booleans.{both_true, left_true, right_true}
use Rattle.jwk_set.proofs.WrittenKeys.{ascii, whole_text}
use Rattle.fed_json.specs.Metadata.{IsMetadata}
use Rattle.fed_base.specs.Values.{if_there}
use Rattle.entity_id.specs.Identifiers.{IsIdentifier}
use Rattle.entity_id.specs.Urls.{base_of}
use Rattle.entity_id.proofs.Identifying.{IsAscii-plain}
use Rattle.entity_statement.specs.Claims.{Identifier}
use Rattle.chain_check.specs.Metadata.{parameters_over}
use Rattle.chain_check.proofs.Overrides.{formed, formed-find, formed-found, formed-parameters_over, is_formed, is_formed-Object, is_type, is_value, passes, rises}
use Rattle.authority_core.specs.Endpoints.{endpoint, endpoint_member, endpoint_members, endpoints_of, federation_entity, has_any, member_where, parameters_of, types_with}
use Rattle.node_config.specs.Nodes.{Settings}
use Rattle.node_config.specs.Forms.{has_form}
use Rattle.node_config.specs.Stated.{AreOwn}
use Rattle.node_config.specs.declared.settings.OwnClaims.{OwnClaims}

-- ---- the text of an endpoint

-- a text isn't null
text-value : (t : List ℕ) → is_value (Text t) ≡ true
text-value t = search (rules, the_lemmas)

below_128 : (t : List ℕ) (i : ℕ) → list_all (λ x. nat_lt x 128) t ≡ true → get_or t i 0 < 128
below_128 [] i all = omega arith
below_128 (x ∷ t) zero all = ltb-true x 128 (left_true (nat_lt x 128) _ all)
below_128 (x ∷ t) (suc i) all = below_128 t i (right_true (nat_lt x 128) _ all)

path-ascii : (path : List ℕ) → list_all (λ x. nat_lt x 128) path ≡ true → IsAscii path
path-ascii path all = λ i. below_128 path i all

base-case : (b : Bool) (id : Identifier) → IsAscii id → IsAscii (cond b (take (length id - 1) id) id)
base-case true id plain = IsAscii-take id (length id - 1) plain
base-case false id plain = plain

base-ascii : (id : Identifier) → IsAscii id → IsAscii (base_of id)
unfolding base_of
base-ascii id plain = base-case _ id plain

endpoint-whole : (id : Identifier) (path : List ℕ) → IsIdentifier id → IsAscii path → whole (Text (endpoint id path)) ≡ true
endpoint-whole id path is plain =
    whole_text (endpoint id path) (is_utf8-from_IsUtf8 _ (IsUtf8-from_ascii _ (IsAscii-append (base_of id) path (base-ascii id (IsAscii-plain id is.plain)) plain)))

-- a name and a path that stand in the standard
endpoint-passes : (id : Identifier) (name path : List ℕ) → IsIdentifier id → list_all (λ x. nat_lt x 128) name ≡ true → list_all (λ x. nat_lt x 128) path ≡ true
    → passes is_value (endpoint_member id name path) ≡ true
endpoint-passes id name path is named plain =
    both_true (ascii name named) (both_true (endpoint-whole id path is (path-ascii path plain)) (text-value (endpoint id path)))

-- ---- all endpoints

-- each of the five members passes, whichever are there, and their names rise
endpoints-case : (a b : Bool) (id : Identifier) → IsIdentifier id → formed is_value (endpoint_members a b id) ≡ true
endpoints-case true true id is =
    both_true (endpoint-passes id (codes "federation_fetch_endpoint") (codes "/fetch") is refl refl)
    (both_true (endpoint-passes id (codes "federation_historical_keys_endpoint") (codes "/historical-keys") is refl refl)
    (both_true (endpoint-passes id (codes "federation_list_endpoint") (codes "/list") is refl refl)
    (both_true (endpoint-passes id (codes "federation_resolve_endpoint") (codes "/resolve") is refl refl)
    (both_true (endpoint-passes id (codes "federation_trust_mark_status_endpoint") (codes "/trust-mark-status") is refl refl) refl))))
endpoints-case true false id is =
    both_true (endpoint-passes id (codes "federation_fetch_endpoint") (codes "/fetch") is refl refl)
    (both_true (endpoint-passes id (codes "federation_historical_keys_endpoint") (codes "/historical-keys") is refl refl)
    (both_true (endpoint-passes id (codes "federation_list_endpoint") (codes "/list") is refl refl)
    (both_true (endpoint-passes id (codes "federation_trust_mark_status_endpoint") (codes "/trust-mark-status") is refl refl) refl)))
endpoints-case false true id is =
    both_true (endpoint-passes id (codes "federation_historical_keys_endpoint") (codes "/historical-keys") is refl refl)
    (both_true (endpoint-passes id (codes "federation_resolve_endpoint") (codes "/resolve") is refl refl)
    (both_true (endpoint-passes id (codes "federation_trust_mark_status_endpoint") (codes "/trust-mark-status") is refl refl) refl))
endpoints-case false false id is =
    both_true (endpoint-passes id (codes "federation_historical_keys_endpoint") (codes "/historical-keys") is refl refl)
    (both_true (endpoint-passes id (codes "federation_trust_mark_status_endpoint") (codes "/trust-mark-status") is refl refl) refl)

pub endpoints-formed : (endpoints : List Member) (settings : Settings) → IsIdentifier settings.id → endpoints ≡ endpoints_of settings → formed is_value endpoints ≡ true
unfolding endpoints_of
endpoints-formed endpoints settings id same = ap (formed is_value) same ∙ endpoints-case (has_any settings.subordinates) (is_some settings.resolver) settings.id id

-- ---- the types

pub types-formed : (endpoints types : List Member) → formed is_value endpoints ≡ true → formed is_type types ≡ true → formed is_type (types_with endpoints types) ≡ true
types-formed endpoints types good_endpoints good_types =
    let own = parameters_over endpoints (parameters_of federation_entity types) in
    let good : formed is_value own ≡ true =
    formed-parameters_over is_value endpoints (parameters_of federation_entity types) good_endpoints (formed-find federation_entity types good_types) in
    let object : is_formed is_value (Object own) ≡ true = is_formed-Object is_value own good in
    let member : formed is_type (member_of federation_entity (Object own) ∷ []) ≡ true = both_true (both_true (ascii federation_entity refl) object) refl in
    formed-parameters_over is_type (member_of federation_entity (Object own) ∷ []) types member good_types

-- what is configured is formed
has-form : (form other : Json → Type 0) (o : Option Json) → IfSome o (λ tree. form tree × other tree) → IfSome o form
has-form form other None says = tt
has-form form other (Some tree) says = says.0

own-metadata : (claims : OwnClaims) → AreOwn claims → IfSome claims.metadata IsMetadata
unfolding has_form
own-metadata claims own = has-form IsMetadata IsWhole claims.metadata own.metadata

configured-formed : (o : Option Json) → IfSome o IsMetadata → if_there (is_formed is_type) o ≡ true
configured-formed None is = refl
configured-formed (Some tree) is = is

pub configured-types : (claims : OwnClaims) → AreOwn claims → formed is_type (option_map_or object_members claims.metadata []) ≡ true
configured-types claims own = formed-found is_type claims.metadata (configured-formed claims.metadata (own-metadata claims own))

pub types-metadata : (endpoints types all : List Member) → formed is_value endpoints ≡ true → formed is_type types ≡ true → all ≡ types_with endpoints types → IsMetadata (Object all)
types-metadata endpoints types all good_endpoints good_types is = is_formed-Object is_type all (ap (formed is_type) is ∙ types-formed endpoints types good_endpoints good_types)

pub own-rising : (test : Json → Bool) (ms ns : List Member) → ns ≡ ms → formed test ms ≡ true → rising (map member_name ns) ≡ true
own-rising test ms ns same good = ap (λ l. rising (map member_name l)) same ∙ rises test ms good

pub parameters-rising : (types ns : List Member) → ns ≡ parameters_of federation_entity types → formed is_type types ≡ true → rising (map member_name ns) ≡ true
parameters-rising types ns same good = own-rising is_value (parameters_of federation_entity types) ns same (formed-find federation_entity types good)

-- what is put over what is configured
pub types-with-of : (endpoints types configured parameters own : List Member) → configured ≡ parameters_of federation_entity types → parameters ≡ parameters_over endpoints configured
    → own ≡ member_of federation_entity (Object parameters) ∷ [] → parameters_over own types ≡ types_with endpoints types
types-with-of endpoints types configured parameters own found made is =
    ap (λ o. parameters_over o types) (is ∙ ap (λ p. member_of federation_entity (Object p) ∷ []) (made ∙ ap (parameters_over endpoints) found))

-- ---- the endpoints, as they are added

onto : (m n x rest : List Member) → n ≡ m ++ x → n ++ rest ≡ m ++ (x ++ rest)
onto m n x rest added = ap (λ l. l ++ rest) added ∙ append_assoc m x rest

pub five-joined : (m0 m1 m2 m3 m4 m5 a b c d e : List Member) → m0 ≡ [] → m1 ≡ m0 ++ a → m2 ≡ m1 ++ b → m3 ≡ m2 ++ c → m4 ≡ m3 ++ d → m5 ≡ m4 ++ e → m5 ≡ a ++ (b ++ (c ++ (d ++ e)))
five-joined m0 m1 m2 m3 m4 m5 a b c d e none first second third fourth fifth =
    fifth ∙ onto m3 m4 d e fourth ∙ onto m2 m3 c (d ++ e) third ∙ onto m1 m2 b (c ++ (d ++ e)) second ∙ onto m0 m1 a (b ++ (c ++ (d ++ e))) first
    ∙ ap (λ l. l ++ (a ++ (b ++ (c ++ (d ++ e))))) none

pub endpoints-are : (settings : Settings) (above resolves : Bool) (e1 e2 e3 e4 e5 : Member) (r : List Member)
    → r ≡ member_where above e1 ++ ((e2 ∷ []) ++ (member_where above e3 ++ (member_where resolves e4 ++ (e5 ∷ []))))
    → above ≡ has_any settings.subordinates → resolves ≡ is_some settings.resolver
    → e1 ≡ endpoint_member settings.id (codes "federation_fetch_endpoint") (codes "/fetch")
    → e2 ≡ endpoint_member settings.id (codes "federation_historical_keys_endpoint") (codes "/historical-keys")
    → e3 ≡ endpoint_member settings.id (codes "federation_list_endpoint") (codes "/list")
    → e4 ≡ endpoint_member settings.id (codes "federation_resolve_endpoint") (codes "/resolve")
    → e5 ≡ endpoint_member settings.id (codes "federation_trust_mark_status_endpoint") (codes "/trust-mark-status")
    → r ≡ endpoints_of settings
unfolding endpoints_of
endpoints-are settings above resolves e1 e2 e3 e4 e5 r joined a b p1 p2 p3 p4 p5 =
    joined ∙ (λ i. member_where (a i) (p1 i) ++ ((p2 i ∷ []) ++ (member_where (a i) (p3 i) ++ (member_where (b i) (p4 i) ++ (p5 i ∷ [])))))
