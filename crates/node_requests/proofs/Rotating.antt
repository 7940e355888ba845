-- Other keys for a trust anchor are read exactly where a body states them.
use Rattle.std.proofs.Common.{◌≡◌, ℕ, List, codes, Bool, true, false, cond, Option, Some, None, Result, Ok, Err, refl, sym, ap, ◌∙◌, subst}
use Rattle.std.specs.Result.{result_ok}
use Rattle.std.proofs.lemmas.Option.{option_and_then_some}
use Rattle.fed_base.specs.Values.{◌>>=◌}
use Rattle.fed_json.specs.declared.tree.Json.{Json, Object}
use Rattle.fed_json.specs.declared.tree.Member.{Member}
use Rattle.fed_json.specs.Reading.{tree_in}
use Rattle.fed_json.specs.Trees.{count_below}
use Rattle.fed_json.proofs.Accessors.{Object-as_object, as_object-Object}
use Rattle.fed_json.proofs.Order.{equal-bytes_eq}
use Rattle.jws_form.specs.declared.compact.Compact.{Compact}
use Rattle.jws_form.specs.Compact.{IsCompact}
use Rattle.jws_form.specs.Splitting.{splitting}
use Rattle.jws_form.proofs.Laws.{IsCompact-unique, only as compact_only}
use Rattle.jwk_set.specs.declared.jwk.Jwk.{Jwk}
use Rattle.jwk_set.specs.KeySets.{key_set_in}
use Rattle.jwk_set.proofs.Sets.{found as set_found, only as set_only}
use Rattle.entity_statement.specs.Claims.{Identifier}
use Rattle.entity_statement.specs.Forms.{identifier, moment}
use Rattle.entity_statement.specs.Grammar.{HoldsKeys, NamesEntity}
use Rattle.entity_statement.proofs.Facts.{moment-small}
use Rattle.entity_statement.proofs.Identities.{identifier-is, identifier-of, moment-is, moment-of}
use Rattle.node_requests.specs.declared.change.AnchorChange.{AnchorChange}
use Rattle.node_requests.specs.Changes.{IsAnchorChange, NamesEpoch, StatesNone, anchor_keys_type, epoch_limit}
use Rattle.node_config.specs.Subordinates.{keys_of}
use Rattle.node_requests.specs.Steps.{StatedClaims, anchor_at, claims_in, claims_of, epoch_at, has_type, keys_at, payload_in, stated_in}
use Rattle.node_requests.proofs.SameSets.{same_set}

-- ---- the claims, one by one

anchor-found : (members : List Member) (id : Identifier) → anchor_at members ≡ Some id → NamesEntity (codes "anchor") members id
anchor-found members id e = option_and_then_some _ _ id e (λ tree there form. let is = identifier-is tree id form in (there ∙ ap Some is.0, is.1))

anchor-only : (members : List Member) (id : Identifier) → NamesEntity (codes "anchor") members id → anchor_at members ≡ Some id
anchor-only members id names = ap (λ o. o >>= identifier) names.0 ∙ identifier-of id names.1

epoch-found : (members : List Member) (n : ℕ) → epoch_at members ≡ Some n → NamesEpoch (codes "epoch") members n
unfolding moment
epoch-found members n e = option_and_then_some _ _ n e (λ tree there form. (there ∙ ap Some (moment-is tree n form), moment-small tree n form))

epoch-only : (members : List Member) (n : ℕ) → NamesEpoch (codes "epoch") members n → epoch_at members ≡ Some n
unfolding moment
epoch-only members n names = ap (λ o. o >>= count_below epoch_limit) names.0 ∙ moment-of n names.1

was_ok : {X E : Type 0} (r : Result X E) (x : X) → result_ok r ≡ Some x → r ≡ Ok x
was_ok (Ok y) x e = let same : y ≡ x = cc e in ap Ok same
was_ok (Err fault) x e = cc e

keys-found : (members : List Member) (keys : List Jwk) → keys_at members ≡ Some keys → HoldsKeys (codes "jwks") members keys
keys-found members keys e = option_and_then_some _ _ keys e (λ tree there form. (tree, there, set_found tree keys (was_ok (key_set_in tree) keys form)))

keys-only : (members : List Member) (keys : List Jwk) → HoldsKeys (codes "jwks") members keys → keys_at members ≡ Some keys
keys-only members keys holds = ap (λ o. o >>= keys_of) holds.1 ∙ ap (λ r. result_ok r) (set_only holds.0 keys holds.2)

-- ---- all of them

-- the claims state this
record States (members : List Member) (s : StatedClaims) : Type 0 where
  anchor : NamesEntity (codes "anchor") members s.anchor
  epoch : NamesEpoch (codes "epoch") members s.epoch
  jwks : HoldsKeys (codes "jwks") members s.keys

claims-found : (members : List Member) (s : StatedClaims) → claims_of members ≡ Some s → States members s
unfolding claims_of
claims-found members s e =
    option_and_then_some _ _ s e (λ anchor first more.
    option_and_then_some _ _ s more (λ epoch second rest.
    option_and_then_some _ _ s rest (λ keys third made.
    let same : record { anchor = anchor; epoch = epoch; keys = keys } ≡ s = cc made in
    subst (States members) same (record { anchor = anchor-found members anchor first; epoch = epoch-found members epoch second; jwks = keys-found members keys third }))))

claims-only : (members : List Member) (s : StatedClaims) → States members s → claims_of members ≡ Some s
unfolding claims_of
claims-only members s states =
    let anchor = anchor-only members s.anchor states.anchor in
    let epoch = epoch-only members s.epoch states.epoch in
    let keys = keys-only members s.keys states.jwks in
    λ i. anchor i >>= λ a. epoch i >>= λ n. keys i >>= λ ks. Some (record { anchor = a; epoch = n; keys = ks })

-- ---- the payload of a text of the type

-- the payload states this
record HasClaims (c : Compact) (s : StatedClaims) : Type 0 where
  typed : c.typ ≡ Some anchor_keys_type
  members : List Member
  object : tree_in c.payload ≡ Some (Object members)
  states : States members s

typed_so : (typ : Option (List ℕ)) → has_type typ ≡ true → typ ≡ Some anchor_keys_type
typed_so None e = cc e
typed_so (Some t) e = ap Some (equal-bytes_eq t anchor_keys_type e)

passes : (b : Bool) (o : Option Json) (tree : Json) → cond b o None ≡ Some tree → (b ≡ true) × (o ≡ Some tree)
passes true o tree e = (refl, e)
passes false o tree e = cc e

stated-found : (c : Compact) (s : StatedClaims) → stated_in c ≡ Some s → HasClaims c s
unfolding stated_in payload_in
stated-found c s e =
    option_and_then_some _ _ s e (λ tree payload rest.
    option_and_then_some _ _ s rest (λ members object claims.
    let passed = passes (has_type c.typ) (tree_in c.payload) tree payload in
    record {
      typed = typed_so c.typ passed.0;
      members = members;
      object = passed.1 ∙ ap Some (Object-as_object tree members object);
      states = claims-found members s claims;
    }))

stated-only : (c : Compact) (s : StatedClaims) → HasClaims c s → stated_in c ≡ Some s
unfolding stated_in payload_in
stated-only c s has =
    ap (λ t. cond (has_type t) (tree_in c.payload) None >>= claims_in) has.typed
    ∙ ap (λ o. o >>= claims_in) has.object
    ∙ ap (λ o. o >>= claims_of) (as_object-Object has.members)
    ∙ claims-only has.members s has.states

-- ---- the body

-- what a change says beside its body, its key set by its keys
abbrev pub told_change : AnchorChange → StatedClaims
told_change change = record { anchor = change.anchor; epoch = change.epoch; keys = change.keys.keys }

pub change-found : (body : List ℕ) (change : AnchorChange) → IsCompact body change.body → stated_in change.body ≡ Some (told_change change) → IsAnchorChange body change
change-found body change compact e =
    let has = stated-found change.body (told_change change) e in
    record {
      compact = compact;
      typed = has.typed;
      members = has.members;
      object = has.object;
      anchor = has.states.anchor;
      epoch = has.states.epoch;
      jwks = has.states.jwks;
    }

change-only : (body : List ℕ) (change : AnchorChange) → IsAnchorChange body change → stated_in change.body ≡ Some (told_change change)
change-only body change is =
    stated-only change.body (told_change change) (record {
      typed = is.typed;
      members = is.members;
      object = is.object;
      states = record { anchor = is.anchor; epoch = is.epoch; jwks = is.jwks };
    })

-- a text whose claims aren't of their form
pub unstated : (body : List ℕ) (c : Compact) → IsCompact body c → stated_in c ≡ None → StatesNone body
unstated body c compact none change is =
    let same = IsCompact-unique body change.body c is.compact compact in
    let never : Some (told_change change) ≡ None = sym (change-only body change is) ∙ ap stated_in same ∙ none in
    cc never

-- a body that is no compact text
pub unsplit : (body : List ℕ) → result_ok (splitting body) ≡ None → StatesNone body
unsplit body none change is =
    let never : Some change.body ≡ None = sym (ap (λ r. result_ok r) (compact_only body change.body is.compact)) ∙ none in
    cc never

-- ---- a body states one change

change_is : (a b : AnchorChange) → a.body ≡ b.body → told_change a ≡ told_change b → a ≡ b
change_is a b body told =
    let keys = same_set a.keys b.keys (ap (λ (s : StatedClaims). s.keys) told) in
    λ i. record { body = body i; anchor = (told i).anchor; epoch = (told i).epoch; keys = keys i }

pub one_change : (body : List ℕ) (a b : AnchorChange) → IsAnchorChange body a → IsAnchorChange body b → a ≡ b
one_change body a b first second =
    let same = IsCompact-unique body a.body b.body first.compact second.compact in
    let told : Some (told_change a) ≡ Some (told_change b) = sym (change-only body a first) ∙ ap stated_in same ∙ change-only body b second in
    change_is a b same (cc told)
