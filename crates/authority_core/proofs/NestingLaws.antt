-- What a node states is nested no deeper than a text may be that is read, where its configuration isn't.
use Rattle.std.proofs.Common.{◌≡◌, ◌≤◌, ℕ, suc, List, [], ◌∷◌, ◌++◌, map, codes, Bool, true, false, ◌&&◌, cond, not, find, Option, Some, None, option_map, is_some, Result, Ok, Err, refl, ap, ◌∙◌, subst, arith}
use Rattle.std.specs.Prelude.{ok_or, unwrap_or}
use Rattle.std.specs.List.{AllByRecursion, filter}
use Rattle.std.specs.Option.{option_and_then, option_map_or}
use Rattle.std.specs.Result.{result_ok}
use Rattle.fed_base.specs.Answers.{◌>>=◌}
use Rattle.fed_json.specs.declared.tree.Json.{Json, Object}
use Rattle.fed_json.specs.declared.tree.Member.{Member}
use Rattle.fed_json.specs.Forms.{has_odd, nesting}
use Rattle.fed_json.specs.Members.{text_member}
use Rattle.fed_json.specs.Metadata.{is_metadata}
use Rattle.fed_json.specs.Reading.{member_of, tree_in}
use Rattle.fed_json.specs.Trees.{as_list, as_object, each, find as find_member, object_members, optional, texts_of}
use Rattle.jwk_set.specs.declared.fault.SetFault.{SetFault}
use Rattle.jwk_set.specs.declared.jwk.Jwk.{Jwk}
use Rattle.jwk_set.specs.KeySets.{key_set_in}
use Rattle.jwk_set.specs.Trees.{key_tree, set_tree}
use Rattle.policy_merge.specs.Shapes.{policy_shape}
use Rattle.chain_limits.specs.Reading.{constraints_of}
use Rattle.key_ring.specs.declared.key.RingKey.{RingKey}
use Rattle.key_ring.specs.Rings.{Ring, kid_of, pair_in, public_of}
use Rattle.key_ring.specs.Sets.{is_published, live_set, own_key, own_set}
use Rattle.entity_statement.specs.Claims.{Identifier}
use Rattle.entity_statement.specs.Forms.{hints_of, identifier, issuers_of, marks_of, owners_of}
use Rattle.chain_check.specs.Metadata.{parameters_over}
use Rattle.node_config.specs.Configurations.{basics_in, configuration_in, further_in, member, own_claims_in, settings_in}
use Rattle.node_config.specs.Forms.{are_operators, claim_name, claim_of, has_form, needed, possible, possible_list}
use Rattle.node_config.specs.Nodes.{Entity, Further, Settings, Subordinate}
use Rattle.node_config.specs.Resolvers.{resolver_of}
use Rattle.node_config.specs.Subordinates.{claims_about_in, entity_in, if_subordinates, keys_of, listing_in, subordinate_in, subordinate_of, subordinates_of}
use Rattle.node_config.specs.declared.fault.ConfigFault.{ConfigFault}
use Rattle.node_config.specs.declared.fault.ConfigFault.TheVariants.{Shape}
use Rattle.node_config.specs.declared.settings.OwnClaims.{OwnClaims}
use Rattle.node_config.specs.declared.subordinates.ClaimsAbout.{ClaimsAbout}
use Rattle.node_config.specs.declared.subordinates.Listing.{Listing}
use Rattle.authority_core.specs.Configurations.{if_short, node_in, sizes_of}
use Rattle.authority_core.specs.Endpoints.{endpoint, endpoint_member, endpoint_members, endpoints_of, federation_entity, has_any, member_where, own_metadata, parameters_of, types_with}
use Rattle.authority_core.specs.Issued.{claim, configuration_claims, configuration_members, end_of, issue_members, statement_claims, statement_members}
use Rattle.authority_core.specs.Nestings.{StatesShallowly}
use Rattle.authority_core.specs.Nodes.{Node, is_for}
use Rattle.authority_core.proofs.BelowLaws.{further-by}
use Rattle.authority_core.proofs.ConfigurationLaws.{with_ring}
use Rattle.authority_core.proofs.Depths.{ItemsWithin, MembersWithin, Within, found-within, found_members-within, items-within, members-within, number-within, object-within, over-within, own-within, read-within, read_set-within, set-within, text-within}

-- ---- a configured claim

-- a claim that may be absent, where it has its form and no Odd stands in it
abbrev Read : Type 0
Read = Option (Option Json)

abbrev claim_read : (Json → Bool) → Option Json → Read
claim_read has found = optional (λ tree. cond (has tree && not (has_odd tree)) (Some tree) None) found

-- what is read is nested at most so deep
abbrev ReadsWithin : ℕ → Read → Type 0
ReadsWithin n read = (o : Option Json) → read ≡ Some o → Within n o

claim-by : (has : Bool) (tree : Json) (o : Option Json) (n : ℕ) → option_map Some (cond has (Some tree) None) ≡ Some o → nesting tree ≤ n → Within n o
claim-by true tree o n e all = let same : Some tree ≡ o = cc e in subst (Within n) same all
claim-by false tree o n e all = cc e

claim-found : (has : Json → Bool) (found : Option Json) (n : ℕ) → Within n found → ReadsWithin n (claim_read has found)
claim-found has None n all o e = let same : None ≡ o = cc e in subst (Within n) same tt
claim-found has (Some tree) n all o e = claim-by (has tree && not (has_odd tree)) tree o n e all

claim-within : (name : List ℕ) (has : Json → Bool) (members : List Member) (n : ℕ) → MembersWithin n members → ReadsWithin n (claim_read has (find_member name members))
claim-within name has members n all = claim-found has (find_member name members) n (found-within name members n all)

-- ---- the claims of the node's own configuration

record OwnWithin (claims : OwnClaims) : Type 0 where
  metadata : Within 126 claims.metadata
  hints : Within 126 claims.hints
  marks : Within 126 claims.marks
  issuers : Within 126 claims.issuers
  owners : Within 126 claims.owners

own-by : (p q r s t : List ℕ) (a b c d e : Read) (claims : OwnClaims) → ReadsWithin 126 a → ReadsWithin 126 b → ReadsWithin 126 c → ReadsWithin 126 d → ReadsWithin 126 e
    → (member p a >>= λ metadata. member q b >>= λ hints. member r c >>= λ marks. member s d >>= λ issuers. member t e >>= λ owners.
    Ok (record { metadata = metadata; hints = hints; marks = marks; issuers = issuers; owners = owners })) ≡ Ok claims → OwnWithin claims
own-by p q r s t None b c d e claims wa wb wc wd we is = cc is
own-by p q r s t (Some a) None c d e claims wa wb wc wd we is = cc is
own-by p q r s t (Some a) (Some b) None d e claims wa wb wc wd we is = cc is
own-by p q r s t (Some a) (Some b) (Some c) None e claims wa wb wc wd we is = cc is
own-by p q r s t (Some a) (Some b) (Some c) (Some d) None claims wa wb wc wd we is = cc is
own-by p q r s t (Some a) (Some b) (Some c) (Some d) (Some e) claims wa wb wc wd we is =
    let all : OwnClaims = record { metadata = a; hints = b; marks = c; issuers = d; owners = e } in
    let same : all ≡ claims = cc is in
    let within : OwnWithin all = record { metadata = wa a refl; hints = wb b refl; marks = wc c refl; issuers = wd d refl; owners = we e refl } in
    subst OwnWithin same within

own-claims-within : (members : List Member) (claims : OwnClaims) → MembersWithin 126 members → own_claims_in members ≡ Ok claims → OwnWithin claims
unfolding own_claims_in claim_name claim_of has_form
own-claims-within members claims all e =
    own-by (codes "metadata") (codes "authority_hints") (codes "trust_marks") (codes "trust_mark_issuers") (codes "trust_mark_owners")
    (claim_read is_metadata (find_member (codes "metadata") members)) (claim_read (λ tree. is_some (hints_of tree)) (find_member (codes "authority_hints") members))
    (claim_read (λ tree. is_some (marks_of tree)) (find_member (codes "trust_marks") members)) (claim_read (λ tree. is_some (issuers_of tree)) (find_member (codes "trust_mark_issuers") members))
    (claim_read (λ tree. is_some (owners_of tree)) (find_member (codes "trust_mark_owners") members)) claims
    (claim-within (codes "metadata") is_metadata members 126 all) (claim-within (codes "authority_hints") (λ tree. is_some (hints_of tree)) members 126 all)
    (claim-within (codes "trust_marks") (λ tree. is_some (marks_of tree)) members 126 all) (claim-within (codes "trust_mark_issuers") (λ tree. is_some (issuers_of tree)) members 126 all)
    (claim-within (codes "trust_mark_owners") (λ tree. is_some (owners_of tree)) members 126 all) e

-- ---- what is said of a subordinate

record ClaimsWithin (claims : ClaimsAbout) : Type 0 where
  metadata : Within 124 claims.metadata
  policy : Within 124 claims.policy
  policy_crit : Within 124 claims.policy_crit
  constraints : Within 124 claims.constraints

record AboutWithin (s : Subordinate) : Type 0 where
  keys : nesting (set_tree s.entity.keys) ≤ 124
  claims : ClaimsWithin s.claims

about-by : (a b c d : Read) (claims : ClaimsAbout) → ReadsWithin 124 a → ReadsWithin 124 b → ReadsWithin 124 c → ReadsWithin 124 d
    → option_and_then (λ metadata. option_and_then (λ policy. option_and_then (λ policy_crit. option_and_then (λ constraints.
    Some (record { metadata = metadata; policy = policy; policy_crit = policy_crit; constraints = constraints })) d) c) b) a ≡ Some claims → ClaimsWithin claims
about-by None b c d claims wa wb wc wd is = cc is
about-by (Some a) None c d claims wa wb wc wd is = cc is
about-by (Some a) (Some b) None d claims wa wb wc wd is = cc is
about-by (Some a) (Some b) (Some c) None claims wa wb wc wd is = cc is
about-by (Some a) (Some b) (Some c) (Some d) claims wa wb wc wd is =
    let all : ClaimsAbout = record { metadata = a; policy = b; policy_crit = c; constraints = d } in
    let same : all ≡ claims = cc is in
    let within : ClaimsWithin all = record { metadata = wa a refl; policy = wb b refl; policy_crit = wc c refl; constraints = wd d refl } in
    subst ClaimsWithin same within

about-within : (members : List Member) (claims : ClaimsAbout) → MembersWithin 124 members → claims_about_in members ≡ Some claims → ClaimsWithin claims
unfolding claims_about_in claim_name claim_of has_form
about-within members claims all e =
    about-by (claim_read is_metadata (find_member (codes "metadata") members)) (claim_read (λ tree. is_some (policy_shape tree)) (find_member (codes "metadata_policy") members))
    (claim_read are_operators (find_member (codes "metadata_policy_crit") members)) (claim_read (λ tree. is_some (constraints_of tree)) (find_member (codes "constraints") members)) claims
    (claim-within (codes "metadata") is_metadata members 124 all) (claim-within (codes "metadata_policy") (λ tree. is_some (policy_shape tree)) members 124 all)
    (claim-within (codes "metadata_policy_crit") are_operators members 124 all) (claim-within (codes "constraints") (λ tree. is_some (constraints_of tree)) members 124 all) e

-- its keys
keys-by : (tree : Json) (r : Result (List Jwk) SetFault) (keys : List Jwk) → key_set_in tree ≡ r → result_ok r ≡ Some keys → nesting tree ≤ 124 → nesting (set_tree keys) ≤ 124
keys-by tree (Err fault) keys is e all = cc e
keys-by tree (Ok read) keys is e all = let same : read ≡ keys = cc e in read_set-within tree keys 121 (is ∙ ap Ok same) all

keys-found : (found : Option Json) (keys : List Jwk) → Within 124 found → option_and_then keys_of found ≡ Some keys → nesting (set_tree keys) ≤ 124
keys-found None keys all e = cc e
keys-found (Some tree) keys all e = keys-by tree (key_set_in tree) keys refl e all

entity-by : (a : Option Identifier) (b : Option (List Jwk)) (entity : Entity) → option_and_then (λ id. option_and_then (λ keys. Some (record { id = id; keys = keys })) b) a ≡ Some entity
    → b ≡ Some entity.keys
entity-by None b entity is = cc is
entity-by (Some id) None entity is = cc is
entity-by (Some id) (Some keys) entity is =
    let all : Entity = record { id = id; keys = keys } in
    let same : all ≡ entity = cc is in
    ap (λ (x : Entity). Some x.keys) same

entity-within : (members : List Member) (entity : Entity) → MembersWithin 124 members → entity_in members ≡ Some entity → nesting (set_tree entity.keys) ≤ 124
unfolding entity_in
entity-within members entity all e =
    keys-found (find_member (codes "jwks") members) entity.keys (found-within (codes "jwks") members 124 all)
    (entity-by (needed (codes "entity_id") identifier members) (needed (codes "jwks") keys_of members) entity e)

-- the whole of it
subordinate-by : (a : Option Entity) (b : Option ClaimsAbout) (c : Option Listing) (s : Subordinate)
    → ((entity : Entity) → a ≡ Some entity → nesting (set_tree entity.keys) ≤ 124) → ((claims : ClaimsAbout) → b ≡ Some claims → ClaimsWithin claims)
    → option_and_then (λ entity. option_and_then (λ claims. option_and_then (λ listing. Some (record { entity = entity; claims = claims; listing = listing })) c) b) a ≡ Some s → AboutWithin s
subordinate-by None b c s keys claims is = cc is
subordinate-by (Some entity) None c s keys claims is = cc is
subordinate-by (Some entity) (Some about) None s keys claims is = cc is
subordinate-by (Some entity) (Some about) (Some listing) s keys claims is =
    let all : Subordinate = record { entity = entity; claims = about; listing = listing } in
    let same : all ≡ s = cc is in
    let within : AboutWithin all = record { keys = keys entity refl; claims = claims about refl } in
    subst AboutWithin same within

subordinate-in : (members : List Member) (s : Subordinate) → MembersWithin 124 members → subordinate_in members ≡ Some s → AboutWithin s
unfolding subordinate_in
subordinate-in members s all e =
    subordinate-by (entity_in members) (claims_about_in members) (listing_in members) s (λ entity is. entity-within members entity all is) (λ claims is. about-within members claims all is) e

subordinate-object : (tree : Json) (o : Option (List Member)) (s : Subordinate) → as_object tree ≡ o → option_and_then subordinate_in o ≡ Some s → nesting tree ≤ 125 → AboutWithin s
subordinate-object tree None s is e all = cc e
subordinate-object tree (Some ms) s is e all = subordinate-in ms s (members-within tree ms 124 is all) e

subordinate-within : (tree : Json) (s : Subordinate) → nesting tree ≤ 125 → subordinate_of tree ≡ Some s → AboutWithin s
unfolding subordinate_of
subordinate-within tree s all e = subordinate-object tree (as_object tree) s refl e all

-- ---- the list of subordinates

abbrev AllWithin : List Subordinate → Type 0
AllWithin subs = AllByRecursion AboutWithin subs

each-by : (a : Option Subordinate) (b : Option (List Subordinate)) (subs : List Subordinate) → ((s : Subordinate) → a ≡ Some s → AboutWithin s)
    → ((more : List Subordinate) → b ≡ Some more → AllWithin more) → option_and_then (λ s. option_map (λ more. s ∷ more) b) a ≡ Some subs → AllWithin subs
each-by None b subs one others e = cc e
each-by (Some s) None subs one others e = cc e
each-by (Some s) (Some more) subs one others e = let same : s ∷ more ≡ subs = cc e in subst AllWithin same (one s refl, others more refl)

each-within : (items : List Json) (subs : List Subordinate) → ItemsWithin 125 items → each subordinate_of items ≡ Some subs → AllWithin subs
each-within [] subs all e = let same : [] ≡ subs = cc e in subst AllWithin same tt
each-within (tree ∷ items) subs all e =
    each-by (subordinate_of tree) (each subordinate_of items) subs (λ s is. subordinate-within tree s all.0 is) (λ more is. each-within items more all.1 is) e

unless-equal : (differ : Bool) (list subs : List Subordinate) → cond differ (Some list) None ≡ Some subs → list ≡ subs
unless-equal true list subs e = cc e
unless-equal false list subs e = cc e

list-by : (id : Identifier) (o : Option (List Subordinate)) (subs : List Subordinate) → ((list : List Subordinate) → o ≡ Some list → AllWithin list)
    → option_and_then (if_subordinates id) o ≡ Some subs → AllWithin subs
list-by id None subs all e = cc e
list-by id (Some list) subs all e = subst AllWithin (unless-equal _ list subs e) (all list refl)

list-in : (id : Identifier) (tree : Json) (o : Option (List Json)) (subs : List Subordinate) → as_list tree ≡ o
    → option_and_then (if_subordinates id) (option_and_then (each subordinate_of) o) ≡ Some subs → nesting tree ≤ 126 → AllWithin subs
list-in id tree None subs is e all = cc e
list-in id tree (Some items) subs is e all =
    list-by id (each subordinate_of items) subs (λ list read. each-within items list (items-within tree items 125 is all) read) e

list-within : (id : Identifier) (tree : Json) (subs : List Subordinate) → nesting tree ≤ 126 → subordinates_of id tree ≡ Some subs → AllWithin subs
unfolding subordinates_of
list-within id tree subs all e = list-in id tree (as_list tree) subs refl e all

some-by : (o : Option (List Subordinate)) (subs : List Subordinate) → ((list : List Subordinate) → o ≡ Some list → AllWithin list)
    → option_map (λ list. unwrap_or list []) (option_map Some o) ≡ Some subs → AllWithin subs
some-by None subs all e = cc e
some-by (Some list) subs all e = let same : list ≡ subs = cc e in subst AllWithin same (all list refl)

list-found : (id : Identifier) (found : Option Json) (subs : List Subordinate) → Within 126 found
    → option_map (λ list. unwrap_or list []) (optional (subordinates_of id) found) ≡ Some subs → AllWithin subs
list-found id None subs all e = let same : [] ≡ subs = cc e in subst AllWithin same tt
list-found id (Some tree) subs all e = some-by (subordinates_of id tree) subs (λ list is. list-within id tree list all is) e

further-within : (id : Identifier) (members : List Member) (f : Further) → MembersWithin 126 members → further_in id members ≡ Ok f → AllWithin f.subordinates
unfolding further_in
further-within id members f all e =
    list-found id (find_member (codes "subordinates") members) f.subordinates (found-within (codes "subordinates") members 126 all)
    (further-by (possible_list (codes "subordinates") (subordinates_of id) members) (possible_list (codes "revoked_marks") texts_of members) (possible (codes "resolver") resolver_of members) f e)

-- ---- the whole configuration

record SettingsWithin (s : Settings) : Type 0 where
  own : OwnWithin s.claims
  about : AllWithin s.subordinates

-- what is made of the parts, whatever the first of them is
module _ {B : Type 0} (id : B → Identifier) (make : B → OwnClaims → Further → Settings)
    (made : (b : B) (c : OwnClaims) (f : Further) → OwnWithin c → AllWithin f.subordinates → SettingsWithin (make b c f)) where
  settings-last : (b : B) (c : OwnClaims) (r : Result Further ConfigFault) (s : Settings) → OwnWithin c → ((f : Further) → r ≡ Ok f → AllWithin f.subordinates)
      → (r >>= λ further. Ok (make b c further)) ≡ Ok s → SettingsWithin s
  settings-last b c (Err fault) s own about e = cc e
  settings-last b c (Ok f) s own about e = let same : make b c f ≡ s = cc e in subst SettingsWithin same (made b c f own (about f refl))

  settings-by : (b : Result B ConfigFault) (c : Result OwnClaims ConfigFault) (members : List Member) (s : Settings) → MembersWithin 126 members
      → ((claims : OwnClaims) → c ≡ Ok claims → OwnWithin claims) → (b >>= λ basics. c >>= λ claims. further_in (id basics) members >>= λ further. Ok (make basics claims further)) ≡ Ok s
      → SettingsWithin s
  settings-by (Err fault) c members s all own e = cc e
  settings-by (Ok basics) (Err fault) members s all own e = cc e
  settings-by (Ok basics) (Ok claims) members s all own e =
      settings-last basics claims (further_in (id basics) members) s (own claims refl) (λ f is. further-within (id basics) members f all is) e

settings-within : (members : List Member) (s : Settings) → MembersWithin 126 members → settings_in members ≡ Ok s → SettingsWithin s
unfolding settings_in
settings-within members s all e =
    settings-by (λ basics. basics.id) (λ basics claims further. record {
      id = basics.id;
      ring = basics.ring;
      lifetime = basics.lifetime;
      claims = claims;
      subordinates = further.subordinates;
      revoked = further.revoked;
      resolver = further.resolver;
    }) (λ b c f own about. record { own = own; about = about }) (basics_in members) (own_claims_in members) members s all (λ claims is. own-claims-within members claims all is) e

object-settings : (tree : Json) (o : Option (List Member)) (s : Settings) → as_object tree ≡ o → (ok_or o (Shape (codes "entity_id")) >>= settings_in) ≡ Ok s → nesting tree ≤ 127 → SettingsWithin s
object-settings tree None s is e all = cc e
object-settings tree (Some ms) s is e all = settings-within ms s (members-within tree ms 126 is all) e

configuration-within : (tree : Json) (s : Settings) → nesting tree ≤ 127 → configuration_in tree ≡ Ok s → SettingsWithin s
unfolding configuration_in
configuration-within tree s all e = object-settings tree (as_object tree) s refl e all

-- ---- metadata with the endpoints

where-within : (there : Bool) (id : Identifier) (name path : List ℕ) (ms : List Member) (n : ℕ) → MembersWithin n ms → MembersWithin n (member_where there (endpoint_member id name path) ++ ms)
where-within true id name path ms n all = (text-within (endpoint id path) n, all)
where-within false id name path ms n all = all

endpoints-within : (above resolves : Bool) (id : Identifier) (n : ℕ) → MembersWithin n (endpoint_members above resolves id)
endpoints-within above resolves id n =
    where-within above id (codes "federation_fetch_endpoint") (codes "/fetch") _ n (
      text-within (endpoint id (codes "/historical-keys")) n,
      where-within above id (codes "federation_list_endpoint") (codes "/list") _ n
          (where-within resolves id (codes "federation_resolve_endpoint") (codes "/resolve") _ n (text-within (endpoint id (codes "/trust-mark-status")) n, tt)),
    )

types-within : (endpoints types : List Member) (n : ℕ) → MembersWithin n endpoints → MembersWithin (suc n) types → MembersWithin (suc n) (types_with endpoints types)
types-within endpoints types n upper own =
    let configured = parameters_of federation_entity types in
    let within = found_members-within (find_member federation_entity types) n (found-within federation_entity types (suc n) own) in
    let object = object-within (parameters_over endpoints configured) n (over-within endpoints configured n upper within) in
    over-within (member_of federation_entity (Object (parameters_over endpoints configured)) ∷ []) types (suc n) (object, tt) own

metadata-within : (settings : Settings) → Within 126 settings.claims.metadata → nesting (own_metadata settings) ≤ 126
unfolding own_metadata endpoints_of
metadata-within settings all =
    let types = option_map_or object_members settings.claims.metadata [] in
    object-within (types_with (endpoints_of settings) types) 125
    (types-within (endpoints_of settings) types 124 (endpoints-within (has_any settings.subordinates) (is_some settings.resolver) settings.id 124)
    (found_members-within settings.claims.metadata 125 all))

-- ---- the keys of a ring

published-within : (keys : List RingKey) → ItemsWithin 1 (map key_tree (map own_key keys))
unfolding key_tree
published-within [] = tt
published-within (key ∷ keys) = (own-within (kid_of key) (pair_in key).alg (public_of key), published-within keys)

live-within : (ring : Ring) → nesting (set_tree (live_set ring)) ≤ 3
unfolding own_set
live-within ring = set-within (live_set ring) 1 (published-within (filter (λ key. is_published false key.state) ring))

-- ---- claims

claim-more : (name : List ℕ) (o : Option Json) (ms : List Member) (n : ℕ) → Within n o → MembersWithin n ms → MembersWithin n (claim name o ++ ms)
claim-more name None ms n here all = all
claim-more name (Some tree) ms n here all = (here, all)

claim-last : (name : List ℕ) (o : Option Json) (n : ℕ) → Within n o → MembersWithin n (claim name o)
claim-last name None n here = tt
claim-last name (Some tree) n here = (here, tt)

issue-within : (settings : Settings) (keys : List Jwk) (t : ℕ) (ms : List Member) (n : ℕ) → nesting (set_tree keys) ≤ n → MembersWithin n ms → MembersWithin n (issue_members settings keys t ++ ms)
issue-within settings keys t ms n set all = (number-within (end_of settings.lifetime t) n, (number-within t n, (text-within settings.id n, (set, all))))

own-shallow : (node : Node) (t : ℕ) → OwnWithin node.settings.claims → nesting (configuration_claims node t) ≤ 127
unfolding configuration_claims
own-shallow node t own =
    let claims = node.settings.claims in
    let id = node.settings.id in
    let marks = claim (codes "trust_mark_issuers") claims.issuers ++ (claim (codes "trust_mark_owners") claims.owners ++ claim (codes "trust_marks") claims.marks) in
    object-within (configuration_members node.settings (live_set node.ring) t) 126
    (claim-more (codes "authority_hints") claims.hints _ 126 own.hints
    (issue-within node.settings (live_set node.ring) t (member_of (codes "metadata") (own_metadata node.settings) ∷ text_member (codes "sub") id ∷ marks) 126 (omega (arith, live-within node.ring)) (
      metadata-within node.settings own.metadata,
      (
        text-within id 126,
        claim-more (codes "trust_mark_issuers") claims.issuers _ 126 own.issuers
            (claim-more (codes "trust_mark_owners") claims.owners _ 126 own.owners (claim-last (codes "trust_marks") claims.marks 126 own.marks)),
      ),
    )))

about-shallow : (settings : Settings) (s : Subordinate) (t : ℕ) → AboutWithin s → nesting (statement_claims settings s t) ≤ 125
unfolding statement_claims
about-shallow settings s t about =
    let claims = s.claims in
    let within = about.claims in
    let last = text_member (codes "sub") s.entity.id ∷ [] in
    let policies = claim (codes "metadata_policy") claims.policy ++ (claim (codes "metadata_policy_crit") claims.policy_crit ++ last) in
    object-within (statement_members settings s t) 124
    (claim-more (codes "constraints") claims.constraints _ 124 within.constraints
    (issue-within settings s.entity.keys t (claim (codes "metadata") claims.metadata ++ policies) 124 about.keys
    (claim-more (codes "metadata") claims.metadata policies 124 within.metadata
    (claim-more (codes "metadata_policy") claims.policy _ 124 within.policy
    (claim-more (codes "metadata_policy_crit") claims.policy_crit last 124 within.policy_crit (text-within s.entity.id 124, tt))))))

-- ---- a node

found-by : (is : Bool) (x s : Subordinate) (later : Option Subordinate) → AboutWithin x → (later ≡ Some s → AboutWithin s) → cond is (Some x) later ≡ Some s → AboutWithin s
found-by true x s later here more e = let same : x ≡ s = cc e in subst AboutWithin same here
found-by false x s later here more e = more e

found-about : (sub : List ℕ) (l : List Subordinate) (s : Subordinate) → AllWithin l → find (is_for sub) l ≡ Some s → AboutWithin s
found-about sub [] s all e = cc e
found-about sub (x ∷ l) s all e = found-by (is_for sub x) x s (find (is_for sub) l) all.0 (λ later. found-about sub l s all.1 later) e

short-by : (q : Result (Unit {0}) ConfigFault) (made node : Node) → (q >>= λ short. Ok made) ≡ Ok node → made ≡ node
short-by (Err fault) made node e = cc e
short-by (Ok short) made node e = cc e

node-settings : (r : Result Settings ConfigFault) (ring : Ring) (node : Node) → (r >>= λ settings. if_short (with_ring ring settings)) ≡ Ok node → r ≡ Ok node.settings
node-settings (Err fault) ring node e = cc e
node-settings (Ok s) ring node e = ap (λ (x : Node). Ok x.settings) (short-by (sizes_of (with_ring ring s)) (with_ring ring s) node e)

node-within : (tree : Json) (ring : Ring) (node : Node) → nesting tree ≤ 127 → node_in tree ring ≡ Ok node → SettingsWithin node.settings
unfolding node_in
node-within tree ring node all e = configuration-within tree node.settings all (node-settings (configuration_in tree) ring node e)

pub states-configured : (tree : Json) (ring : Ring) (node : Node) → nesting tree ≤ 127 → node_in tree ring ≡ Ok node → StatesShallowly node
states-configured tree ring node all e =
    let within = node-within tree ring node all e in
    record {
      own = λ t. own-shallow node t within.own;
      about = λ sub s t found. omega (arith, about-shallow node.settings s t (found-about sub node.settings.subordinates s within.about found));
    }

pub states-read : (text : List ℕ) (tree : Json) (ring : Ring) (node : Node) → tree_in text ≡ Some tree → node_in tree ring ≡ Ok node → StatesShallowly node
states-read text tree ring node read e = states-configured tree ring node (read-within text tree read) e
