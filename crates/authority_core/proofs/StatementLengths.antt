-- Statements aren't longer than what is counted for them, and one moment makes them little longer than another.
use Rattle.std.specs.Prelude.{IfSome}
use Rattle.std.specs.List.{list_all}
use Rattle.std.proofs.Common.{◌≡◌, ◌≤◌, ◌<◌, ◌+◌, ◌-◌, ◌^◌, ℕ, List, [], ◌∷◌, ◌++◌, length, map, codes, find, Bool, true, false, cond, ◌&&◌, Option, Some, Result, Ok, Err, refl, sym, ap, ◌∙◌, arith}
use Rattle.std.proofs.lemmas.Bool.Decides.{nat_tests}
use Rattle.fed_base.specs.declared.algorithm.Alg.{Alg}
use Rattle.fed_base.specs.declared.algorithm.Alg.TheVariants.{Small, Fast}
use Rattle.base64url.specs.Base64url.{base64url}
use Rattle.base64url.proofs.Canonical.{length-base64url}
use Rattle.fed_json.specs.declared.tree.Json.{Json, List as ListOf}
use Rattle.fed_json.specs.declared.tree.Member.{Member}
use Rattle.fed_json.specs.Compact.{compact, quoted}
use Rattle.fed_json.specs.Members.{text_member}
use Rattle.fed_json.specs.Reading.{member_of}
use Rattle.fed_json.proofs.Booleans.{left_true, right_true}
use Rattle.jws_form.specs.Header.{algorithm}
use Rattle.jwk_set.specs.Keys.{key_type}
use Rattle.jwk_set.specs.Trees.{key_tree, own_tree, set_tree}
use Rattle.jwk_set.specs.declared.jwk.Jwk.{Jwk}
use Rattle.node_config.specs.Nodes.{Settings, Subordinate}
use Rattle.node_config.specs.declared.fault.ConfigFault.{ConfigFault}
use Rattle.node_config.specs.declared.fault.ConfigFault.TheVariants.{Shape}
use Rattle.key_ring.specs.Sets.{live_set}
use Rattle.authority_core.specs.Configurations.{sizes_of}
use Rattle.authority_core.specs.Endpoints.{own_metadata}
use Rattle.authority_core.specs.Issued.{claim, configuration_claims, configuration_members, end_of, is_short, issue_members, last_moment, statement_claims, statement_members, states_all_shortly, states_itself_shortly, states_shortly}
use Rattle.authority_core.specs.Nodes.{Node, is_for, registered}
use Rattle.authority_core.specs.Lengths.{items_length, keys_length, members_length}
use Rattle.authority_core.proofs.LengthLaws.{list-short, member-length, members-append, number-length, object-long, object-short, text_member-length, then-fits}
use Rattle.authority_core.proofs.Quoted.{quoted-short}

-- ---- keys

abbrev own_members : List ℕ → Alg → List ℕ → List Member
own_members kid alg public =
    text_member (codes "alg") (algorithm alg) ∷ text_member (codes "kid") kid ∷ text_member (codes "kty") key_type
    ∷ text_member (codes "pub") (base64url public) ∷ []

-- the names of both algorithms have one length
pub algorithm-length : (alg : Alg) → length (algorithm alg) ≡ 17
algorithm-length Small = refl
algorithm-length Fast = refl

pub own-length : (kid : List ℕ) (alg : Alg) (public : List ℕ) → length public ≡ 32 → length (compact (own_tree kid alg public)) ≤ length (quoted kid) + 500
own-length kid alg public size =
    omega (
      arith,
      object-short (own_members kid alg public),
      text_member-length (codes "alg") (algorithm alg),
      text_member-length (codes "kid") kid,
      text_member-length (codes "kty") key_type,
      text_member-length (codes "pub") (base64url public),
      quoted-short (codes "alg"),
      quoted-short (algorithm alg),
      algorithm-length alg,
      quoted-short (codes "kid"),
      quoted-short (codes "kty"),
      quoted-short key_type,
      quoted-short (codes "pub"),
      quoted-short (base64url public),
      length-base64url public,
      size,
    )

keys-items : (keys : List Jwk) → items_length (map key_tree keys) ≡ keys_length keys
keys-items [] = refl
keys-items (k ∷ keys) = ap (λ n. length (compact (key_tree k)) + 1 + n) (keys-items keys)

pub set-length : (keys : List Jwk) → members_length (member_of (codes "jwks") (set_tree keys) ∷ []) ≤ keys_length keys + 64
unfolding set_tree
set-length keys =
    let list = ListOf (map key_tree keys) in
    let whole : length (compact (set_tree keys)) ≤ members_length (member_of (codes "keys") list ∷ []) + 2 = object-short (member_of (codes "keys") list ∷ []) in
    omega (arith, member-length (codes "jwks") (set_tree keys), whole, member-length (codes "keys") list, list-short (map key_tree keys), keys-items keys, quoted-short (codes "jwks"), quoted-short (codes "keys"))

-- ---- what every statement says of its making

end-small : (lifetime t : ℕ) → end_of lifetime t < 2 ^ 64
end-small lifetime t = omega arith

-- the members beside `exp` and `iat`
abbrev lasting : Settings → List Jwk → ℕ
lasting settings keys = members_length (text_member (codes "iss") settings.id ∷ []) + members_length (member_of (codes "jwks") (set_tree keys) ∷ [])

pub issue-length : (settings : Settings) (keys : List Jwk) (t : ℕ) → t < 2 ^ 64 → members_length (issue_members settings keys t) ≤ 84 + lasting settings keys
issue-length settings keys t small =
    omega (arith, number-length (codes "exp") (end_of settings.lifetime t) (end-small settings.lifetime t), number-length (codes "iat") t small)

issue-least : (settings : Settings) (keys : List Jwk) (t : ℕ) → lasting settings keys ≤ members_length (issue_members settings keys t)
issue-least settings keys t = omega arith

-- ---- statements

-- the configured claims
abbrev configured : Subordinate → ℕ
configured s =
    members_length (claim (codes "constraints") s.claims.constraints) + members_length (claim (codes "metadata") s.claims.metadata)
    + members_length (claim (codes "metadata_policy") s.claims.policy) + members_length (claim (codes "metadata_policy_crit") s.claims.policy_crit)

statement-parts : (settings : Settings) (s : Subordinate) (t : ℕ)
    → members_length (statement_members settings s t) ≡ configured s + members_length (issue_members settings s.entity.keys t) + members_length (text_member (codes "sub") s.entity.id ∷ [])
statement-parts settings s t =
    let subject = text_member (codes "sub") s.entity.id ∷ [] in
    let crit = claim (codes "metadata_policy_crit") s.claims.policy_crit in
    let policy = claim (codes "metadata_policy") s.claims.policy in
    let metadata = claim (codes "metadata") s.claims.metadata in
    let issue = issue_members settings s.entity.keys t in
    omega (
      arith,
      members-append (claim (codes "constraints") s.claims.constraints) (issue ++ (metadata ++ (policy ++ (crit ++ subject)))),
      members-append issue (metadata ++ (policy ++ (crit ++ subject))),
      members-append metadata (policy ++ (crit ++ subject)),
      members-append policy (crit ++ subject),
      members-append crit subject,
    )

statement-most : (settings : Settings) (s : Subordinate) (t : ℕ) → length (compact (statement_claims settings s t)) ≤ members_length (statement_members settings s t) + 2
unfolding statement_claims
statement-most settings s t = object-short (statement_members settings s t)

pub statement-fits : (settings : Settings) (s : Subordinate) (sub : List ℕ) (o : Option ℕ) (room inside left rest : ℕ) → sub ≡ s.entity.id → 2 ≤ room → inside ≡ room - 2 → configured s + left ≤ inside
    → members_length (issue_members settings s.entity.keys last_moment) + rest ≤ left → IfSome o (λ end. members_length (text_member (codes "sub") sub ∷ []) + end ≤ rest)
    → IfSome o (λ end. length (compact (statement_claims settings s last_moment)) + end ≤ room)
statement-fits settings s sub o room inside left rest named big less claims issue subject =
    then-fits o room rest (2 + configured s + members_length (issue_members settings s.entity.keys last_moment)) (members_length (text_member (codes "sub") sub ∷ [])) _ subject
    (omega (arith, big, less, claims, issue))
    (omega (arith, statement-most settings s last_moment, statement-parts settings s last_moment, ap (λ id. members_length (text_member (codes "sub") id ∷ [])) named))

statement-least : (settings : Settings) (s : Subordinate) (t : ℕ) → members_length (statement_members settings s t) ≤ length (compact (statement_claims settings s t))
unfolding statement_claims
statement-least settings s t = object-long (statement_members settings s t)

-- short at the last moment, and so at each
statement-short : (settings : Settings) (s : Subordinate) (t : ℕ) → t < 2 ^ 64 → length (compact (statement_claims settings s last_moment)) ≤ 179000
    → length (compact (statement_claims settings s t)) ≤ 179100
statement-short settings s t small last =
    omega (
      arith,
      statement-most settings s t,
      statement-parts settings s t,
      issue-length settings s.entity.keys t small,
      issue-least settings s.entity.keys last_moment,
      statement-parts settings s last_moment,
      statement-least settings s last_moment,
      last,
    )

-- ---- configurations

-- what stands behind what every statement says of its making
abbrev behind : Settings → List Member
behind settings =
    member_of (codes "metadata") (own_metadata settings)
    ∷ (text_member (codes "sub") settings.id
    ∷ (claim (codes "trust_mark_issuers") settings.claims.issuers
    ++ (claim (codes "trust_mark_owners") settings.claims.owners
    ++ claim (codes "trust_marks") settings.claims.marks)))

configuration-parts : (settings : Settings) (keys : List Jwk) (t : ℕ)
    → members_length (configuration_members settings keys t) ≡ members_length (claim (codes "authority_hints") settings.claims.hints) + members_length (issue_members settings keys t) + members_length (behind settings)
configuration-parts settings keys t =
    let issue = issue_members settings keys t in
    omega (arith, members-append (claim (codes "authority_hints") settings.claims.hints) (issue ++ behind settings), members-append issue (behind settings))

configuration-most : (node : Node) (t : ℕ) → length (compact (configuration_claims node t)) ≤ members_length (configuration_members node.settings (live_set node.ring) t) + 2
unfolding configuration_claims
configuration-most node t = object-short (configuration_members node.settings (live_set node.ring) t)

configuration-least : (node : Node) (t : ℕ) → members_length (configuration_members node.settings (live_set node.ring) t) ≤ length (compact (configuration_claims node t))
unfolding configuration_claims
configuration-least node t = object-long (configuration_members node.settings (live_set node.ring) t)

configuration-short : (node : Node) (t : ℕ) → t < 2 ^ 64 → length (compact (configuration_claims node last_moment)) ≤ 179000 → length (compact (configuration_claims node t)) ≤ 179100
configuration-short node t small last =
    let keys = live_set node.ring in
    omega (
      arith,
      configuration-most node t,
      configuration-parts node.settings keys t,
      issue-length node.settings keys t small,
      issue-least node.settings keys last_moment,
      configuration-parts node.settings keys last_moment,
      configuration-least node last_moment,
      last,
    )

-- ---- what was looked at

pub short-most : (claims : Json) → is_short claims ≡ true → length (compact claims) ≤ 179000
short-most claims e = grind (arith, nat_tests, e)

-- what the looks at them answer
abbrev sizes_by : Bool → Bool → Result (Unit {0}) ConfigFault
sizes_by itself all = cond itself (cond all (Ok tt) (Err (Shape (codes "subordinates")))) (Err (Shape (codes "metadata")))

both : (a b : Bool) → sizes_by a b ≡ Ok tt → (a ≡ true) × (b ≡ true)
both true true e = (refl, refl)
both true false e = cc e
both false b e = cc e

looked_at : (node : Node) → sizes_of node ≡ Ok tt → (states_itself_shortly node ≡ true) × (states_all_shortly node.settings ≡ true)
unfolding sizes_of
looked_at node e = both (states_itself_shortly node) (states_all_shortly node.settings) e

found-by : (test : Subordinate → Bool) (sub : List ℕ) (b : Bool) (x s : Subordinate) (rest : List Subordinate) → (test x && list_all test rest) ≡ true
    → (list_all test rest ≡ true → find (is_for sub) rest ≡ Some s → test s ≡ true) → cond b (Some x) (find (is_for sub) rest) ≡ Some s → test s ≡ true
found-by test sub true x s rest all later e = let is : x ≡ s = cc e in ap test (sym is) ∙ left_true (test x) _ all
found-by test sub false x s rest all later e = later (right_true (test x) _ all) e

found-short : (test : Subordinate → Bool) (sub : List ℕ) (l : List Subordinate) (s : Subordinate) → list_all test l ≡ true → find (is_for sub) l ≡ Some s → test s ≡ true
found-short test sub [] s all e = cc e
found-short test sub (x ∷ rest) s all e = found-by test sub (is_for sub x) x s rest all (λ a f. found-short test sub rest s a f) e

pub stated-itself : (node : Node) (t : ℕ) → t < 2 ^ 64 → sizes_of node ≡ Ok tt → length (compact (configuration_claims node t)) ≤ 179100
stated-itself node t small good = configuration-short node t small (short-most (configuration_claims node last_moment) (looked_at node good).0)

pub stated-about : (node : Node) (t : ℕ) (sub : List ℕ) (s : Subordinate) → t < 2 ^ 64 → sizes_of node ≡ Ok tt → registered sub node.settings ≡ Some s
    → length (compact (statement_claims node.settings s t)) ≤ 179100
stated-about node t sub s small good found =
    statement-short node.settings s t small
    (short-most (statement_claims node.settings s last_moment) (found-short (states_shortly node.settings) sub node.settings.subordinates s (looked_at node good).1 found))
