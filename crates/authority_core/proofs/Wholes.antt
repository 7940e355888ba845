-- The claims that a node states have a text.
use Rattle.std.proofs.Common.{◌≡◌, ◌<◌, ◌^◌, ℕ, pos, List, [], ◌∷◌, ◌++◌, codes, map, true, not, ◌&&◌, Bool, Option, Some, None, Result, Ok, Err, refl, ap, ◌∙◌, append_assoc, rules, arith}
use Rattle.std.proofs.lemmas.Bool.{lt-ltb}
use Rattle.std.proofs.lemmas.Str.{is_utf8-from_IsUtf8}
use Rattle.std.specs.List.{list_all}
use Rattle.std.specs.Prelude.{IfSome, OnOk}
use Rattle.std.specs.Str.{IsUtf8, is_utf8}
use Rattle.fed_base.specs.Values.{if_there}
use Rattle.fed_json.specs.declared.tree.Json.{Json, Int, Object, Text, the_lemmas}
use Rattle.fed_json.specs.declared.tree.Member.{Member}
use Rattle.fed_json.specs.Forms.{IsWhole, has_odd, in_bounds, rising, well_formed, whole}
use Rattle.fed_json.specs.Members.{text_member}
use Rattle.fed_json.specs.Reading.{member_of}
use Rattle.fed_json.specs.Trees.{member_name}
use Rattle.fed_json.proofs.Booleans.{both_true}
use Rattle.fed_json.proofs.Layers.{whole-Object}
use Rattle.jwk_set.proofs.WrittenKeys.{ascii, whole_text}
use Rattle.jwk_set.specs.declared.jwk.Jwk.{Jwk}
use Rattle.jwk_set.specs.Trees.{set_tree}
use Rattle.key_ring.specs.Sets.{live_set}
use Rattle.node_config.specs.Nodes.{Settings, Subordinate}
use Rattle.node_config.specs.Stated.{AreAbout, AreOwn}
use Rattle.authority_core.specs.Endpoints.{own_metadata}
use Rattle.authority_core.specs.Issued.{claim, configuration_claims, configuration_members, end_of, historical_tree, issue_members, statement_claims, statement_members}
use Rattle.authority_core.specs.Nodes.{Node}
use Rattle.authority_core.specs.Stages.{historical_members, making_members}

-- a member has a text
abbrev good : Member → Bool
good m = is_utf8 m.name && whole m.value

int_formed : (n : ℕ) → well_formed (Int (pos n)) ≡ in_bounds (pos n)
int_formed n = search (rules, the_lemmas)

int_even : (n : ℕ) → not (has_odd (Int (pos n))) ≡ true
int_even n = search (rules, the_lemmas)

int_whole : (n : ℕ) → n < 2 ^ 64 → whole (Int (pos n)) ≡ true
int_whole n small = both_true (int_formed n ∙ lt-ltb n (2 ^ 64) small) (int_even n)

id_whole : (id : List ℕ) → IsUtf8 id → whole (Text id) ≡ true
id_whole id is = whole_text id (is_utf8-from_IsUtf8 id is)

end_small : (lifetime t : ℕ) → end_of lifetime t < 2 ^ 64
end_small lifetime t = omega arith

-- ---- claims that may be absent

stated : (form : Json → Type 0) (o : Option Json) → IfSome o (λ tree. form tree × IsWhole tree) → if_there whole o ≡ true
stated form None says = refl
stated form (Some tree) says = says.1

claim_good : (name : List ℕ) (o : Option Json) (rest : List Member) → is_utf8 name ≡ true → if_there whole o ≡ true → list_all good rest ≡ true → list_all good (claim name o ++ rest) ≡ true
claim_good name None rest named has all = all
claim_good name (Some tree) rest named has all = both_true (both_true named has) all

last_good : (name : List ℕ) (o : Option Json) → is_utf8 name ≡ true → if_there whole o ≡ true → list_all good (claim name o) ≡ true
last_good name None named has = refl
last_good name (Some tree) named has = both_true (both_true named has) refl

issue_good : (settings : Settings) (keys : List Jwk) (t : ℕ) (rest : List Member) → t < 2 ^ 64 → IsUtf8 settings.id → whole (set_tree keys) ≡ true → list_all good rest ≡ true
    → list_all good (issue_members settings keys t ++ rest) ≡ true
issue_good settings keys t rest small id set all =
    both_true (both_true (ascii (codes "exp") refl) (int_whole (end_of settings.lifetime t) (end_small settings.lifetime t)))
    (both_true (both_true (ascii (codes "iat") refl) (int_whole t small))
    (both_true (both_true (ascii (codes "iss") refl) (id_whole settings.id id))
    (both_true (both_true (ascii (codes "jwks") refl) set) all)))

-- ---- names, which rise whichever of the claims are there

about_rises : (a b c d : Option Json) (exp iat iss jwks sub : Json) → rising (map member_name
    (claim (codes "constraints") a ++ (member_of (codes "exp") exp ∷ member_of (codes "iat") iat ∷ member_of (codes "iss") iss ∷ member_of (codes "jwks") jwks
    ∷ (claim (codes "metadata") b ++ (claim (codes "metadata_policy") c ++ (claim (codes "metadata_policy_crit") d ++ (member_of (codes "sub") sub ∷ []))))))) ≡ true
about_rises None None None None exp iat iss jwks sub = refl
about_rises None None None (Some d) exp iat iss jwks sub = refl
about_rises None None (Some c) None exp iat iss jwks sub = refl
about_rises None None (Some c) (Some d) exp iat iss jwks sub = refl
about_rises None (Some b) None None exp iat iss jwks sub = refl
about_rises None (Some b) None (Some d) exp iat iss jwks sub = refl
about_rises None (Some b) (Some c) None exp iat iss jwks sub = refl
about_rises None (Some b) (Some c) (Some d) exp iat iss jwks sub = refl
about_rises (Some a) None None None exp iat iss jwks sub = refl
about_rises (Some a) None None (Some d) exp iat iss jwks sub = refl
about_rises (Some a) None (Some c) None exp iat iss jwks sub = refl
about_rises (Some a) None (Some c) (Some d) exp iat iss jwks sub = refl
about_rises (Some a) (Some b) None None exp iat iss jwks sub = refl
about_rises (Some a) (Some b) None (Some d) exp iat iss jwks sub = refl
about_rises (Some a) (Some b) (Some c) None exp iat iss jwks sub = refl
about_rises (Some a) (Some b) (Some c) (Some d) exp iat iss jwks sub = refl

own_rises : (a b c d : Option Json) (exp iat iss jwks metadata sub : Json) → rising (map member_name
    (claim (codes "authority_hints") a ++ (member_of (codes "exp") exp ∷ member_of (codes "iat") iat ∷ member_of (codes "iss") iss ∷ member_of (codes "jwks") jwks
    ∷ (member_of (codes "metadata") metadata ∷ (member_of (codes "sub") sub
    ∷ (claim (codes "trust_mark_issuers") b ++ (claim (codes "trust_mark_owners") c ++ claim (codes "trust_marks") d))))))) ≡ true
own_rises None None None None exp iat iss jwks metadata sub = refl
own_rises None None None (Some d) exp iat iss jwks metadata sub = refl
own_rises None None (Some c) None exp iat iss jwks metadata sub = refl
own_rises None None (Some c) (Some d) exp iat iss jwks metadata sub = refl
own_rises None (Some b) None None exp iat iss jwks metadata sub = refl
own_rises None (Some b) None (Some d) exp iat iss jwks metadata sub = refl
own_rises None (Some b) (Some c) None exp iat iss jwks metadata sub = refl
own_rises None (Some b) (Some c) (Some d) exp iat iss jwks metadata sub = refl
own_rises (Some a) None None None exp iat iss jwks metadata sub = refl
own_rises (Some a) None None (Some d) exp iat iss jwks metadata sub = refl
own_rises (Some a) None (Some c) None exp iat iss jwks metadata sub = refl
own_rises (Some a) None (Some c) (Some d) exp iat iss jwks metadata sub = refl
own_rises (Some a) (Some b) None None exp iat iss jwks metadata sub = refl
own_rises (Some a) (Some b) None (Some d) exp iat iss jwks metadata sub = refl
own_rises (Some a) (Some b) (Some c) None exp iat iss jwks metadata sub = refl
own_rises (Some a) (Some b) (Some c) (Some d) exp iat iss jwks metadata sub = refl

-- ---- the claims

pub statement_whole : (tree : Json) (settings : Settings) (s : Subordinate) (t : ℕ) → tree ≡ statement_claims settings s t → t < 2 ^ 64 → IsUtf8 settings.id → IsUtf8 s.entity.id
    → whole (set_tree s.entity.keys) ≡ true → AreAbout s.claims → IsWhole tree
unfolding statement_claims
statement_whole tree settings s t is small id sub set about =
    ap whole is ∙ whole-Object _ ∙ both_true (about_rises s.claims.constraints s.claims.metadata s.claims.policy s.claims.policy_crit _ _ _ _ _)
    (claim_good (codes "constraints") s.claims.constraints _ (ascii (codes "constraints") refl) (stated _ _ about.constraints)
    (issue_good settings s.entity.keys t _ small id set
    (claim_good (codes "metadata") s.claims.metadata _ (ascii (codes "metadata") refl) (stated _ _ about.metadata)
    (claim_good (codes "metadata_policy") s.claims.policy _ (ascii (codes "metadata_policy") refl) (stated _ _ about.policy)
    (claim_good (codes "metadata_policy_crit") s.claims.policy_crit _ (ascii (codes "metadata_policy_crit") refl) (stated _ _ about.policy_crit)
    (both_true (both_true (ascii (codes "sub") refl) (id_whole s.entity.id sub)) refl))))))

pub configuration_whole : (tree : Json) (node : Node) (t : ℕ) → tree ≡ configuration_claims node t → t < 2 ^ 64 → IsUtf8 node.settings.id
    → whole (set_tree (live_set node.ring)) ≡ true → whole (own_metadata node.settings) ≡ true → AreOwn node.settings.claims → IsWhole tree
unfolding configuration_claims
configuration_whole tree node t is small id set metadata own =
    let claims = node.settings.claims in
    ap whole is ∙ whole-Object _ ∙ both_true (own_rises claims.hints claims.issuers claims.owners claims.marks _ _ _ _ _ _)
    (claim_good (codes "authority_hints") claims.hints _ (ascii (codes "authority_hints") refl) (stated _ _ own.hints)
    (issue_good node.settings (live_set node.ring) t
    (member_of (codes "metadata") (own_metadata node.settings) ∷ (text_member (codes "sub") node.settings.id
    ∷ (claim (codes "trust_mark_issuers") claims.issuers ++ (claim (codes "trust_mark_owners") claims.owners ++ claim (codes "trust_marks") claims.marks)))) small id set
    (both_true (both_true (ascii (codes "metadata") refl) metadata)
    (both_true (both_true (ascii (codes "sub") refl) (id_whole node.settings.id id))
    (claim_good (codes "trust_mark_issuers") claims.issuers _ (ascii (codes "trust_mark_issuers") refl) (stated _ _ own.issuers)
    (claim_good (codes "trust_mark_owners") claims.owners _ (ascii (codes "trust_mark_owners") refl) (stated _ _ own.owners)
    (last_good (codes "trust_marks") claims.marks (ascii (codes "trust_marks") refl) (stated _ _ own.marks))))))))

pub historical_whole : (tree : Json) (id : List ℕ) (keys : Json) (t : ℕ) → tree ≡ historical_tree id keys t → t < 2 ^ 64 → IsUtf8 id → IsWhole keys → IsWhole tree
historical_whole tree id keys t is small text set =
    ap whole is ∙ whole-Object _
    ∙ both_true refl
    (both_true (both_true (ascii (codes "iat") refl) (int_whole t small))
    (both_true (both_true (ascii (codes "iss") refl) (id_whole id text)) (both_true (both_true (ascii (codes "keys") refl) set) refl)))

pub refusal_whole : (ms : List Member) → ms ≡ text_member (codes "error") (codes "not_found") ∷ text_member (codes "error_description") (codes "no such entity") ∷ [] → IsWhole (Object ms)
refusal_whole ms is =
    ap (λ l. whole (Object l)) is ∙ whole-Object _
    ∙ both_true refl
    (both_true (both_true (ascii (codes "error") refl) (whole_text (codes "not_found") (ascii (codes "not_found") refl)))
    (both_true (both_true (ascii (codes "error_description") refl) (whole_text (codes "no such entity") (ascii (codes "no such entity") refl))) refl))

-- ---- the members of the node's configuration, as they are added

onto : (m n x rest : List Member) → n ≡ m ++ x → n ++ rest ≡ m ++ (x ++ rest)
onto m n x rest added = ap (λ l. l ++ rest) added ∙ append_assoc m x rest

pub configuration-joined : (settings : Settings) (t : ℕ) (set : List Jwk) (metadata : Json) (sub : Member) (m0 m1 m2 m3 m4 m5 m6 m7 m8 : List Member)
    → metadata ≡ own_metadata settings → sub ≡ text_member (codes "sub") settings.id → m1 ≡ m0 ++ claim (codes "authority_hints") settings.claims.hints
    → m2 ≡ m1 ++ making_members settings t → m3 ≡ m2 ++ member_of (codes "jwks") (set_tree set) ∷ [] → m4 ≡ m3 ++ member_of (codes "metadata") metadata ∷ [] → m5 ≡ m4 ++ sub ∷ []
    → m6 ≡ m5 ++ claim (codes "trust_mark_issuers") settings.claims.issuers → m7 ≡ m6 ++ claim (codes "trust_mark_owners") settings.claims.owners
    → m8 ≡ m7 ++ claim (codes "trust_marks") settings.claims.marks → m8 ≡ m0 ++ configuration_members settings set t
configuration-joined settings t set metadata sub m0 m1 m2 m3 m4 m5 m6 m7 m8 own named first second third fourth fifth sixth seventh eighth =
    let claims = settings.claims in
    let g = claim (codes "trust_mark_owners") claims.owners ++ claim (codes "trust_marks") claims.marks in
    let f = claim (codes "trust_mark_issuers") claims.issuers ++ g in
    let e = (sub ∷ []) ++ f in
    let d = (member_of (codes "metadata") metadata ∷ []) ++ e in
    let c = (member_of (codes "jwks") (set_tree set) ∷ []) ++ d in
    let b = making_members settings t ++ c in
    eighth ∙ onto m6 m7 _ (claim (codes "trust_marks") claims.marks) seventh ∙ onto m5 m6 _ g sixth ∙ onto m4 m5 _ f fifth ∙ onto m3 m4 _ e fourth ∙ onto m2 m3 _ d third
    ∙ onto m1 m2 _ c second ∙ onto m0 m1 _ b first
    ∙ (λ i. m0 ++ (claim (codes "authority_hints") claims.hints ++ (issue_members settings set t ++ (member_of (codes "metadata") (own i) ∷ (named i ∷ f)))))

pub configuration-tree : (node : Node) (t : ℕ) (set : List Jwk) (m0 m : List Member) → m0 ≡ [] → set ≡ live_set node.ring → m ≡ m0 ++ configuration_members node.settings set t
    → Object m ≡ configuration_claims node t
unfolding configuration_claims
configuration-tree node t set m0 m none keys is =
    ap Object (is ∙ ap (λ l. l ++ configuration_members node.settings set t) none) ∙ ap (λ s. Object (configuration_members node.settings s t)) keys

-- ---- the members of the statement about a subordinate

pub statement-joined : (settings : Settings) (s : Subordinate) (t : ℕ) (sub : Member) (m0 m1 m2 m3 m4 m5 m6 m7 : List Member)
    → sub ≡ text_member (codes "sub") s.entity.id → m1 ≡ m0 ++ claim (codes "constraints") s.claims.constraints → m2 ≡ m1 ++ making_members settings t
    → m3 ≡ m2 ++ member_of (codes "jwks") (set_tree s.entity.keys) ∷ [] → m4 ≡ m3 ++ claim (codes "metadata") s.claims.metadata
    → m5 ≡ m4 ++ claim (codes "metadata_policy") s.claims.policy → m6 ≡ m5 ++ claim (codes "metadata_policy_crit") s.claims.policy_crit → m7 ≡ m6 ++ sub ∷ []
    → m7 ≡ m0 ++ statement_members settings s t
statement-joined settings s t sub m0 m1 m2 m3 m4 m5 m6 m7 named first second third fourth fifth sixth seventh =
    let f = claim (codes "metadata_policy_crit") s.claims.policy_crit ++ sub ∷ [] in
    let e = claim (codes "metadata_policy") s.claims.policy ++ f in
    let d = claim (codes "metadata") s.claims.metadata ++ e in
    let c = (member_of (codes "jwks") (set_tree s.entity.keys) ∷ []) ++ d in
    let b = making_members settings t ++ c in
    seventh ∙ onto m5 m6 _ (sub ∷ []) sixth ∙ onto m4 m5 _ f fifth ∙ onto m3 m4 _ e fourth ∙ onto m2 m3 _ d third ∙ onto m1 m2 _ c second ∙ onto m0 m1 _ b first
    ∙ (λ i. m0 ++ (claim (codes "constraints") s.claims.constraints ++ (issue_members settings s.entity.keys t
    ++ (claim (codes "metadata") s.claims.metadata ++ (claim (codes "metadata_policy") s.claims.policy ++ (claim (codes "metadata_policy_crit") s.claims.policy_crit ++ named i ∷ []))))))

pub statement-tree : (settings : Settings) (s : Subordinate) (t : ℕ) (m0 m : List Member) → m0 ≡ [] → m ≡ m0 ++ statement_members settings s t → Object m ≡ statement_claims settings s t
unfolding statement_claims
statement-tree settings s t m0 m none is = ap Object (is ∙ ap (λ l. l ++ statement_members settings s t) none)

pub historical-tree : (id : List ℕ) (keys : Json) (t : ℕ) (m0 m : List Member) → m0 ≡ [] → m ≡ m0 ++ historical_members id keys t → Object m ≡ historical_tree id keys t
historical-tree id keys t m0 m none is = ap Object (is ∙ ap (λ l. l ++ historical_members id keys t) none)

-- what holds in any case
pub always : {X E : Type 0} (r : Result X E) (P : Type 0) → P → OnOk r P
always (Ok x) P p = p
always (Err e) P p = tt
