-- No subordinate of a configuration is the node itself.
use Rattle.std.proofs.Common.{◌≡◌, ◌≢◌, ℕ, List, [], ◌∷◌, codes, map, Bool, true, false, cond, not, ◌||◌, bytes_eq, find, Option, Some, None, option_map, Result, Ok, Err, refl, sym, ap, ◌∙◌, true≢false}
use Rattle.std.specs.Prelude.{ok_or, unwrap_or}
use Rattle.std.specs.List.{list_any}
use Rattle.std.proofs.lemmas.Slice.Eq.{bytes_eq-Decides}
use Rattle.fed_base.specs.Answers.{◌>>=◌}
use Rattle.fed_base.specs.Values as value
use Rattle.fed_json.specs.declared.tree.Json.{Json}
use Rattle.fed_json.specs.declared.tree.Member.{Member}
use Rattle.fed_json.specs.Trees.{as_list, as_object, each, find as find_member, optional, texts_of}
use Rattle.fed_json.proofs.Booleans.{left_true, right_true}
use Rattle.entity_statement.specs.Claims.{Identifier}
use Rattle.node_config.specs.Configurations.{basics_in, configuration_in, further_in, member, own_claims_in, settings_in}
use Rattle.node_config.specs.Forms.{possible, possible_list}
use Rattle.node_config.specs.Nodes.{Further, Resolver, Settings, Subordinate, subordinate_id}
use Rattle.node_config.specs.Resolvers.{resolver_of}
use Rattle.node_config.specs.Subordinates.{are_below, are_subordinates, if_subordinates, subordinate_of, subordinates_of}
use Rattle.node_config.specs.declared.fault.ConfigFault.{ConfigFault}
use Rattle.node_config.specs.declared.fault.ConfigFault.TheVariants.{Shape}
use Rattle.node_config.specs.declared.settings.OwnClaims.{OwnClaims}
use Rattle.authority_core.specs.Nodes.{is_for}

-- ---- a list of subordinates that is read

below-by : (id : Identifier) (list subs : List Subordinate) (b : Bool) → are_subordinates id list ≡ b → cond b (Some list) None ≡ Some subs → are_below id subs ≡ true
below-by id list subs true all e = let same : list ≡ subs = cc e in ap (are_below id) (sym same) ∙ left_true (are_below id list) _ all
below-by id list subs false all e = cc e

below-list : (id : Identifier) (o : Option (List Subordinate)) (subs : List Subordinate) → value.◌>>=◌ o (if_subordinates id) ≡ Some subs → are_below id subs ≡ true
below-list id None subs e = cc e
below-list id (Some list) subs e = below-by id list subs (are_subordinates id list) refl e

abbrev listed : Option (List Subordinate) → List Subordinate
listed list = unwrap_or list []

below-some : (id : Identifier) (o : Option (List Subordinate)) (subs : List Subordinate) → ((list : List Subordinate) → o ≡ Some list → are_below id list ≡ true)
    → option_map listed (option_map Some o) ≡ Some subs → are_below id subs ≡ true
below-some id None subs all e = cc e
below-some id (Some list) subs all e = let same : list ≡ subs = cc e in ap (are_below id) (sym same) ∙ all list refl

below-found : (id : Identifier) (found : Option Json) (subs : List Subordinate) → option_map listed (optional (subordinates_of id) found) ≡ Some subs → are_below id subs ≡ true
unfolding subordinates_of
below-found id None subs e = let same : [] ≡ subs = cc e in ap (are_below id) (sym same)
below-found id (Some tree) subs e =
    below-some id (subordinates_of id tree) subs (λ list is. below-list id (value.◌>>=◌ (as_list tree) (each subordinate_of)) list is) e

-- ---- the parts of a configuration

pub further-by : (a : Option (List Subordinate)) (b : Option (List (List ℕ))) (c : Option (Option Resolver)) (f : Further)
    → (member (codes "subordinates") a >>= λ s. member (codes "revoked_marks") b >>= λ r. member (codes "resolver") c >>= λ p. Ok (record { subordinates = s; revoked = r; resolver = p })) ≡ Ok f
    → a ≡ Some f.subordinates
further-by None b c f e = cc e
further-by (Some s) None c f e = cc e
further-by (Some s) (Some r) None f e = cc e
further-by (Some s) (Some r) (Some p) f e =
    let made : Further = record { subordinates = s; revoked = r; resolver = p } in
    let same : made ≡ f = cc e in
    ap (λ (x : Further). Some x.subordinates) same

below-further : (id : Identifier) (members : List Member) (f : Further) → further_in id members ≡ Ok f → are_below id f.subordinates ≡ true
unfolding further_in
below-further id members f e =
    below-found id (find_member (codes "subordinates") members) f.subordinates
    (further-by (possible_list (codes "subordinates") (subordinates_of id) members) (possible_list (codes "revoked_marks") texts_of members) (possible (codes "resolver") resolver_of members) f e)

-- what is made of the parts, whatever the first of them is
module _ {B : Type 0} (id : B → Identifier) (make : B → OwnClaims → Further → Settings)
    (made : (b : B) (c : OwnClaims) (f : Further) → are_below (make b c f).id (make b c f).subordinates ≡ are_below (id b) f.subordinates) where
  settings-last : (b : B) (c : OwnClaims) (r : Result Further ConfigFault) (s : Settings) → ((f : Further) → r ≡ Ok f → are_below (id b) f.subordinates ≡ true)
      → (r >>= λ further. Ok (make b c further)) ≡ Ok s → are_below s.id s.subordinates ≡ true
  settings-last b c (Err fault) s all e = cc e
  settings-last b c (Ok f) s all e =
      let same : make b c f ≡ s = cc e in
      ap (λ (x : Settings). are_below x.id x.subordinates) (sym same) ∙ made b c f ∙ all f refl

  settings-by : (b : Result B ConfigFault) (c : Result OwnClaims ConfigFault) (members : List Member) (s : Settings)
      → (b >>= λ basics. c >>= λ claims. further_in (id basics) members >>= λ further. Ok (make basics claims further)) ≡ Ok s → are_below s.id s.subordinates ≡ true
  settings-by (Err fault) c members s e = cc e
  settings-by (Ok basics) (Err fault) members s e = cc e
  settings-by (Ok basics) (Ok claims) members s e = settings-last basics claims (further_in (id basics) members) s (λ f is. below-further (id basics) members f is) e

below-settings : (members : List Member) (s : Settings) → settings_in members ≡ Ok s → are_below s.id s.subordinates ≡ true
unfolding settings_in
below-settings members s e =
    settings-by (λ basics. basics.id) (λ basics claims further. record {
      id = basics.id;
      ring = basics.ring;
      lifetime = basics.lifetime;
      claims = claims;
      subordinates = further.subordinates;
      revoked = further.revoked;
      resolver = further.resolver;
    }) (λ b c f. refl) (basics_in members) (own_claims_in members) members s e

below-object : (o : Option (List Member)) (s : Settings) → (ok_or o (Shape (codes "entity_id")) >>= settings_in) ≡ Ok s → are_below s.id s.subordinates ≡ true
below-object None s e = cc e
below-object (Some members) s e = below-settings members s e

pub below-configuration : (tree : Json) (s : Settings) → configuration_in tree ≡ Ok s → are_below s.id s.subordinates ≡ true
unfolding configuration_in
below-configuration tree s e = below-object (as_object tree) s e

-- ---- each of them

same-id : (id : Identifier) → bytes_eq id id ≡ true
same-id id = (bytes_eq-Decides id id).1 refl

found-other : (id sub : Identifier) (b : Bool) (x s : Subordinate) (rest : List Subordinate) → not (list_any (bytes_eq id) (map subordinate_id (x ∷ rest))) ≡ true
    → (not (list_any (bytes_eq id) (map subordinate_id rest)) ≡ true → find (is_for sub) rest ≡ Some s → id ≢ s.entity.id) → cond b (Some x) (find (is_for sub) rest) ≡ Some s → id ≢ s.entity.id
found-other id sub true x s rest none later e same =
    let is : x ≡ s = cc e in
    first_not (bytes_eq id x.entity.id) _ none (ap (bytes_eq id) (sym (same ∙ ap (λ (y : Subordinate). y.entity.id) (sym is))) ∙ same-id id)
  where
    first_not : (a b : Bool) → not (a || b) ≡ true → a ≡ true → ⊥
    first_not true b bad is = true≢false (sym bad)
    first_not false b good is = true≢false (sym is)
found-other id sub false x s rest none later e same = later (rest_not (bytes_eq id x.entity.id) _ none) e same
  where
    rest_not : (a b : Bool) → not (a || b) ≡ true → not b ≡ true
    rest_not true b bad = absurd (true≢false (sym bad))
    rest_not false b good = good

found-in : (id sub : Identifier) (l : List Subordinate) (s : Subordinate) → not (list_any (bytes_eq id) (map subordinate_id l)) ≡ true → find (is_for sub) l ≡ Some s → id ≢ s.entity.id
found-in id sub [] s none e = cc e
found-in id sub (x ∷ rest) s none e = found-other id sub (is_for sub x) x s rest none (λ n f. found-in id sub rest s n f) e

pub found-below : (id sub : Identifier) (l : List Subordinate) (s : Subordinate) → are_below id l ≡ true → find (is_for sub) l ≡ Some s → id ≢ s.entity.id
found-below id sub l s below e = found-in id sub l s (right_true _ _ below) e
