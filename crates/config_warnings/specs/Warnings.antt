-- What is warned of a node: its tree, what its configuration sets, and its ring's signer.
use Rattle.std.specs.Prelude.{ℕ, List, [], ◌∷◌, ◌++◌, map, take, codes, bytes_eq, nat_le, Bool, true, false, Option, if◌then◌else◌}
use Rattle.std.specs.List.{list_any}
use Rattle.std.specs.Option.{option_map_or}
use Rattle.entity_id.specs.Identifiers.{host_of, identifier_of}
use Rattle.http_plain.specs.declared.route.Route.{Route}
use Rattle.jwk_set.specs.declared.jwk.Jwk.{Jwk}
use Rattle.jwk_set.specs.declared.jwk.Jwk.TheVariants.{Own, Foreign}
use Rattle.key_ring.specs.declared.key.KeyState.{KeyState}
use Rattle.key_ring.specs.declared.key.KeyState.TheVariants.{Live, Retired, Revoked}
use Rattle.key_ring.specs.declared.term.KeyTerm.{KeyTerm}
use Rattle.node_config.specs.Nodes.{Anchor, Resolver, Settings, Subordinate, anchor_id}
use Rattle.config_warnings.specs.Places.{Place, each_from, item_at, under, warn}
use Rattle.config_warnings.specs.Trees.{of_tree}
use Rattle.config_warnings.specs.Twice.{of_text}
use Rattle.config_warnings.specs.declared.source.ConfigText.{ConfigText}
use Rattle.config_warnings.specs.declared.warning.Kind.TheVariants.{NoKey, NoRoute, NoHost, Second, Ended}
use Rattle.config_warnings.specs.declared.warning.Warning.{Warning}

-- ---- key sets

-- a key of one of the algorithms by which texts are sealed here
abbrev pub is_own : Jwk → Bool
is_own (Own kid alg public) = true
is_own (Foreign tree) = false

-- no key of the set of the entity at that place verifies anything
unfoldable pub no_key : Place → List Jwk → List Warning
no_key place keys = if list_any is_own keys then [] else warn NoKey (under place (codes "jwks")) []

abbrev pub subordinate_key : ℕ → Subordinate → List Warning
subordinate_key i s = no_key (item_at (codes "subordinates") i) s.entity.keys

abbrev pub anchor_key : ℕ → Anchor → List Warning
anchor_key i a = no_key (item_at (codes "resolver.anchors") i) a.entity.keys

-- ---- routes

-- a URL has it as its host
abbrev pub is_host : List ℕ → Bool
is_host host = option_map_or (λ id. bytes_eq (host_of id) host) (identifier_of (codes "https://" ++ host)) false

-- a route of these leads there
abbrev pub is_to : List ℕ → Route → Bool
is_to host route = bytes_eq route.host host

abbrev pub leads : List Route → List ℕ → Bool
leads routes host = list_any (is_to host) routes

-- a route that no URL takes, or that an earlier one of these routes takes the place of
abbrev pub route_at : List Route → ℕ → Route → List Warning
route_at routes i route =
    if is_host route.host
    then if leads (take i routes) route.host then warn Second (item_at (codes "resolver.routes") i) route.host else []
    else warn NoHost (item_at (codes "resolver.routes") i) route.host

abbrev pub of_routes : List Route → List Warning
of_routes routes = each_from (route_at routes) 0 routes

-- a trust anchor whose host no route leads to
unfoldable pub route_for : List Route → ℕ → List ℕ → List Warning
route_for routes i host = if leads routes host then [] else warn NoRoute (item_at (codes "resolver.anchors") i) host

abbrev pub anchor_route : List Route → ℕ → Anchor → List Warning
anchor_route routes i a = route_for routes i (host_of (anchor_id a))

-- ---- what a configuration sets

abbrev pub anchor_at : List Route → ℕ → Anchor → List Warning
anchor_at routes i a = anchor_key i a ++ anchor_route routes i a

abbrev pub of_resolving : Resolver → List Warning
of_resolving resolver = each_from (anchor_at resolver.routes) 0 resolver.anchors ++ of_routes resolver.routes

abbrev pub of_settings : Settings → List Warning
of_settings settings = each_from subordinate_key 0 settings.subordinates ++ option_map_or of_resolving settings.resolver []

-- ---- the signer of a ring, its first live key

abbrev pub signs : KeyState → Bool
signs Live = true
signs Retired = false
signs (Revoked at reason) = false

-- it has ended at a moment in seconds since 1970
abbrev pub of_signer : ℕ → List KeyTerm → List Warning
of_signer moment [] = []
of_signer moment (key ∷ keys) = if signs key.state then (if nat_le key.exp moment then warn Ended (codes "ring") key.kid else []) else of_signer moment keys

-- ---- all of it

-- of the node with that configuration, those settings and those keys
unfoldable pub warnings : ℕ → ConfigText → Settings → List KeyTerm → List Warning
warnings moment source settings keys = of_text source.text ++ (of_tree source.tree ++ (of_settings settings ++ of_signer moment keys))

-- something is warned of
abbrev pub is_warned : List Warning → Bool
is_warned [] = false
is_warned (w ∷ ws) = true
