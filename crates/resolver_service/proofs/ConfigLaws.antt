-- What a configuration says of resolving has the form, and so at least one worker.
use Rattle.std.proofs.Common.{rules, ◌≡◌, ◌≤◌, ℕ, List, codes, Option, Some, None, refl, subst, option_map}
use Rattle.fed_base.specs.Values.{◌>>=◌}
use Rattle.fed_json.specs.declared.tree.Json.{Json}
use Rattle.fed_json.specs.declared.tree.Member.{Member}
use Rattle.fed_json.specs.Trees.{as_object, count_below, find, optional}
use Rattle.node_config.specs.Forms.{if_least, needed, number_within}
use Rattle.node_config.specs.Nodes.{Resolver}
use Rattle.node_config.specs.Resolvers.{resolver_in, resolver_of, routes_of}
use Rattle.node_config.specs.Subordinates.{anchors_of, keys_of}

-- what is made of a value was made of one
made_of : {X Y : Type 0} (o : Option X) (f : X → Option Y) (y : Y) → (o >>= f) ≡ Some y → (x : X) × (o ≡ Some x) × (f x ≡ Some y)
made_of (Some x) f y is = (x, refl, is)
made_of None f y is = search rules

at_least : (least n m : ℕ) → if_least least n ≡ Some m → least ≤ m
at_least least n m is = search (rules, is)

workers_in : (members : List Member) (r : Resolver) → resolver_in members ≡ Some r → 1 ≤ r.workers
unfolding resolver_in
workers_in members r is =
    let anchors = made_of (needed (codes "anchors") anchors_of members) _ r is in
    let age = made_of (needed (codes "age") (number_within 1 86400) members) _ r anchors.2 in
    let workers = made_of (needed (codes "workers") (number_within 1 16) members) _ r age.2 in
    let control = made_of (needed (codes "control") keys_of members) _ r workers.2 in
    let routes = made_of (needed (codes "routes") routes_of members) _ r control.2 in
    let found = made_of (find (codes "workers") members) (number_within 1 16) workers.0 workers.1 in
    let number = made_of (count_below 17 found.0) (if_least 1) workers.0 found.2 in
    let same : workers.0 ≡ r.workers = search (rules, routes.2) in
    subst (λ n. 1 ≤ n) same (at_least 1 number.0 workers.0 number.2)

workers_of : (tree : Json) (r : Resolver) → resolver_of tree ≡ Some r → 1 ≤ r.workers
unfolding resolver_of
workers_of tree r is =
    let made = made_of (as_object tree) resolver_in r is in
    workers_in made.0 r made.2

mapped : (o : Option Resolver) (r : Resolver) → option_map Some o ≡ Some (Some r) → o ≡ Some r
mapped (Some x) r is = search (rules, is)
mapped None r is = search rules

-- where it is there, it has a worker
pub workers_at : (o : Option Json) (r : Resolver) → optional resolver_of o ≡ Some (Some r) → 1 ≤ r.workers
workers_at None r is = search rules
workers_at (Some tree) r is = workers_of tree r (mapped (resolver_of tree) r is)
