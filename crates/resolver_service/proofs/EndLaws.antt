-- How it ends without a node, and with one.
use Rattle.std.proofs.Common.{◌≡◌, ◌<◌, ℕ, List, [], Option, Some, Err, inl, inr, refl, sym, ap, ◌∙◌, subst}
use Rattle.std.specs.Prelude.{◌⊎◌, min}
use Rattle.fed_ports.specs.Exchanges.{Exchange}
use Rattle.fed_ports.specs.Stores.{Files}
use Rattle.fed_ports.specs.Times.{ClockAt}
use Rattle.authority_core.specs.Nodes.{Node as Authority}
use Rattle.turn_log.specs.Groups.{IsHistory}
use Rattle.turn_log.specs.Runs.{call_limit}
use Rattle.statement_shelf.specs.Book.{BookStep, opened_with}
use Rattle.statement_shelf.specs.Passes.{CommonsKnown, opened_book}
use Rattle.statement_shelf.specs.Shelf.{ShelfStep}
use Rattle.resolve_round.specs.Acts.{HasCounted}
use Rattle.fed_serve.specs.declared.part.ResolverPart.{ResolverPart}
use Rattle.http_plain.specs.Networks.{network_at}
use Rattle.fed_serve.specs.declared.node.Node.{Node}
use Rattle.jwk_set.specs.declared.set.JwkSet.{JwkSet}
use Rattle.resolve_call.specs.Alone.{HasSeenNothing}
use Rattle.node_files.specs.ResolvingParts.{ArePartsOf}
use Rattle.node_files.specs.declared.parts.Parts.{Parts}
use Rattle.node_files.specs.declared.fault.NodeFault.{NodeFault}
use Rattle.node_files.specs.declared.fault.NodeFault.TheVariants.{Input, Store, Memory}
use Rattle.node_files.specs.Moments.{at_moment}
use Rattle.node_files.specs.Orders.{Order}
use Rattle.node_files.specs.declared.post.Post.{Post}
use Rattle.node_files.specs.NodeFiles.{Answers, Counts, IsNodeOf, IsResolver}
use Rattle.resolver_service.specs.declared.ending.ResolverEnd.{ResolverEnd}
use Rattle.resolver_service.specs.declared.ending.ResolverEnd.TheVariants as ends
use Rattle.resolver_service.specs.declared.node.Opened.{Opened}
use Rattle.resolver_service.specs.declared.stop.Stop.{Stop}
use Rattle.resolver_service.specs.declared.stop.Stop.TheVariants as stop
use Rattle.resolver_service.specs.Batches.{ServesAll, ServiceViews, Setup, Standing, setup, standing}
use Rattle.resolver_service.specs.Ends.{Around, EndsBy, HasServed, HasStopped, StopsIn, around, on_port, with_faults}
use Rattle.resolver_service.specs.Faults.{end_without_node}
use Rattle.resolver_service.specs.Steps.{EndsOn, EndsServing, IsEndOf, IsOpenedFrom, StopsAfter, StopsBatch, StopsBy}
use Rattle.resolver_service.specs.Stopped.{ServesSome}
use Rattle.resolver_service.proofs.OrderLaws.{in_order}
use Rattle.resolver_service.proofs.ShareLaws.{made_all, owns_all}

-- the end of a batch, by what stopped it
stops_in : {P N C : Type 0} (s : Setup P N C) (count : ℕ) (before now : Standing P) (why : Stop) (end : ResolverEnd) → IsEndOf why now.progress.known end
    → StopsBatch s count before now (Err why) → StopsIn s count before now end
stops_in s count before now stop.Network ends.NetworkFailed of stops = stops
stops_in s count before now stop.Unsettled ends.Unsettled of stops = stops
stops_in s count before now stop.Memory ends.Memory of stops = stops
stops_in s count before now stop.Worn (ends.Worn pass) of stops = (sym of, stops)
stops_in s count before now why end of stops = absurd of

module _ {P N C : Type 0} (views : ServiceViews P N C) where
  -- there is no node
  pub ends_without : (order : Order) (files files' : Option Files) (seen : Around P) (a b : ℕ) (fault : NodeFault)
      → Answers files (λ (node : Authority). IsNodeOf files order.config node × IsResolver node) (Err fault) → Counts {X = Authority} a b (Err fault)
      → EndsBy views order (at_moment files a seen) (at_moment files' b seen) (end_without_node fault)
  ends_without order files files' seen a b Input none counts = (λ node is resolves. none node (is, resolves), refl, counts)
  ends_without order files files' seen a b Store none counts = (counts, refl)
  ends_without order files files' seen a b Memory none counts = ((counts, refl), inl refl)

  failed_file : (order : Order) (files files' : Option Files) (before now : Around P) (a b : ℕ) (node : Authority) → b ≡ a → IsNodeOf files order.config node
      → EndsOn views node order.post before now ends.NetworkFailed → EndsBy views order (at_moment files a before) (at_moment files' b now) ends.NetworkFailed
  failed_file order files files' before now a b node steady is (rose, stopped) = (rose, steady, (node, is, stopped))

  wanted_file : (order : Order) (files files' : Option Files) (before now : Around P) (a b : ℕ) (node : Authority) → b ≡ a → IsNodeOf files order.config node → now.net.faults ≡ before.net.faults
      → (now ≡ before) ⊎ HasStopped views node order.post.connections (on_port order.post.port before) now ends.Memory
      → EndsBy views order (at_moment files a before) (at_moment files' b now) ends.Memory
  wanted_file order files files' before now a b node steady is same (inl nothing) = ((steady, same), inl nothing)
  wanted_file order files files' before now a b node steady is same (inr stopped) = ((steady, same), inr (node, is, stopped))

  -- the node of the file ended so
  pub ends_with : (order : Order) (files files' : Option Files) (before now : Around P) (a b : ℕ) (node : Authority) (end : ResolverEnd) → b ≡ a
      → IsNodeOf files order.config node → EndsOn views node order.post before now end → EndsBy views order (at_moment files a before) (at_moment files' b now) end
  ends_with order files files' before now a b node (ends.Served pass) steady is (served, same) = ((node, is, served), (steady, same))
  ends_with order files files' before now a b node ends.NetworkFailed steady is failed = failed_file order files files' before now a b node steady is failed
  ends_with order files files' before now a b node ends.Unsettled steady is (rose, stopped) = (rose, steady, (node, is, stopped))
  ends_with order files files' before now a b node ends.Memory steady is (same, wanted) = wanted_file order files files' before now a b node steady is same wanted
  ends_with order files files' before now a b node (ends.Worn pass) steady is (counted, same, stopped) = (counted, ((steady, same), (node, is, stopped)))
  ends_with order files files' before now a b node ends.Input steady is of = absurd of
  ends_with order files files' before now a b node ends.StoreFailed steady is of = absurd of

  -- all were served by the node of what was opened
  pub has_served : (node : Authority) (opened : Opened) (part : ResolverPart) (connections : ℕ) (before now : Around P) (first joined : CommonsKnown)
      → IsOpenedFrom node opened → opened.node.resolver ≡ Some part → HasSeenNothing first
      → ServesAll (setup views opened.node opened.routes) opened.workers connections (standing before.net first before.clock) (standing now.net joined now.clock)
      → IsHistory ShelfStep [] BookStep (opened_book part.commons) joined → HasServed views node connections before now joined
  has_served node opened part connections before now first joined is has unseen serves history =
      let same : part ≡ is.is_full.part = cc (sym has ∙ is.is_full.has) in
      let all : ServesAll (setup views opened.node is.resolver.routes) is.resolver.workers connections (standing before.net first before.clock) (standing now.net joined now.clock) =
      subst (λ routes. ServesAll (setup views opened.node routes) is.resolver.workers connections (standing before.net first before.clock) (standing now.net joined now.clock)) is.routes
      (subst (λ workers. ServesAll (setup views opened.node opened.routes) workers connections (standing before.net first before.clock) (standing now.net joined now.clock)) is.workers serves) in
      let owned = owns_all (setup views opened.node is.resolver.routes) (standing before.net first before.clock) all.0 (standing now.net joined now.clock) (opened_book part.commons) unseen all.2 history in
      record {
        resolver = is.resolver;
        full = opened.node;
        is_full = is.is_full;
        first = first;
        unseen = unseen;
        serves = all;
        in_order = in_order (setup views opened.node is.resolver.routes) (standing before.net first before.clock) all.0 (standing now.net joined now.clock) all.2;
        history = subst (λ book. IsHistory ShelfStep [] BookStep book joined) (ap (λ (p : ResolverPart). opened_book p.commons) same ∙ is.is_full.is.opened) history;
        owned = owned;
        made = made_all (setup views opened.node is.resolver.routes) (standing before.net first before.clock) all.0 (standing now.net joined now.clock) unseen all.2 owned;
      }

  -- fewer were, and then a batch stopped
  has_stopped : (node : Authority) (opened : Opened) (part : ResolverPart) (connections : ℕ) (before now : Around P) (first last : CommonsKnown) (end : ResolverEnd)
      → IsOpenedFrom node opened → opened.node.resolver ≡ Some part → HasSeenNothing first → (left : ℕ) → 0 < left → (then : Standing P)
      → ServesSome (setup views opened.node opened.routes) opened.workers connections left (standing before.net first before.clock) then
      → StopsIn (setup views opened.node opened.routes) (min opened.workers left) then (standing now.net last now.clock) end
      → IsHistory ShelfStep [] BookStep (opened_book part.commons) last → HasStopped views node connections before now end
  has_stopped node opened part connections before now first last end is has unseen left fewer then serves stops history =
      let same : part ≡ is.is_full.part = cc (sym has ∙ is.is_full.has) in
      let some : ServesSome (setup views opened.node is.resolver.routes) is.resolver.workers connections left (standing before.net first before.clock) then =
      subst (λ routes. ServesSome (setup views opened.node routes) is.resolver.workers connections left (standing before.net first before.clock) then) is.routes
      (subst (λ workers. ServesSome (setup views opened.node opened.routes) workers connections left (standing before.net first before.clock) then) is.workers serves) in
      record {
        resolver = is.resolver;
        full = opened.node;
        is_full = is.is_full;
        first = first;
        unseen = unseen;
        left = left;
        fewer = fewer;
        then = then;
        serves = some;
        in_order = in_order (setup views opened.node is.resolver.routes) (standing before.net first before.clock) some.0 then some.2;
        last = last;
        stops =
            subst (λ routes. StopsIn (setup views opened.node routes) (min is.resolver.workers left) then (standing now.net last now.clock) end) is.routes
            (subst (λ workers. StopsIn (setup views opened.node opened.routes) (min workers left) then (standing now.net last now.clock) end) is.workers stops);
        history = subst (λ book. IsHistory ShelfStep [] BookStep book last) (ap (λ (p : ResolverPart). opened_book p.commons) same ∙ is.is_full.is.opened) history;
      }

  -- it ended so, since serving stopped
  by_stop : (node : Authority) (connections : ℕ) (before now : Around P) (last : CommonsKnown) (why : Stop) (end : ResolverEnd) → IsEndOf why last end
      → StopsBy before.net.faults now.net.faults last (Err why) → HasStopped views node connections before now end → EndsServing views node connections before now end
  by_stop node connections before now last stop.Network ends.NetworkFailed of by stopped = (by, stopped)
  by_stop node connections before now last stop.Unsettled ends.Unsettled of by stopped = (by, stopped)
  by_stop node connections before now last stop.Memory ends.Memory of by stopped = (by, stopped)
  by_stop node connections before now last stop.Worn (ends.Worn pass) of (same, counted) stopped = (subst (λ k. HasCounted k call_limit) (sym of) counted, same, stopped)
  by_stop node connections before now last why end of by stopped = absurd of

  pub ends_stopped : (node : Authority) (opened : Opened) (part : ResolverPart) (connections : ℕ) (before now : Around P) (first last : CommonsKnown) (why : Stop) (end : ResolverEnd)
      → IsOpenedFrom node opened → opened.node.resolver ≡ Some part → HasSeenNothing first → IsEndOf why last end → StopsBy before.net.faults now.net.faults last (Err why)
      → StopsAfter (setup views opened.node opened.routes) opened.workers connections (standing before.net first before.clock) (standing now.net last now.clock) (Err why)
      → IsHistory ShelfStep [] BookStep (opened_book part.commons) last → EndsServing views node connections before now end
  ends_stopped node opened part connections before now first last why end is has unseen of by (left, fewer, then, serves, stops) history =
      by_stop node connections before now last why end of by
      (has_stopped node opened part connections before now first last end is has unseen left fewer then serves
      (stops_in (setup views opened.node opened.routes) (min opened.workers left) then (standing now.net last now.clock) why end of stops) history)

  -- on the port that was taken, it ended as it did on a port
  ends_post : (node : Authority) (post : Post) (before now : Around P) (end : ResolverEnd) → EndsServing views node post.connections (on_port post.port before) now end
      → EndsOn views node post before now end
  ends_post node post before now ends.NetworkFailed (rose, stopped) = (rose, inr stopped)
  ends_post node post before now ends.Memory (same, stopped) = (same, inr stopped)
  ends_post node post before now end is = is

-- what was opened is the node with its part
pub opened_from : (node : Authority) (parts : Parts) (part : ResolverPart) (opened : Opened) → ArePartsOf node parts → part.signer ≡ parts.signer → part.control ≡ parts.control
    → opened_book part.commons ≡ opened_with parts.anchors → opened.node ≡ record { registry = node; resolver = Some part } → opened.routes ≡ parts.routes
    → opened.workers ≡ parts.workers → IsOpenedFrom node opened
opened_from node parts part opened are signer control book is routes workers = record {
  resolver = are.resolver;
  is_full = record {
    resolves = are.resolves;
    registry = ap (λ (n : Node). n.registry) is;
    part = part;
    has = ap (λ (n : Node). n.resolver) is;
    is = record {
      keys = are.keys;
      signs = are.signs;
      signer = signer ∙ are.signer;
      control = ap (λ (set : JwkSet). set.keys) control ∙ are.control;
      anchors = parts.anchors;
      listed = are.listed;
      opened = book;
    };
  };
  routes = routes ∙ are.routes;
  workers = workers ∙ are.workers;
}

-- the network listens, and else is as before
pub listened : {P : Type 0} (port : ℕ) (p q : Option ℕ) (e e' : Option (List Exchange)) (c c' s s' : Option (List P)) (f f' : ℕ) (clock : ClockAt) → p ≡ Some port → e' ≡ e → c' ≡ c → s' ≡ s → f' ≡ f
    → around (network_at p e' c' s' f') clock ≡ on_port port (around (network_at q e c s f) clock)
listened port p q e e' c c' s s' f f' clock h1 h2 h3 h4 h5 =
    ap (λ x. around (network_at x e' c' s' f') clock) h1 ∙ ap (λ x. around (network_at (Some port) x c' s' f') clock) h2 ∙ ap (λ x. around (network_at (Some port) e x s' f') clock) h3
    ∙ ap (λ x. around (network_at (Some port) e c x f') clock) h4 ∙ ap (λ x. around (network_at (Some port) e c s x) clock) h5

-- the network failed, and else is as before
pub unheard : {P : Type 0} (p q : Option ℕ) (e e' : Option (List Exchange)) (c c' s s' : Option (List P)) (f f' : ℕ) (clock : ClockAt) → p ≡ q → e' ≡ e → c' ≡ c → s' ≡ s
    → around (network_at p e' c' s' f') clock ≡ with_faults f' (around (network_at q e c s f) clock)
unheard p q e e' c c' s s' f f' clock h1 h2 h3 h4 =
    ap (λ x. around (network_at x e' c' s' f') clock) h1 ∙ ap (λ x. around (network_at q x c' s' f') clock) h2 ∙ ap (λ x. around (network_at q e x s' f') clock) h3
    ∙ ap (λ x. around (network_at q e c x f') clock) h4

pub ends_from : {P N C : Type 0} (views : ServiceViews P N C) (node : Authority) (post : Post) (before before' now : Around P) (end : ResolverEnd) → before' ≡ on_port post.port before
    → EndsServing views node post.connections before' now end → EndsOn views node post before now end
ends_from views node post before before' now end same ends = ends_post views node post before now end (subst (λ b. EndsServing views node post.connections b now end) same ends)
