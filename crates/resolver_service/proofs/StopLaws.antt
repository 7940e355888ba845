-- Desks that are ended one after the other, and batches that stopped.
use Rattle.std.proofs.Common.{◌≡◌, ◌<◌, ℕ, List, [], ◌∷◌, ◌++◌, length, Bool, true, false, Option, Result, Ok, Err, inl, inr, refl, sym, ap, ◌∙◌, subst}
use Rattle.std.specs.Prelude.{◌⊎◌, All, OnErr, OnOk, min}
use Rattle.std.proofs.lemmas.List.Elements.{All-head, All-tail}
use Rattle.fed_base.specs.Counts.{Rose}
use Rattle.fed_base.specs.declared.faults.Failed.{Failed}
use Rattle.fed_base.specs.declared.faults.Memory.{Memory}
use Rattle.fed_base.specs.declared.ledger.Plain.{Plain}
use Rattle.fed_ports.specs.Causes.{HasCause}
use Rattle.fed_ports.specs.Lists.{Added, Gave}
use Rattle.fed_ports.specs.Times.{ClockAt, IsOneReading}
use Rattle.http_plain.specs.declared.link.HttpLink.{HttpLink}
use Rattle.http_plain.specs.declared.route.Route.{Route}
use Rattle.turn_log.specs.Groups.{AreJoined, known}
use Rattle.turn_log.specs.Runs.{call_limit}
use Rattle.statement_shelf.specs.Passes.{CommonsKnown, IsPurgeOfSome, IsShelfCall}
use Rattle.statement_shelf.specs.declared.calls.ShelfCall.TheVariants.{Purge}
use Rattle.statement_shelf.specs.declared.calls.ShelfReply.{ShelfReply}
use Rattle.resolve_round.specs.Acts.{HasCounted}
use Rattle.fed_serve.specs.declared.part.ResolverPart.{ResolverPart}
use Rattle.fed_serve.specs.declared.desk.Desk.{Desk}
use Rattle.fed_serve.specs.declared.node.Node.{Node}
use Rattle.fed_serve.specs.Desks.{IsServedAt, ServesMany, Views, desks_at}
use Rattle.http_plain.specs.Networks.{NetworkAt}
use Rattle.resolver_service.specs.declared.stop.Stop.{Stop}
use Rattle.resolver_service.specs.declared.stop.Stop.TheVariants as stop
use Rattle.resolver_service.specs.Batches.{AreEnded, IsNewDesk, Progress, ServesDesks, ServiceViews, Setup, Standing, at_desks, is_worn, peers_at, peers_of, progress, setup, standing}
use Rattle.resolver_service.specs.Stopped.{AddsSome, AreSomeOf, IsBegun, IsWornAt, ServesPart, ServesSome}
use Rattle.resolver_service.specs.Steps.{EndInTurn, EndsDesk, IfWorn, IsDone, IsPurged, Settles, StopsAfter, StopsBatch, StopsBy, StopsDesks, StopsPurge, Takes, memory_first, network_first}
use Rattle.resolver_service.proofs.DeskLaws.{added_after, added_none, ended_more, ended_none, serves_desks, stops_of}

-- ---- the pass at one desk

pub takes_worn : (worn : Bool) (old own : CommonsKnown) → worn ≡ true → Takes (Ok tt) worn old own own (Err stop.Worn)
takes_worn true old own is = (refl, refl)
takes_worn false old own is = absurd (cc is)

pub takes_joined : (worn : Bool) (old own new : CommonsKnown) → worn ≡ false → AreJoined old own new → Takes (Ok tt) worn old own new (Ok tt)
takes_joined true old own new is joined = absurd (cc is)
takes_joined false old own new is joined = (refl, joined)

pub takes_none : (so_far : Result Unit Stop) (why : Stop) (worn : Bool) (old own : CommonsKnown) → so_far ≡ Err why → Takes so_far worn old own old (Err why)
takes_none so_far why worn old own is = subst (λ r. Takes r worn old own old (Err why)) (sym is) (refl, refl)

pub takes_same : (so_far one : Result Unit Stop) (worn : Bool) (old own new : CommonsKnown) (taken : Result Unit Stop) → so_far ≡ one → Takes one worn old own new taken
    → Takes so_far worn old own new taken
takes_same so_far one worn old own new taken is takes = subst (λ r. Takes r worn old own new taken) (sym is) takes

-- ---- one desk

settles_of : {P : Type 0} (settled : Result Unit Memory) (taken result : Result Unit Stop) (peers : List P) (old new : Option (List P)) → result ≡ memory_first taken settled
    → OnOk settled (Added old peers new) → OnErr settled (new ≡ old) → Settles taken peers old new result
settles_of (Ok done) taken result peers old new is added same = inl (is, added)
settles_of (Err wanting) taken result peers old new is added same = inr (is, same)

module _ {P L C G : Type 0} where
  pub ends_desk : (desk : Desk P L C G) (before now : Progress P) (so_far taken result : Result Unit Stop) (settled : Result Unit Memory) (worn : Bool) (own : CommonsKnown) (peer : Option P)
      → worn ≡ is_worn desk.result → own ≡ known desk.pass → peer ≡ desk.peer → Takes so_far worn before.known own now.known taken
      → OnOk settled (Added before.net.settled (peers_of peer) now.net.settled) → OnErr settled (now.net.settled ≡ before.net.settled) → result ≡ memory_first taken settled
      → EndsDesk desk before now so_far result
  ends_desk desk before now so_far taken result settled worn own peer is_it knows has takes added same is = record {
    taken = taken;
    takes = subst (λ w. Takes so_far w before.known (known desk.pass) now.known taken) is_it (subst (λ k. Takes so_far worn before.known k now.known taken) knows takes);
    settles =
        settles_of settled taken result (peers_of desk.peer) before.net.settled now.net.settled is
        (subst (λ p. OnOk settled (Added before.net.settled (peers_of p) now.net.settled)) has added) same;
  }

  -- ---- desks, one after the other

  -- what is left to be done at the first desk and those behind it is, once it is done there, left to be done at those behind it
  pub ending_next : (desk : Desk P L C G) (items rest all : List (Desk P L C G)) (first a b : Progress P) (so_far by : Result Unit Stop) → items ≡ desk ∷ rest
      → ((last : Progress P) (result : Result Unit Stop) → EndInTurn items a so_far last result → EndInTurn all first (Ok tt) last result) → EndsDesk desk a b so_far by
      → (last : Progress P) (result : Result Unit Stop) → EndInTurn rest b by last result → EndInTurn all first (Ok tt) last result
  ending_next desk items rest all first a b so_far by is inv one last result more =
      inv last result (subst (λ (ds : List (Desk P L C G)). EndInTurn ds a so_far last result) (sym is) (b, by, one, more))

  -- where nothing is left to be done, all is
  pub ending_all : (rest all : List (Desk P L C G)) (first a : Progress P) (so_far : Result Unit Stop) → rest ≡ []
      → ((last : Progress P) (result : Result Unit Stop) → EndInTurn rest a so_far last result → EndInTurn all first (Ok tt) last result) → EndInTurn all first (Ok tt) a so_far
  ending_all rest all first a so_far none inv = inv a so_far (subst (λ (ds : List (Desk P L C G)). EndInTurn ds a so_far a so_far) (sym none) (refl, refl))

-- ---- all settled

-- no memory was wanting
abbrev HasSettled : Result Unit Stop → Type 0
HasSettled (Ok done) = Unit {0}
HasSettled (Err stop.Worn) = Unit {0}
HasSettled (Err why) = ⊥

took_settled : (so_far taken : Result Unit Stop) (worn : Bool) (old own new : CommonsKnown) → Takes so_far worn old own new taken → HasSettled taken → HasSettled so_far
took_settled (Ok done) taken worn old own new takes has = tt
took_settled (Err why) taken worn old own new (is, same) has = subst HasSettled is has

module _ {P L C G : Type 0} where
  settled_by : (desk : Desk P L C G) (a b : Progress P) (so_far by taken : Result Unit Stop) → Takes so_far (is_worn desk.result) a.known (known desk.pass) b.known taken
      → Settles taken (peers_of desk.peer) a.net.settled b.net.settled by → HasSettled by → HasSettled so_far × Added a.net.settled (peers_of desk.peer) b.net.settled
  settled_by desk a b so_far by taken takes (inl (is, added)) has =
      (took_settled so_far taken (is_worn desk.result) a.known (known desk.pass) b.known takes (subst HasSettled is has), added)
  settled_by desk a b so_far by taken takes (inr (is, same)) has = absurd (subst HasSettled is has)

  ended_settled : (desks : List (Desk P L C G)) (a b : Progress P) (so_far result : Result Unit Stop) → EndInTurn desks a so_far b result → HasSettled result
      → HasSettled so_far × Added a.net.settled (peers_at desks) b.net.settled
  ended_settled [] a b so_far result (same, is) has =
      (subst HasSettled is has, subst (λ (p : Progress P). Added a.net.settled [] p.net.settled) (sym same) (added_none a.net.settled))
  ended_settled (desk ∷ desks) a b so_far result (mid, by, one, more) has =
      let rest = ended_settled desks mid b by result more has in
      let first = settled_by desk a mid so_far by one.taken one.takes one.settles rest.0 in
      (first.0, added_after (peers_of desk.peer) (peers_at desks) a.net.settled mid.net.settled b.net.settled first.1 rest.1)

-- ---- some settled

some_both : {A : Type 0} (xs some all : List A) → AreSomeOf some all → AreSomeOf (xs ++ some) (xs ++ all)
some_both [] some all are = are
some_both (x ∷ xs) some all are = inr (xs ++ some, refl, some_both xs some all are)

some_skip : {A : Type 0} (xs some all : List A) → AreSomeOf some all → AreSomeOf some (xs ++ all)
some_skip [] some all are = are
some_skip (x ∷ xs) some all are = inl (some_skip xs some all are)

some_after : {P : Type 0} (taken by : Result Unit Stop) (peers all : List P) (a b c : Option (List P)) → Settles taken peers a b by → AddsSome b all c → AddsSome a (peers ++ all) c
some_after taken by peers all a b c (inl (is, added)) (some, are, more) = (peers ++ some, some_both peers some all are, added_after peers some a b c added more)
some_after taken by peers all a b c (inr (is, same)) (some, are, more) = (some, some_skip peers some all are, subst (λ old. Added old some c) same more)

module _ {P L C G : Type 0} where
  ended_some : (desks : List (Desk P L C G)) (a b : Progress P) (so_far result : Result Unit Stop) → EndInTurn desks a so_far b result
      → AddsSome a.net.settled (peers_at desks) b.net.settled
  ended_some [] a b so_far result (same, is) = ([], refl, subst (λ (p : Progress P). Added a.net.settled [] p.net.settled) (sym same) (added_none a.net.settled))
  ended_some (desk ∷ desks) a b so_far result (mid, by, one, more) =
      some_after one.taken by (peers_of desk.peer) (peers_at desks) a.net.settled mid.net.settled b.net.settled one.settles (ended_some desks mid b by result more)

-- ---- a worn object

took_worn : (so_far taken : Result Unit Stop) (worn : Bool) (old own new : CommonsKnown) → Takes so_far worn old own new taken → taken ≡ Err stop.Worn
    → ((so_far ≡ Err stop.Worn) × (new ≡ old)) ⊎ ((worn ≡ true) × (own ≡ new))
took_worn (Err why) taken worn old own new (is, same) w = inl (sym is ∙ w, same)
took_worn (Ok done) taken true old own new (is, same) w = inr (refl, sym same)
took_worn (Ok done) taken false old own new (is, joined) w = absurd (subst (λ (r : Result Unit Stop). OnOk r ⊥) (sym w ∙ is) tt)

module _ {P L C G : Type 0} where
  worn_by : (desk : Desk P L C G) (a b : Progress P) (so_far by taken : Result Unit Stop) → Takes so_far (is_worn desk.result) a.known (known desk.pass) b.known taken
      → Settles taken (peers_of desk.peer) a.net.settled b.net.settled by → by ≡ Err stop.Worn
      → ((so_far ≡ Err stop.Worn) × (b.known ≡ a.known)) ⊎ ((is_worn desk.result ≡ true) × (known desk.pass ≡ b.known))
  worn_by desk a b so_far by taken takes (inl (is, added)) w = took_worn so_far taken (is_worn desk.result) a.known (known desk.pass) b.known takes (sym is ∙ w)
  worn_by desk a b so_far by taken takes (inr (is, same)) w = absurd (subst HasSettled (sym w ∙ is) tt)

  worn_here : (desk : Desk P L C G) (desks : List (Desk P L C G)) (a mid b : Progress P) (so_far : Result Unit Stop) → b.known ≡ mid.known
      → ((so_far ≡ Err stop.Worn) × (mid.known ≡ a.known)) ⊎ ((is_worn desk.result ≡ true) × (known desk.pass ≡ mid.known))
      → ((so_far ≡ Err stop.Worn) × (b.known ≡ a.known)) ⊎ IsWornAt b.known (desk ∷ desks)
  worn_here desk desks a mid b so_far same (inl (w, knows)) = inl (w, same ∙ knows)
  worn_here desk desks a mid b so_far same (inr (w, knows)) = inr (inl (w, knows ∙ sym same))

  worn_first : (desk : Desk P L C G) (desks : List (Desk P L C G)) (a mid b : Progress P) (so_far by : Result Unit Stop) → EndsDesk desk a mid so_far by
      → ((by ≡ Err stop.Worn) × (b.known ≡ mid.known)) ⊎ IsWornAt b.known desks → ((so_far ≡ Err stop.Worn) × (b.known ≡ a.known)) ⊎ IsWornAt b.known (desk ∷ desks)
  worn_first desk desks a mid b so_far by one (inl (w, same)) =
      worn_here desk desks a mid b so_far same (worn_by desk a mid so_far by one.taken one.takes one.settles w)
  worn_first desk desks a mid b so_far by one (inr later) = inr (inr later)

  -- where it stopped for a worn object, it had before, or the pass is that of one of the desks
  ended_worn : (desks : List (Desk P L C G)) (a b : Progress P) (so_far result : Result Unit Stop) → EndInTurn desks a so_far b result → result ≡ Err stop.Worn
      → ((so_far ≡ Err stop.Worn) × (b.known ≡ a.known)) ⊎ IsWornAt b.known desks
  ended_worn [] a b so_far result (same, is) w = inl (sym is ∙ w, ap (λ (p : Progress P). p.known) same)
  ended_worn (desk ∷ desks) a b so_far result (mid, by, one, more) w = worn_first desk desks a mid b so_far by one (ended_worn desks mid b by result more w)

  at_desk : (desks : List (Desk P L C G)) (a b : Progress P) (so_far : Result Unit Stop) → so_far ≡ Ok tt → ((so_far ≡ Err stop.Worn) × (b.known ≡ a.known)) ⊎ IsWornAt b.known desks
      → IsWornAt b.known desks
  at_desk desks a b so_far ok (inl (w, same)) = absurd (subst (λ (r : Result Unit Stop). OnErr r ⊥) (sym ok ∙ w) tt)
  at_desk desks a b so_far ok (inr at) = at

  worn_at : (desks : List (Desk P L C G)) (a b : Progress P) → EndInTurn desks a (Ok tt) b (Err stop.Worn) → IsWornAt b.known desks
  worn_at desks a b turn = at_desk desks a b (Ok tt) refl (ended_worn desks a b (Ok tt) (Err stop.Worn) turn refl)

  counted_at : (part : ResolverPart) (desks : List (Desk P L C G)) (knows : CommonsKnown) → All (IsDone part) desks → IsWornAt knows desks → HasCounted knows call_limit
  counted_at part [] knows done at = absurd at
  counted_at part (desk ∷ desks) knows done (inl (w, same)) = subst (λ k. HasCounted k call_limit) same ((All-head (IsDone part) desk desks done).worn w)
  counted_at part (desk ∷ desks) knows done (inr later) = counted_at part desks knows (All-tail (IsDone part) desk desks done) later

-- ---- the network isn't asked for anybody

abbrev IsOfDesks : Result Unit Stop → Type 0
IsOfDesks (Ok done) = Unit {0}
IsOfDesks (Err stop.Memory) = Unit {0}
IsOfDesks (Err stop.Worn) = Unit {0}
IsOfDesks (Err why) = ⊥

took_only : (so_far taken : Result Unit Stop) (worn : Bool) (old own new : CommonsKnown) → Takes so_far worn old own new taken → IsOfDesks so_far → IsOfDesks taken
took_only (Err why) taken worn old own new (is, same) of = subst IsOfDesks (sym is) of
took_only (Ok done) taken true old own new (is, same) of = subst IsOfDesks (sym is) tt
took_only (Ok done) taken false old own new (is, joined) of = subst IsOfDesks (sym is) tt

settled_only : {P : Type 0} (taken by : Result Unit Stop) (peers : List P) (old new : Option (List P)) → Settles taken peers old new by → IsOfDesks taken → IsOfDesks by
settled_only taken by peers old new (inl (is, added)) of = subst IsOfDesks (sym is) of
settled_only taken by peers old new (inr (is, same)) of = subst IsOfDesks (sym is) tt

module _ {P L C G : Type 0} where
  ended_only : (desks : List (Desk P L C G)) (a b : Progress P) (so_far result : Result Unit Stop) → EndInTurn desks a so_far b result → IsOfDesks so_far → IsOfDesks result
  ended_only [] a b so_far result (same, is) of = subst IsOfDesks (sym is) of
  ended_only (desk ∷ desks) a b so_far result (mid, by, one, more) of =
      ended_only desks mid b by result more
      (settled_only one.taken by (peers_of desk.peer) a.net.settled mid.net.settled one.settles
      (took_only so_far one.taken (is_worn desk.result) a.known (known desk.pass) mid.known one.takes of))

  pub ended_if_worn : (part : ResolverPart) (desks : List (Desk P L C G)) (a b : Progress P) (result : Result Unit Stop) → All (IsDone part) desks → EndInTurn desks a (Ok tt) b result
      → IfWorn b.known result
  ended_if_worn part desks a b (Ok done) all turn = tt
  ended_if_worn part desks a b (Err stop.Memory) all turn = tt
  ended_if_worn part desks a b (Err stop.Worn) all turn = counted_at part desks b.known all (worn_at desks a b turn)
  ended_if_worn part desks a b (Err stop.Network) all turn = ended_only desks a b (Ok tt) (Err stop.Network) turn tt
  ended_if_worn part desks a b (Err stop.Unsettled) all turn = ended_only desks a b (Ok tt) (Err stop.Unsettled) turn tt

-- ---- all of it done

abbrev IsFine : Result Unit Stop → Type 0
IsFine (Ok done) = Unit {0}
IsFine (Err why) = ⊥

took_fine : (so_far taken : Result Unit Stop) (worn : Bool) (old own new : CommonsKnown) → Takes so_far worn old own new taken → IsFine taken
    → IsFine so_far × (worn ≡ false) × AreJoined old own new
took_fine (Err why) taken worn old own new (is, same) fine = absurd (subst IsFine is fine)
took_fine (Ok done) taken true old own new (is, same) fine = absurd (subst IsFine is fine)
took_fine (Ok done) taken false old own new (is, joined) fine = (tt, refl, joined)

module _ {P L C G : Type 0} where
  fine_by : (desk : Desk P L C G) (a b : Progress P) (so_far by taken : Result Unit Stop) → Takes so_far (is_worn desk.result) a.known (known desk.pass) b.known taken
      → Settles taken (peers_of desk.peer) a.net.settled b.net.settled by → IsFine by
      → IsFine so_far × (is_worn desk.result ≡ false) × AreJoined a.known (known desk.pass) b.known × Added a.net.settled (peers_of desk.peer) b.net.settled
  fine_by desk a b so_far by taken takes (inl (is, added)) fine =
      let took = took_fine so_far taken (is_worn desk.result) a.known (known desk.pass) b.known takes (subst IsFine is fine) in (took.0, took.1, took.2, added)
  fine_by desk a b so_far by taken takes (inr (is, same)) fine = absurd (subst IsFine is fine)

  ended_fine : (desks : List (Desk P L C G)) (a b : Progress P) (so_far result : Result Unit Stop) → EndInTurn desks a so_far b result → IsFine result → IsFine so_far × AreEnded desks a b
  ended_fine [] a b so_far result (same, is) fine = (subst IsFine is fine, subst (λ (p : Progress P). AreEnded {P = P} {L = L} {C = C} {G = G} [] a p) (sym same) (ended_none a))
  ended_fine (desk ∷ desks) a b so_far result (mid, by, one, more) fine =
      let rest = ended_fine desks mid b by result more fine in
      let first = fine_by desk a mid so_far by one.taken one.takes one.settles rest.0 in
      (first.0, ended_more desk desks a mid b first.1 first.2 first.3 rest.1)

-- ---- a batch's desks

module _ {P L C G : Type 0} (views : Views P L C G) (node : Node) (desks served : List (Desk P L C G)) (a b c : NetworkAt P) (k k' : CommonsKnown) where
  -- all were served, whole
  pub serves_ended : (items : List (Desk P L C G)) (many : Result Unit Failed) (ended result : Result Unit Stop) → result ≡ network_first many ended → items ≡ served
      → ServesMany (IsServedAt views node) (desks_at a desks) (desks_at b served) many → EndInTurn items (progress b k) (Ok tt) (progress c k') ended
      → c.callers ≡ b.callers → c.port ≡ b.port → c.exchanges ≡ b.exchanges → c.faults ≡ b.faults → OnOk result (ServesDesks views node desks (progress a k) (progress c k'))
  serves_ended items (Ok done) (Ok all) result is same serves turn callers port exchanges faults =
      subst (λ r. OnOk r (ServesDesks views node desks (progress a k) (progress c k'))) (sym is)
      (serves_desks views node desks items served a b c k k' (Ok done) (Ok all) refl same serves (ended_fine items (progress b k) (progress c k') (Ok tt) (Ok all) turn tt).1 callers port exchanges faults)
  serves_ended items (Ok done) (Err why) result is same serves turn callers port exchanges faults =
      subst (λ r. OnOk r (ServesDesks views node desks (progress a k) (progress c k'))) (sym is) tt
  serves_ended items (Err failed) (Ok all) result is same serves turn callers port exchanges faults =
      subst (λ r. OnOk r (ServesDesks views node desks (progress a k) (progress c k'))) (sym is) tt
  serves_ended items (Err failed) (Err stop.Memory) result is same serves turn callers port exchanges faults =
      subst (λ r. OnOk r (ServesDesks views node desks (progress a k) (progress c k'))) (sym is) tt
  serves_ended items (Err failed) (Err why) result is same serves turn callers port exchanges faults =
      subst (λ r. OnOk r (ServesDesks views node desks (progress a k) (progress c k'))) (sym is) tt

  abbrev part_of : (many : Result Unit Failed) → ServesMany (IsServedAt views node) (desks_at a desks) (desks_at b served) many → c.callers ≡ b.callers → c.port ≡ b.port
      → c.exchanges ≡ b.exchanges → ServesPart views node desks a c
  part_of many serves callers port exchanges = record {
    peers = serves.peers;
    served = served;
    accepted = subst (Gave a.callers serves.peers) (sym callers) serves.accepted;
    each = serves.served;
    port = port ∙ serves.port;
    exchanges = exchanges ∙ serves.exchanges;
  }

  all_of : (many : Result Unit Failed) (ended : Result Unit Stop) → ServesMany (IsServedAt views node) (desks_at a desks) (desks_at b served) many
      → EndInTurn served (progress b k) (Ok tt) (progress c k') ended → HasSettled ended → Added a.settled (peers_at served) c.settled
  all_of many ended serves turn has =
      subst (λ old. Added old (peers_at served) c.settled) serves.settled (ended_settled served (progress b k) (progress c k') (Ok tt) ended turn has).1

  some_of : (many : Result Unit Failed) (ended : Result Unit Stop) → ServesMany (IsServedAt views node) (desks_at a desks) (desks_at b served) many
      → EndInTurn served (progress b k) (Ok tt) (progress c k') ended → AddsSome a.settled (peers_at served) c.settled
  some_of many ended serves turn =
      subst (λ old. AddsSome old (peers_at served) c.settled) serves.settled (ended_some served (progress b k) (progress c k') (Ok tt) ended turn)

  stops_as : (many : Result Unit Failed) (ended : Result Unit Stop) → ServesMany (IsServedAt views node) (desks_at a desks) (desks_at b served) many
      → EndInTurn served (progress b k) (Ok tt) (progress c k') ended → c.callers ≡ b.callers → c.port ≡ b.port → c.exchanges ≡ b.exchanges
      → StopsDesks views node desks (progress a k) (progress c k') (network_first many ended)
  stops_as (Ok done) (Ok all) serves turn callers port exchanges = tt
  stops_as (Ok done) (Err stop.Memory) serves turn callers port exchanges =
      (part_of (Ok done) serves callers port exchanges, serves.all, some_of (Ok done) (Err stop.Memory) serves turn)
  stops_as (Ok done) (Err stop.Worn) serves turn callers port exchanges =
      (part_of (Ok done) serves callers port exchanges, serves.all, all_of (Ok done) (Err stop.Worn) serves turn tt, worn_at served (progress b k) (progress c k') turn)
  stops_as (Ok done) (Err stop.Network) serves turn callers port exchanges = absurd (ended_only served (progress b k) (progress c k') (Ok tt) (Err stop.Network) turn tt)
  stops_as (Ok done) (Err stop.Unsettled) serves turn callers port exchanges = absurd (ended_only served (progress b k) (progress c k') (Ok tt) (Err stop.Unsettled) turn tt)
  stops_as (Err failed) (Ok all) serves turn callers port exchanges =
      (part_of (Err failed) serves callers port exchanges, serves.fewer, all_of (Err failed) (Ok all) serves turn tt)
  stops_as (Err failed) (Err stop.Memory) serves turn callers port exchanges =
      (part_of (Err failed) serves callers port exchanges, serves.fewer, some_of (Err failed) (Err stop.Memory) serves turn)
  stops_as (Err failed) (Err stop.Worn) serves turn callers port exchanges =
      (part_of (Err failed) serves callers port exchanges, serves.fewer, all_of (Err failed) (Err stop.Worn) serves turn tt)
  stops_as (Err failed) (Err stop.Network) serves turn callers port exchanges = absurd (ended_only served (progress b k) (progress c k') (Ok tt) (Err stop.Network) turn tt)
  stops_as (Err failed) (Err stop.Unsettled) serves turn callers port exchanges = absurd (ended_only served (progress b k) (progress c k') (Ok tt) (Err stop.Unsettled) turn tt)

  -- some were accepted and served, and then not all were, or not all of them settled
  pub stops_desks : (items : List (Desk P L C G)) (many : Result Unit Failed) (ended result : Result Unit Stop) → result ≡ network_first many ended → items ≡ served
      → ServesMany (IsServedAt views node) (desks_at a desks) (desks_at b served) many → EndInTurn items (progress b k) (Ok tt) (progress c k') ended
      → c.callers ≡ b.callers → c.port ≡ b.port → c.exchanges ≡ b.exchanges → StopsDesks views node desks (progress a k) (progress c k') result
  stops_desks items many ended result is same serves turn callers port exchanges =
      subst (StopsDesks views node desks (progress a k) (progress c k')) (sym is)
      (stops_as many ended serves (subst (λ (ds : List (Desk P L C G)). EndInTurn ds (progress b k) (Ok tt) (progress c k') ended) same turn) callers port exchanges)

-- ---- faults

pub cause_err : (before now : ℕ) (result : Result Unit Failed) (failed : Failed) → result ≡ Err failed → HasCause before now result → Rose before now
cause_err before now result failed is cause = subst (λ r. OnErr r (Rose before now)) is cause.failed

stops_so : (before mid now : ℕ) (k : CommonsKnown) (many : Result Unit Failed) (ended : Result Unit Stop) → now ≡ mid → HasCause before mid many → IfWorn k ended
    → StopsBy before now k (network_first many ended)
stops_so before mid now k (Ok done) ended same cause worn = stops_of before now k ended (same ∙ cause.same) worn
stops_so before mid now k (Err failed) (Ok all) same cause worn = subst (Rose before) (sym same) cause.failed
stops_so before mid now k (Err failed) (Err stop.Memory) same cause worn = subst (Rose before) (sym same) cause.failed
stops_so before mid now k (Err failed) (Err stop.Worn) same cause worn = subst (Rose before) (sym same) cause.failed
stops_so before mid now k (Err failed) (Err stop.Network) same cause worn = absurd worn
stops_so before mid now k (Err failed) (Err stop.Unsettled) same cause worn = absurd worn

-- the network failed, or nobody but a worn object is to blame
pub stops_first : (before mid now : ℕ) (k : CommonsKnown) (many : Result Unit Failed) (ended result : Result Unit Stop) → result ≡ network_first many ended → now ≡ mid
    → HasCause before mid many → IfWorn k ended → StopsBy before now k result
stops_first before mid now k many ended result is same cause worn = subst (StopsBy before now k) (sym is) (stops_so before mid now k many ended same cause worn)

-- ---- batches

-- a Purge that was worn stopped the batch before anybody was accepted
pub purge_stops : {P N C : Type 0} (s : Setup P N C) (count : ℕ) (net : NetworkAt P) (k k' : CommonsKnown) (clock clock' : ClockAt) (moment : ℕ) (why : Stop) → IsOneReading clock clock'
    → moment ≡ clock'.last → StopsPurge moment k k' (Err why) → StopsBatch s count (standing net k clock) (standing net k' clock') (Err why)
purge_stops s count net k k' clock clock' moment stop.Worn reading is purge =
    inl (record { idle = record { clock = reading; net = refl }; purge = subst (λ m. IsPurgeOfSome m k k') is purge })
purge_stops s count net k k' clock clock' moment stop.Network reading is purge = absurd purge
purge_stops s count net k k' clock clock' moment stop.Unsettled reading is purge = absurd purge
purge_stops s count net k k' clock clock' moment stop.Memory reading is purge = absurd purge

module _ {P N C : Type 0} (views : ServiceViews P N C) (routes : List Route) (node : Node) (a c : NetworkAt P) (k purged split k' : CommonsKnown) (clock clock' : ClockAt) where
  abbrev begun_of : (moment count : ℕ) (desks : List (Desk P (HttpLink N) C Plain)) (dropped : ShelfReply) → IsOneReading clock clock' → moment ≡ clock'.last
      → IsShelfCall (Purge moment) dropped k purged → All (IsNewDesk views routes purged) desks → length desks ≡ count → ServesPart (at_desks views) node desks a c
      → IsBegun (setup views node routes) count (standing a k clock) (standing c k' clock')
  begun_of moment count desks dropped reading is purge new many part = record {
    clock = reading;
    dropped = dropped;
    purged = purged;
    purge = subst (λ m. IsShelfCall (Purge m) dropped k purged) is purge;
    desks = desks;
    many = many;
    new = new;
    serves = part;
  }

  -- one stopped that was begun, by what stopped the serving at its desks
  pub batch_stops : (moment count : ℕ) (desks : List (Desk P (HttpLink N) C Plain)) (result : Result Unit Stop) → IsOneReading clock clock' → moment ≡ clock'.last → IsPurged moment k purged
      → All (IsNewDesk views routes purged) desks → length desks ≡ count → StopsDesks (at_desks views) node desks (progress a split) (progress c k') result
      → StopsBatch (setup views node routes) count (standing a k clock) (standing c k' clock') result
  batch_stops moment count desks (Ok done) reading is purge new many stops = tt
  batch_stops moment count desks (Err stop.Network) reading is (dropped, purge) new many (part, fewer, settled) = record {
    begun = begun_of moment count desks dropped reading is purge new many part;
    fewer = subst (λ n. length part.peers < n) many fewer;
    settled = settled;
  }
  batch_stops moment count desks (Err stop.Unsettled) reading is (dropped, purge) new many (part, fewer, settled) = record {
    begun = begun_of moment count desks dropped reading is purge new many part;
    fewer = subst (λ n. length part.peers < n) many fewer;
    settled = settled;
  }
  batch_stops moment count desks (Err stop.Memory) reading is (dropped, purge) new many (part, all, settled) = inr (record {
    begun = begun_of moment count desks dropped reading is purge new many part;
    all = all ∙ many;
    settled = settled;
  })
  batch_stops moment count desks (Err stop.Worn) reading is (dropped, purge) new many (part, all, settled, pass) = inr (record {
    begun = begun_of moment count desks dropped reading is purge new many part;
    all = all ∙ many;
    settled = settled;
    pass = pass;
  })

-- whole batches were served, and then one stopped
pub stops_after : {P N C : Type 0} (s : Setup P N C) (workers connections left count : ℕ) (a b c : Standing P) (why : Stop) → 0 < left → ServesSome s workers connections left a b
    → count ≡ min workers left → StopsBatch s count b c (Err why) → StopsAfter s workers connections a c (Err why)
stops_after s workers connections left count a b c why some serves least stops = (left, some, b, serves, subst (λ n. StopsBatch s n b c (Err why)) least stops)
