-- Desks before and after a connection was served at each.
use Rattle.std.proofs.Common.{◌≡◌, ◌≤◌, ℕ, suc, List, [], ◌∷◌, ◌++◌, length, map, option_map, true, false, Option, Some, None, Result, Ok, Err, inl, inr, refl, sym, ap, ◌∙◌, subst, append_assoc, append-nil, take, drop, arith}
use Rattle.std.specs.Prelude.{All, IfOk, IfSome, OnOk}
use Rattle.std.proofs.lemmas.List.{drop_all, take_all}
use Rattle.std.proofs.lemmas.List.Elements.{All-append, All-cons, All-head, All-nil, All-tail}
use Rattle.fed_base.specs.declared.faults.Failed.{Failed}
use Rattle.fed_base.specs.declared.ledger.Plain.{Plain}
use Rattle.fed_ports.specs.Causes.{HasCause}
use Rattle.fed_ports.specs.Lists.{Added, Gave}
use Rattle.fed_ports.specs.Times.{ClockAt, IsOneReading}
use Rattle.http_plain.specs.declared.link.HttpLink.{HttpLink}
use Rattle.http_plain.specs.declared.route.Route.{Route}
use Rattle.turn_log.specs.Groups.{AreJoined, IsSame, IsUntaken, known}
use Rattle.turn_log.specs.Passes.{IsSameBut, untaken}
use Rattle.turn_log.specs.Runs.{Account, call_limit}
use Rattle.statement_shelf.specs.Passes.{CommonsKnown, IsPassOfAll, IsPurgeOfSome, IsShelfCall}
use Rattle.statement_shelf.specs.declared.calls.ShelfCall.TheVariants.{Purge}
use Rattle.resolve_round.specs.Acts.{HasCounted, IsKept}
use Rattle.fed_resolver.specs.Calls.{WornOnly}
use Rattle.fed_serve.specs.declared.part.ResolverPart.{ResolverPart}
use Rattle.fed_serve.specs.Resolutions.{CallAt, Walking, call_at}
use Rattle.fed_serve.specs.Rotations.{asked, stranger, untested, worn}
use Rattle.fed_serve.specs.declared.desk.Desk.{Desk}
use Rattle.fed_serve.specs.declared.node.Node.{Node}
use Rattle.fed_serve.specs.declared.served.Served.{Served}
use Rattle.fed_serve.specs.declared.serving.ServeFault.{ServeFault}
use Rattle.fed_serve.specs.declared.serving.ServeFault.TheVariants.{ReadFault, WriteFault, Ended, Worn}
use Rattle.fed_serve.specs.Desks.{AreServedAt, IsFree, IsServedAt, ServesMany, Views, desks_at}
use Rattle.http_plain.specs.Networks.{NetworkAt}
use Rattle.fed_serve.specs.Handlings.{Handling, dealt, issued, not_asked, resolved, unread}
use Rattle.fed_serve.specs.Uses.{IsWornBy, Uses}
use Rattle.resolver_service.specs.declared.stop.Stop.{Stop}
use Rattle.resolver_service.specs.declared.stop.Stop.TheVariants as stop
use Rattle.resolver_service.specs.Batches.{AreEnded, IsNewDesk, Progress, ServesDesks, ServiceViews, at_desks, is_worn, known_at, peers_at, peers_of, progress, setup, standing}
use Rattle.resolver_service.specs.Passes.{AreShared, HasNoCalls, IsCallless}
use Rattle.resolver_service.specs.Steps.{AreMade, IfWorn, IsDone, IsPurged, IsReady, IsServedBatch, StopsBy}

-- ---- a worn object

-- where one was worn, the pass has seen all its calls
counted : (node : Node) (walks : Walking) (t : ℕ) (before now : CallAt) (h : Handling) (count : ℕ) → Uses node walks t before now h → IsWornBy h count → HasCounted now.known call_limit
counted node walks t before now unread count uses is = absurd is
counted node walks t before now not_asked count uses is = absurd is
counted node walks t before now (issued a) count uses is = absurd is
counted node walks t before now (resolved resolution outcome) count (part, has, of) is =
    let only = subst (WornOnly now.known) is of.resolves.worn in
    subst (HasCounted now.known) only.0 only.1
counted node walks t before now (dealt change stranger) count uses is = absurd is
counted node walks t before now (dealt change (asked reply)) count uses is = absurd is
counted node walks t before now (dealt change worn) count (part, has, unlinked, (sealed, adds, all, tests)) is = inl all
counted node walks t before now (dealt change untested) count uses is = absurd is

told_worn : (told : Result Served ServeFault) → is_worn (Some told) ≡ true → (count : ℕ) × (told ≡ Err (Worn count))
told_worn (Ok served) e = absurd (cc e)
told_worn (Err ReadFault) e = absurd (cc e)
told_worn (Err WriteFault) e = absurd (cc e)
told_worn (Err Ended) e = absurd (cc e)
told_worn (Err (Worn count)) e = (count, refl)

-- ---- desks before and after

module _ {P L C G : Type 0} where
  -- a desk of the node's part is one of the node
  pub free_of : (node : Node) (part : ResolverPart) (desk : Desk P L C G) → node.resolver ≡ Some part → IsReady part desk → IsFree node desk
  free_of node part desk has ready = record {
    peer = ready.peer;
    result = ready.result;
    pass = subst (λ o. IfSome o (λ (p : ResolverPart). IsPassOfAll p.commons desk.pass)) (sym has) ready.pass;
  }

  -- nobody was served there
  idle : (part : ResolverPart) (desk : Desk P L C G) → IsReady part desk → IsDone part desk
  idle part desk ready = record { pass = ready.pass; worn = λ e. absurd (cc (sym e ∙ ap is_worn ready.result)) }

  module _ (views : Views P L C G) (knows : (k : CommonsKnown) (l : L) (g : G) → (views.call k l g).known ≡ k) (node : Node) (part : ResolverPart) (has : node.resolver ≡ Some part) where
    -- somebody was
    done : (came : P) (old new : Desk P L C G) → IsServedAt views node came old new → IsDone part new
    done came old new served = record {
      pass = (subst (λ o. IfSome o (λ (p : ResolverPart). IsKept p.commons old.pass new.pass)) has served.kept).of;
      worn = λ e.
          let told = told_worn served.told (sym (ap is_worn served.result) ∙ e) in
          let w = (served.serves.worn told.0 told.1).is in
          subst (λ k. HasCounted k call_limit) (knows (known new.pass) new.link new.steps.ledger) (counted node _ _ _ _ w.handling told.0 w.uses w.worn);
    }

    pub all_done : (peers : List P) (old new : List (Desk P L C G)) → All (IsReady part) old → AreServedAt (IsServedAt views node) peers old new → All (IsDone part) new
    all_done [] old new ready same = subst (All (IsDone part)) (sym same) (λ k d within. idle part _ (ready k d within))
    all_done (p ∷ peers) [] new ready served = absurd served
    all_done (p ∷ peers) (d ∷ old) [] ready served = absurd served
    all_done (p ∷ peers) (d ∷ old) (e ∷ new) ready served =
        All-cons (IsDone part) e new (done p d e served.0) (all_done peers old new (All-tail (IsReady part) d old ready) served.1)

  -- as many desks as before
  pub served_length : (views : Views P L C G) (node : Node) (peers : List P) (old new : List (Desk P L C G)) → AreServedAt (IsServedAt views node) peers old new → length new ≡ length old
  served_length views node [] old new same = ap length same
  served_length views node (p ∷ peers) [] new served = absurd served
  served_length views node (p ∷ peers) (d ∷ old) [] served = absurd served
  served_length views node (p ∷ peers) (d ∷ old) (e ∷ new) served = ap suc (served_length views node peers old new served.1)

-- a list that was borrowed whole is the one that came back
pub whole_again : {X : Type 0} (len : ℕ) (old new : List X) → length old ≤ len → length new ≡ length old → take len (new ++ drop (length new) old) ≡ new
whole_again len old new all same =
    let behind : length old ≤ length new = omega (arith, same) in
    let within : length new ≤ len = omega (arith, same, all) in
    ap (λ ys. take len (new ++ ys)) (drop_all (length new) old behind) ∙ ap (take len) (append-nil new) ∙ take_all len new within

-- ---- what is left of them

pub added_none : {A : Type 0} (a : Option (List A)) → Added a [] a
added_none None = refl
added_none (Some xs) = ap Some (sym (append-nil xs))

pub added_after : {A : Type 0} (xs ys : List A) (a b c : Option (List A)) → Added a xs b → Added b ys c → Added a (xs ++ ys) c
added_after xs ys None b c one next = next ∙ ap (option_map (λ held. held ++ ys)) one
added_after xs ys (Some held) b c one next = next ∙ ap (option_map (λ held. held ++ ys)) one ∙ ap Some (append_assoc held xs ys)

-- without a peer none is settled
pub settled_none : {A : Type 0} (a : Option (List A)) → Added a (peers_of None) a
settled_none a = added_none a

module _ {P L C G : Type 0} where
  pub ended_none : (a : Progress P) → AreEnded {P = P} {L = L} {C = C} {G = G} [] a a
  ended_none a = record { unworn = All-nil (λ (d : Desk P L C G). is_worn d.result ≡ false); settled = added_none a.net.settled; joined = refl }

  pub ended_more : (desk : Desk P L C G) (desks : List (Desk P L C G)) (a b c : Progress P) → is_worn desk.result ≡ false → AreJoined a.known (known desk.pass) b.known
      → Added a.net.settled (peers_of desk.peer) b.net.settled → AreEnded desks b c → AreEnded (desk ∷ desks) a c
  ended_more desk desks a b c unworn joined settled more = record {
    unworn = All-cons (λ (d : Desk P L C G). is_worn d.result ≡ false) desk desks unworn more.unworn;
    settled = added_after (peers_of desk.peer) _ a.net.settled b.net.settled c.net.settled settled more.settled;
    joined = (b.known, joined, more.joined);
  }

  pub done_first : (part : ResolverPart) (items : List (Desk P L C G)) (desk : Desk P L C G) (rest : List (Desk P L C G)) → items ≡ desk ∷ rest → All (IsDone part) items → IsDone part desk
  done_first part items desk rest is all = All-head (IsDone part) desk rest (subst (λ (ds : List (Desk P L C G)). All (IsDone part) ds) is all)

  pub done_rest : (part : ResolverPart) (items : List (Desk P L C G)) (desk : Desk P L C G) (rest : List (Desk P L C G)) → items ≡ desk ∷ rest → All (IsDone part) items → All (IsDone part) rest
  done_rest part items desk rest is all = All-tail (IsDone part) desk rest (subst (λ (ds : List (Desk P L C G)). All (IsDone part) ds) is all)

module _ {P L C G : Type 0} where
  -- all desks were served, whole
  -- what was served at desks that are these
  pub many_as : (views : Views P L C G) (node : Node) (old desks new : List (Desk P L C G)) (a b : NetworkAt P) (result : Result Unit Failed) → old ≡ desks
      → ServesMany (IsServedAt views node) (desks_at a old) (desks_at b new) result → ServesMany (IsServedAt views node) (desks_at a desks) (desks_at b new) result
  many_as views node old desks new a b result same serves = subst (λ (ds : List (Desk P L C G)). ServesMany (IsServedAt views node) (desks_at a ds) (desks_at b new) result) same serves

  pub all_taken : (part : ResolverPart) (items served : List (Desk P L C G)) → items ≡ served → All (IsDone part) served → All (IsDone part) items
  all_taken part items served same done = subst (λ (ds : List (Desk P L C G)). All (IsDone part) ds) (sym same) done

  pub serves_desks : (views : Views P L C G) (node : Node) (desks items served : List (Desk P L C G)) (a b c : NetworkAt P) (k k' : CommonsKnown) (all : Result Unit Failed) (result : Result Unit Stop)
      → all ≡ Ok tt → items ≡ served → ServesMany (IsServedAt views node) (desks_at a desks) (desks_at b served) all → OnOk result (AreEnded items (progress b k) (progress c k'))
      → c.callers ≡ b.callers → c.port ≡ b.port → c.exchanges ≡ b.exchanges → c.faults ≡ b.faults → OnOk result (ServesDesks views node desks (progress a k) (progress c k'))
  serves_desks views node desks items served a b c k k' all (Ok u) is same many ended callers port exchanges faults = record {
    peers = many.peers;
    served = served;
    accepted = subst (Gave a.callers many.peers) (sym callers) many.accepted;
    all = subst (λ r. OnOk r (length many.peers ≡ length desks)) is many.all;
    each = many.served;
    ended =
        let all_ended = subst (λ (ds : List (Desk P L C G)). AreEnded ds (progress b k) (progress c k')) same ended in
        record {
          unworn = all_ended.unworn;
          settled = subst (λ settled. Added settled (peers_at served) c.settled) many.settled all_ended.settled;
          joined = all_ended.joined;
        };
    port = port ∙ many.port;
    exchanges = exchanges ∙ many.exchanges;
    faults = faults ∙ subst (λ r. OnOk r (b.faults ≡ a.faults)) is many.cause.same;
  }
  serves_desks views node desks items served a b c k k' all (Err stop) is same many ended callers port exchanges faults = tt

pub cause_ok : (before now : ℕ) (result : Result Unit Failed) → result ≡ Ok tt → HasCause before now result → now ≡ before
cause_ok before now result is cause = subst (λ r. OnOk r (now ≡ before)) is cause.same

-- without another cause than a worn object the network didn't fail
pub stops_of : (before now : ℕ) (k : CommonsKnown) (result : Result Unit Stop) → now ≡ before → IfWorn k result → StopsBy before now k result
stops_of before now k (Ok u) same is = same
stops_of before now k (Err stop.Network) same is = absurd is
stops_of before now k (Err stop.Unsettled) same is = absurd is
stops_of before now k (Err stop.Memory) same is = same
stops_of before now k (Err stop.Worn) same is = (same, is)

-- ---- passes that are split off, one after the other

pub same_none : (a : CommonsKnown) → IsSame a a
same_none a = record { parts = λ p. record { seen = refl; mine = refl }; book = record { seen = refl; mine = refl } }

but_after : {X Q : Type 0} (a b c : Account X Q) → IsSameBut a b → IsSameBut b c → IsSameBut a c
but_after {X} {Q} a b c one next = record { seen = next.seen ∙ one.seen; mine = next.mine ∙ one.mine }

pub same_after : (a b c : CommonsKnown) → IsSame a b → IsSame b c → IsSame a c
same_after a b c one next = record { parts = λ p. but_after (a.part p) (b.part p) (c.part p) (one.parts p) (next.parts p); book = but_after a.book b.book c.book one.book next.book }

-- ---- desks that were made

-- a Purge that was worn found a part that is
pub worn_purge : (moment count : ℕ) (old new : CommonsKnown) → (count ≡ call_limit) × IsPurgeOfSome moment old new → HasCounted new call_limit
worn_purge moment count old new (same, (counts, few, purged, all)) = inr (length counts, few, all)

pub uncalled_at : (k : CommonsKnown) (a b c : ℕ) → a ≡ 0 → b ≡ 0 → c ≡ 0 → call_at k None a b c ≡ call_at k None 0 0 0
uncalled_at k a b c e f h = ap (λ n. call_at k None n b c) e ∙ ap (λ n. call_at k None 0 n c) f ∙ ap (λ n. call_at k None 0 0 n) h

callless_from : {X Q : Type 0} (a b c : Account X Q) → IsSameBut a b → IsCallless b c → IsCallless a c
callless_from {X} {Q} a b c same none = record { seen = none.seen ∙ same.seen; mine = none.mine }

none_from : (a b c : CommonsKnown) → IsSame a b → HasNoCalls b c → HasNoCalls a c
none_from a b c same none = record {
  parts = λ p within. callless_from (a.part p) (b.part p) (c.part p) (same.parts p) (none.parts p within);
  book = callless_from a.book b.book c.book same.book none.book;
}

-- a pass that was split off
fresh_of : {X Q : Type 0} (a c : Account X Q) → c ≡ untaken a → IsCallless a c
fresh_of {X} {Q} a c is = record { seen = ap (λ (x : Account X Q). x.seen) is; mine = ap (λ (x : Account X Q). x.mine) is }

pub no_calls : (a c : CommonsKnown) → IsUntaken a c → HasNoCalls a c
no_calls a c new = record { parts = λ p within. fresh_of (a.part p) (c.part p) (new.parts p within); book = fresh_of a.book c.book new.book }

module _ {P N C : Type 0} (views : ServiceViews P N C) (routes : List Route) where
  -- what was split off a pass that knows the same
  new_from : (a b : CommonsKnown) (desk : Desk P (HttpLink N) C Plain) → IsSame a b → IsNewDesk views routes b desk → IsNewDesk views routes a desk
  new_from a b desk same new = record {
    free = new.free;
    pass = none_from a b (known desk.pass) same new.pass;
    routed = new.routed;
    silent = new.silent;
    uncalled = new.uncalled;
    unread = new.unread;
  }

  pub made_none : (part : ResolverPart) (a : CommonsKnown) → AreMade views part routes a []
  made_none part a = record { ready = All-nil (IsReady part); new = All-nil (IsNewDesk views routes a) }

  pub made_more : (part : ResolverPart) (a b : CommonsKnown) (desks all : List (Desk P (HttpLink N) C Plain)) (desk : Desk P (HttpLink N) C Plain) → all ≡ desks ++ desk ∷ []
      → AreMade views part routes a desks → IsSame a b → IsReady part desk → IsNewDesk views routes b desk → AreMade views part routes a all
  made_more part a b desks all desk is made same ready new = subst (AreMade views part routes a) (sym is) (record {
    ready = All-append (IsReady part) desks (desk ∷ []) made.ready (All-cons (IsReady part) desk [] ready (All-nil (IsReady part)));
    new = All-append (IsNewDesk views routes a) desks (desk ∷ []) made.new (All-cons (IsNewDesk views routes a) desk [] (new_from a b desk same new) (All-nil (IsNewDesk views routes a)));
  })

  pub routes_as : {E : Type 0} (other : List Route) (k : CommonsKnown) (result : Result (Desk P (HttpLink N) C Plain) E) → other ≡ routes → IfOk result (IsNewDesk views other k)
      → IfOk result (IsNewDesk views routes k)
  routes_as other k result same new = subst (λ rs. IfOk result (IsNewDesk views rs k)) same new

  -- a batch, by the steps of it
  pub batch_of : (part : ResolverPart) (node : Node) (a c : NetworkAt P) (k purged split k' : CommonsKnown) (clock clock' : ClockAt) (moment count : ℕ) (desks : List (Desk P (HttpLink N) C Plain))
      (result : Result Unit Stop) → IsOneReading clock clock' → moment ≡ clock'.last → IsPurged moment k purged → IsSame purged split → AreShared purged (split ∷ map known_at desks) → AreMade views part routes purged desks → length desks ≡ count
      → OnOk result (ServesDesks (at_desks views) node desks (progress a split) (progress c k')) → OnOk result (IsServedBatch count (setup views node routes) (standing a k clock) (standing c k' clock'))
  batch_of part node a c k purged split k' clock clock' moment count desks (Ok u) reading is (dropped, purge) same shared made many serves = (
    record { before = standing a k clock; desks = desks; now = standing c k' clock' },
    many,
    refl,
    refl,
    record {
      clock = reading;
      dropped = dropped;
      purged = purged;
      purge = subst (λ m. IsShelfCall (Purge m) dropped k purged) is purge;
      new = made.new;
      split = split;
      same = same;
      shared = shared;
      serves = serves;
    },
  )
  batch_of part node a c k purged split k' clock clock' moment count desks (Err stop) reading is purge same shared made many serves = tt
