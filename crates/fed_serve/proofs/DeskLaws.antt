-- Desks that were served one after the other.
use Rattle.std.proofs.Common.{◌≡◌, ◌<◌, ℕ, suc, List, [], ◌∷◌, length, option_map, Option, Some, None, Result, Ok, Err, refl, sym, ap, ◌∙◌, subst, arith}
use Rattle.std.specs.Prelude.{All, IfSome, OnErr, OnOk}
use Rattle.std.proofs.lemmas.List.Elements.{All-head, All-tail}
use Rattle.fed_base.specs.declared.faults.Failed.{Failed}
use Rattle.fed_ports.specs.Causes.{HasCause}
use Rattle.fed_ports.specs.Lists.{Gave}
use Rattle.fed_serve.specs.declared.desk.Desk.{Desk}
use Rattle.fed_serve.specs.declared.node.Node.{Node}
use Rattle.fed_serve.specs.Desks.{IsServedAt, IsTaken, ServesMany, Views, desks_at}
use Rattle.http_plain.specs.Networks.{NetworkAt}

-- ---- lists and answers

gave_none : {P : Type 0} (a : Option (List P)) → Gave a [] a
gave_none None = refl
gave_none (Some xs) = refl

gave_more : {P : Type 0} (a b c : Option (List P)) (p : P) (ps : List P) → Gave a (p ∷ []) b → Gave b ps c → Gave a (p ∷ ps) c
gave_more a b None p ps one more = one ∙ ap (option_map (λ rest. p ∷ rest)) more
gave_more a b (Some c) p ps one more = one ∙ ap (option_map (λ rest. p ∷ rest)) more

below : (m n : ℕ) → m < n → suc m < suc n
below m n less = omega arith

ok_more : (m n : ℕ) (result : Result Unit Failed) → OnOk result (m ≡ n) → OnOk result (suc m ≡ suc n)
ok_more m n (Ok u) same = ap suc same
ok_more m n (Err e) same = tt

err_more : (m n : ℕ) (result : Result Unit Failed) → OnErr result (m < n) → OnErr result (suc m < suc n)
err_more m n (Ok u) less = tt
err_more m n (Err e) less = below m n less

-- ---- one desk

module _ {P L C G : Type 0} where
  without_peer : (views : Views P L C G) (node : Node) (d f : Desk P L C G) (p q : P) → IsServedAt views node p (record d { peer = Some q }) f → IsServedAt views node p d f
  without_peer views node d f p q served = record {
    gone = served.gone;
    peer = served.peer;
    told = served.told;
    result = served.result;
    serves = served.serves;
    kept = served.kept;
  }

  served_there : (views : Views P L C G) (node : Node) (d e f : Desk P L C G) (p : P) → IsTaken p d e → IfSome e.peer (λ came. IsServedAt views node came e f)
      → IsServedAt views node p d f
  served_there views node d e f p same served =
      without_peer views node d f p p (subst (λ (z : Desk P L C G). IfSome z.peer (λ came. IsServedAt views node came z f)) same served)

  -- the peer that a desk took was served
  pub served_at : (views : Views P L C G) (node : Node) (d e f : Desk P L C G) (p q : P) → IsTaken p d e → e.peer ≡ Some q → IsServedAt views node q e f → IsServedAt views node p d f
  served_at views node d e f p q same is served = served_there views node d e f p same (subst (λ o. IfSome o (λ came. IsServedAt views node came e f)) (sym is) served)

-- ---- many desks

-- one peer was accepted
pub record IsAccepted {P : Type 0} (before now : NetworkAt P) (peer : P) : Type 0 where
  pub gave : Gave before.callers (peer ∷ []) now.callers
  pub port : now.port ≡ before.port
  pub exchanges : now.exchanges ≡ before.exchanges
  pub settled : now.settled ≡ before.settled
  pub faults : now.faults ≡ before.faults

-- none was
pub record IsRefused {P : Type 0} (before now : NetworkAt P) : Type 0 where
  pub callers : now.callers ≡ before.callers
  pub port : now.port ≡ before.port
  pub exchanges : now.exchanges ≡ before.exchanges
  pub settled : now.settled ≡ before.settled

module _ {D : Type 0} where
  pub first_free : (free : D → Type 0) (whole : List D) (d : D) (ds : List D) → whole ≡ d ∷ ds → All free whole → free d
  first_free free whole d ds same all = All-head free d ds (subst (All free) same all)

  pub rest_free : (free : D → Type 0) (whole : List D) (d : D) (ds : List D) → whole ≡ d ∷ ds → All free whole → All free ds
  rest_free free whole d ds same all = All-tail free d ds (subst (All free) same all)

module _ {P D : Type 0} where
  -- where there is no desk, nothing is done
  pub serves_none : (serves : P → D → D → Type 0) (net : NetworkAt P) (ds : List D) → length ds ≡ 0 → ServesMany serves (desks_at net ds) (desks_at net ds) (Ok tt)
  serves_none serves net ds none = record {
    peers = [];
    accepted = gave_none net.callers;
    served = refl;
    all = sym none;
    fewer = tt;
    cause = record { later = omega arith; failed = tt; same = refl };
    port = refl;
    exchanges = refl;
    settled = refl;
  }

  -- where no peer comes, nothing is done at any desk
  pub serves_fewer : (serves : P → D → D → Type 0) (a b : NetworkAt P) (old new ds : List D) (d : D) (e : Failed) → old ≡ d ∷ ds → new ≡ old
      → IsRefused a b → HasCause {T = P} a.faults b.faults (Err e) → ServesMany serves (desks_at a old) (desks_at b new) (Err e)
  serves_fewer serves a b old new ds d e is same refused cause = record {
    peers = [];
    accepted = subst (Gave a.callers []) (sym refused.callers) (gave_none a.callers);
    served = same;
    all = tt;
    fewer = subst (λ (z : List D). 0 < length z) (sym is) (omega arith);
    cause = record { later = cause.later; failed = cause.failed; same = tt };
    port = refused.port;
    exchanges = refused.exchanges;
    settled = refused.settled;
  }

  -- a peer was served at the first desk, and the others were served
  pub serves_more : (serves : P → D → D → Type 0) (a b c : NetworkAt P) (p : P) (d f : D) (whole old new : List D) (result : Result Unit Failed)
      → whole ≡ d ∷ old → IsAccepted a b p → serves p d f → ServesMany serves (desks_at b old) (desks_at c new) result
      → ServesMany serves (desks_at a whole) (desks_at c (f ∷ new)) result
  serves_more serves a b c p d f whole old new result is one served more =
      subst (λ (z : List D). ServesMany serves (desks_at a z) (desks_at c (f ∷ new)) result) (sym is) (record {
        peers = p ∷ more.peers;
        accepted = gave_more a.callers b.callers c.callers p more.peers one.gave more.accepted;
        served = (served, more.served);
        all = ok_more (length more.peers) (length old) result more.all;
        fewer = err_more (length more.peers) (length old) result more.fewer;
        cause = subst (λ n. HasCause n c.faults result) one.faults more.cause;
        port = more.port ∙ one.port;
        exchanges = more.exchanges ∙ one.exchanges;
        settled = more.settled ∙ one.settled;
      })
