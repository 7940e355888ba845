-- Where the calls of a batch stand on each shared object.
use Rattle.std.proofs.Common.{◌≡◌, ◌≤◌, ◌<◌, ◌⊎◌, ℕ, List, [], ◌∷◌, length, map, Result, Ok, Err, refl, sym, ap, subst, inl, inr, ⊎_elim, le_trans, arith}
use Rattle.std.specs.Prelude.{All}
use Rattle.std.proofs.lemmas.List.Elements.{All-cons, All-head, All-tail}
use Rattle.fed_base.specs.declared.ledger.Plain.{Plain}
use Rattle.http_plain.specs.declared.link.HttpLink.{HttpLink}
use Rattle.turn_log.specs.Gains.{calls_of}
use Rattle.turn_log.specs.Groups.{AddsOnBook, AreJoined, IsSame, known, part_count}
use Rattle.turn_log.specs.Passes.{IsJoined, IsSameBut, untaken}
use Rattle.turn_log.specs.Places.{IsIn}
use Rattle.turn_log.specs.Runs.{Account, Adds}
use Rattle.turn_log.proofs.Gains.{adds-none}
use Rattle.chain_climb.specs.Elements.{Among, Ordered}
use Rattle.statement_shelf.specs.Passes.{CommonsKnown, IsShelfCall, purge_at}
use Rattle.statement_shelf.specs.declared.calls.BookCall.{BookCall}
use Rattle.statement_shelf.specs.declared.calls.BookReply.{BookReply}
use Rattle.statement_shelf.specs.declared.calls.ShelfCall.TheVariants.{Purge}
use Rattle.statement_shelf.specs.declared.calls.ShelfReply.{ShelfReply}
use Rattle.statement_shelf.specs.declared.calls.ShelfReply.TheVariants.{Hit, Miss, Done, Gone, Dropped, Memory}
use Rattle.resolve_round.specs.Acts.{on_book, on_part}
use Rattle.fed_serve.specs.Resolutions.{CallAt, Walking}
use Rattle.fed_serve.specs.Rotations.{asked, stranger, untested, worn}
use Rattle.fed_serve.specs.declared.desk.Desk.{Desk}
use Rattle.fed_serve.specs.declared.node.Node.{Node}
use Rattle.fed_serve.specs.declared.served.Served.{Served}
use Rattle.fed_serve.specs.declared.serving.ServeFault.{ServeFault}
use Rattle.fed_serve.specs.declared.serving.ServeFault.TheVariants.{ReadFault, WriteFault, Ended, Worn}
use Rattle.fed_serve.specs.Desks.{AreServedAt, IsServedAt}
use Rattle.fed_serve.specs.Handlings.{Handling, dealt, issued, not_asked, resolved, unread}
use Rattle.fed_serve.specs.Moments.{Around}
use Rattle.fed_serve.specs.Serving.{Serves}
use Rattle.fed_serve.specs.Uses.{Uses}
use Rattle.resolver_service.specs.Batches.{AreBatches, Batch, IsBatch, IsNewDesk, JoinedInTurn, Setup, Standing, at_desks, known_at}
use Rattle.resolver_service.specs.Passes.{HasNoCalls, IsCallless}
use Rattle.resolver_service.specs.Precedence.{Follows, HasCallsOf, HasOnlyCallsOf, IsMadeAt, StandsBefore, StandsPast, TakesIn}
use Rattle.resolver_service.proofs.PlaceLaws.{Gathers, LiesFrom, follows, gathers_adds, gathers_after, gathers_fresh, gathers_joined, gathers_none, gathers_same, joined_from, joined_has, lies_on, prefix_le, stand_before}

-- ---- calls that are added

-- some calls were added
abbrev pub AddsCalls : {X Q : Type 0} → Account X Q → Account X Q → Type 0
AddsCalls {X} {Q} old new = (calls : List (X × Q)) × Adds old new calls

pub record AddsOnEach (old new : CommonsKnown) : Type 0 where
  pub parts : (p : ℕ) → AddsCalls (old.part p) (new.part p)
  pub book : AddsCalls old.book new.book

adds_same : {X Q : Type 0} (old new : Account X Q) → new ≡ old → AddsCalls old new
adds_same old new same = ([], subst (λ a. Adds old a []) (sym same) (adds-none old))

unknown : (old new : CommonsKnown) → new ≡ old → AddsOnEach old new
unknown old new same = record {
  parts = λ p. adds_same (old.part p) (new.part p) (ap (λ (k : CommonsKnown). k.part p) same);
  book = adds_same old.book new.book (ap (λ (k : CommonsKnown). k.book) same);
}

booked : (old new : CommonsKnown) (calls : List (BookCall × BookReply)) → AddsOnBook old calls new → AddsOnEach old new
booked old new calls adds = record { parts = λ p. adds_same (old.part p) (new.part p) (adds.parts p); book = (calls, adds.here) }

pub purges : (moment : ℕ) (reply : ShelfReply) (old new : CommonsKnown) → IsShelfCall (Purge moment) reply old new → AddsOnEach old new
purges moment (Dropped n) old new (counts, all, total, purged) = record { parts = λ p. (purge_at moment counts p, purged.parts p); book = adds_same old.book new.book purged.book }
purges moment (Hit proven) old new is = absurd is
purges moment Miss old new is = absurd is
purges moment Done old new is = absurd is
purges moment Gone old new is = absurd is
purges moment Memory old new is = absurd is

-- however a request is handled
uses_adds : (node : Node) (walks : Walking) (t : ℕ) (before now : CallAt) (h : Handling) → Uses node walks t before now h → AddsOnEach before.known now.known
uses_adds node walks t before now unread uses = unknown before.known now.known uses.known
uses_adds node walks t before now not_asked uses = unknown before.known now.known uses.known
uses_adds node walks t before now (issued a) uses = unknown before.known now.known uses.known
uses_adds node walks t before now (resolved resolution outcome) (part, has, of) =
    let gains = of.resolves.events in
    record { parts = λ p. (calls_of (on_part p) outcome.trace.events, gains.parts p); book = (calls_of on_book outcome.trace.events, gains.book) }
uses_adds node walks t before now (dealt change stranger) (part, has, unlinked, (sealed, adds, tests)) = booked before.known now.known [] adds
uses_adds node walks t before now (dealt change (asked reply)) (part, has, unlinked, (sealed, adds, tests)) = booked before.known now.known _ adds
uses_adds node walks t before now (dealt change worn) (part, has, unlinked, (sealed, adds, all, tests)) = booked before.known now.known [] adds
uses_adds node walks t before now (dealt change untested) (part, has, unlinked, (adds, tests)) = booked before.known now.known [] adds

-- however serving ends
pub serves_adds : (node : Node) (walks : Walking) (before now : Around) (result : Result Served ServeFault) → Serves node walks before now result
    → AddsOnEach before.call.known now.call.known
serves_adds node walks before now (Ok served) serves = let is = serves.answered served refl in uses_adds node walks now.clock.last before.call now.call is.handling is.handled.uses
serves_adds node walks before now (Err Ended) serves = unknown before.call.known now.call.known (ap (λ (c : CallAt). c.known) (serves.silent (inl refl)).call)
serves_adds node walks before now (Err ReadFault) serves = unknown before.call.known now.call.known (ap (λ (c : CallAt). c.known) (serves.silent (inr refl)).call)
serves_adds node walks before now (Err WriteFault) serves = let is = serves.cut refl in uses_adds node walks now.clock.last before.call now.call is.handling is.handled.uses
serves_adds node walks before now (Err (Worn count)) serves = let is = (serves.worn count refl).is in uses_adds node walks now.clock.last before.call now.call is.handling is.uses

-- ---- one object among all

-- what is done on each is done on it
pub record IsObject {X Q : Type 0} (on : CommonsKnown → Account X Q) : Type 0 where
  pub same : (a b : CommonsKnown) → IsSame a b → IsSameBut (on a) (on b)
  pub none : (a b : CommonsKnown) → HasNoCalls a b → IsCallless (on a) (on b)
  pub joined : (a b c : CommonsKnown) → AreJoined a b c → IsJoined (on a) (on b) (on c)
  pub added : (a b : CommonsKnown) → AddsOnEach a b → AddsCalls (on a) (on b)

pub part_object : (p : ℕ) → p < part_count → IsObject (λ known. known.part p)
part_object p within = record {
  same = λ a b same. same.parts p;
  none = λ a b none. none.parts p within;
  joined = λ a b c joined. joined.parts p within;
  added = λ a b added. added.parts p;
}

pub book_object : IsObject (λ known. known.book)
book_object = record { same = λ a b same. same.book; none = λ a b none. none.book; joined = λ a b c joined. joined.book; added = λ a b added. added.book }

module _ {P N C X Q : Type 0} (s : Setup P N C) (on : CommonsKnown → Account X Q) (object : IsObject on) where
  -- ---- desks

  -- what was gathered at a desk since its pass was split off
  abbrev GathersAt : ℕ → CommonsKnown → Desk P (HttpLink N) C Plain → Type 0
  GathersAt least split desk = Gathers least (untaken (on split)) (on (known desk.pass))

  idle_gathers : (least : ℕ) (split : CommonsKnown) (desk : Desk P (HttpLink N) C Plain) → IsNewDesk s.views s.routes split desk → GathersAt least split desk
  idle_gathers least split desk new = gathers_fresh least (on split) (on (known desk.pass)) (object.none split (known desk.pass) new.pass)

  served_gathers : (least : ℕ) (split : CommonsKnown) (came : P) (old new : Desk P (HttpLink N) C Plain) → least ≤ length (on split).seen → IsNewDesk s.views s.routes split old
      → IsServedAt (at_desks s.views) s.node came old new → GathersAt least split new
  served_gathers least split came old new low fresh served =
      let none = object.none split (known old.pass) fresh.pass in
      let added = object.added (known old.pass) (known new.pass) (serves_adds s.node _ _ _ served.told served.serves) in
      gathers_after least (untaken (on split)) (on (known old.pass)) (on (known new.pass)) (gathers_fresh least (on split) (on (known old.pass)) none)
      (gathers_adds least (on (known old.pass)) (on (known new.pass)) added.0 (subst (λ (seen : List (X × Q)). least ≤ length seen) (sym none.seen) low) added.1)

  desks_gather : (least : ℕ) (split : CommonsKnown) (peers : List P) (old new : List (Desk P (HttpLink N) C Plain)) → least ≤ length (on split).seen
      → All (IsNewDesk s.views s.routes split) old → AreServedAt (IsServedAt (at_desks s.views) s.node) peers old new → All (GathersAt least split) new
  desks_gather least split [] old new low fresh same = subst (All (GathersAt least split)) (sym same) (λ k d within. idle_gathers least split _ (fresh k d within))
  desks_gather least split (p ∷ peers) [] new low fresh served = absurd served
  desks_gather least split (p ∷ peers) (d ∷ old) [] low fresh served = absurd served
  desks_gather least split (p ∷ peers) (d ∷ old) (e ∷ new) low fresh served =
      All-cons (GathersAt least split) e new (served_gathers least split p d e low (All-head (IsNewDesk s.views s.routes split) d old fresh) served.0)
      (desks_gather least split peers old new low (All-tail (IsNewDesk s.views s.routes split) d old fresh) served.1)

  joins_gather : (least : ℕ) (split : CommonsKnown) (desks : List (Desk P (HttpLink N) C Plain)) (first now : CommonsKnown) → All (GathersAt least split) desks
      → JoinedInTurn first (map known_at desks) now → Gathers least (on first) (on now)
  joins_gather least split [] first now gather same = subst (λ (k : CommonsKnown). Gathers least (on first) (on k)) (sym same) (gathers_none least (on first))
  joins_gather least split (d ∷ desks) first now gather (next, joined, more) =
      gathers_after least (on first) (on next) (on now)
      (gathers_joined least (on split) (on first) (on (known d.pass)) (on next) (All-head (GathersAt least split) d desks gather) (object.joined first (known d.pass) next joined))
      (joins_gather least split desks next now (All-tail (GathersAt least split) d desks gather) more)

  -- each call at a desk was taken in
  joins_take : (least : ℕ) (split : CommonsKnown) (desks : List (Desk P (HttpLink N) C Plain)) (first now other : CommonsKnown) → All (GathersAt least split) desks
      → JoinedInTurn first (map known_at desks) now → Among other (map known_at desks) → (place : ℕ) → IsIn place (on other).mine
      → IsIn place (on now).mine × LiesFrom least (on now) place
  joins_take least split [] first now other gather same among place own = absurd among
  joins_take least split (d ∷ desks) first now other gather (next, joined, more) (inl is) place own =
      let here : IsIn place (on (known d.pass)).mine = subst (λ (k : CommonsKnown). IsIn place (on k).mine) is own in
      let join = object.joined first (known d.pass) next joined in
      let rest = joins_gather least split desks next now (All-tail (GathersAt least split) d desks gather) more in (
        rest.kept place (joined_has (on first) (on (known d.pass)) (on next) place join here),
        ⊎_elim (λ none. absurd none)
            (λ w. lies_on least (on next) (on now) place rest.seen (lies_on least (on (known d.pass)) (on next) place join.begins_other w))
            ((All-head (GathersAt least split) d desks gather).each place here),
      )
  joins_take least split (d ∷ desks) first now other gather (next, joined, more) (inr among) place own =
      joins_take least split desks next now other (All-tail (GathersAt least split) d desks gather) more among place own

  -- no other call was
  joins_only : (desks : List (Desk P (HttpLink N) C Plain)) (first now : CommonsKnown) → JoinedInTurn first (map known_at desks) now → (place : ℕ) → IsIn place (on now).mine
      → IsIn place (on first).mine ⊎ ((other : CommonsKnown) × Among other (map known_at desks) × IsIn place (on other).mine)
  joins_only [] first now same place own = inl (subst (λ (k : CommonsKnown). IsIn place (on k).mine) same own)
  joins_only (d ∷ desks) first now (next, joined, more) place own =
      let join = object.joined first (known d.pass) next joined in
      ⊎_elim (λ k. ⊎_elim (λ old. inl old) (λ here. inr (known d.pass, inl refl, here)) (joined_from (on first) (on (known d.pass)) (on next) place join k))
      (λ k. inr (k.0, inr k.1, k.2)) (joins_only desks next now more place own)

  -- ---- a batch

  module _ (b : Batch P N C) (is : IsBatch s b) where
    purge_gathers : Gathers (length (on b.before.progress.known).seen) (on b.before.progress.known) (on is.purged)
    purge_gathers =
        let added = object.added b.before.progress.known is.purged (purges b.now.clock.last is.dropped b.before.progress.known is.purged is.purge) in
        gathers_adds (length (on b.before.progress.known).seen) (on b.before.progress.known) (on is.purged) added.0 (omega arith) added.1

    gather_at : All (GathersAt (length (on b.before.progress.known).seen) is.purged) is.serves.served
    gather_at =
        desks_gather (length (on b.before.progress.known).seen) is.purged is.serves.peers b.desks is.serves.served
        (prefix_le (on b.before.progress.known).seen (on is.purged).seen purge_gathers.seen) is.new is.serves.each

    batch_follows : Follows (on b.before.progress.known) (on b.now.progress.known)
    batch_follows =
        let least = length (on b.before.progress.known).seen in
        follows (on b.before.progress.known) (on b.now.progress.known)
        (gathers_after least (on b.before.progress.known) (on is.purged) (on b.now.progress.known) purge_gathers
        (gathers_same least (on is.purged) (on is.split) (on b.now.progress.known) (object.same is.purged is.split is.same)
        (joins_gather least is.purged is.serves.served is.split b.now.progress.known gather_at is.serves.ended.joined)))

    batch_takes : (other : CommonsKnown) → Among other (map known_at is.serves.served) → TakesIn (on b.before.progress.known) (on other) (on b.now.progress.known)
    batch_takes other among place own =
        joins_take (length (on b.before.progress.known).seen) is.purged is.serves.served is.split b.now.progress.known other gather_at is.serves.ended.joined among place own

    batch_only : (place : ℕ) → IsMadeAt (on b.before.progress.known) (on b.now.progress.known) place
        → IsMadeAt (on b.before.progress.known) (on is.purged) place ⊎ ((other : CommonsKnown) × Among other (map known_at is.serves.served) × IsIn place (on other).mine)
    batch_only place made =
        ⊎_elim (λ k. inl (subst (IsIn place) (object.same is.purged is.split is.same).mine k, made.1)) (λ k. inr k)
        (joins_only is.serves.served is.split b.now.progress.known is.serves.ended.joined place made.0)

-- ---- batches

-- at least as much was seen of each object
record SeesMore (old new : CommonsKnown) : Type 0 where
  parts : (p : ℕ) → p < part_count → length (old.part p).seen ≤ length (new.part p).seen
  book : length old.book.seen ≤ length new.book.seen

sees_same : (a : CommonsKnown) → SeesMore a a
sees_same a = record { parts = λ p within. omega arith; book = omega arith }

sees_after : (a b c : CommonsKnown) → SeesMore a b → SeesMore b c → SeesMore a c
sees_after a b c one next = record { parts = λ p within. le_trans (one.parts p within) (next.parts p within); book = le_trans one.book next.book }

sees_from : {P : Type 0} (k : CommonsKnown) (a b : Standing P) → b ≡ a → SeesMore k a.progress.known → SeesMore k b.progress.known
sees_from {P} k a b same sees = subst (λ (x : Standing P). SeesMore k x.progress.known) (sym same) sees

module _ {P N C : Type 0} where
  sees_batch : (b : Batch P N C) → StandsPast b → SeesMore b.before.progress.known b.now.progress.known
  sees_batch b past = record {
    parts = λ p within. prefix_le (b.before.progress.known.part p).seen (b.now.progress.known.part p).seen (past.parts p within).seen;
    book = prefix_le b.before.progress.known.book.seen b.now.progress.known.book.seen past.book.seen;
  }

  one_before : (one other : Batch P N C) → StandsPast one → SeesMore one.now.progress.known other.before.progress.known → StandsPast other → StandsBefore one other
  one_before one other first between later = record {
    parts = λ p within.
        stand_before (one.before.progress.known.part p) (one.now.progress.known.part p) (other.before.progress.known.part p) (other.now.progress.known.part p)
        (first.parts p within) (between.parts p within) (later.parts p within);
    book = stand_before one.before.progress.known.book one.now.progress.known.book other.before.progress.known.book other.now.progress.known.book first.book between.book later.book;
  }

module _ {P N C : Type 0} (s : Setup P N C) where
  pub stands_past : (b : Batch P N C) → IsBatch s b → StandsPast b
  stands_past b is = record {
    parts = λ p within. batch_follows s (λ known. known.part p) (part_object p within) b is;
    book = batch_follows s (λ known. known.book) book_object b is;
  }

  pub has_calls_of : (b : Batch P N C) (is : IsBatch s b) (other : CommonsKnown) → Among other (map known_at is.serves.served) → HasCallsOf b other
  has_calls_of b is other among = record {
    parts = λ p within. batch_takes s (λ known. known.part p) (part_object p within) b is other among;
    book = batch_takes s (λ known. known.book) book_object b is other among;
  }

  pub has_only_calls : (b : Batch P N C) (is : IsBatch s b) → HasOnlyCallsOf b is.purged (map known_at is.serves.served)
  has_only_calls b is = record {
    parts = λ p within. batch_only s (λ known. known.part p) (part_object p within) b is;
    book = batch_only s (λ known. known.book) book_object b is;
  }

  -- one batch and all behind it
  before_all : (one : Batch P N C) (mid : Standing P) (batches : List (Batch P N C)) (last : Standing P) → StandsPast one → SeesMore one.now.progress.known mid.progress.known
      → AreBatches s mid batches last → (other : Batch P N C) → Among other batches → StandsBefore one other
  before_all one mid [] last past between are other among = absurd among
  before_all one mid (b ∷ batches) last past between (from, is, more) other (inl here) =
      let start = sees_from one.now.progress.known mid b.before from between in
      subst (StandsBefore one) (sym here) (one_before one b past start (stands_past b is))
  before_all one mid (b ∷ batches) last past between (from, is, more) other (inr there) =
      let start = sees_from one.now.progress.known mid b.before from between in
      before_all one b.now batches last past (sees_after one.now.progress.known b.before.progress.known b.now.progress.known start (sees_batch b (stands_past b is))) more other there

  pub in_order : (first : Standing P) (batches : List (Batch P N C)) (last : Standing P) → AreBatches s first batches last → Ordered StandsBefore batches
  in_order first [] last are = tt
  in_order first (b ∷ batches) last (from, is, more) = (
    before_all b b.now batches last (stands_past b is) (sees_same b.now.progress.known) more,
    in_order b.now batches last more,
  )
