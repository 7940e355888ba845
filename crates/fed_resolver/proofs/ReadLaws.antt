-- What the one reading of the book replies, and what a pass gains by it.
use Rattle.std.proofs.Common.{◌≡◌, ◌≤◌, ℕ, zero, suc, List, [], ◌∷◌, ◌++◌, length, map, Some, refl, sym, ap, subst, ⊎_elim, le_trans, arith}
use Rattle.std.specs.Prelude.{All, slice_get}
use Rattle.jwk_set.specs.declared.set.JwkSet.{JwkSet}
use Rattle.turn_log.specs.Runs.{Account, Adds, IsLegal, Runs}
use Rattle.turn_log.specs.Groups.{AddsOnBook}
use Rattle.turn_log.proofs.Gains.{adds-none}
use Rattle.chain_climb.specs.Elements.{Among}
use Rattle.statement_shelf.specs.Book.{Book, BookStep, opened_with}
use Rattle.statement_shelf.specs.Passes.{CommonsKnown}
use Rattle.statement_shelf.specs.declared.calls.AnchorKeys.{AnchorKeys}
use Rattle.statement_shelf.specs.declared.calls.BookCall.{BookCall}
use Rattle.statement_shelf.specs.declared.calls.BookCall.TheVariants.{Read, Epoch, Rotate}
use Rattle.statement_shelf.specs.declared.calls.BookReply.{BookReply}
use Rattle.statement_shelf.specs.declared.calls.BookReply.TheVariants.{Keys, At, Rotated, Behind, NoAnchor, Memory}
use Rattle.statement_shelf.proofs.BookRuns.{epochs-rise}
use Rattle.resolve_round.specs.declared.trace.Event.{Event}
use Rattle.resolve_round.specs.declared.trace.Event.TheVariants as event
use Rattle.resolve_round.specs.declared.trace.Trace.{Trace}
use Rattle.resolve_round.specs.Acts.{GainsEvents}
use Rattle.fed_resolver.specs.Calls.{IsFresh}
use Rattle.fed_resolver.specs.Going.{CanAnswer}

abbrev pub BookEvent : Type 0
BookEvent = BookCall × BookReply

-- ---- epochs

step-epochs : (a b x y : Book) (call : BookCall) (reply : BookReply) → BookStep a call reply b → BookStep x call reply y → a.epoch ≤ x.epoch → b.epoch ≤ y.epoch
step-epochs a b x y (Read anchor) (Keys n keys) one two low = let p = ap (λ (k : Book). k.epoch) one.2 in let q = ap (λ (k : Book). k.epoch) two.2 in omega (arith, low, p, q)
step-epochs a b x y (Read anchor) NoAnchor one two low = let p = ap (λ (k : Book). k.epoch) one.1 in let q = ap (λ (k : Book). k.epoch) two.1 in omega (arith, low, p, q)
step-epochs a b x y (Read anchor) Memory one two low = let p = ap (λ (k : Book). k.epoch) one in let q = ap (λ (k : Book). k.epoch) two in omega (arith, low, p, q)
step-epochs a b x y Epoch (At n) one two low = let p = ap (λ (k : Book). k.epoch) one.1 in let q = ap (λ (k : Book). k.epoch) two.1 in omega (arith, low, p, q)
step-epochs a b x y (Rotate anchor from keys) NoAnchor one two low = let p = ap (λ (k : Book). k.epoch) one.1 in let q = ap (λ (k : Book). k.epoch) two.1 in omega (arith, low, p, q)
step-epochs a b x y (Rotate anchor from keys) (Behind n) one two low = let p = ap (λ (k : Book). k.epoch) one.3 in let q = ap (λ (k : Book). k.epoch) two.3 in omega (arith, low, p, q)
step-epochs a b x y (Rotate anchor from keys) (Rotated n) one two low = let p = ap (λ (k : Book). k.epoch) one.is in let q = ap (λ (k : Book). k.epoch) two.is in omega (arith, low, p, q)
step-epochs a b x y (Rotate anchor from keys) Memory one two low = let p = ap (λ (k : Book). k.epoch) one in let q = ap (λ (k : Book). k.epoch) two in omega (arith, low, p, q)
step-epochs a b x y call reply one two low = absurd one

run-epochs : (calls : List BookEvent) (a b x y : Book) → Runs BookStep a calls b → Runs BookStep x calls y → a.epoch ≤ x.epoch → b.epoch ≤ y.epoch
run-epochs [] a b x y one two low = let p = ap (λ (k : Book). k.epoch) one in let q = ap (λ (k : Book). k.epoch) two in omega (arith, low, p, q)
run-epochs (e ∷ es) a b x y one two low = run-epochs es one.0 b two.0 y one.2 two.2 (step-epochs a one.0 x two.0 e.0 e.1 one.1 two.1 low)

-- ---- a call among others

split-run : (seen rest : List BookEvent) (first last : Book) → Runs BookStep first (seen ++ rest) last → (mid : Book) × Runs BookStep first seen mid × Runs BookStep mid rest last
split-run [] rest first last run = (first, refl, run)
split-run (e ∷ es) rest first last run = let s = split-run es rest run.0 last run.2 in (s.0, (run.0, run.1, s.1), s.2)

behind : (old rest : List BookEvent) (p : ℕ) (e : BookEvent) → length old ≤ p → slice_get (old ++ rest) p ≡ Some e → (q : ℕ) × (slice_get rest q ≡ Some e)
behind [] rest p e low is = (p, is)
behind (x ∷ old) rest zero e low is = absurd (omega (arith, low))
behind (x ∷ old) rest (suc p) e low is = behind old rest p e (omega (arith, low)) is

-- what the book was when it was called
pub record CalledAt (first : Book) (e : BookEvent) : Type 0 where
  pub book : Book
  pub left : Book
  pub later : first.epoch ≤ book.epoch
  pub step : BookStep book e.0 e.1 left

called-at : (calls : List BookEvent) (first last : Book) (p : ℕ) (e : BookEvent) → Runs BookStep first calls last → slice_get calls p ≡ Some e → CalledAt first e
called-at [] first last p e run is = cc is
called-at (x ∷ calls) first last zero e run is =
    let same : x ≡ e = cc is in
    record { book = first; left = run.0; later = omega arith; step = subst (λ (k : BookEvent). BookStep first k.0 k.1 run.0) same run.1 }
called-at (x ∷ calls) first last (suc p) e run is =
    let rest = called-at calls run.0 last p e run.2 is in
    let rose : first.epoch ≤ (run.0).epoch = epochs-rise (x ∷ []) first run.0 (run.0, run.1, refl) in
    record { book = rest.book; left = rest.left; later = le_trans rose rest.later; step = rest.step }

place-of : (seen : List BookEvent) (places : List ℕ) (least : ℕ) (e : BookEvent) → map (slice_get seen) places ≡ map Some (e ∷ []) → All (λ place. least ≤ place) places
    → (p : ℕ) × (least ≤ p) × (slice_get seen p ≡ Some e)
place-of seen [] least e are later = cc are
place-of seen (p ∷ places) least e are later = (p, later 0 0 (omega arith), cc are)

-- a call that was added was answered by a book that is no older than what was seen before
module _ (opened : Book) (old new : Account BookCall BookReply) (e : BookEvent) (adds : Adds old new (e ∷ [])) (legal : IsLegal BookStep opened new.seen) where
  pub record Called : Type 0 where
    pub mid : Book
    pub seen : Runs BookStep opened old.seen mid
    pub at : CalledAt mid e

  pub called : Called
  called =
      let place = place-of new.seen adds.places (length old.seen) e adds.are adds.later in
      let split = adds.seen in
      let run : Runs BookStep opened (old.seen ++ split.0) legal.0 = subst (λ l. Runs BookStep opened l legal.0) split.1 legal.1 in
      let parts = split-run old.seen split.0 opened legal.0 run in
      let there : slice_get (old.seen ++ split.0) place.0 ≡ Some e = subst (λ l. slice_get l place.0 ≡ Some e) split.1 place.2 in
      let at = behind old.seen split.0 place.0 e place.1 there in
      record { mid = parts.0; seen = parts.1; at = called-at split.0 parts.0 legal.0 at.0 e parts.2 at.1 }

can-answer : (old new : Book) (anchor : List ℕ) (reply : BookReply) → BookStep old (Read anchor) reply new → CanAnswer reply
can-answer old new anchor (Keys n keys) step = tt
can-answer old new anchor NoAnchor step = tt
can-answer old new anchor Memory step = tt
can-answer old new anchor reply step = absurd step

-- ---- a Read

module _ (opened : Book) (old new : CommonsKnown) (anchor : List ℕ) (reply : BookReply) (adds : AddsOnBook old ((Read anchor, reply) ∷ []) new) (legal : IsLegal BookStep opened new.book.seen) where
  abbrev pub read_event : Event
  read_event = event.Book (Read anchor) reply

  here : Called opened old.book new.book (Read anchor, reply) adds.here legal
  here = called opened old.book new.book (Read anchor, reply) adds.here legal

  pub read-can : CanAnswer reply
  read-can = can-answer here.at.book here.at.left anchor reply here.at.step

  pub read-gains : (events : List Event) → events ≡ read_event ∷ [] → GainsEvents old new events
  read-gains events is =
      subst (GainsEvents old new) (sym is)
      (record { parts = λ p. subst (λ k. Adds (old.part p) k []) (sym (adds.parts p)) (adds-none (old.part p)); book = adds.here })

  same-reply : (at : List ℕ) (epoch : ℕ) (keys : JwkSet) → event.Book (Read at) (Keys epoch keys) ≡ read_event → reply ≡ Keys epoch keys
  same-reply at epoch keys same = cc same

  epoch-told : (epoch : ℕ) (keys : JwkSet) → reply ≡ Keys epoch keys → epoch ≡ here.at.book.epoch
  epoch-told epoch keys is = let step : BookStep here.at.book (Read anchor) (Keys epoch keys) here.at.left = subst (λ r. BookStep here.at.book (Read anchor) r here.at.left) is here.at.step in step.1

  pub read-fresh : (trace : Trace) → trace.events ≡ read_event ∷ [] → (anchors : List AnchorKeys) → IsFresh anchors old trace
  read-fresh trace is anchors at epoch keys among book run =
      let same : event.Book (Read at) (Keys epoch keys) ≡ read_event =
      ⊎_elim (λ one. one) (λ none. absurd none) (subst (Among (event.Book (Read at) (Keys epoch keys))) is among) in
      let told = epoch-told epoch keys (same-reply at epoch keys same) in
      let known = run-epochs old.book.seen (opened_with anchors) book opened here.mid run here.seen (omega arith) in
      let later = here.at.later in
      omega (arith, told, known, later)

-- ---- no Read

pub unread-fresh : (anchors : List AnchorKeys) (old : CommonsKnown) (trace : Trace) → trace.events ≡ [] → IsFresh anchors old trace
unread-fresh anchors old trace none at epoch keys among book run = absurd (subst (Among (event.Book (Read at) (Keys epoch keys))) none among)

pub unread-gains : (known : CommonsKnown) (events : List Event) → events ≡ [] → GainsEvents known known events
unread-gains known events none = subst (GainsEvents known known) (sym none) (record { parts = λ p. adds-none (known.part p); book = adds-none known.book })

pub worn-gains : (old new : CommonsKnown) (events : List Event) → AddsOnBook old [] new → events ≡ [] → GainsEvents old new events
worn-gains old new events adds none =
    subst (GainsEvents old new) (sym none) (record { parts = λ p. subst (λ k. Adds (old.part p) k []) (sym (adds.parts p)) (adds-none (old.part p)); book = adds.here })
