-- The calls on each object in one order, in which those of one session stand as its trace tells them.
use Rattle.std.proofs.Common.{◌≡◌, ◌<◌, ◌≤◌, ◌⊎◌, ℕ, zero, suc, List, [], ◌∷◌, ◌++◌, map, filter_map, false, cond, Some, None, refl, sym, ap, ap₂, ◌∙◌, subst, inl, inr, ⊎_elim, arith, nat_eq, eq-eqb, eqb-true}
use Rattle.std.proofs.lemmas.List.Elements.{filter_map-append}
use Rattle.turn_log.specs.Gains.{calls_of}
use Rattle.chain_climb.specs.Elements.{Among}
use Rattle.chain_climb.proofs.Elements.{among-split}
use Rattle.statement_shelf.specs.declared.calls.BookCall.{BookCall}
use Rattle.statement_shelf.specs.declared.calls.BookReply.{BookReply}
use Rattle.statement_shelf.specs.declared.calls.ShelfCall.{ShelfCall}
use Rattle.statement_shelf.specs.declared.calls.ShelfCall.TheVariants.{Look, Put, Prove, Purge}
use Rattle.statement_shelf.specs.declared.calls.ShelfReply.{ShelfReply}
use Rattle.statement_shelf.specs.Entries.{part_of}
use Rattle.resolve_round.specs.declared.trace.Event.{Event}
use Rattle.resolve_round.specs.declared.trace.Event.TheVariants.{Shelf, Book}
use Rattle.resolve_round.specs.Acts.{on_part, told_there}
use Rattle.resolve_round.specs.Traces.{IsWork, ShelfEvent}
use Rattle.resolve_round.proofs.Elements.{map-among}
use Rattle.fed_resolver.specs.Worlds.{Happening, book_call, book_calls, gets, on_book, on_shelf, replies, shelf_call, shelf_calls, tests}
use Rattle.resolve_world.specs.Sessions.{IsOnItsPart, event_by}
use Rattle.resolve_world.proofs.Lists.{Embeds, by-bool, drops-first, keeps-all, keeps-first, keeps-no-map}

abbrev pub BookEvent : Type 0
BookEvent = BookCall × BookReply

-- the calls of others
abbrev pub others_on : ℕ → List ShelfEvent → List Happening
others_on p calls = map (λ e. on_shelf 1 p e.0 e.1) calls

abbrev pub others_at_book : List BookEvent → List Happening
others_at_book calls = map (λ e. on_book 1 e.0 e.1) calls

-- a call, which is on the part of its URL where it is the session's own
abbrev pub IsCall : Happening → Type 0
IsCall (on_shelf zero part call answer) = IsOnItsPart part call
IsCall (on_shelf (suc s) part call answer) = Unit {0}
IsCall (on_book s call answer) = Unit {0}
IsCall (gets s url page) = ⊥
IsCall (tests s pair good) = ⊥
IsCall (replies s anchor moment chain) = ⊥

-- these happenings are these calls on each part and on the book, and those of session 0 are these events
pub record Weaves (parts : ℕ → List ShelfEvent) (book : List BookEvent) (events : List Event) (happenings : List Happening) : Type 0 where
  pub on_parts : (p : ℕ) → p < 8 → shelf_calls p happenings ≡ parts p
  pub beyond : (p : ℕ) → 8 ≤ p → shelf_calls p happenings ≡ []
  pub at_book : book_calls happenings ≡ book
  pub own : filter_map (event_by 0) happenings ≡ events
  pub calls : (h : Happening) → Among h happenings → IsCall h

abbrev pub Woven : (ℕ → List ShelfEvent) → List BookEvent → List Event → Type 0
Woven parts book events = (happenings : List Happening) × Weaves parts book events happenings

-- ---- calls on one part

pub call-there : (s p : ℕ) (e : ShelfEvent) → shelf_call p (on_shelf s p e.0 e.1) ≡ Some e
call-there s p e = ap (λ b. cond b (Some e) None) (eq-eqb p p refl)

call-elsewhere : (s q p : ℕ) (e : ShelfEvent) → nat_eq q p ≡ false → shelf_call p (on_shelf s q e.0 e.1) ≡ None
call-elsewhere s q p e apart = ap (λ b. cond b (Some e) None) apart

others-there : (p : ℕ) (calls : List ShelfEvent) → shelf_calls p (others_on p calls) ≡ calls
others-there p calls = keeps-all (shelf_call p) (λ e. on_shelf 1 p e.0 e.1) (call-there 1 p) calls

others-elsewhere : (q p : ℕ) (calls : List ShelfEvent) → nat_eq q p ≡ false → shelf_calls p (others_on q calls) ≡ []
others-elsewhere q p calls apart = keeps-no-map (shelf_call p) (λ (e : ShelfEvent). on_shelf 1 q e.0 e.1) (λ e. call-elsewhere 1 q p e apart) calls

less-apart : (q p : ℕ) → q < p → nat_eq q p ≡ false
less-apart q p less = by-bool (nat_eq q p) (λ same. let is : q ≡ p = eqb-true q p same in absurd (omega (arith, is, less))) (λ apart. apart)

-- ---- what is left

least-or : (p n : ℕ) → p < suc n → (p ≡ n) ⊎ (p < n)
least-or zero zero less = inl refl
least-or zero (suc n) less = inr (omega arith)
least-or (suc p) zero less = absurd (omega (arith, less))
least-or (suc p) (suc n) less = ⊎_elim (λ same. inl (ap suc same)) (λ below. inr (omega (arith, below))) (least-or p n (omega (arith, less)))

-- the calls on the first parts
abbrev rest_on : ℕ → (ℕ → List ShelfEvent) → List Happening
rest_on zero parts = []
rest_on (suc n) parts = rest_on n parts ++ others_on n (parts n)

rest-beyond : (n : ℕ) (parts : ℕ → List ShelfEvent) (p : ℕ) → n ≤ p → shelf_calls p (rest_on n parts) ≡ []
rest-beyond zero parts p past = refl
rest-beyond (suc n) parts p past =
    filter_map-append (shelf_call p) (rest_on n parts) (others_on n (parts n))
    ∙ ap₂ (λ a b. a ++ b) (rest-beyond n parts p (omega (arith, past))) (others-elsewhere n p (parts n) (less-apart n p (omega (arith, past))))

rest-parts : (n : ℕ) (parts : ℕ → List ShelfEvent) (p : ℕ) → p < n → shelf_calls p (rest_on n parts) ≡ parts p
rest-parts zero parts p less = absurd (omega (arith, less))
rest-parts (suc n) parts p less =
    filter_map-append (shelf_call p) (rest_on n parts) (others_on n (parts n))
    ∙ ⊎_elim
    (λ same. subst (λ q. shelf_calls q (rest_on n parts) ++ shelf_calls q (others_on n (parts n)) ≡ parts q) (sym same)
    (ap₂ (λ a b. a ++ b) (rest-beyond n parts n (omega arith)) (others-there n (parts n))))
    (λ below. ap₂ (λ a b. a ++ b) (rest-parts n parts p below)
    (others-elsewhere n p (parts n) (by-bool (nat_eq n p) (λ same. let is : n ≡ p = eqb-true n p same in absurd (omega (arith, is, below))) (λ apart. apart)))
    ∙ append-none (parts p))
    (least-or p n less)
  where
    append-none : (xs : List ShelfEvent) → xs ++ [] ≡ xs
    append-none [] = refl
    append-none (x ∷ xs) = ap (λ l. x ∷ l) (append-none xs)

rest-book : (n : ℕ) (parts : ℕ → List ShelfEvent) → book_calls (rest_on n parts) ≡ []
rest-book zero parts = refl
rest-book (suc n) parts =
    filter_map-append book_call (rest_on n parts) (others_on n (parts n))
    ∙ ap₂ (λ a b. a ++ b) (rest-book n parts) (keeps-no-map book_call (λ (e : ShelfEvent). on_shelf 1 n e.0 e.1) (λ e. refl) (parts n))

rest-own : (n : ℕ) (parts : ℕ → List ShelfEvent) → filter_map (event_by 0) (rest_on n parts) ≡ []
rest-own zero parts = refl
rest-own (suc n) parts =
    filter_map-append (event_by 0) (rest_on n parts) (others_on n (parts n))
    ∙ ap₂ (λ a b. a ++ b) (rest-own n parts) (keeps-no-map (event_by 0) (λ (e : ShelfEvent). on_shelf 1 n e.0 e.1) (λ e. refl) (parts n))

-- those of others are calls
others-call : (p : ℕ) (calls : List ShelfEvent) (h : Happening) → Among h (others_on p calls) → IsCall h
others-call p calls h among = let made = map-among (λ (e : ShelfEvent). on_shelf 1 p e.0 e.1) h calls among in subst IsCall (sym made.2) tt

others-call-book : (calls : List BookEvent) (h : Happening) → Among h (others_at_book calls) → IsCall h
others-call-book calls h among = let made = map-among (λ (e : BookEvent). on_book 1 e.0 e.1) h calls among in subst IsCall (sym made.2) tt

rest-call : (n : ℕ) (parts : ℕ → List ShelfEvent) (h : Happening) → Among h (rest_on n parts) → IsCall h
rest-call zero parts h among = absurd among
rest-call (suc n) parts h among =
    ⊎_elim (λ front. rest-call n parts h front) (λ back. others-call n (parts n) h back) (among-split h (rest_on n parts) (others_on n (parts n)) among)

-- where the session makes no call more, all that are left are those of others
pub woven-rest : (parts : ℕ → List ShelfEvent) (book : List BookEvent) → Woven parts book []
woven-rest parts book = (
  rest_on 8 parts ++ others_at_book book,
  record {
    on_parts = λ p less. on-part p ∙ ap (λ l. l ++ []) (rest-parts 8 parts p less) ∙ append-none (parts p);
    beyond = λ p past. on-part p ∙ ap (λ l. l ++ []) (rest-beyond 8 parts p past);
    at_book = filter_map-append book_call (rest_on 8 parts) (others_at_book book)
        ∙ ap₂ (λ a b. a ++ b) (rest-book 8 parts) (keeps-all book_call (λ e. on_book 1 e.0 e.1) (λ e. refl) book);
    own = filter_map-append (event_by 0) (rest_on 8 parts) (others_at_book book)
        ∙ ap₂ (λ a b. a ++ b) (rest-own 8 parts) (keeps-no-map (event_by 0) (λ (e : BookEvent). on_book 1 e.0 e.1) (λ e. refl) book);
    calls = λ h among. ⊎_elim (λ front. rest-call 8 parts h front) (λ back. others-call-book book h back) (among-split h (rest_on 8 parts) (others_at_book book) among);
  },
)
  where
    append-none : (xs : List ShelfEvent) → xs ++ [] ≡ xs
    append-none [] = refl
    append-none (x ∷ xs) = ap (λ l. x ∷ l) (append-none xs)

    on-part : (p : ℕ) → shelf_calls p (rest_on 8 parts ++ others_at_book book) ≡ shelf_calls p (rest_on 8 parts) ++ []
    on-part p = filter_map-append (shelf_call p) (rest_on 8 parts) (others_at_book book)
        ∙ ap (λ l. shelf_calls p (rest_on 8 parts) ++ l) (keeps-no-map (shelf_call p) (λ (e : BookEvent). on_book 1 e.0 e.1) (λ e. refl) book)

-- ---- a call of the session on a part

module _ (url : List ℕ) (call : ShelfCall) (answer : ShelfReply) (events : List Event) (parts : ℕ → List ShelfEvent) (book : List BookEvent) (its : IsOnItsPart (part_of url) call)
    (stand : (p : ℕ) → p < 8 → Embeds (told_there p url (call, answer) ++ calls_of (on_part p) events) (parts p)) where
  here : Embeds ((call, answer) ∷ calls_of (on_part (part_of url)) events) (parts (part_of url))
  here = subst (λ b. Embeds (cond b ((call, answer) ∷ []) [] ++ calls_of (on_part (part_of url)) events) (parts (part_of url))) (eq-eqb (part_of url) (part_of url) refl) (stand (part_of url) (omega arith))

  -- what is left of each part behind it
  abbrev left : ℕ → List ShelfEvent
  left p = cond (nat_eq (part_of url) p) here.1 (parts p)

  left-there : left (part_of url) ≡ here.1
  left-there = ap (λ b. cond b here.1 (parts (part_of url))) (eq-eqb (part_of url) (part_of url) refl)

  left-elsewhere : (p : ℕ) → nat_eq (part_of url) p ≡ false → left p ≡ parts p
  left-elsewhere p apart = ap (λ b. cond b here.1 (parts p)) apart

  later-stand : (p : ℕ) → p < 8 → Embeds (calls_of (on_part p) events) (left p)
  later-stand p less = by-bool (nat_eq (part_of url) p)
      (λ same. subst (λ n. Embeds (calls_of (on_part n) events) (left n)) (eqb-true (part_of url) p same)
      (subst (Embeds (calls_of (on_part (part_of url)) events)) (sym left-there) here.3))
      (λ apart. subst (Embeds (calls_of (on_part p) events)) (sym (left-elsewhere p apart))
      (subst (λ b. Embeds (cond b ((call, answer) ∷ []) [] ++ calls_of (on_part p) events) (parts p)) apart (stand p less)))

  module _ (later : List Happening) (weaves : Weaves left book events later) where
    abbrev front : List Happening
    front = others_on (part_of url) here.0

    abbrev own_call : Happening
    own_call = on_shelf 0 (part_of url) call answer

    abbrev all : List Happening
    all = front ++ own_call ∷ later

    there : shelf_calls (part_of url) all ≡ parts (part_of url)
    there =
        filter_map-append (shelf_call (part_of url)) front (own_call ∷ later)
        ∙ ap₂ (λ a b. a ++ b) (others-there (part_of url) here.0)
        (keeps-first (shelf_call (part_of url)) own_call (call, answer) later (call-there 0 (part_of url) (call, answer))
        ∙ ap (λ l. (call, answer) ∷ l) (weaves.on_parts (part_of url) (omega arith) ∙ left-there))
        ∙ sym here.2

    elsewhere : (p : ℕ) → nat_eq (part_of url) p ≡ false → shelf_calls p all ≡ shelf_calls p later
    elsewhere p apart =
        filter_map-append (shelf_call p) front (own_call ∷ later)
        ∙ ap₂ (λ a b. a ++ b) (others-elsewhere (part_of url) p here.0 apart) (drops-own p apart)
      where
        drops-own : (n : ℕ) → nat_eq (part_of url) n ≡ false → shelf_calls n (own_call ∷ later) ≡ shelf_calls n later
        drops-own n away = drops-first (shelf_call n) own_call later (call-elsewhere 0 (part_of url) n (call, answer) away)

    is-call : (h : Happening) → Among h (own_call ∷ later) → IsCall h
    is-call h (inl same) = subst IsCall (sym same) its
    is-call h (inr among) = weaves.calls h among

    woven-by : Weaves parts book (Shelf call answer ∷ events) all
    woven-by = record {
      on_parts = λ p less. by-bool (nat_eq (part_of url) p)
          (λ same. subst (λ n. shelf_calls n all ≡ parts n) (eqb-true (part_of url) p same) there)
          (λ apart. elsewhere p apart ∙ weaves.on_parts p less ∙ left-elsewhere p apart);
      beyond = λ p past. let apart = less-apart (part_of url) p (omega (arith, past)) in elsewhere p apart ∙ weaves.beyond p past;
      at_book = filter_map-append book_call front (own_call ∷ later)
          ∙ ap₂ (λ a b. a ++ b) (keeps-no-map book_call (λ (x : ShelfEvent). on_shelf 1 (part_of url) x.0 x.1) (λ x. refl) here.0) weaves.at_book;
      own = filter_map-append (event_by 0) front (own_call ∷ later)
          ∙ ap₂ (λ a b. a ++ b) (keeps-no-map (event_by 0) (λ (x : ShelfEvent). on_shelf 1 (part_of url) x.0 x.1) (λ x. refl) here.0) (ap (λ l. Shelf call answer ∷ l) weaves.own);
      calls = λ h among. ⊎_elim (λ before. others-call (part_of url) here.0 h before) (λ behind. is-call h behind) (among-split h front (own_call ∷ later) among);
    }

  -- the calls of others before it, the call, and what comes behind it
  woven-call : ((rest : ℕ → List ShelfEvent) → ((p : ℕ) → p < 8 → Embeds (calls_of (on_part p) events) (rest p)) → Woven rest book events) → Woven parts book (Shelf call answer ∷ events)
  woven-call behind = let later = behind left later-stand in (all later.0 later.1, woven-by later.0 later.1)

-- Looks, Puts and Proves that stand in the lists of their parts
pub weave : (events : List Event) (parts : ℕ → List ShelfEvent) (book : List BookEvent) → ((event : Event) → Among event events → IsWork event)
    → ((p : ℕ) → p < 8 → Embeds (calls_of (on_part p) events) (parts p)) → Woven parts book events
weave [] parts book works stand = woven-rest parts book
weave (Shelf (Look url moment) r ∷ events) parts book works stand =
    woven-call url (Look url moment) r events parts book refl stand (λ rest later. weave events rest book (λ e among. works e (inr among)) later)
weave (Shelf (Put url text until) r ∷ events) parts book works stand =
    woven-call url (Put url text until) r events parts book refl stand (λ rest later. weave events rest book (λ e among. works e (inr among)) later)
weave (Shelf (Prove url seal) r ∷ events) parts book works stand =
    woven-call url (Prove url seal) r events parts book refl stand (λ rest later. weave events rest book (λ e among. works e (inr among)) later)
weave (Shelf (Purge moment) r ∷ events) parts book works stand = absurd (works (Shelf (Purge moment) r) (inl refl))
weave (Book call r ∷ events) parts book works stand = absurd (works (Book call r) (inl refl))

-- ---- a call of the session on the book, before those

module _ (call : BookCall) (answer : BookReply) (events : List Event) (parts : ℕ → List ShelfEvent) (front rest : List BookEvent) (later : List Happening) (weaves : Weaves parts rest events later) where
  -- the calls of others before it, the call, and what comes behind it
  abbrev pub from_book : List Happening
  from_book = others_at_book front ++ on_book 0 call answer ∷ later

  from-book-call : (h : Happening) → Among h (on_book 0 call answer ∷ later) → IsCall h
  from-book-call h (inl same) = subst IsCall (sym same) tt
  from-book-call h (inr among) = weaves.calls h among

  on-part : (p : ℕ) → shelf_calls p from_book ≡ shelf_calls p later
  on-part p = filter_map-append (shelf_call p) (others_at_book front) (on_book 0 call answer ∷ later)
      ∙ ap (λ l. l ++ shelf_calls p later) (keeps-no-map (shelf_call p) (λ (x : BookEvent). on_book 1 x.0 x.1) (λ x. refl) front)

  pub woven-book : Weaves parts (front ++ (call, answer) ∷ rest) (Book call answer ∷ events) from_book
  woven-book = record {
    on_parts = λ p less. on-part p ∙ weaves.on_parts p less;
    beyond = λ p past. on-part p ∙ weaves.beyond p past;
    at_book = filter_map-append book_call (others_at_book front) (on_book 0 call answer ∷ later)
        ∙ ap₂ (λ a b. a ++ b) (keeps-all book_call (λ x. on_book 1 x.0 x.1) (λ x. refl) front) (ap (λ l. (call, answer) ∷ l) weaves.at_book);
    own = filter_map-append (event_by 0) (others_at_book front) (on_book 0 call answer ∷ later)
        ∙ ap₂ (λ a b. a ++ b) (keeps-no-map (event_by 0) (λ (x : BookEvent). on_book 1 x.0 x.1) (λ x. refl) front) (ap (λ l. Book call answer ∷ l) weaves.own);
    calls = λ h among. ⊎_elim (λ before. others-call-book front h before) (λ behind. from-book-call h behind) (among-split h (others_at_book front) (on_book 0 call answer ∷ later) among);
  }
