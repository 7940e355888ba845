-- Each step of a turn keeps the rule.
use Rattle.std.proofs.Common.{◌≡◌, ◌≢◌, ◌⊎◌, ℕ, ◌+◌, ◌%◌, ◌<◌, ◌≤◌, ◌^◌, eqb, leb, cond, zero, suc, List, [], ◌∷◌, ◌++◌, length, set, Some, None, Bool, true, false, true≢false, refl, sym, ap, ◌∙◌, subst, ⊎_elim, inl, inr, ltb, length-set, arith, eq-eqb, ne_eqb, length-append, unwrap_or}
use Rattle.std.specs.Prelude.{slice_index}
use Rattle.std.proofs.lemmas.Bool.{ltb-true, ltb-false, leb-true, leb-false}
use Rattle.std.proofs.lemmas.List.{append_assoc}
use mathlib.Core.Logic.{dite}
use mathlib.Core.Option.{Option as Maybe, none, some, some-injective, some-ne-none}
use mathlib.Core.List.{append-nil}
use native.Mathlib.Decide.{ℕ_discrete}
use lib.ListN.{get_elem?}
use prog.Atomic.{either}
use Rattle.atomic_table.specs.Table.{State, Me, Step, Act, rest, step, keeps, takes, gives, stepped, carried_after, Valid, Allows, Splits, Joins}
use Rattle.atomic_table.proofs.Lists.{at_set, at_snoc, at_longer, set_here, set_else}
use Rattle.turn_log.specs.Runs.{IsLegal, IsPrefix, Runs, call_limit}
use Rattle.turn_log.specs.declared.view.Stored.{Stored}
use Rattle.turn_log.specs.declared.view.View.{View}
use Rattle.turn_log.specs.Views.{view, first_view, kept_by_split, given_by_split, spent_view, joined_view, event_of, value_of, committed}
use Rattle.turn_log.specs.Places.{longer, IsIn, Rising, places_below, put_in, merged}
use Rattle.turn_log.specs.Rule.{ViewInvariant, Held, Placed, TurnInvariant, share_in}
use Rattle.turn_log.specs.Shares.{IsWhole, added, all_of}
use Rattle.turn_log.specs.StepKinds.{IsTaken, Takes, Counts, Commits, Releases, Learns}
use Rattle.turn_log.proofs.Owning.{all_below, below_has, has_end, has_front, has_snoc, inside, limits, placed_same, rising_snoc, shares_join, shares_same, shares_split, sole}
use Rattle.turn_log.proofs.Shares.{added_none, total_positive}

off : false ≡ true → ⊥
off e = true≢false (sym e)

module _ {A : Type 0} where
  pub some_same : (x y : A) → Some x ≡ Some y → x ≡ y
  some_same x y e = ap (λ o. unwrap_or o x) e

  -- two seats aren't both the only one
  not_two : (l : List A) (i j : ℕ) (a b : A) → get_elem? l i ≡ some a → get_elem? l j ≡ some b → i ≢ j → length l ≡ 1 → ⊥
  not_two l i j a b e f apart one = let x = inside l i a e in let y = inside l j b f in apart (omega arith)

  each_set : (F : ℕ → ℕ → A → Type 0) (views : List A) (id : ℕ) (w : A) → ((j : ℕ) (u : A) → j ≢ id → get_elem? views j ≡ some u → F (length views) j u) → F (length views) id w → (j : ℕ) (u : A) → get_elem? (set views id w) j ≡ some u → F (length (set views id w)) j u
  each_set F views id w others mine j u e =
      subst (λ (n : ℕ). F n j u) (sym (length-set views id w)) (⊎_elim
      (λ (x : (j ≡ id) × (w ≡ u)). subst (λ (y : ℕ × A). F (length views) y.0 y.1) (λ i. (sym x.0 i, x.1 i)) mine)
      (λ (x : (j ≢ id) × (get_elem? views j ≡ some u)). others j u x.0 x.1)
      (at_set views id j w u e))

has_put : (q p : ℕ) (xs : List ℕ) → IsIn q (put_in p xs) → (q ≡ p) ⊎ IsIn q xs
has_put q p [] h = h
has_put q p (x ∷ xs) h = by (ltb p x) (has_put q p xs) h
  where
    by : (b : Bool) → (IsIn q (put_in p xs) → (q ≡ p) ⊎ IsIn q xs) → IsIn q (cond b (p ∷ x ∷ xs) (x ∷ put_in p xs)) → (q ≡ p) ⊎ IsIn q (x ∷ xs)
    by true again k = k
    by false again k = ⊎_elim (λ e. inr (inl e)) (λ t. ⊎_elim (λ e. inl e) (λ u. inr (inr u)) (again t)) k

has_merged : (q : ℕ) (xs ys : List ℕ) → IsIn q (merged xs ys) → IsIn q xs ⊎ IsIn q ys
has_merged q [] ys h = inr h
has_merged q (x ∷ xs) ys h = ⊎_elim (λ e. inl (inl e)) (λ t. ⊎_elim (λ k. inl (inr k)) (λ k. inr k) (has_merged q xs ys t)) (has_put q x (merged xs ys) h)

rising_put : (p : ℕ) (xs : List ℕ) → Rising xs → (IsIn p xs → ⊥) → Rising (put_in p xs)
rising_put p [] r n = ((λ q k. absurd k), tt)
rising_put p (x ∷ xs) r n = by (ltb p x) refl (rising_put p xs r.1 (λ k. n (inr k)))
  where
    by : (b : Bool) → ltb p x ≡ b → Rising (put_in p xs) → Rising (cond b (p ∷ x ∷ xs) (x ∷ put_in p xs))
    by true e again = let l : p < x = ltb-true p x e in ((λ q k. ⊎_elim (λ (h : q ≡ x). omega arith) (λ t. let m = r.0 q t in omega arith) k), r)
    by false e again = let l : x ≤ p = ltb-false p x e in
        ((λ q k. ⊎_elim (λ (h : q ≡ p). dite (ℕ_discrete p x) (λ same. absurd (n (inl same))) (λ apart. omega arith)) (λ t. r.0 q t) (has_put q p xs k)), again)

rising_merged : (xs ys : List ℕ) → Rising xs → Rising ys → ((p : ℕ) → IsIn p xs → IsIn p ys → ⊥) → Rising (merged xs ys)
rising_merged [] ys r k apart = k
rising_merged (x ∷ xs) ys r k apart =
    rising_put x (merged xs ys) (rising_merged xs ys r.1 k (λ p h. apart p (inr h)))
    (λ h. ⊎_elim (λ t. let l = r.0 x t in omega arith) (λ t. apart x (inl refl) t) (has_merged x xs ys h))

put_has : (q p : ℕ) (xs : List ℕ) → IsIn q xs → IsIn q (put_in p xs)
put_has q p [] h = absurd h
put_has q p (x ∷ xs) h = by (ltb p x) (put_has q p xs) h
  where
    by : (b : Bool) → (IsIn q xs → IsIn q (put_in p xs)) → IsIn q (x ∷ xs) → IsIn q (cond b (p ∷ x ∷ xs) (x ∷ put_in p xs))
    by true again k = inr k
    by false again k = ⊎_elim (λ e. inl e) (λ t. inr (again t)) k

put_self : (p : ℕ) (xs : List ℕ) → IsIn p (put_in p xs)
put_self p [] = inl refl
put_self p (x ∷ xs) = by (ltb p x) (put_self p xs)
  where
    by : (b : Bool) → IsIn p (put_in p xs) → IsIn p (cond b (p ∷ x ∷ xs) (x ∷ put_in p xs))
    by true again = inl refl
    by false again = inr again

merged_right : (q : ℕ) (xs ys : List ℕ) → IsIn q ys → IsIn q (merged xs ys)
merged_right q [] ys h = h
merged_right q (x ∷ xs) ys h = put_has q x (merged xs ys) (merged_right q xs ys h)

rising_unput : (p : ℕ) (xs : List ℕ) → Rising (put_in p xs) → Rising xs × (IsIn p xs → ⊥)
rising_unput p [] r = (tt, λ h. h)
rising_unput p (x ∷ xs) r = by (ltb p x) (rising_unput p xs) r
  where
    by : (b : Bool) → (Rising (put_in p xs) → Rising xs × (IsIn p xs → ⊥)) → Rising (cond b (p ∷ x ∷ xs) (x ∷ put_in p xs)) → Rising (x ∷ xs) × (IsIn p (x ∷ xs) → ⊥)
    by true again k = (k.1, λ h. let l = k.0 p h in omega arith)
    by false again k = let d = again k.1 in
        (((λ q h. k.0 q (put_has q p xs h)), d.0), λ h. ⊎_elim (λ (e : p ≡ x). let l = k.0 p (put_self p xs) in omega arith) (λ t. d.1 t) h)

-- two lists whose merge rises have no place in common
merged_left : (q : ℕ) (xs ys : List ℕ) → IsIn q xs → IsIn q (merged xs ys)
merged_left q [] ys h = absurd h
merged_left q (x ∷ xs) ys h = ⊎_elim (λ e. subst (λ (z : ℕ). IsIn z (put_in x (merged xs ys))) (sym e) (put_self x (merged xs ys))) (λ t. put_has q x (merged xs ys) (merged_left q xs ys t)) h

pub merged_apart : (xs ys : List ℕ) → Rising (merged xs ys) → (p : ℕ) → IsIn p xs → IsIn p ys → ⊥
merged_apart [] ys r p h k = h
merged_apart (x ∷ xs) ys r p h k =
    let d = rising_unput x (merged xs ys) r in
    ⊎_elim (λ (e : p ≡ x). d.1 (merged_right x xs ys (subst (λ (q : ℕ). IsIn q ys) e k))) (λ t. merged_apart xs ys d.0 p t k) h

pub length_more : {A : Type 0} (l : List A) (a : A) → length (l ++ a ∷ []) ≡ suc (length l)
length_more [] a = refl
length_more (x ∷ xs) a = ap suc (length_more xs a)

module _ {C R : Type 0} where
  begins_more : (seen log : List (C × R)) (e : C × R) → IsPrefix seen log → IsPrefix seen (log ++ e ∷ [])
  begins_more seen log e h = (h.0 ++ e ∷ [], ap (λ l. l ++ e ∷ []) h.1 ∙ append_assoc seen h.0 (e ∷ []))

  pub begins_all : (log : List (C × R)) → IsPrefix log log
  begins_all log = ([], sym (append-nil log))

  pub begins_le : (a b : List (C × R)) → IsPrefix a b → length a ≤ length b
  begins_le a b h = let e = ap length h.1 ∙ length-append a h.0 in omega (arith, e)

  -- of two beginnings of one list the shorter begins the longer
  begins_other : (a b r s : List (C × R)) → a ++ r ≡ b ++ s → length a ≤ length b → IsPrefix a b
  begins_other [] b r s e le = (b, refl)
  begins_other (x ∷ xs) [] r s e le = absurd (omega arith)
  begins_other (x ∷ xs) (y ∷ ys) r s e le =
      let head : x ≡ y = cc e in
      let tail : xs ++ r ≡ ys ++ s = cc e in
      let t = begins_other xs ys r s tail (omega arith) in
      (t.0, λ i. sym head i ∷ t.1 i)

  begins_shorter : (a b log : List (C × R)) → IsPrefix a log → IsPrefix b log → length a ≤ length b → IsPrefix a b
  begins_shorter a b log h k le = begins_other a b h.0 k.0 (sym h.1 ∙ k.1) le

  longer_left : (a b : List (C × R)) → length a ≤ length (longer a b)
  longer_left a b = by (leb (length a) (length b)) refl
    where
      by : (k : Bool) → leb (length a) (length b) ≡ k → length a ≤ length (cond k b a)
      by true e = leb-true (length a) (length b) e
      by false e = omega arith

  longer_right : (a b : List (C × R)) → length b ≤ length (longer a b)
  longer_right a b = by (leb (length a) (length b)) refl
    where
      by : (k : Bool) → leb (length a) (length b) ≡ k → length b ≤ length (cond k b a)
      by true e = omega arith
      by false e = let l : length b < length a = leb-false (length a) (length b) e in omega arith

module _ {X C R : Type 0} (steps : X → C → R → X → Type 0) where
  abbrev St : Type 0
  St = State (Stored X C R) (View X C R)

  abbrev V : Type 0
  V = View X C R

  abbrev M : Type 0
  M = Me (Stored X C R) (View X C R)

  pub runs_more : (x : X) (log : List (C × R)) (y z : X) (c : C) (r : R) → Runs steps x log y → steps y c r z → Runs steps x (log ++ (c, r) ∷ []) z
  runs_more x [] y z c r h k = (z, subst (λ q. steps q c r z) h k, refl)
  runs_more x (e ∷ es) y z c r h k = (h.0, h.1, runs_more h.0 es y z c r h.2 k)

  -- a run begins with a run
  pub runs_front : (x : X) (a more : List (C × R)) (y : X) → Runs steps x (a ++ more) y → IsLegal steps x a
  runs_front x [] more y h = (x, refl)
  runs_front x (e ∷ es) more y h = let t = runs_front h.0 es more y h.2 in (t.0, (h.0, h.1, t.1))

  legal_front : (x : X) (a log : List (C × R)) (y : X) → IsPrefix a log → Runs steps x log y → IsLegal steps x a
  legal_front x a log y h k = runs_front x a h.0 y (subst (λ l. Runs steps x l y) h.1 k)

  -- the seat that holds the turn still does where it keeps it
  held_same : (views : List V) (id : ℕ) (v w : V) (turn holder : ℕ) → get_elem? views id ≡ some v → (v.holds ≡ true → w.holds ≡ true) → Held views turn holder → Held (set views id w) turn holder
  held_same views id v w turn holder at keeps' held = ⊎_elim (λ z. inl z)
      (λ t. dite (ℕ_discrete holder id)
      (λ same. inr (
        t.0,
        w,
        subst (λ (i : ℕ). get_elem? (set views id w) i ≡ some w) (sym same) (set_here views id w (inside views id v at)),
        keeps' (ap (λ (u : V). u.holds) (some-injective v t.1 (sym at ∙ (ap (λ (i : ℕ). get_elem? views i) (sym same) ∙ t.2))) ∙ t.3),
      ))
      (λ apart. inr (t.0, t.1, set_else views id holder w apart ∙ t.2, t.3)))
      held

  abbrev plain : List ℕ → Maybe (Stored X C R) → List V → St
  plain ws h vs = record { words = ws; homes = h ∷ []; views = vs }

  like : (s : St) (r : TurnInvariant steps s) → s ≡ plain (length r.log ∷ r.turn ∷ []) r.home s.views
  like s r = λ i. record { words = r.words i; homes = r.homes i; views = s.views }

  -- what a step asks of one state
  abbrev At : ℕ → M → ℕ → (ℕ → ℕ) → (ℕ → M → Type 0) → St → Type 0
  At id me i f then s = (w : V) × (a : Act (Stored X C R)) × Valid s.homes me.1 a × TurnInvariant steps (stepped s i (f (slice_index s.words i)) id me.1 w a) × then (slice_index s.words i) (w, carried_after me.1 a)

  -- where one view holds the whole, another holds nothing
  pub sole_of : (s : St) (r : TurnInvariant steps s) (id other : ℕ) (v u : V) → get_elem? s.views id ≡ some v → get_elem? s.views other ≡ some u → IsWhole v.share → id ≢ other → u.share.units ≡ 0
  sole_of s r id other v u at there whole apart = sole s.views id other v u apart (λ j w e. (r.each j w e).units) at there whole r.shares

  -- such a view has each place of the list
  pub covers : (s : St) (r : TurnInvariant steps s) (id : ℕ) (v : V) → get_elem? s.views id ≡ some v → IsWhole v.share → v.mine ≡ places_below (length r.log)
  covers s r id v at whole =
      let mine = r.each id v at in
      all_below v.mine (length r.log) mine.rising
      (λ p h. let z = (mine.places p h).0 in let l = begins_le v.seen r.log mine.begins in omega arith)
      (λ p less. let f = r.placed p less in dite (ℕ_discrete (r.owner p) id)
      (λ same. subst (λ (x : V). IsIn p x.mine) (some-injective f.0 v (sym f.1 ∙ (ap (λ (i : ℕ). get_elem? s.views i) same ∙ at))) f.2)
      (λ apart. absurd ((r.each (r.owner p) f.0 f.1).spent (sole_of s r id (r.owner p) v f.0 at f.1 whole (λ e. apart (sym e))) p f.2)))

  -- and has seen all of it
  covers_seen : (s : St) (r : TurnInvariant steps s) (id : ℕ) (v : V) → get_elem? s.views id ≡ some v → IsWhole v.share → v.mine ≡ places_below (length v.seen)
  covers_seen s r id v at whole =
      let mine = r.each id v at in
      let l = begins_le v.seen r.log mine.begins in
      let all = covers s r id v at whole in
      all ∙ ap places_below (dite (ℕ_discrete (length r.log) (length v.seen)) (λ e. e) (λ apart.
      let less : length v.seen < length r.log = omega arith in
      let z = (mine.places (length v.seen) (subst (λ (xs : List ℕ). IsIn (length v.seen) xs) (sym all) (below_has (length r.log) (length v.seen) less))).0 in absurd (omega arith)))

  pub takes_turn : (slots id : ℕ) (me : M) → Allows (TurnInvariant steps) slots id me 1 (λ n. either (eqb n 0) 1 n) (Takes (step slots 1 0 1 none) me)
  takes_turn slots id me s r _ at small = let mine = r.each id me.0 at in
      subst (At id me 1 (λ n. either (eqb n 0) 1 n) (Takes (step slots 1 0 1 none) me)) (sym (like s r)) (dite (ℕ_discrete r.turn 0)
      (λ z. let f = r.free z in let w : V = view me.0.seen me.0.mine me.0.share me.0.alone me.0.first true false (Some r.now) in (
        w,
        takes 0 f.0,
        ap some f.1,
        record {
          log = r.log;
          first = r.first;
          now = r.now;
          turn = 1;
          holder = id;
          owner = r.owner;
          placed = placed_same s.views id me.0 w r.log r.owner at (λ p h. h) r.placed;
          shares = shares_same s.views id me.0 w at refl r.shares;
          home = none;
          runs = r.runs;
          words = ap (λ b. length r.log ∷ either b 1 r.turn ∷ []) (eq-eqb r.turn 0 z);
          homes = refl;
          room = r.room;
          held = inr (refl, w, set_here s.views id w (inside s.views id me.0 at), refl);
          out = λ _. refl;
          free = λ e. absurd (omega arith);
          each = each_set (λ n j u. ViewInvariant r.log r.first r.now 1 id r.owner n j u) s.views id w
              (λ j u apart e. let k = r.each j u e in record {
                origin = k.origin;
                begins = k.begins;
                behind = k.behind;
                turn_is = λ h. let t = (k.turn_is h).0 in absurd (omega arith);
                whole = k.whole;
                places = k.places;
                rising = k.rising;
                units = k.units;
                spent = k.spent;
                only = k.only;
              })
              (record { origin = mine.origin; begins = mine.begins; behind = (r.log, refl); turn_is = λ _. (refl, refl, refl); whole = λ _ k. absurd (off k); places = mine.places; rising = mine.rising; units = mine.units; spent = mine.spent; only = mine.only });
        },
        ((λ _. (f.0, r.now, f.2, refl)), λ ne. absurd (ne z)),
      ))
      (λ n. (
        me.0,
        keeps,
        tt,
        record {
          log = r.log;
          first = r.first;
          now = r.now;
          turn = r.turn;
          holder = r.holder;
          owner = r.owner;
          placed = placed_same s.views id me.0 me.0 r.log r.owner at (λ p h. h) r.placed;
          shares = shares_same s.views id me.0 me.0 at refl r.shares;
          home = r.home;
          runs = r.runs;
          words = ap (λ b. length r.log ∷ either b 1 r.turn ∷ []) (ne_eqb r.turn 0 n);
          homes = refl;
          room = r.room;
          held = held_same s.views id me.0 me.0 r.turn r.holder at (λ h. h) r.held;
          out = r.out;
          free = r.free;
          each = each_set (λ n j u. ViewInvariant r.log r.first r.now r.turn r.holder r.owner n j u) s.views id me.0 (λ j u apart e. r.each j u e) mine;
        },
        ((λ z. absurd (n z)), λ _. refl),
      )))

  pub counts : (slots id : ℕ) (me : M) → Allows (TurnInvariant steps) slots id me 0 (λ n. n) (Counts steps (step slots 0 0 0 none) me)
  counts slots id me s r _ at small = let mine = r.each id me.0 at in let w : V = view r.log me.0.mine me.0.share me.0.alone me.0.first me.0.holds true me.0.now in
      subst (At id me 0 (λ n. n) (Counts steps (step slots 0 0 0 none) me)) (sym (like s r)) (
        w,
        keeps,
        tt,
        record {
          log = r.log;
          first = r.first;
          now = r.now;
          turn = r.turn;
          holder = r.holder;
          owner = r.owner;
          placed = placed_same s.views id me.0 w r.log r.owner at (λ p h. h) r.placed;
          shares = shares_same s.views id me.0 w at refl r.shares;
          home = r.home;
          runs = r.runs;
          words = refl;
          homes = refl;
          room = r.room;
          held = held_same s.views id me.0 w r.turn r.holder at (λ h. h) r.held;
          out = r.out;
          free = r.free;
          each = each_set (λ n j u. ViewInvariant r.log r.first r.now r.turn r.holder r.owner n j u) s.views id w (λ j u apart e. r.each j u e)
              (record { origin = mine.origin; begins = begins_all r.log; behind = (r.log, refl); turn_is = mine.turn_is; whole = λ _ _. refl; places = λ p h. let z = mine.places p h in let l = begins_le me.0.seen r.log mine.begins in (omega arith, z.1); rising = mine.rising; units = mine.units; spent = mine.spent; only = mine.only });
        },
        (
          r.log,
          refl,
          r.room,
          mine.begins,
          (λ f x h e1 e2. let a : f ≡ r.first = mine.origin f e1 in let b : x ≡ r.now = some_same x r.now (sym e2 ∙ (mine.turn_is h).2) in
              subst (λ (q : X × X). Runs steps q.0 r.log q.1) (λ i. (sym a i, sym b i)) r.runs),
          (λ a. (mine.only a).1),
          (λ whole. covers s r id me.0 at whole),
          refl,
        ),
      )

  pub learns : (slots id : ℕ) (me : M) → Allows (TurnInvariant steps) slots id me 0 (λ n. n) (Learns steps (step slots 0 0 0 none) me)
  learns slots id me s r _ at small = let mine = r.each id me.0 at in
      subst (At id me 0 (λ n. n) (Learns steps (step slots 0 0 0 none) me)) (sym (like s r)) (
        me.0,
        keeps,
        tt,
        record {
          log = r.log;
          first = r.first;
          now = r.now;
          turn = r.turn;
          holder = r.holder;
          owner = r.owner;
          placed = placed_same s.views id me.0 me.0 r.log r.owner at (λ p h. h) r.placed;
          shares = shares_same s.views id me.0 me.0 at refl r.shares;
          home = r.home;
          runs = r.runs;
          words = refl;
          homes = refl;
          room = r.room;
          held = held_same s.views id me.0 me.0 r.turn r.holder at (λ h. h) r.held;
          out = r.out;
          free = r.free;
          each = each_set (λ n j u. ViewInvariant r.log r.first r.now r.turn r.holder r.owner n j u) s.views id me.0 (λ j u apart e. r.each j u e) mine;
        },
        (
          record {
            own = record { rising = mine.rising; within = λ p h. (mine.places p h).0 };
            legal = λ f e. subst (λ x. IsLegal steps x me.0.seen) (sym (mine.origin f e)) (legal_front r.first me.0.seen r.log r.now mine.begins r.runs);
            behind = begins_shorter me.0.less me.0.seen r.log mine.behind mine.begins;
            limited = limits s.views id me.0 (λ j w e. (r.each j w e).units) at r.shares;
            covered = covers_seen s r id me.0 at;
          },
          refl,
        ),
      )

  pub commits : (slots id : ℕ) (me : M) (x y : X) (c : C) (p : R) → me.0.holds ≡ true → me.0.fresh ≡ true → me.0.now ≡ Some x → 0 < me.0.share.units → length me.0.seen < 4611686018427387904
      → event_of me.1 ≡ (c, p) ∷ [] → value_of me.1 ≡ Some y → steps x c p y → Allows (TurnInvariant steps) slots id me 0 (λ n. (n + 1) % 2 ^ 64) (Commits (step slots 0 1 0 none) me)
  commits slots id me x y c p h k is units room event value goes s r _ at small =
      let mine = r.each id me.0 at in
      let w : V = committed me.0 me.1 in
      let t = mine.turn_is h in
      let all : me.0.seen ≡ r.log = mine.whole h k in
      let long : length me.0.seen ≡ length r.log = ap length all in
      let here : x ≡ r.now = some_same x r.now (sym is ∙ t.2) in
      let e : C × R = (c, p) in
      let log = r.log ++ e ∷ [] in
      let seen : me.0.seen ++ event_of me.1 ≡ log = (λ i. all i ++ event i) in
      let grown : length log ≡ suc (length r.log) = omega (arith, length-append r.log (e ∷ [])) in
      let owner : ℕ → ℕ = λ q. cond (eqb q (length r.log)) id (r.owner q) in
      let longer_seen : length (me.0.seen ++ event_of me.1) ≡ suc (length me.0.seen) = ap length seen ∙ (grown ∙ ap suc (sym long)) in
      let more : (q : ℕ) → q < length me.0.seen → q < length (me.0.seen ++ event_of me.1) = λ q l. omega arith in
      let last : (q : ℕ) → q ≡ length me.0.seen → q < length (me.0.seen ++ event_of me.1) = λ q l. omega arith in
      let in_log : (q : ℕ) → q < length me.0.seen → q < length r.log = λ q l. omega arith in
      let kept_owner : (q : ℕ) → q < length r.log → owner q ≡ r.owner q = λ q l. ap (λ b. cond b id (r.owner q)) (ne_eqb q (length r.log) (λ h'. omega arith)) in
      let new_owner : (q : ℕ) → q ≡ length r.log → owner q ≡ id = λ q l. ap (λ b. cond b id (r.owner q)) (eq-eqb q (length r.log) l) in
      subst (At id me 0 (λ n. (n + 1) % 2 ^ 64) (Commits (step slots 0 1 0 none) me)) (sym (like s r)) (
        w,
        keeps,
        tt,
        record {
          log = log;
          first = r.first;
          now = y;
          turn = r.turn;
          holder = r.holder;
          owner = owner;
          placed = λ q less. dite (ℕ_discrete q (length r.log))
              (λ e. (
                w,
                subst (λ (i : ℕ). get_elem? (set s.views id w) i ≡ some w) (sym (new_owner q e)) (set_here s.views id w (inside s.views id me.0 at)),
                subst (λ (z : ℕ). IsIn z (me.0.mine ++ length me.0.seen ∷ [])) (long ∙ sym e) (has_end (length me.0.seen) me.0.mine),
              ))
              (λ apart.
              let l : q < length r.log = omega arith in
              let f = placed_same s.views id me.0 w r.log r.owner at (λ p' h'. has_front p' me.0.mine (length me.0.seen ∷ []) h') r.placed q l in
              (f.0, ap (λ (i : ℕ). get_elem? (set s.views id w) i) (kept_owner q l) ∙ f.1, f.2));
          shares = shares_same s.views id me.0 w at refl r.shares;
          home = r.home;
          runs = runs_more r.first r.log r.now y c p r.runs (subst (λ q. steps q c p y) here goes);
          words = ap (λ (n : ℕ). n ∷ r.turn ∷ []) (omega (arith, length-append r.log (e ∷ [])));
          homes = refl;
          room = omega arith;
          held = held_same s.views id me.0 w r.turn r.holder at (λ _. refl) r.held;
          out = r.out;
          free = λ z. let o = t.0 in absurd (omega arith);
          each = each_set (λ n j u. ViewInvariant log r.first y r.turn r.holder owner n j u) s.views id w
              (λ j u apart at'. let q = r.each j u at' in record {
                origin = q.origin;
                begins = begins_more u.seen r.log e q.begins;
                behind = begins_more u.less r.log e q.behind;
                turn_is = λ h'. absurd (apart ((q.turn_is h').1 ∙ sym t.1));
                whole = λ h' _. absurd (apart ((q.turn_is h').1 ∙ sym t.1));
                places = λ p' h'. let z = q.places p' h' in let l = begins_le u.seen r.log q.begins in (z.0, kept_owner p' (omega arith) ∙ z.1);
                rising = q.rising;
                units = q.units;
                spent = q.spent;
                only = λ a. absurd (not_two s.views j id u me.0 at' at apart (q.only a).0);
              })
              (record {
                origin = mine.origin;
                begins = ([], sym seen ∙ sym (append-nil (me.0.seen ++ event_of me.1)));
                behind = (log, refl);
                turn_is = λ _. (t.0, t.1, value);
                whole = λ _ _. seen;
                places = λ p' h'. ⊎_elim (λ was. let z = mine.places p' was in (more p' z.0, kept_owner p' (in_log p' z.0) ∙ z.1)) (λ (is' : p' ≡ length me.0.seen). (last p' is', new_owner p' (is' ∙ long))) (has_snoc p' me.0.mine (length me.0.seen) h');
                rising = rising_snoc me.0.mine (length me.0.seen) mine.rising (λ p' h'. (mine.places p' h').0);
                units = mine.units;
                spent = λ all_spent. absurd (omega (arith, units, all_spent));
                only = λ a. let z = mine.only a in (z.0, (λ i. z.1 i ++ long i ∷ []) ∙ ap places_below (sym grown));
              });
        },
        refl,
      )

  pub releases : (slots id : ℕ) (me : M) (stored : Stored X C R) → me.0.holds ≡ true → me.1 ≡ (0, stored) ∷ [] → stored.value ≡ me.0.now
      → Allows (TurnInvariant steps) slots id me 1 (λ _. 0) (λ _. Releases (step slots 1 0 0 none) me 0)
  releases slots id me stored h hand value s r _ at small =
      let mine = r.each id me.0 at in
      let t = mine.turn_is h in
      let w : V = view me.0.seen me.0.mine me.0.share me.0.alone me.0.first false false None in
      subst (At id me 1 (λ _. 0) (λ _. Releases (step slots 1 0 0 none) me 0)) (sym (like s r)) (
        w,
        gives,
        tt,
        record {
          log = r.log;
          first = r.first;
          now = r.now;
          turn = 0;
          holder = r.holder;
          owner = r.owner;
          placed = placed_same s.views id me.0 w r.log r.owner at (λ p h. h) r.placed;
          shares = shares_same s.views id me.0 w at refl r.shares;
          home = some stored;
          runs = r.runs;
          words = refl;
          homes = ap (λ l. Rattle.atomic_table.specs.Table.put_back (r.home ∷ []) l) hand;
          room = r.room;
          held = inl refl;
          out = λ e. absurd (omega arith);
          free = λ _. (stored, refl, value ∙ t.2);
          each = each_set (λ n j u. ViewInvariant r.log r.first r.now 0 r.holder r.owner n j u) s.views id w
              (λ j u apart at'. let q = r.each j u at' in record {
                origin = q.origin;
                begins = q.begins;
                behind = q.behind;
                turn_is = λ h'. absurd (apart ((q.turn_is h').1 ∙ sym t.1));
                whole = λ h' _. absurd (apart ((q.turn_is h').1 ∙ sym t.1));
                places = q.places;
                rising = q.rising;
                units = q.units;
                spent = q.spent;
                only = q.only;
              })
              (record { origin = mine.origin; begins = mine.begins; behind = (r.log, refl); turn_is = λ h'. absurd (off h'); whole = λ h' _. absurd (off h'); places = mine.places; rising = mine.rising; units = mine.units; spent = mine.spent; only = mine.only });
        },
        refl,
      )

  quiet : (log : List (C × R)) (first now : X) (turn holder : ℕ) (owner : ℕ → ℕ) (count by : ℕ) (v : V) → ((x : X) → v.first ≡ Some x → x ≡ first) → IsPrefix v.seen log → IsPrefix v.less log
      → ((p : ℕ) → IsIn p v.mine → (p < length v.seen) × (owner p ≡ by)) → Rising v.mine → 0 < v.share.total → (v.share.units ≡ 0 → (p : ℕ) → IsIn p v.mine → ⊥) → v.holds ≡ false → v.alone ≡ false → ViewInvariant log first now turn holder owner count by v
  quiet log first now turn holder owner count by v origin begins behind has rising units spent idle many = record {
    origin = origin;
    begins = begins;
    behind = behind;
    turn_is = λ h. absurd (off (sym idle ∙ h));
    whole = λ h _. absurd (off (sym idle ∙ h));
    places = has;
    rising = rising;
    units = units;
    spent = spent;
    only = λ a. absurd (off (sym many ∙ a));
  }

  held_longer : (views : List V) (u : V) (turn holder : ℕ) → Held views turn holder → Held (views ++ u ∷ []) turn holder
  held_longer views u turn holder held = ⊎_elim (λ z. inl z) (λ t. inr (t.0, t.1, at_longer views (u ∷ []) holder t.1 t.2, t.3)) held

  pub splits : (id : ℕ) (v : V) → Splits (TurnInvariant steps) id v (kept_by_split v) (given_by_split v)
  splits id v s r at =
      let mine = r.each id v at in
      let after = set s.views id (kept_by_split v) ++ given_by_split v ∷ [] in
      let not_alone : (j : ℕ) (u : V) → get_elem? s.views j ≡ some u → j ≢ id → u.alone ≡ true → ⊥ = λ j u e apart a. not_two s.views j id u v e at apart ((r.each j u e).only a).0 in record {
        log = r.log;
        first = r.first;
        now = r.now;
        turn = r.turn;
        holder = r.holder;
        owner = r.owner;
        placed = λ p less. let f = placed_same s.views id v (kept_by_split v) r.log r.owner at (λ q h. h) r.placed p less in (f.0, at_longer (set s.views id (kept_by_split v)) (given_by_split v ∷ []) (r.owner p) f.0 f.1, f.2);
        shares = shares_split s.views id v (kept_by_split v) (given_by_split v) at refl refl r.shares;
        home = r.home;
        runs = r.runs;
        words = r.words;
        homes = r.homes;
        room = r.room;
        held = held_longer (set s.views id (kept_by_split v)) (given_by_split v) r.turn r.holder (held_same s.views id v (kept_by_split v) r.turn r.holder at (λ h. h) r.held);
        out = r.out;
        free = r.free;
        each = λ j u e. ⊎_elim
            (λ was. each_set (λ _ j u. ViewInvariant r.log r.first r.now r.turn r.holder r.owner (length after) j u) s.views id (kept_by_split v)
            (λ j u apart e. let q = r.each j u e in record { origin = q.origin; begins = q.begins; behind = q.behind; turn_is = q.turn_is; whole = q.whole; places = q.places; rising = q.rising; units = q.units; spent = q.spent; only = λ a. absurd (not_alone j u e apart a) })
            (record { origin = mine.origin; begins = mine.begins; behind = (r.log, refl); turn_is = mine.turn_is; whole = mine.whole; places = mine.places; rising = mine.rising; units = let t = mine.units in omega arith; spent = mine.spent; only = λ a. absurd (off a) }) j u was)
            (λ (same : given_by_split v ≡ u). subst (ViewInvariant r.log r.first r.now r.turn r.holder r.owner (length after) j) same (quiet r.log r.first r.now r.turn r.holder r.owner (length after) j (given_by_split v) mine.origin mine.begins (r.log, refl) (λ p h. absurd h) tt (let t = mine.units in omega arith) (λ _ p h. absurd h) refl refl))
            (at_snoc (set s.views id (kept_by_split v)) (given_by_split v) u j e);
      }

  begins_longer : (a b log : List (C × R)) → IsPrefix a log → IsPrefix b log → (k : Bool) → IsPrefix (cond k b a) log
  begins_longer a b log h k true = k
  begins_longer a b log h k false = h

  pub joins : (id : ℕ) (v : V) (other : ℕ) (u : V) → v.holds ≡ false → u.holds ≡ false → Joins (TurnInvariant steps) id v other u (joined_view v u) spent_view
  joins id v other u idle idle' s r at apart there =
      let owner : ℕ → ℕ = λ p. cond (eqb (r.owner p) other) id (r.owner p) in
      let F = λ (n j : ℕ) (x : V). ViewInvariant r.log r.first r.now r.turn r.holder owner n j x in
      let mine = r.each id v at in
      let w : V = joined_view v u in
      let found : get_elem? s.views other ≡ some u = ⊎_elim (λ (t : (other ≡ id) × (w ≡ u)). absurd (apart t.0)) (λ (t : (other ≢ id) × (get_elem? s.views other ≡ some u)). t.1) (at_set s.views id other w u there) in
      let theirs = r.each other u found in
      let stays : (p : ℕ) (j : ℕ) → j ≢ other → r.owner p ≡ j → owner p ≡ j = λ p j n e. ap (λ b. cond b id (r.owner p)) (ne_eqb (r.owner p) other (λ h. n (sym e ∙ h))) ∙ e in
      let goes : (p : ℕ) → r.owner p ≡ other → owner p ≡ id = λ p e. ap (λ b. cond b id (r.owner p)) (eq-eqb (r.owner p) other e) in
      let left = longer_left v.seen u.seen in
      let right = longer_right v.seen u.seen in
      let k = leb (length v.seen) (length u.seen) in
      let joined : F (length s.views) id w = quiet r.log r.first r.now r.turn r.holder owner (length s.views) id w mine.origin (begins_longer v.seen u.seen r.log mine.begins theirs.begins k) (begins_longer u.seen v.seen r.log theirs.begins mine.begins k)
      (λ p h. ⊎_elim (λ t. let z = mine.places p t in (omega arith, stays p id (λ e. apart (sym e)) z.1)) (λ t. let z = theirs.places p t in (omega arith, goes p z.1)) (has_merged p v.mine u.mine h))
      (rising_merged v.mine u.mine mine.rising theirs.rising (λ p h k. apart (sym (theirs.places p k).1 ∙ (mine.places p h).1)))
      (total_positive v.share u.share mine.units theirs.units)
      (λ none p h. let n = added_none v.share u.share mine.units theirs.units none in ⊎_elim (λ t. mine.spent n.0 p t) (λ t. theirs.spent n.1 p t) (has_merged p v.mine u.mine h)) refl refl in
      let views' = set (set s.views id w) other spent_view in
      let w_at : get_elem? views' id ≡ some w = set_else (set s.views id w) other id spent_view (λ e. apart (sym e)) ∙ set_here s.views id w (inside s.views id v at) in
      record {
        log = r.log;
        first = r.first;
        now = r.now;
        turn = r.turn;
        holder = r.holder;
        owner = owner;
        placed = λ p less. let f = r.placed p less in dite (ℕ_discrete (r.owner p) other)
            (λ (e : r.owner p ≡ other). (
              w,
              subst (λ (i : ℕ). get_elem? views' i ≡ some w) (sym (goes p e)) w_at,
              merged_right p v.mine u.mine (subst (λ (x : V). IsIn p x.mine) (some-injective f.0 u (sym f.1 ∙ (ap (λ (i : ℕ). get_elem? s.views i) e ∙ found))) f.2),
            ))
            (λ away. dite (ℕ_discrete (r.owner p) id)
            (λ (e : r.owner p ≡ id). (
              w,
              subst (λ (i : ℕ). get_elem? views' i ≡ some w) (sym (stays p id (λ h. apart (sym h)) e)) w_at,
              merged_left p v.mine u.mine (subst (λ (x : V). IsIn p x.mine) (some-injective f.0 v (sym f.1 ∙ (ap (λ (i : ℕ). get_elem? s.views i) e ∙ at))) f.2),
            ))
            (λ off_id. (
              f.0,
              subst (λ (i : ℕ). get_elem? views' i ≡ some f.0) (sym (stays p (r.owner p) away refl)) (set_else (set s.views id w) other (r.owner p) spent_view away ∙ (set_else s.views id (r.owner p) w off_id ∙ f.1)),
              f.2,
            )));
        shares = shares_join s.views id other v u w spent_view (λ e. apart (sym e)) at found refl refl r.shares;
        home = r.home;
        runs = r.runs;
        words = r.words;
        homes = r.homes;
        room = r.room;
        held = held_same (set s.views id w) other u spent_view r.turn r.holder there (λ h. absurd (off (sym idle' ∙ h))) (held_same s.views id v w r.turn r.holder at (λ h. absurd (off (sym idle ∙ h))) r.held);
        out = r.out;
        free = r.free;
        each = each_set F (set s.views id w) other spent_view
            (λ j x away e. subst (λ (n : ℕ). F n j x) (sym (length-set s.views id w)) (⊎_elim
            (λ (t : (j ≡ id) × (w ≡ x)). subst (λ (y : ℕ × V). F (length s.views) y.0 y.1) (λ i. (sym t.0 i, t.1 i)) joined)
            (λ (t : (j ≢ id) × (get_elem? s.views j ≡ some x)). let q = r.each j x t.1 in record { origin = q.origin; begins = q.begins; behind = q.behind; turn_is = q.turn_is; whole = q.whole; places = λ p h. let z = q.places p h in (z.0, stays p j away z.1); rising = q.rising; units = q.units; spent = q.spent; only = q.only })
            (at_set s.views id j w x e)))
            (quiet r.log r.first r.now r.turn r.holder owner (length (set s.views id w)) other spent_view (λ x e. absurd (cc)) (r.log, refl) (r.log, refl) (λ p h. absurd h) tt (omega arith) (λ _ p h. absurd h) refl refl);
      }

  pub starts : (x : X) (stored : Stored X C R) → stored.value ≡ Some x → TurnInvariant steps (record { words = 0 ∷ 0 ∷ []; homes = some stored ∷ []; views = first_view x ∷ [] })
  starts x stored value = record {
    log = [];
    first = x;
    now = x;
    turn = 0;
    holder = 0;
    owner = λ _. 0;
    placed = λ p less. absurd (omega arith);
    shares = refl;
    home = some stored;
    runs = refl;
    words = refl;
    homes = refl;
    room = omega arith;
    held = inl refl;
    out = λ e. absurd (omega arith);
    free = λ _. (stored, refl, value);
    each = one;
  }
    where
      one : (by : ℕ) (v : V) → get_elem? (first_view x ∷ []) by ≡ some v → ViewInvariant [] x x 0 0 (λ _. 0) 1 by v
      one zero v e = subst (ViewInvariant [] x x 0 0 (λ _. 0) 1 0) (some-injective _ _ e)
          (record { origin = λ y h. sym (some_same x y h); begins = ([], refl); behind = ([], refl); turn_is = λ h. absurd (off h); whole = λ h _. absurd (off h); places = λ p h. absurd h; rising = tt; units = omega arith; spent = λ none p h. absurd h; only = λ _. (refl, refl) })
      one (suc by) v e = absurd (some-ne-none v (sym e))

  -- what the holder of the turn knows once it has loaded the count
  pub record Counted (m : M) (n : ℕ) (m' : M) : Type 0 where
    pub log : List (C × R)
    pub stored : Stored X C R
    pub x : X
    pub value : stored.value ≡ Some x
    pub count : length log ≡ n
    pub room : length log ≤ call_limit
    pub begins : IsPrefix m.0.seen log
    pub runs : (f : X) → m.0.first ≡ Some f → Runs steps f log x
    pub only : m.0.alone ≡ true → m.0.mine ≡ places_below (length log)
    pub covered : IsWhole m.0.share → m.0.mine ≡ places_below (length log)
    pub is : m' ≡ (view log m.0.mine m.0.share m.0.alone m.0.first true true (Some x), (0, stored) ∷ [])

  pub counted : (st : Step (Stored X C R)) (m m1 m' : M) (n : ℕ) → m.1 ≡ [] → IsTaken m m1 → Counts steps st m1 n m' → Counted m n m'
  counted st m m1 m' n none_held t k =
      let e = t.3 in record {
        log = k.0;
        stored = t.0;
        x = t.1;
        value = t.2;
        count = k.1;
        room = k.2;
        begins = subst (λ (z : M). IsPrefix z.0.seen k.0) e k.3;
        runs = λ f h. k.4 f t.1 (ap (λ (z : M). z.0.holds) e) (ap (λ (z : M). z.0.first) e ∙ h) (ap (λ (z : M). z.0.now) e);
        only = λ h. sym (ap (λ (z : M). z.0.mine) e) ∙ k.5 (ap (λ (z : M). z.0.alone) e ∙ h);
        covered = λ h. sym (ap (λ (z : M). z.0.mine) e) ∙ k.6 (subst (λ (z : M). IsWhole z.0.share) (sym e) h);
        is = k.7 ∙ (ap (λ (z : M). (view k.0 z.0.mine z.0.share z.0.alone z.0.first z.0.holds true z.0.now, z.1)) e ∙ ap (λ (l : List (ℕ × Stored X C R)). (view k.0 m.0.mine m.0.share m.0.alone m.0.first true true (Some t.1), (0, t.0) ∷ l)) none_held);
      }

  pub handed : (l r : List (ℕ × Stored X C R)) (c : Stored X C R) → l ≡ (0, c) ∷ r → l ≡ (0, c) ∷ rest l
  handed l r c e = e ∙ ap (λ (z : List (ℕ × Stored X C R)). (0, c) ∷ rest z) (sym e)

  pub swapped : (m m' : M) (v : V) (k c : Stored X C R) → m ≡ (v, (0, c) ∷ []) → m' ≡ (m.0, (0, k) ∷ rest m.1) → m' ≡ (v, (0, k) ∷ [])
  swapped m m' v k c e e' = e' ∙ ap (λ (q : M). (q.0, (0, k) ∷ rest q.1)) e

  pub first_value : (l : List (ℕ × Stored X C R)) (a b : Stored X C R) (r r' : List (ℕ × Stored X C R)) → l ≡ (0, a) ∷ r → l ≡ (0, b) ∷ r' → a.value ≡ b.value
  first_value l a b r r' e e' = ap value_of (sym e ∙ e')
