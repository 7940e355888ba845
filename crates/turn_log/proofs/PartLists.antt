-- Lists of passes, one of which changes.
use Rattle.std.proofs.Common.{◌≡◌, ◌≢◌, ℕ, ◌+◌, ◌<◌, zero, suc, List, [], ◌∷◌, ◌++◌, length, get_or, set, refl, sym, ap, ◌∙◌, subst, arith, length-append}
use Rattle.std.specs.Prelude.{Result, Ok, Err, IfOk, IfErr, true, false, Bool, ltb}
use Rattle.std.proofs.lemmas.Bool.{ltb-true, ltb-false}
use mathlib.Core.Logic.{dite}
use native.Mathlib.Decide.{ℕ_discrete}
use Rattle.std.proofs.lemmas.List.{append_assoc}
use Rattle.turn_log.specs.Runs.{Account, IsPrefix}
use Rattle.std.specs.declared.snapshot.Snapshot.{Snapshot}
use Rattle.turn_log.specs.Passes.{account, is_alone, lent, untaken, unused, OwnsAll, IsJoined, IsSameBut}
use Rattle.turn_log.specs.Objects.{first_state, IsOf}
use Rattle.turn_log.specs.declared.kept.KeptTable.{KeptTable}
use Rattle.turn_log.specs.declared.pass.PassSeat.{PassSeat}
use Rattle.turn_log.specs.Parts.{account_at, alone_at, AllOwned, ChangesAt, ArePasses, AreSplit, AreTaken}

pub get_same : {A : Type 0} (xs : List A) (i : ℕ) (d e : A) → i < length xs → get_or xs i d ≡ get_or xs i e
get_same {A} [] i d e h = absurd (omega arith)
get_same {A} (x ∷ xs) zero d e h = refl
get_same {A} (x ∷ xs) (suc i) d e h = get_same xs i d e (omega arith)

get_front : {A : Type 0} (xs : List A) (x d : A) (n : ℕ) → n < length xs → get_or (xs ++ x ∷ []) n d ≡ get_or xs n d
get_front {A} [] x d n h = absurd (omega arith)
get_front {A} (y ∷ xs) x d zero h = refl
get_front {A} (y ∷ xs) x d (suc n) h = get_front xs x d n (omega arith)

get_end : {A : Type 0} (xs : List A) (x d : A) (n : ℕ) → n ≡ length xs → get_or (xs ++ x ∷ []) n d ≡ x
get_end {A} [] x d zero h = refl
get_end {A} [] x d (suc n) h = absurd (omega arith)
get_end {A} (y ∷ xs) x d zero h = absurd (omega arith)
get_end {A} (y ∷ xs) x d (suc n) h = get_end xs x d n (omega arith)

get_at : {A : Type 0} (xs : List A) (x : A) (more : List A) (d : A) → get_or (xs ++ x ∷ more) (length xs) d ≡ x
get_at {A} [] x more d = refl
get_at {A} (y ∷ xs) x more d = get_at xs x more d

pub some_of : {A : Type 0} (xs : List A) → 0 < length xs → A
some_of {A} [] h = absurd (omega arith)
some_of {A} (x ∷ xs) h = x

pub if_ok : {A B : Type 0} (r : Result A B) (P Q : A → Type 0) → ((x : A) → P x → Q x) → IfOk r P → IfOk r Q
if_ok {A} {B} (Ok x) P Q f h = f x h
if_ok {A} {B} (Err e) P Q f h = tt

pub in_both : {A B : Type 0} (r : Result A B) (P : A → Type 0) (Q : B → Type 0) (G : Type 0) → ((x : A) → P x → G) → ((e : B) → Q e → G) → IfOk r P → IfErr r Q → G
in_both {A} {B} (Ok x) P Q G f g h k = f x h
in_both {A} {B} (Err e) P Q G f g h k = g e k

pub if_err : {A B : Type 0} (r : Result A B) (P Q : B → Type 0) → ((x : B) → P x → Q x) → IfErr r P → IfErr r Q
if_err {A} {B} (Ok x) P Q f h = tt
if_err {A} {B} (Err e) P Q f h = f e h

module _ {S X C R : Type 0} where
  pub changed : (xs : List (PassSeat S X C R)) (at : ℕ) (how : PassSeat S X C R → PassSeat S X C R → Type 0) (p new : PassSeat S X C R) → at < length xs → p ≡ get_or xs at p → how p new → ChangesAt xs at how (set xs at new)
  changed xs at how p new less is h = (new, refl, λ d. subst (λ q. how q new) (is ∙ get_same xs at p d less) h)

  pub account_get : (xs : List (PassSeat S X C R)) (i : ℕ) (d : PassSeat S X C R) → i < length xs → account_at xs i ≡ account (get_or xs i d)
  account_get [] i d h = absurd (omega arith)
  account_get (x ∷ xs) zero d h = refl
  account_get (x ∷ xs) (suc i) d h = account_get xs i d (omega arith)

  pub account_here : (xs : List (PassSeat S X C R)) (i : ℕ) (p : PassSeat S X C R) → i < length xs → account_at (set xs i p) i ≡ account p
  account_here [] i p h = absurd (omega arith)
  account_here (x ∷ xs) zero p h = refl
  account_here (x ∷ xs) (suc i) p h = account_here xs i p (omega arith)

  pub account_else : (xs : List (PassSeat S X C R)) (i n : ℕ) (p : PassSeat S X C R) → n ≢ i → account_at (set xs i p) n ≡ account_at xs n
  account_else [] i n p apart = refl
  account_else (x ∷ xs) zero zero p apart = absurd (apart refl)
  account_else (x ∷ xs) zero (suc n) p apart = refl
  account_else (x ∷ xs) (suc i) zero p apart = refl
  account_else (x ∷ xs) (suc i) (suc n) p apart = account_else xs i n p (λ e. apart (ap suc e))

  account_end : (xs : List (PassSeat S X C R)) (p : PassSeat S X C R) (n : ℕ) → n ≡ length xs → account_at (xs ++ p ∷ []) n ≡ account p
  account_end [] p zero e = refl
  account_end [] p (suc n) e = absurd (omega arith)
  account_end (x ∷ xs) p zero e = absurd (omega arith)
  account_end (x ∷ xs) p (suc n) e = account_end xs p n (omega arith)

  account_front : (xs : List (PassSeat S X C R)) (p : PassSeat S X C R) (n : ℕ) → n < length xs → account_at (xs ++ p ∷ []) n ≡ account_at xs n
  account_front [] p n e = absurd (omega arith)
  account_front (x ∷ xs) p zero e = refl
  account_front (x ∷ xs) p (suc n) e = account_front xs p n (omega arith)

  -- what is known where one pass changed
  pub changed_at : (xs new : List (PassSeat S X C R)) (at : ℕ) (how : PassSeat S X C R → PassSeat S X C R → Type 0) → at < length xs → ChangesAt xs at how new → (Rel : Account C R → Account C R → Type 0) → ((p q : PassSeat S X C R) → how p q → Rel (account p) (account q)) → Rel (account_at xs at) (account_at new at)
  changed_at xs new at how less h Rel f =
      let p = h.0 in
      subst (λ l. Rel (account_at xs at) (account_at l at)) (sym h.1)
      (subst (λ a. Rel (account_at xs at) a) (sym (account_here xs at p less))
      (subst (λ a. Rel a (account p)) (sym (account_get xs at p less)) (f (get_or xs at p) p (h.2 p))))

  alone_get : (xs : List (PassSeat S X C R)) (i : ℕ) (d : PassSeat S X C R) → i < length xs → alone_at xs i ≡ is_alone (get_or xs i d)
  alone_get [] i d h = absurd (omega arith)
  alone_get (x ∷ xs) zero d h = refl
  alone_get (x ∷ xs) (suc i) d h = alone_get xs i d (omega arith)

  alone_here : (xs : List (PassSeat S X C R)) (i : ℕ) (p : PassSeat S X C R) → i < length xs → alone_at (set xs i p) i ≡ is_alone p
  alone_here [] i p h = absurd (omega arith)
  alone_here (x ∷ xs) zero p h = refl
  alone_here (x ∷ xs) (suc i) p h = alone_here xs i p (omega arith)

  alone_else : (xs : List (PassSeat S X C R)) (i n : ℕ) (p : PassSeat S X C R) → n ≢ i → alone_at (set xs i p) n ≡ alone_at xs n
  alone_else [] i n p apart = refl
  alone_else (x ∷ xs) zero zero p apart = absurd (apart refl)
  alone_else (x ∷ xs) zero (suc n) p apart = refl
  alone_else (x ∷ xs) (suc i) zero p apart = refl
  alone_else (x ∷ xs) (suc i) (suc n) p apart = alone_else xs i n p (λ e. apart (ap suc e))

  -- where the pass that changed is the only one as before, so are all
  pub changed_alone : (xs new : List (PassSeat S X C R)) (at : ℕ) (how : PassSeat S X C R → PassSeat S X C R → Type 0) → at < length xs → ChangesAt xs at how new → ((p q : PassSeat S X C R) → how p q → is_alone q ≡ is_alone p) → (n : ℕ) → alone_at new n ≡ alone_at xs n
  changed_alone xs new at how less h f n =
      let p = h.0 in
      ap (λ l. alone_at l n) h.1
      ∙ dite (ℕ_discrete n at)
      (λ same. subst (λ (m : ℕ). alone_at (set xs at p) m ≡ alone_at xs m) (sym same) (alone_here xs at p less ∙ f (get_or xs at p) p (h.2 p) ∙ sym (alone_get xs at p less)))
      (λ apart. alone_else xs at n p apart)

  -- a pass that is the only one of its object, and what is then known of it
  pub changed_whole : (xs new : List (PassSeat S X C R)) (at : ℕ) (how : PassSeat S X C R → PassSeat S X C R → Type 0) → at < length xs → ChangesAt xs at how new → (Is : Account C R → Type 0) → ((p q : PassSeat S X C R) → how p q → is_alone p ≡ true → Is (account q)) → alone_at xs at ≡ true → Is (account_at new at)
  changed_whole xs new at how less h Is f only =
      let p = h.0 in
      subst (λ l. Is (account_at l at)) (sym h.1)
      (subst Is (sym (account_here xs at p less)) (f (get_or xs at p) p (h.2 p) (sym (alone_get xs at p less) ∙ only)))

  pub changed_else : (xs new : List (PassSeat S X C R)) (at : ℕ) (how : PassSeat S X C R → PassSeat S X C R → Type 0) → ChangesAt xs at how new → (n : ℕ) → n ≢ at → account_at new n ≡ account_at xs n
  changed_else xs new at how h n apart = ap (λ l. account_at l n) h.1 ∙ account_else xs at n h.0 apart

module _ {S V X C R Q : Type 0} (steps : X → C → R → X → Type 0) (first : X) where
  pub are_more : (objects : List (KeptTable S V (Snapshot X) Q)) (passes : List (PassSeat S X C R)) (k : KeptTable S V (Snapshot X) Q) (p : PassSeat S X C R) → ArePasses steps first objects passes → first_state k ≡ first → IsOf steps k p → ArePasses steps first (objects ++ k ∷ []) (passes ++ p ∷ [])
  are_more objects passes k p a began of =
      let n = length-append objects (k ∷ []) in
      let m = length-append passes (p ∷ []) in
      let count = a.count in record {
        count = omega arith;
        began = λ i d less. dite (ℕ_discrete i (length objects))
            (λ e. ap first_state (get_end objects k d i e) ∙ began)
            (λ apart. let l : i < length objects = omega arith in ap first_state (get_front objects k d i l) ∙ a.began i d l);
        each = λ i d e less. dite (ℕ_discrete i (length objects))
            (λ same. let same' : i ≡ length passes = omega arith in subst (λ (z : KeptTable S V (Snapshot X) Q × PassSeat S X C R). IsOf steps z.0 z.1) (λ j. (sym (get_end objects k d i same) j, sym (get_end passes p e i same') j)) of)
            (λ apart. let l : i < length objects = omega arith in let l' : i < length passes = omega arith in subst (λ (z : KeptTable S V (Snapshot X) Q × PassSeat S X C R). IsOf steps z.0 z.1) (λ j. (sym (get_front objects k d i l) j, sym (get_front passes p e i l') j)) (a.each i d e l));
      }

  pub split_none : (objects : List (KeptTable S V (Snapshot X) Q)) (old : List (PassSeat S X C R)) → ArePasses steps first objects old → AreSplit steps first objects old old [] 0
  split_none objects old a = record { passes = a; split_at = λ n less. absurd (omega arith); after = λ n high. refl; count = refl; each = λ i k p less. absurd (omega arith); untaken_at = λ n less. absurd (omega arith) }

  pub split_more : (objects : List (KeptTable S V (Snapshot X) Q)) (old now new made : List (PassSeat S X C R)) (q : PassSeat S X C R) (at : ℕ) (P : Type 0) → AreSplit steps first objects old now made at → at < length objects → ArePasses steps first objects new
      → ChangesAt now at (λ a b. (account b ≡ lent (account a)) × (account q ≡ untaken (account a)) × P) new → ((k : KeptTable S V (Snapshot X) Q) → IsOf steps (get_or objects at k) q) → AreSplit steps first objects old new (made ++ q ∷ []) (at + 1)
  split_more objects old now new made q at P s less passes change of =
      let count = s.count in
      let size = s.passes.count in
      let more = length-append made (q ∷ []) in
      let less' : at < length now = omega arith in
      let H = λ (a b : PassSeat S X C R). (account b ≡ lent (account a)) × (account q ≡ untaken (account a)) × P in record {
        passes = passes;
        split_at = λ n l. dite (ℕ_discrete n at)
            (λ e. subst (λ (m : ℕ). account_at new m ≡ lent (account_at old m)) (sym e) (changed_at now new at H less' change (λ a b. b ≡ lent a) (λ a b h. h.0) ∙ ap lent (s.after at (omega arith))))
            (λ apart. changed_else now new at H change n apart ∙ s.split_at n (omega arith));
        after = λ n high. changed_else now new at H change n (λ (e : n ≡ at). omega arith) ∙ s.after n (omega arith);
        count = omega arith;
        each = λ i k p l. dite (ℕ_discrete i at)
            (λ e. subst (λ (m : ℕ). IsOf steps (get_or objects m k) (get_or (made ++ q ∷ []) m p)) (sym e) (subst (λ (z : PassSeat S X C R). IsOf steps (get_or objects at k) z) (sym (get_end made q p at (sym count))) (of k)))
            (λ apart. let l' : i < at = omega arith in let l'' : i < length made = omega arith in subst (λ (z : PassSeat S X C R). IsOf steps (get_or objects i k) z) (sym (get_front made q p i l'')) (s.each i k p l'));
        untaken_at = λ n l. dite (ℕ_discrete n at)
            (λ e. let e' : n ≡ length made = omega arith in account_end made q n e' ∙ (changed_at now new at H less' change (λ a b. account q ≡ untaken a) (λ a b h. h.1) ∙ ap untaken (s.after at (omega arith) ∙ ap (account_at old) (sym e))))
            (λ apart. let l' : n < at = omega arith in let l'' : n < length made = omega arith in account_front made q n l'' ∙ s.untaken_at n l');
      }

  -- a split leaves what was seen, and the own calls
  pub split_same : (objects : List (KeptTable S V (Snapshot X) Q)) (old new made : List (PassSeat S X C R)) (at : ℕ) → AreSplit steps first objects old new made at → (n : ℕ) → IsSameBut (account_at old n) (account_at new n)
  split_same objects old new made at s n = by (ltb n at) refl
    where
      by : (b : Bool) → ltb n at ≡ b → IsSameBut (account_at old n) (account_at new n)
      by true e = let is = s.split_at n (ltb-true n at e) in record { seen = ap (λ (a : Account C R). a.seen) is; mine = ap (λ (a : Account C R). a.mine) is }
      by false e = let is = s.after n (ltb-false n at e) in record { seen = ap (λ (a : Account C R). a.seen) is; mine = ap (λ (a : Account C R). a.mine) is }

  pub taken_none : (objects : List (KeptTable S V (Snapshot X) Q)) (old others : List (PassSeat S X C R)) → ArePasses steps first objects old → AreTaken steps first objects old others old (length objects)
  taken_none objects old others a = record { passes = a; before = λ n less. refl; after = λ n high less. absurd (omega arith) }

  pub taken_more : (objects : List (KeptTable S V (Snapshot X) Q)) (old others now new : List (PassSeat S X C R)) (q : PassSeat S X C R) (at : ℕ) → AreTaken steps first objects old others now (at + 1) → at < length objects → at < length others → q ≡ get_or others at q → ArePasses steps first objects new
      → ChangesAt now at (λ a b. IsJoined (account a) (account q) (account b)) new → AreTaken steps first objects old others new at
  taken_more objects old others now new q at s less less_others is passes change =
      let size = s.passes.count in
      let less' : at < length now = omega arith in
      let H = λ (a b : PassSeat S X C R). IsJoined (account a) (account q) (account b) in
      let here : IsJoined (account_at old at) (account_at others at) (account_at new at) =
      subst (λ (z : Account C R × Account C R). IsJoined z.0 z.1 (account_at new at)) (λ j. (s.before at (omega arith) j, (ap account is ∙ sym (account_get others at q less_others)) j))
      (changed_at now new at H less' change (λ a b. IsJoined a (account q) b) (λ a b h. h)) in record {
        passes = passes;
        before = λ n l. changed_else now new at H change n (λ e. omega arith) ∙ s.before n (omega arith);
        after = λ n high l. dite (ℕ_discrete n at)
            (λ e. subst (λ (m : ℕ). IsJoined (account_at old m) (account_at others m) (account_at new m)) (sym e) here)
            (λ apart. subst (λ (a : Account C R). IsJoined (account_at old n) (account_at others n) a) (sym (changed_else now new at H change n apart)) (s.after n (omega arith) l));
      }

  -- the passes that were made
  pub split_passes : (objects : List (KeptTable S V (Snapshot X) Q)) (old now made : List (PassSeat S X C R)) → ArePasses steps first objects old → AreSplit steps first objects old now made (length objects) → ArePasses steps first objects made
  split_passes objects old now made a s = record { count = s.count; began = a.began; each = s.each }

-- the last was taken off what is a beginning
pub popped : {A : Type 0} (all os rest : List A) (q : A) → IsPrefix os all → os ≡ rest ++ q ∷ [] → IsPrefix rest all × (q ≡ get_or all (length rest) q) × (length rest < length all) × (length os ≡ length rest + 1)
popped {A} all os rest q b e =
    let whole : all ≡ rest ++ q ∷ b.0 = b.1 ∙ (ap (λ l. l ++ b.0) e ∙ append_assoc rest (q ∷ []) b.0) in
    let size = ap length whole ∙ length-append rest (q ∷ b.0) in
    let part = ap length e ∙ length-append rest (q ∷ []) in
    ((q ∷ b.0, whole), sym (ap (λ l. get_or l (length rest) q) whole ∙ get_at rest q b.0 q), omega arith, omega arith)

pub new_more : {S X C R : Type 0} (ps : List (PassSeat S X C R)) (p : PassSeat S X C R) → ((n : ℕ) → account_at ps n ≡ unused) → account p ≡ unused → (n : ℕ) → account_at (ps ++ p ∷ []) n ≡ unused
new_more {S} {X} {C} {R} [] p h new zero = new
new_more {S} {X} {C} {R} [] p h new (suc n) = refl
new_more {S} {X} {C} {R} (q ∷ ps) p h new zero = h 0
new_more {S} {X} {C} {R} (q ∷ ps) p h new (suc n) = new_more ps p (λ m. h (suc m)) new n

pub owned_more : {S X C R : Type 0} (ps : List (PassSeat S X C R)) (p : PassSeat S X C R) → AllOwned ps → OwnsAll p → AllOwned (ps ++ p ∷ [])
owned_more {S} {X} {C} {R} ps p a h i d less = let n = length-append ps (p ∷ []) in dite (ℕ_discrete i (length ps))
    (λ same. subst (λ (q : PassSeat S X C R). OwnsAll q) (sym (get_end ps p d i same)) h)
    (λ apart. let l : i < length ps = omega arith in subst (λ (q : PassSeat S X C R). OwnsAll q) (sym (get_front ps p d i l)) (a i d l))
