-- What a pass gains, one call after the other.
use Rattle.std.proofs.Common.{◌≡◌, ◌≤◌, ℕ, zero, suc, List, [], ◌∷◌, ◌++◌, length, map, Some, refl, sym, ap, ap₂, ◌∙◌, subst, append_assoc, append-nil, length-append, le_trans, arith}
use Rattle.std.specs.Prelude.{All, slice_get}
use Rattle.std.proofs.lemmas.List.{map-append}
use Rattle.std.proofs.lemmas.List.Elements.{All-append}
use Rattle.turn_log.specs.Runs.{Account, Adds}
use Rattle.turn_log.specs.Gains.{Known, Gains, calls_of}
use Rattle.turn_log.specs.Passes.{account, EndsInCall, Extends, IsWorn}
use Rattle.turn_log.specs.declared.pass.PassSeat.{PassSeat}

module _ {X : Type 0} where
  slice-front : (xs ys : List X) (i : ℕ) (x : X) → slice_get xs i ≡ Some x → slice_get (xs ++ ys) i ≡ Some x
  slice-front [] ys i x is = cc is
  slice-front (z ∷ xs) ys zero x is = is
  slice-front (z ∷ xs) ys (suc i) x is = slice-front xs ys i x is

  slice-end : (xs : List X) (x : X) → slice_get (xs ++ x ∷ []) (length xs) ≡ Some x
  slice-end [] x = refl
  slice-end (z ∷ xs) x = slice-end xs x

  -- what stands at some places still stands there when more was seen
  places-front : (seen more : List X) (places : List ℕ) (xs : List X) → map (slice_get seen) places ≡ map Some xs → map (slice_get (seen ++ more)) places ≡ map Some xs
  places-front seen more [] [] is = refl
  places-front seen more [] (x ∷ xs) is = cc is
  places-front seen more (p ∷ places) [] is = cc is
  places-front seen more (p ∷ places) (x ∷ xs) is =
      let head : slice_get seen p ≡ Some x = cc is in
      let tail : map (slice_get seen) places ≡ map Some xs = cc is in
      ap₂ (λ a b. a ∷ b) (slice-front seen more p x head) (places-front seen more places xs tail)

module _ {C R : Type 0} where
  -- a known gains nothing where nothing is done
  pub adds-none : (known : Account C R) → Adds known known []
  adds-none known = record {
    seen = ([], sym (append-nil known.seen));
    places = [];
    mine = sym (append-nil known.mine);
    later = λ k d less. absurd (omega (arith, less));
    are = refl;
    share = refl;
  }

  -- what it gains by some calls and then by others
  pub adds-append : (old mid new : Account C R) (first second : List (C × R)) → Adds old mid first → Adds mid new second → Adds old new (first ++ second)
  adds-append old mid new first second a b =
      let whole : new.seen ≡ mid.seen ++ b.seen.0 = b.seen.1 in
      let from_old : mid.seen ≡ old.seen ++ a.seen.0 = a.seen.1 in
      let longer : length old.seen ≤ length mid.seen = let size = ap length from_old ∙ length-append old.seen a.seen.0 in omega (arith, size) in
      record {
        seen = (a.seen.0 ++ b.seen.0, whole ∙ ap (λ s. s ++ b.seen.0) from_old ∙ append_assoc old.seen a.seen.0 b.seen.0);
        places = a.places ++ b.places;
        mine = b.mine ∙ ap (λ m. m ++ b.places) a.mine ∙ append_assoc old.mine a.places b.places;
        later = All-append (λ place. length old.seen ≤ place) a.places b.places a.later (λ k d less. le_trans longer (b.later k d less));
        are =
            map-append (slice_get new.seen) a.places b.places
            ∙ ap₂ (λ xs ys. xs ++ ys)
            (subst (λ s. map (slice_get s) a.places ≡ map Some first) (sym whole) (places-front mid.seen b.seen.0 a.places first a.are))
            b.are
            ∙ sym (map-append Some first second);
        share = b.share ∙ a.share;
      }

  -- one call: what was seen before it ends with it, and its place is the caller's own
  pub adds-one : (old new : Account C R) (between : List (C × R)) (e : C × R) → new.seen ≡ (old.seen ++ between) ++ e ∷ [] → new.mine ≡ old.mine ++ length (old.seen ++ between) ∷ [] → new.share ≡ old.share
      → Adds old new (e ∷ [])
  adds-one old new between e seen mine share =
      let size = length-append old.seen between in
      record {
        seen = (between ++ e ∷ [], seen ∙ append_assoc old.seen between (e ∷ []));
        places = length (old.seen ++ between) ∷ [];
        mine = mine;
        later = λ k d less. one_place (length old.seen) (length (old.seen ++ between)) (omega (arith, size)) k d less;
        are = subst (λ s. map (slice_get s) (length (old.seen ++ between) ∷ []) ≡ map Some (e ∷ [])) (sym seen) (ap (λ x. x ∷ []) (slice-end (old.seen ++ between) e));
        share = share;
      }
    where
      one_place : (least place : ℕ) → least ≤ place → All (λ p. least ≤ p) (place ∷ [])
      one_place least place low zero d less = low
      one_place least place low (suc k) d less = absurd (omega (arith, less))

  -- a call that was told adds itself
  pub extends-adds : {S X : Type 0} (old : PassSeat S X C R) (call : C) (reply : R) (new : PassSeat S X C R) → Extends old call reply new → Adds (account old) (account new) ((call, reply) ∷ [])
  extends-adds {S} {X} old call reply new h = adds-one (account old) (account new) h.between (call, reply) h.seen h.mine h.share

  -- and is the last that was seen
  pub extends-ends : {S X : Type 0} (old : PassSeat S X C R) (call : C) (reply : R) (new : PassSeat S X C R) → Extends old call reply new → EndsInCall (account old) (account new) (call, reply)
  extends-ends {S} {X} old call reply new h = record { between = h.between; room = h.room; seen = h.seen; mine = h.mine }

  -- a call that found the object worn adds none
  pub wears-adds : {S X : Type 0} (old : PassSeat S X C R) (n : ℕ) (new : PassSeat S X C R) → IsWorn old n new → Adds (account old) (account new) []
  wears-adds {S} {X} old n new h = record {
    seen = h.seen;
    places = [];
    mine = h.mine ∙ sym (append-nil (account old).mine);
    later = λ k d less. absurd (omega (arith, less));
    are = refl;
    share = h.share;
  }

pub calls_of-append : {E F : Type 0} (on : E → List F) (a b : List E) → calls_of on (a ++ b) ≡ calls_of on a ++ calls_of on b
calls_of-append {E} {F} on [] b = refl
calls_of-append {E} {F} on (e ∷ a) b = ap (λ l. on e ++ l) (calls_of-append on a b) ∙ sym (append_assoc (on e) (calls_of on a) (calls_of on b))

module _ {E C R D Q : Type 0} (on_part : ℕ → E → List (C × R)) (on_book : E → List (D × Q)) where
  -- nothing was done
  pub gains-none : (known : Known C R D Q) → Gains on_part on_book known known []
  gains-none known = record { parts = λ p. adds-none (known.part p); book = adds-none known.book }

  -- some events and then others
  pub gains-append : (old mid new : Known C R D Q) (first second : List E) → Gains on_part on_book old mid first → Gains on_part on_book mid new second → Gains on_part on_book old new (first ++ second)
  gains-append old mid new first second a b = record {
    parts = λ p. subst (Adds (old.part p) (new.part p)) (sym (calls_of-append (on_part p) first second)) (adds-append (old.part p) (mid.part p) (new.part p) (calls_of (on_part p) first) (calls_of (on_part p) second) (a.parts p) (b.parts p));
    book = subst (Adds old.book new.book) (sym (calls_of-append on_book first second)) (adds-append old.book mid.book new.book (calls_of on_book first) (calls_of on_book second) a.book b.book);
  }

  -- one event
  pub gains-one : (old new : Known C R D Q) (e : E) → ((p : ℕ) → Adds (old.part p) (new.part p) (on_part p e)) → Adds old.book new.book (on_book e) → Gains on_part on_book old new (e ∷ [])
  gains-one old new e parts book = record {
    parts = λ p. subst (Adds (old.part p) (new.part p)) (sym (append-nil (on_part p e))) (parts p);
    book = subst (Adds old.book new.book) (sym (append-nil (on_book e))) book;
  }

  -- an object that was not called
  pub adds-same : {F G : Type 0} (old new : Account F G) → new ≡ old → Adds old new []
  adds-same {F} {G} old new e = subst (λ a. Adds old a []) (sym e) (adds-none old)
