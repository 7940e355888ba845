-- Calls on eight objects of one kind and one of another.
use Rattle.std.proofs.Common.{◌≡◌, ◌≢◌, ℕ, ◌<◌, List, [], ◌∷◌, length, get_or, refl, sym, subst, arith}
use mathlib.Core.Logic.{dite}
use native.Mathlib.Decide.{ℕ_discrete}
use Rattle.turn_log.specs.Runs.{Account, Adds, IsAccount, IsLegal, call_limit}
use Rattle.turn_log.specs.Gains.{Known, Gains}
use Rattle.turn_log.specs.Passes.{account, EndsInCall, Extends, IsWorn, OwnsSeen}
use Rattle.turn_log.specs.Parts.{account_at, ChangesAt}
use Rattle.turn_log.specs.Groups.{AddsOnPart, AddsOnBook, AreOf, EndsOnPart, EndsOnBook, IsHistory, known, opened}
use Rattle.turn_log.specs.declared.pass.PassSeat.{PassSeat}
use Rattle.turn_log.specs.declared.kept.KeptTable.{KeptTable}
use Rattle.std.specs.declared.snapshot.Snapshot.{Snapshot}
use Rattle.turn_log.specs.declared.group.Group.{Group}
use Rattle.turn_log.proofs.Gains.{extends-adds, extends-ends, wears-adds, adds-none, gains-one}
use Rattle.turn_log.proofs.PartLists.{account_get, changed_at, changed_else, changed_whole, some_of}

module _ {S X C R T Y D Q : Type 0} where
  -- what is known of the nine
  abbrev pub known_of : List (PassSeat S X C R) → PassSeat T Y D Q → Known C R D Q
  known_of ps b = record { part = account_at ps; book = account b }

  -- one call on a part
  pub part_told : (old new : List (PassSeat S X C R)) (book : PassSeat T Y D Q) (at : ℕ) (call : C) (reply : R) → at < length old → ChangesAt old at (λ a b. Extends a call reply b) new → AddsOnPart (known_of old book) at ((call, reply) ∷ []) (known_of new book)
  part_told old new book at call reply less change = record {
    here = changed_at old new at (λ a b. Extends a call reply b) less change (λ a b. Adds a b ((call, reply) ∷ [])) (λ a b h. extends-adds a call reply b h);
    elsewhere = changed_else old new at (λ a b. Extends a call reply b) change;
    book = refl;
  }

  -- the call is the last that was seen of the part
  pub part_ends : (old new : Group (PassSeat S X C R) (PassSeat T Y D Q)) (at : ℕ) (call : C) (reply : R) → at < length old.parts.items → ChangesAt old.parts.items at (λ a b. Extends a call reply b) new.parts.items → EndsOnPart old at (call, reply) new
  part_ends old new at call reply less change = record {
    here = changed_at old.parts.items new.parts.items at (λ a b. Extends a call reply b) less change (λ a b. EndsInCall a b (call, reply)) (λ a b h. extends-ends a call reply b h);
    whole = changed_whole old.parts.items new.parts.items at (λ a b. Extends a call reply b) less change OwnsSeen (λ a b h. h.whole);
  }

  -- no call, since the part is worn
  pub part_worn : (old new : List (PassSeat S X C R)) (book : PassSeat T Y D Q) (at n : ℕ) → at < length old → ChangesAt old at (λ a b. IsWorn a n b) new → (n ≡ call_limit) × AddsOnPart (known_of old book) at [] (known_of new book) × (length (account_at new at).seen ≡ call_limit)
  part_worn old new book at n less change = (
    (change.2 change.0).counted,
    record {
      here = changed_at old new at (λ a b. IsWorn a n b) less change (λ a b. Adds a b []) (λ a b h. wears-adds a n b h);
      elsewhere = changed_else old new at (λ a b. IsWorn a n b) change;
      book = refl;
    },
    changed_at old new at (λ a b. IsWorn a n b) less change (λ a b. length b.seen ≡ call_limit) (λ a b h. h.all),
  )

  -- one call on the book
  pub book_told : (parts : List (PassSeat S X C R)) (old new : PassSeat T Y D Q) (call : D) (reply : Q) → Extends old call reply new → AddsOnBook (known_of parts old) ((call, reply) ∷ []) (known_of parts new)
  book_told parts old new call reply h = record { here = extends-adds old call reply new h; parts = λ p. refl }

  -- the call is the last that was seen of the book
  pub book_ends : (old new : Group (PassSeat S X C R) (PassSeat T Y D Q)) (call : D) (reply : Q) → Extends old.book call reply new.book → EndsOnBook old (call, reply) new
  book_ends old new call reply h = record { here = extends-ends old.book call reply new.book h; whole = h.whole }

  -- no call, since the book is worn
  pub book_worn : (parts : List (PassSeat S X C R)) (old new : PassSeat T Y D Q) (n : ℕ) → IsWorn old n new → (n ≡ call_limit) × AddsOnBook (known_of parts old) [] (known_of parts new) × (length (account new).seen ≡ call_limit)
  book_worn parts old new n h = (h.counted, record { here = wears-adds old n new h; parts = λ p. refl }, h.all)

module _ {E C R D Q : Type 0} (on_part : ℕ → E → List (C × R)) (on_book : E → List (D × Q)) where
  same_adds : {F G : Type 0} (old new : Account F G) → new ≡ old → Adds old new []
  same_adds {F} {G} old new e = subst (λ a. Adds old a []) (sym e) (adds-none old)

  -- an event whose one call was made on a part
  pub gains-part : (old new : Known C R D Q) (at : ℕ) (e : E) → ((p : ℕ) → p ≢ at → on_part p e ≡ []) → on_book e ≡ [] → AddsOnPart old at (on_part at e) new → Gains on_part on_book old new (e ∷ [])
  gains-part old new at e else none h = gains-one on_part on_book old new e
      (λ p. dite (ℕ_discrete p at)
      (λ same. subst (λ (q : ℕ). Adds (old.part q) (new.part q) (on_part q e)) (sym same) h.here)
      (λ apart. subst (Adds (old.part p) (new.part p)) (sym (else p apart)) (same_adds (old.part p) (new.part p) (h.elsewhere p apart))))
      (subst (Adds old.book new.book) (sym none) (same_adds old.book new.book h.book))

  -- an event whose one call was made on the book
  pub gains-book : (old new : Known C R D Q) (e : E) → ((p : ℕ) → on_part p e ≡ []) → AddsOnBook old (on_book e) new → Gains on_part on_book old new (e ∷ [])
  gains-book old new e none h = gains-one on_part on_book old new e
      (λ p. subst (Adds (old.part p) (new.part p)) (sym (none p)) (same_adds (old.part p) (new.part p) (h.parts p)))
      h.here

-- what was seen is legal
pub history : {S V X C R Q T W Y D P U : Type 0} (part_steps : X → C → R → X → Type 0) (first : X) (book_steps : Y → D → P → Y → Type 0) (nine : Group (KeptTable S V (Snapshot X) Q) (KeptTable T W (Snapshot Y) U)) (pass : Group (PassSeat S X C R) (PassSeat T Y D P))
    → AreOf part_steps first book_steps nine pass → IsHistory part_steps first book_steps (opened nine) (known pass)
history {S} {V} {X} {C} {R} {Q} {T} {W} {Y} {D} {P} {U} part_steps first book_steps nine pass a =
    let ks = nine.parts.items in
    let ps = pass.parts.items in
    let eight = nine.eight in
    let eight' = pass.eight in
    let k = some_of ks (omega arith) in
    let d = some_of ps (omega arith) in record {
      parts_legal = λ p less.
          let l : p < length ks = omega arith in
          let l' : p < length ps = omega arith in
          subst (λ (c : Account C R). IsLegal part_steps first c.seen) (sym (account_get ps p d l'))
          (subst (λ (x : X). IsLegal part_steps x (account (get_or ps p d)).seen) (a.parts_of.began p k l) (a.parts_of.each p k d l).legal);
      book_legal = a.book_of.legal;
      parts_own = λ p less. let l' : p < length ps = omega arith in subst (λ (c : Account C R). IsAccount c) (sym (account_get ps p d l')) (get_or ps p d).own;
      book_own = pass.book.own;
    }
