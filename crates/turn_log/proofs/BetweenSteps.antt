-- The rule keeps what holds between any two steps.
use Rattle.std.proofs.Common.{◌≡◌, ℕ, ◌<◌, zero, suc, List, [], ◌∷◌, ◌++◌, length, Some, refl, sym, ap, ◌∙◌, subst, ⊎_elim, inl, inr, arith}
use mathlib.Core.Logic.{dite}
use mathlib.Core.Option.{Option as Maybe, none, some, some-injective, some-ne-none}
use native.Mathlib.Decide.{ℕ_discrete}
use Rattle.turn_log.specs.Places.{IsIn, places_below}
use Rattle.turn_log.specs.Between.{KeepsBetween}
use Rattle.turn_log.specs.declared.view.Stored.{Stored}
use Rattle.turn_log.proofs.Owning.{below_has}
use Rattle.turn_log.proofs.Steps.{begins_le, covers, sole_of}

module _ {X C R : Type 0} (steps : X → C → R → X → Type 0) where
  lies_in : (now : X) (turn : ℕ) (home : Maybe (Stored X C R)) → (turn < 2) → (turn ≡ 1 → home ≡ none) → (turn ≡ 0 → (c : Stored X C R) × (home ≡ some c) × (c.value ≡ Some now)) → (c : Stored X C R) → home ≡ some c → c.value ≡ Some now
  lies_in now turn home bit out free c is =
      dite (ℕ_discrete turn 0)
      (λ z. let f = free z in ap (λ (k : Stored X C R). k.value) (some-injective c f.0 (sym is ∙ f.1)) ∙ f.2)
      (λ n. absurd (some-ne-none c (sym is ∙ out (omega arith))))

  pub between : KeepsBetween steps
  between s r =
      let bit : r.turn < 2 = ⊎_elim (λ (z : r.turn ≡ 0). omega arith) (λ t. let o = t.0 in omega arith) r.held in record {
        log = r.log;
        first = r.first;
        now = r.now;
        legal = r.runs;
        turn = r.turn;
        words = r.words;
        room = r.room;
        bit = bit;
        some_holds = λ o. ⊎_elim (λ (z : r.turn ≡ 0). absurd (omega arith)) (λ t. (r.holder, (t.1, t.2, t.3))) r.held;
        turn_taken = λ id h. ((r.each id h.0 h.1).turn_is h.2).0;
        one_holds = λ id other h k. ((r.each id h.0 h.1).turn_is h.2).1 ∙ sym ((r.each other k.0 k.1).turn_is k.2).1;
        seen = λ id v at. (r.each id v at).begins;
        places = λ id v p at h. let f = r.each id v at in let z = (f.places p h).0 in let l = begins_le v.seen r.log f.begins in omega arith;
        apart = λ id other v w p at there h k. sym ((r.each id v at).places p h).1 ∙ ((r.each other w there).places p k).1;
        home = r.home;
        slot = r.homes;
        lies_in_state = lies_in r.now r.turn r.home bit r.out r.free;
        lies = λ nobody. ⊎_elim (λ z. let f = r.free z in (f.0, f.1)) (λ t. absurd (nobody r.holder (t.1, t.2, t.3))) r.held;
        named = λ id v at h. ((r.each id v at).turn_is h).2;
        whole = λ id v at h k. (r.each id v at).whole h k;
        shares = r.shares;
        sole = λ id other v w at there held apart.
            let none = sole_of steps s r id other v w at there held apart in
            (none, (r.each other w there).spent none);
        covered = λ id v at held. covers steps s r id v at held;
        one_view = λ id v at a. ((r.each id v at).only a).0;
        all_mine = λ id v p at a l. subst (λ (xs : List ℕ). IsIn p xs) (sym ((r.each id v at).only a).1) (below_has (length r.log) p l);
      }
