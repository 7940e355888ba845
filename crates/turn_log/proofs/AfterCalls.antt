-- What a step leaves of a pass.
use Rattle.std.proofs.Common.{◌≡◌, ℕ, ◌<◌, ◌≤◌, leb, cond, List, [], ◌∷◌, ◌++◌, length, Some, None, Bool, true, false, refl, sym, ap, ◌∙◌, subst, ⊎_elim, arith}
use Rattle.std.specs.Prelude.{Option}
use Rattle.std.proofs.lemmas.Bool.{leb-true, leb-false}
use Rattle.atomic_table.specs.Table.{Me, rest}
use Rattle.turn_log.specs.Runs.{IsPrefix, Runs, IsLegal, IsAccount}
use Rattle.turn_log.specs.Places.{longer, shorter, merged, places_below, IsIn}
use Rattle.turn_log.specs.Shares.{IsShare, IsWhole, added}
use Rattle.turn_log.specs.Views.{joined_view, view, event_of, committed, IsIdle}
use Rattle.turn_log.specs.StepKinds.{Facts}
use Rattle.turn_log.specs.declared.view.Stored.{Stored}
use Rattle.turn_log.specs.declared.view.View.{View}
use Rattle.turn_log.proofs.Owning.{has_snoc, rising_snoc}
use Rattle.turn_log.proofs.Places.{account_in, account_own, own_account}
use Rattle.turn_log.proofs.Shares.{added_share}
use Rattle.turn_log.proofs.Steps.{begins_all, begins_le, merged_apart, length_more, runs_more}

module _ {C R : Type 0} where
  begins_both : (a b : List (C × R)) → (length (shorter a b) ≤ length (longer a b) → IsPrefix (shorter a b) (longer a b)) → IsPrefix a (longer a b) × IsPrefix b (longer a b)
  begins_both a b = by (leb (length a) (length b)) refl
    where
      by : (k : Bool) → leb (length a) (length b) ≡ k → (length (cond k a b) ≤ length (cond k b a) → IsPrefix (cond k a b) (cond k b a)) → IsPrefix a (cond k b a) × IsPrefix b (cond k b a)
      by true e h = (h (leb-true (length a) (length b) e), begins_all b)
      by false e h = let l : length b < length a = leb-false (length a) (length b) e in (begins_all a, h (omega arith))

module _ {X C R : Type 0} (steps : X → C → R → X → Type 0) where
  -- a pass that took in another
  pub record AfterJoin (v u : View X C R) (m : Me (Stored X C R) (View X C R)) : Type 0 where
    pub idle : IsIdle m
    pub own : IsAccount (account_in m.0)
    pub seen : m.0.seen ≡ longer v.seen u.seen
    pub mine : m.0.mine ≡ merged v.mine u.mine
    pub share : m.0.share ≡ added v.share u.share
    pub first : m.0.first ≡ v.first
    pub begins : IsPrefix v.seen m.0.seen
    pub begins_other : IsPrefix u.seen m.0.seen
    pub apart : (p : ℕ) → IsIn p v.mine → IsIn p u.mine → ⊥
    pub legal : (f : X) → v.first ≡ Some f → IsLegal steps f m.0.seen

  pub after_join : (v u : View X C R) (m0 m1 m2 : Me (Stored X C R) (View X C R)) → IsIdle m0 → IsShare v.share → IsShare u.share → m1 ≡ (joined_view v u, m0.1) → Facts steps m1.0 → m2 ≡ m1 → AfterJoin v u m2
  after_join v u m0 m1 m2 idle held held' joined facts same =
      let e : m2 ≡ (joined_view v u, m0.1) = same ∙ joined in
      let f : Facts steps (joined_view v u) = subst (λ (m : Me (Stored X C R) (View X C R)). Facts steps m.0) joined facts in
      let w : View X C R = joined_view v u in
      let start = begins_both v.seen u.seen f.behind in
      subst (AfterJoin v u) (sym e) (record {
        idle = record { hands = idle.hands; holds = refl };
        own = own_account w f.own (added_share v.share u.share held held' f.limited) f.covered;
        seen = refl;
        mine = refl;
        share = refl;
        first = refl;
        begins = start.0;
        begins_other = start.1;
        apart = merged_apart v.mine u.mine f.own.rising;
        legal = f.legal;
      })

  -- a pass that made a call: the list before it, and the call
  pub record AfterAct (v : View X C R) (log : List (C × R)) (call : C) (reply : R) (m : Me (Stored X C R) (View X C R)) : Type 0 where
    pub idle : IsIdle m
    pub own : IsAccount (account_in m.0)
    pub seen : m.0.seen ≡ log ++ (call, reply) ∷ []
    pub mine : m.0.mine ≡ v.mine ++ length log ∷ []
    pub share : m.0.share ≡ v.share
    pub alone : m.0.alone ≡ v.alone
    pub first : m.0.first ≡ v.first
    pub whole : v.alone ≡ true → m.0.mine ≡ places_below (length m.0.seen)

  pub after_act : (v : View X C R) (log : List (C × R)) (call : C) (reply : R) (m : Me (Stored X C R) (View X C R)) → IsAccount (account_in v) → IsPrefix v.seen log → (v.alone ≡ true → v.mine ≡ places_below (length log)) → (IsWhole v.share → v.mine ≡ places_below (length log))
      → m ≡ (view (log ++ (call, reply) ∷ []) (v.mine ++ length log ∷ []) v.share v.alone v.first false false None, []) → AfterAct v log call reply m
  after_act v log call reply m own begins only covered e =
      let w : View X C R = view (log ++ (call, reply) ∷ []) (v.mine ++ length log ∷ []) v.share v.alone v.first false false None in
      let o = account_own v own in
      let l = begins_le v.seen log begins in
      let long = length_more log (call, reply) in
      let earlier : (p : ℕ) → IsIn p v.mine → p < length log = λ p h. let z = o.within p h in omega arith in
      subst (AfterAct v log call reply) (sym e) (record {
        idle = record { hands = refl; holds = refl };
        own = own_account w (record {
          rising = rising_snoc v.mine (length log) o.rising earlier;
          within = λ p h. ⊎_elim (λ t. let z = earlier p t in omega arith) (λ (t : p ≡ length log). omega arith) (has_snoc p v.mine (length log) h);
        }) own.share (λ all. ap (λ l. l ++ length log ∷ []) (covered all) ∙ ap places_below (sym long));
        seen = refl;
        mine = refl;
        share = refl;
        alone = refl;
        first = refl;
        whole = λ a. ap (λ l. l ++ length log ∷ []) (only a) ∙ ap places_below (sym long);
      })

  -- the pass as it is once the call is committed and the turn released
  pub released : (w : View X C R) (k : Stored X C R) (m4 m5 m6 : Me (Stored X C R) (View X C R)) → m4 ≡ (w, (0, k) ∷ []) → m5 ≡ (committed m4.0 m4.1, m4.1) → m6 ≡ (view m5.0.seen m5.0.mine m5.0.share m5.0.alone m5.0.first false false None, rest m5.1)
      → m6 ≡ (view (w.seen ++ event_of ((0, k) ∷ [])) (w.mine ++ length w.seen ∷ []) w.share w.alone w.first false false None, [])
  released w k m4 m5 m6 is4 is5 is6 =
      is6
      ∙ ap (λ (m : Me (Stored X C R) (View X C R)). (view m.0.seen m.0.mine m.0.share m.0.alone m.0.first false false None, rest m.1)) (is5 ∙ ap (λ (m : Me (Stored X C R) (View X C R)). (committed m.0 m.1, m.1)) is4)

  -- a pass that found the object worn
  pub record AfterNone (v : View X C R) (log : List (C × R)) (m : Me (Stored X C R) (View X C R)) : Type 0 where
    pub idle : IsIdle m
    pub own : IsAccount (account_in m.0)
    pub seen : m.0.seen ≡ log
    pub mine : m.0.mine ≡ v.mine
    pub share : m.0.share ≡ v.share
    pub alone : m.0.alone ≡ v.alone
    pub first : m.0.first ≡ v.first
    pub whole : v.alone ≡ true → m.0.mine ≡ places_below (length m.0.seen)

  pub after_none : (v : View X C R) (log : List (C × R)) (b : Bool) (n : Option X) (r : ℕ × Stored X C R) (m1 m : Me (Stored X C R) (View X C R)) → IsAccount (account_in v) → IsPrefix v.seen log
      → (v.alone ≡ true → v.mine ≡ places_below (length log)) → (IsWhole v.share → v.mine ≡ places_below (length log))
      → m1 ≡ (view log v.mine v.share v.alone v.first b true n, r ∷ []) → m ≡ (view m1.0.seen m1.0.mine m1.0.share m1.0.alone m1.0.first false false None, rest m1.1) → AfterNone v log m
  after_none v log b n r m1 m own begins only covered e1 e =
      let w : View X C R = view log v.mine v.share v.alone v.first false false None in
      let o = account_own v own in
      let l = begins_le v.seen log begins in
      let is : m ≡ (w, []) = e ∙ ap (λ (q : Me (Stored X C R) (View X C R)). (view q.0.seen q.0.mine q.0.share q.0.alone q.0.first false false None, rest q.1)) e1 in
      subst (AfterNone v log) (sym is) (record {
        idle = record { hands = refl; holds = refl };
        own = own_account w (record { rising = o.rising; within = λ p h. let z = o.within p h in omega arith }) own.share covered;
        seen = refl;
        mine = refl;
        share = refl;
        alone = refl;
        first = refl;
        whole = only;
      })

  -- a legal list with a call more
  pub legal_more : (f x y : X) (log seen : List (C × R)) (c : C) (r : R) → seen ≡ log ++ (c, r) ∷ [] → Runs steps f log x → steps x c r y → IsLegal steps f seen
  legal_more f x y log seen c r is runs goes = subst (IsLegal steps f) (sym is) (y, runs_more steps f log x y c r runs goes)
