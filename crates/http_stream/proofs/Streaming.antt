-- The bytes of a conversation are a stream of requests, and of one only.
use Rattle.std.proofs.Common.{◌≡◌, ◌≤◌, ◌<◌, ◌⊎◌, ◌||◌, inl, inr, ℕ, zero, suc, ◌+◌, Bool, true, false, List, [], ◌∷◌, ◌++◌, length, nat_eq, Option, Some, None, IfOk, IfSome, Result, Ok, Err, refl, sym, ap, ap₂, ◌∙◌, subst, arith, append-nil}
use Rattle.std.specs.Prelude.{MatchBool}
use Rattle.std.proofs.lemmas.Bool.Decides.{nat_tests}
use Rattle.std.proofs.lemmas.List.{length-append}
use Rattle.fed_ports.specs.Lists.{Gave}
use Rattle.http_messages.specs.declared.request.Incoming.{Incoming}
use Rattle.http_messages.specs.declared.request.Incoming.TheVariants.{Asked, NotARequest}
use Rattle.http_messages.specs.declared.request.Request.{Request}
use Rattle.http_messages.specs.declared.response.Response.{Response}
use Rattle.http_messages.specs.Cuts.{StreamText}
use Rattle.http_messages.specs.Requests.{EndsEarly}
use Rattle.http_stream.specs.declared.fault.StreamFault.{StreamFault}
use Rattle.http_stream.specs.declared.fault.StreamFault.TheVariants.{ReadFault, WriteFault, Ended, Memory}
use Rattle.http_stream.specs.Conversations.{Answers, Ends, Goes, Point, Serves, StreamAt, point}
use Rattle.http_stream.specs.Streams.{AreRequests, EndInside, EndsInside, IsWhole}

pub match_true : (X Y : Type 0) (b : Bool) → b ≡ true → X → MatchBool b X Y
match_true X Y true e x = x
match_true X Y false e x = cc

pub match_false : (X Y : Type 0) (b : Bool) → b ≡ false → Y → MatchBool b X Y
match_false X Y true e y = cc
match_false X Y false e y = y

false_is_true : false ≡ true → ⊥
false_is_true e = cc

or_false : (b c : Bool) → (b || c) ≡ false → (b ≡ false) × (c ≡ false)
or_false true c e = cc
or_false false c e = (refl, e)

not_zero : (n : ℕ) → nat_eq n 0 ≡ false → 0 < n
not_zero zero e = cc
not_zero (suc n) e = omega arith

less_one : (k : ℕ) → nat_eq (suc k) 1 ≡ nat_eq k 0
less_one k = grind (arith, nat_tests)

-- the bytes that were left are those that were taken and those behind them
pub all_bytes : (x taken behind : List ℕ) (new : Option (List ℕ)) → Gave (Some x) taken new → IfSome new (λ rest. rest ≡ behind) → x ≡ taken ++ behind
all_bytes x taken behind None gave told = cc
all_bytes x taken behind (Some rest) gave told = let e : x ≡ taken ++ rest = cc in e ∙ ap (λ y. taken ++ y) told

module _ {S : Type 0} (step : S → Incoming → Response → S → Type 0) where
  one_whole : (n : ℕ) (l : ℕ) (p m : Point S) (asked : Incoming) (rs : List Incoming) → p.left ≡ n → n ≡ suc l → l ≡ m.left → Answers step false p asked m → IsWhole l m.bytes rs → IsWhole n p.bytes (asked ∷ rs)
  one_whole zero l p m (Asked r) rs is e f one whole = cc
  one_whole (suc k) l p m (Asked r) rs is e f one whole =
      let same : k ≡ l = cc in
      let c = one.comes in
      let kept : (c.1 || nat_eq k 0) ≡ false = ap (λ b. c.1 || b) (sym (less_one k)) ∙ ap (λ n. c.1 || nat_eq n 1) (sym is) ∙ sym c.4 in
      (c.0, m.bytes, c.1, c.2, c.3, match_false _ _ (c.1 || nat_eq k 0) kept (subst (λ n. IsWhole n m.bytes rs) (sym same) whole))
  one_whole n l p m NotARequest rs is e f one whole = let c = one.comes in absurd (false_is_true c.1)

  pub goes_whole : (p q : Point S) (asked tail : List Incoming) → Goes step p asked q → IsWhole q.left q.bytes tail → IsWhole p.left p.bytes (asked ++ tail)
  goes_whole p q [] tail same whole = subst (λ m. IsWhole m.left m.bytes tail) same whole
  goes_whole p q (a ∷ more) tail goes whole = one_whole p.left goes.0.left p goes.0 a (more ++ tail) refl goes.1.left refl goes.1 (goes_whole goes.0 q more tail goes.2 whole)

  pub last_whole : (n : ℕ) (p q : Point S) (asked : Incoming) → p.left ≡ n → Answers step true p asked q → IsWhole n p.bytes (asked ∷ [])
  last_whole zero p q asked is one = let e = one.left in cc
  last_whole (suc k) p q (Asked r) is one =
      let c = one.comes in
      let last : (c.1 || nat_eq k 0) ≡ true = ap (λ b. c.1 || b) (sym (less_one k)) ∙ ap (λ n. c.1 || nat_eq n 1) (sym is) ∙ sym c.4 in
      (c.0, q.bytes, c.1, c.2, c.3, match_true _ _ (c.1 || nat_eq k 0) last refl)
  last_whole (suc k) p q NotARequest is one = let c = one.comes in (c.0, refl)

  none_whole : (n : ℕ) (x : List ℕ) → x ≡ [] → IsWhole n x []
  none_whole n x e = e

  one_inside : (n : ℕ) (l : ℕ) (p m : Point S) (asked : Incoming) (rs : List Incoming) → p.left ≡ n → n ≡ suc l → l ≡ m.left → Answers step false p asked m → EndsInside l m.bytes rs → EndsInside n p.bytes (asked ∷ rs)
  one_inside zero l p m (Asked r) rs is e f one inside = cc
  one_inside (suc k) l p m (Asked r) rs is e f one inside =
      let same : k ≡ l = cc in
      let c = one.comes in
      let kept : (c.1 || nat_eq k 0) ≡ false = ap (λ b. c.1 || b) (sym (less_one k)) ∙ ap (λ n. c.1 || nat_eq n 1) (sym is) ∙ sym c.4 in
      let both = or_false c.1 (nat_eq k 0) kept in
      (c.0, m.bytes, c.2, subst (λ b. StreamText c.0 r b) both.0 c.3, not_zero k both.1, subst (λ n. EndsInside n m.bytes rs) (sym same) inside)
  one_inside n l p m NotARequest rs is e f one inside = let c = one.comes in absurd (false_is_true c.1)

  pub goes_inside : (p q : Point S) (asked tail : List Incoming) → Goes step p asked q → EndsInside q.left q.bytes tail → EndsInside p.left p.bytes (asked ++ tail)
  goes_inside p q [] tail same inside = subst (λ m. EndsInside m.left m.bytes tail) same inside
  goes_inside p q (a ∷ more) tail goes inside = one_inside p.left goes.0.left p goes.0 a (more ++ tail) refl goes.1.left refl goes.1 (goes_inside goes.0 q more tail goes.2 inside)

  one_some : (p m : Point S) (asked : Incoming) → Answers step false p asked m → 1 ≤ m.left
  one_some p m (Asked r) one =
      let c = one.comes in
      let kept : (c.1 || nat_eq m.left 0) ≡ false = ap (λ b. c.1 || b) (sym (less_one m.left)) ∙ ap (λ n. c.1 || nat_eq n 1) (sym one.left) ∙ sym c.4 in
      not_zero m.left (or_false c.1 (nat_eq m.left 0) kept).1
  one_some p m NotARequest one = let c = one.comes in absurd (false_is_true c.1)

  pub goes_some : (p q : Point S) (asked : List Incoming) → 1 ≤ p.left → Goes step p asked q → 1 ≤ q.left
  goes_some p q [] some same = subst (λ m. 1 ≤ m.left) (sym same) some
  goes_some p q (a ∷ more) some goes = goes_some goes.0 q more (one_some p goes.0 a goes.1) goes.2

  ends_here : (n : ℕ) (x : List ℕ) → 1 ≤ n → EndsEarly x → 0 < length x → EndsInside n x []
  ends_here zero x some early has = absurd (omega (arith, some))
  ends_here (suc k) x some early has = (early, has)

module _ {S : Type 0} (step : S → Incoming → Response → S → Type 0) (gives_up : S → Incoming → S → Type 0) where
  requests_by : (most : ℕ) (before now : StreamAt S) (n : ℕ) (s : Serves step gives_up most before now (Ok n)) → Ends step gives_up s.behind (length s.answered) s.reached (Ok n) s.gone
      → (rs : List Incoming) × (length rs ≡ n) × IsWhole most (s.taken ++ s.behind) rs
  requests_by most before now n s (inl all) =
      (s.answered ++ [], ap length (append-nil s.answered) ∙ sym all.0, goes_whole step (point most (s.taken ++ s.behind) before.at []) s.reached s.answered [] s.goes (none_whole step s.reached.left s.reached.bytes all.2))
  requests_by most before now n s (inr last) = (
    s.answered ++ last.1.0 ∷ [],
    length-append s.answered (last.1.0 ∷ []) ∙ omega (arith, last.0),
    goes_whole step (point most (s.taken ++ s.behind) before.at []) s.reached s.answered (last.1.0 ∷ []) s.goes
        (last_whole step s.reached.left s.reached s.gone last.1.0 refl last.1.1),
  )

  requests : (most : ℕ) (before now : StreamAt S) (n : ℕ) (s : Serves step gives_up most before now (Ok n)) → (rs : List Incoming) × (length rs ≡ n) × IsWhole most (s.taken ++ s.behind) rs
  requests most before now n s = requests_by most before now n s s.ends

  told_requests : (left : Option (List ℕ)) (most : ℕ) (before now : StreamAt S) (n : ℕ) → before.left ≡ left → Serves step gives_up most before now (Ok n) → AreRequests most left n
  told_requests None most before now n is s = tt
  told_requests (Some x) most before now n is s =
      let r = requests most before now n s in
      (r.0, r.1, subst (λ y. IsWhole most y r.0) (sym (all_bytes x s.taken s.behind now.left (subst (λ o. Gave o s.taken now.left) is s.gave) s.told)) r.2)

  -- what was served to its end is so many requests
  pub are_requests : (most : ℕ) (before now : StreamAt S) (result : Result ℕ StreamFault) → Serves step gives_up most before now result → IfOk result (AreRequests most before.left)
  are_requests most before now (Err fault) s = tt
  are_requests most before now (Ok n) s = told_requests before.left most before now n refl s

  told_inside : (left : Option (List ℕ)) (most : ℕ) (before now : StreamAt S) → 1 ≤ most → before.left ≡ left → Serves step gives_up most before now (Err Ended) → EndInside most left
  told_inside None most before now some is s = tt
  told_inside (Some x) most before now some is s =
      let start = point most (s.taken ++ s.behind) before.at [] in (
        s.answered ++ [],
        subst (λ y. EndsInside most y (s.answered ++ [])) (sym (all_bytes x s.taken s.behind now.left (subst (λ o. Gave o s.taken now.left) is s.gave) s.told))
            (goes_inside step start s.reached s.answered [] s.goes (ends_here step s.reached.left s.reached.bytes (goes_some step start s.reached s.answered some s.goes) s.ends.1 s.ends.2)),
      )

  -- and what wasn't ends inside one
  pub end_inside : (most : ℕ) (before now : StreamAt S) (result : Result ℕ StreamFault) → 1 ≤ most → Serves step gives_up most before now result → result ≡ Err Ended → EndInside most before.left
  end_inside most before now result some s is = told_inside before.left most before now some refl (subst (λ r. Serves step gives_up most before now r) is s)
