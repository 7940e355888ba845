-- One reading more of a clock of given moments.
use Rattle.std.proofs.Common.{◌≡◌, ◌+◌, ◌^◌, ◌-◌, ◌∷◌, [], ◌++◌, ℕ, min, Bool, true, false, Some, None, cond, nat_lt, List, ap, ◌∙◌, arith, suc, inr}
use Rattle.std.proofs.lemmas.Bool.{lt-ltb, ltb-true, ltb-false}
use Rattle.fed_ports.specs.MemoryClocks.{told_of, given, moment_at}
use Rattle.fed_ports.specs.Times.{Told}

given_more : (ms : List ℕ) (n : ℕ) → given ms (n + 1) ≡ given ms n ++ moment_at ms n ∷ []
unfolding given
given_more ms n = let one : n + 1 ≡ suc n = omega arith in ap (given ms) one

-- what is told after a reading is what was told before it, and the moment of that reading
pub told_more : (ms : List ℕ) (n m : ℕ) (b : Bool) → nat_lt m (2 ^ 64 - 1) ≡ b → m ≡ min (n + 1) (2 ^ 64 - 1) → Told n (told_of ms n) (cond b (Some (given ms m)) None) (moment_at ms n)
told_more ms n m false e is =
    let le = ltb-false m (2 ^ 64 - 1) e in
    let last : min (n + 1) (2 ^ 64 - 1) ≡ 2 ^ 64 - 1 = omega (arith, le, is) in
    inr last
told_more ms n m true e is =
    let lt = ltb-true m (2 ^ 64 - 1) e in
    let next : m ≡ n + 1 = omega arith in
    (given ms n, ap (λ b. cond b (Some (given ms n)) None) (lt-ltb n (2 ^ 64 - 1) (omega arith)), ap (given ms) next ∙ given_more ms n)
