-- A call is unavailable only where its link failed.
use Rattle.std.proofs.Common.{◌≡◌, ◌≢◌, ◌≤◌, ◌+◌, ℕ, zero, suc, List, [], ◌∷◌, ◌++◌, map, Err, refl, sym, ap, subst, le_trans, arith}
use Rattle.std.proofs.Math.Nat.{le-min, min-le_right}
use Rattle.std.proofs.lemmas.List.Sums.{sum_by-cons}
use Rattle.fed_base.specs.Counts.{Rose, counted, last_count, next_count}
use Rattle.resolve_reply.specs.declared.signer.Signer.{Signer}
use Rattle.resolve_round.specs.Courses.{Course, search_of}
use Rattle.resolve_round.specs.Rounds.{IsLast}
use Rattle.fed_resolver.specs.declared.outcome.Outcome.{Outcome}
use Rattle.fed_resolver.specs.declared.outcome.Refusal.TheVariants.{Unavailable}
use Rattle.fed_resolver.specs.Outcomes.{IsResult, LastFails, Tells}
use Rattle.fed_resolver.specs.Told.{Situation}
use Rattle.fed_resolver.specs.Uses.{CountsFaults, faults_met, faults_of}

-- ---- counts

next-later : (before now : ℕ) → next_count before ≤ now → next_count before ≤ next_count now
next-later before now low =
    le-min (let up = low in omega (arith, up)) (min-le_right (before + 1) last_count)

counted-later : (n before : ℕ) → next_count before ≤ counted (suc n) before
counted-later zero before = omega arith
counted-later (suc n) before = next-later before (counted (suc n) before) (counted-later n before)

rose : (n before now : ℕ) → n ≢ 0 → counted n before ≤ now → Rose before now
rose zero before now some low = absurd (some refl)
rose (suc n) before now some low = le_trans (counted-later n before) low

-- ---- the last round

last-met : (leaf others : List Course) (last : Course) → IsLast leaf last → last.search.faults ≤ faults_met (map search_of (leaf ++ others))
last-met [] others last is_last = cc is_last
last-met (course ∷ []) others last is_last =
    let same : last ≡ course = cc is_last in
    let faults = ap (λ (c : Course). c.search.faults) same in
    let sum = sum_by-cons faults_of course.search (map search_of others) in
    omega (arith, faults, sum)
last-met (course ∷ next ∷ courses) others last is_last =
    let rest = last-met (next ∷ courses) others last is_last in
    let sum = sum_by-cons faults_of course.search (map search_of ((next ∷ courses) ++ others)) in
    omega (arith, rest, sum)

module _ (here : Situation) (signer : Signer) (outcome : Outcome) where
  -- a whole trace whose result is this
  fails : Tells here signer outcome (Err Unavailable) → outcome.result ≡ Err Unavailable → (n : ℕ) × (n ≢ 0) × (n ≤ faults_met outcome.trace.searches)
  fails whole is =
      let last : LastFails whole.told.base.leaf = subst (IsResult here signer outcome.trace whole.told) is whole.result in (
        last.last.search.faults,
        last.fault,
        subst (λ searches. last.last.search.faults ≤ faults_met searches) (sym whole.told.base.searches) (last-met whole.told.base.leaf whole.told.base.others last.last last.is_last),
      )

  pub unavailable : (before now : ℕ) → Tells here signer outcome outcome.result → CountsFaults outcome.trace.searches before now → outcome.result ≡ Err Unavailable → Rose before now
  unavailable before now tells faults is =
      let some = fails (subst (Tells here signer outcome) is tells) is in
      rose (faults_met outcome.trace.searches) before now
      (λ none. some.1 (let low = some.2 in omega (arith, low, none))) faults.at_least
