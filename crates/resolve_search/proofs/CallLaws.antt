-- What the steps of a round leave of its call, one after the other.
use Rattle.std.proofs.Common.{◌≡◌, ℕ, [], Result, Ok, Err, refl, sym, subst}
use Rattle.turn_log.specs.Groups.{known}
use Rattle.sealed.specs.Seals.{pair_of}
use Rattle.resolve_round.specs.declared.call.Call.{Call}
use Rattle.resolve_round.specs.declared.halt.Halt.{Halt}
use Rattle.resolve_round.specs.declared.halt.Halt.TheVariants as halt
use Rattle.resolve_round.specs.declared.trace.Search.{Search}
use Rattle.resolve_round.specs.Acts.{Continues, IsHalt, IsKept}
use Rattle.resolve_round.specs.Calls.{Acted, Acts, HasPass, IsReady, SameParts}
use Rattle.resolve_round.specs.Knowing.{HoldsSoFar}
use Rattle.resolve_round.specs.Linking.{LinkUsed, LinkView, TriesBy, UsesLink, seen_by}
use Rattle.resolve_round.specs.Walking.{Walked}
use Rattle.resolve_search.specs.Calls.{Judges, Keeps}
use Rattle.resolve_round.proofs.CallLaws.{acted-none, parts-then, tests-none}
use Rattle.resolve_round.proofs.LinkLaws.{tries-by, tries-then, uses-then}
use Rattle.resolve_round.proofs.TestingLaws.{counts-none, only-none}
use Rattle.resolve_round.proofs.WalkLaws.{stumbled-still, stumbled-then, walked-then}

-- ---- the call

-- what is done to the rounds of a trace before and behind a step says nothing of what it acted
module _ {R G : Type 0} (first old new last : Call R G) (begins : SameParts first old) (ends : SameParts new last)
    (before : old.pass.now ≡ first.pass.now) (early : old.trace.now.events ≡ first.trace.now.events)
    (behind : last.pass.now ≡ new.pass.now) (late : last.trace.now.events ≡ new.trace.now.events) where
  acted_around : Acted old new → Acted first last
  acted_around acted = record {
    parts = parts-then first old last begins (parts-then old new last acted.parts ends);
    kept =
        subst (λ commons. IsKept commons first.pass.now last.pass.now) begins.commons
        (subst (λ pass. IsKept old.commons.now pass last.pass.now) before
        (subst (λ pass. IsKept old.commons.now old.pass.now pass) (sym behind) acted.kept));
    continues =
        subst (λ events. Continues events last.trace.now.events (known first.pass.now) (known last.pass.now)) early
        (subst (λ events. Continues old.trace.now.events events (known first.pass.now) (known last.pass.now)) (sym late)
        (subst (λ pass. Continues old.trace.now.events new.trace.now.events (known pass) (known last.pass.now)) before
        (subst (λ pass. Continues old.trace.now.events new.trace.now.events (known old.pass.now) (known pass)) (sym behind) acted.continues)));
  }

  acts_around : {A : Type 0} → (result : Result A Halt) → Acts old new result → Acts first last result
  acts_around (Ok value) acts = acted_around acts
  acts_around (Err cause) acts = (acted_around acts.0, subst (λ pass. IsHalt (known pass) cause) (sym behind) acts.1)

pub acts-around : {R G A : Type 0} → (first old new last : Call R G) (result : Result A Halt) → Acts old new result → SameParts first old → SameParts new last
    → old.pass.now ≡ first.pass.now → old.trace.now.events ≡ first.trace.now.events → last.pass.now ≡ new.pass.now → last.trace.now.events ≡ new.trace.now.events → Acts first last result
acts-around first old new last result acts begins ends before early behind late = acts_around first old new last begins ends before early behind late result acts

-- ---- judgements

-- nothing was done
pub judges-none : {R G A : Type 0} → (count : G → ℕ) (age : ℕ) (search : Search) (call : Call R G) (value : A) → HasPass call → HoldsSoFar age search call.trace.now → Judges count age search call call (Ok value)
judges-none count age search call value of holds = record { tests = tests-none count call value of; holds = holds; good = λ good. good }

-- and memory was wanting
pub judges-stop : {R G A : Type 0} → (count : G → ℕ) (age : ℕ) (search : Search) (call : Call R G) → HasPass call → HoldsSoFar age search call.trace.now → Judges {A = A} count age search call call (Err halt.Memory)
judges-stop count age search call of holds = record {
  tests = record {
    acts = (acted-none call of, tt);
    only = only-none call.trace.now [] (pair_of [] []) call.trace.now refl;
    counted = counts-none call.trace.now.checks call.trace.now.checks _ _ refl refl;
  };
  holds = holds;
  good = tt;
}

-- ---- the link

module _ {L : Type 0} (view : LinkView L) (old mid new : L) (before between after : Search) (used : UsesLink 0 (seen_by view old) (seen_by view mid) before between)
    (walked : Walked view.gave old mid before.asks between.asks) where
  -- a step that broke off without another call
  pub link-stop : (cause : Halt) → TriesBy (seen_by view old) (seen_by view mid) before between cause
  link-stop cause = tries-by (seen_by view old) (seen_by view mid) before between cause used

  tries_then : (cause : Halt) → TriesBy (seen_by view mid) (seen_by view new) between after cause → TriesBy (seen_by view old) (seen_by view new) before after cause
  tries_then (halt.Worn count) later = uses-then 0 (seen_by view old) (seen_by view mid) (seen_by view new) before between after used later
  tries_then halt.Memory later = tries-then (seen_by view old) (seen_by view mid) (seen_by view new) before between after used later

  -- a step, and then one that ended so
  pub link-then : {A : Type 0} → (result : Result A Halt) → LinkUsed view mid new between after result → LinkUsed view old new before after result
  link-then (Ok value) later = (
    uses-then 0 (seen_by view old) (seen_by view mid) (seen_by view new) before between after used later.0,
    walked-then view.gave old mid new before.asks between.asks after.asks walked later.1,
  )
  link-then (Err cause) later = (
    tries_then cause later.0,
    stumbled-then view.gave old mid new before.asks between.asks after.asks walked later.1,
  )

  -- a step that ended without another call
  pub link-by : {A : Type 0} → (result : Result A Halt) → LinkUsed view old mid before between result
  link-by (Ok value) = (used, walked)
  link-by (Err cause) = (link-stop cause, stumbled-still view.gave old mid before.asks between.asks walked)

-- ---- rounds

-- nothing was done
pub keeps-none : {R G A : Type 0} → (count : G → ℕ) (age : ℕ) (search : Search) (call : Call R G) (value : A) → IsReady age call search → Keeps count age search call call (Ok value)
keeps-none count age search call value ready = record {
  acts = acted-none call ready.of;
  same = record { moment = refl; epoch = refl; keys = refl; bounds = refl; searches = refl };
  counted = counts-none call.trace.now.checks call.trace.now.checks _ _ refl refl;
  holds = ready.holds;
  good = ready.good;
}

-- and memory was wanting
pub keeps-stop : {R G A : Type 0} → (count : G → ℕ) (age : ℕ) (search : Search) (call : Call R G) → IsReady age call search → Keeps {A = A} count age search call call (Err halt.Memory)
keeps-stop count age search call ready = record {
  acts = (acted-none call ready.of, tt);
  same = record { moment = refl; epoch = refl; keys = refl; bounds = refl; searches = refl };
  counted = counts-none call.trace.now.checks call.trace.now.checks _ _ refl refl;
  holds = ready.holds;
  good = tt;
}

-- the result of another type
pub keeps-ok : {R G A B : Type 0} → (count : G → ℕ) (age : ℕ) (search : Search) (old new : Call R G) (value : A) (other : B) → Keeps count age search old new (Ok value) → Keeps count age search old new (Ok other)
keeps-ok count age search old new value other keeps = record { acts = keeps.acts; same = keeps.same; counted = keeps.counted; holds = keeps.holds; good = keeps.good }

pub keeps-err : {R G A B : Type 0} → (count : G → ℕ) (age : ℕ) (search : Search) (old new : Call R G) (cause : Halt) → Keeps {A = A} count age search old new (Err cause) → Keeps {A = B} count age search old new (Err cause)
keeps-err count age search old new cause keeps = record { acts = keeps.acts; same = keeps.same; counted = keeps.counted; holds = keeps.holds; good = tt }

-- memory was wanting behind a step
pub keeps-break : {R G A B : Type 0} → (count : G → ℕ) (age : ℕ) (search : Search) (old new : Call R G) (value : B) → Keeps count age search old new (Ok value) → Keeps {A = A} count age search old new (Err halt.Memory)
keeps-break count age search old new value keeps = record { acts = (keeps.acts, tt); same = keeps.same; counted = keeps.counted; holds = keeps.holds; good = tt }

-- a judgement of a round that is under way
pub judged-keeps : {R G A B : Type 0} → (count : G → ℕ) (age : ℕ) (search : Search) (old new : Call R G) (value : A) (other : B) → IsReady age old search → Judges count age search old new (Ok value)
    → Keeps count age search old new (Ok other)
judged-keeps count age search old new value other ready judges =
    let only = judges.tests.only in
    record {
      acts = judges.tests.acts;
      same = record { moment = only.moment; epoch = only.epoch; keys = only.keys; bounds = only.bounds; searches = only.searches };
      counted = judges.tests.counted;
      holds = judges.holds;
      good = judges.good ready.good;
    }

pub judged-err : {R G A B : Type 0} → (count : G → ℕ) (age : ℕ) (search : Search) (old new : Call R G) (cause : Halt) → Judges {A = A} count age search old new (Err cause) → Keeps {A = B} count age search old new (Err cause)
judged-err count age search old new cause judges =
    let only = judges.tests.only in
    record {
      acts = judges.tests.acts;
      same = record { moment = only.moment; epoch = only.epoch; keys = only.keys; bounds = only.bounds; searches = only.searches };
      counted = judges.tests.counted;
      holds = judges.holds;
      good = tt;
    }
