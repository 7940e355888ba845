-- What the steps of a call leave, one after the other.
use Rattle.std.proofs.Common.{◌≡◌, ℕ, [], Result, Ok, Err, refl, sym, ap, ◌∙◌, subst}
use Rattle.std.specs.Prelude.{IfErr}
use Rattle.fed_base.specs.declared.ledger.Steps.{Steps}
use Rattle.turn_log.specs.Groups.{known}
use Rattle.sealed.specs.Seals.{pair_of}
use Rattle.statement_shelf.specs.Passes.{IsPassOfAll}
use Rattle.resolve_round.specs.declared.call.Call.{Call}
use Rattle.resolve_round.specs.declared.halt.Halt.{Halt}
use Rattle.resolve_round.specs.declared.halt.Halt.TheVariants as halt
use Rattle.resolve_round.specs.declared.trace.Trace.{Trace}
use Rattle.resolve_round.specs.Acts.{Continues, IsHalt, IsKept}
use Rattle.resolve_round.specs.Calls.{Acted, Acts, Counted, HasPass, SameParts, Tests, UsesCache}
use Rattle.resolve_round.specs.Getting.{OnlyEvents}
use Rattle.resolve_round.proofs.ActsLaws.{continues-none, continues-same, continues-then}
use Rattle.resolve_round.proofs.PassLaws.{kept-same, kept-then}
use Rattle.resolve_round.proofs.TestingLaws.{counts-none, only-none}

-- ---- the call

pub parts-then : {R G : Type 0} → (first mid last : Call R G) → SameParts first mid → SameParts mid last → SameParts first last
parts-then first mid last one two = record {
  commons = two.commons ∙ one.commons;
  pass = two.pass ∙ one.pass;
  trace = two.trace ∙ one.trace;
  steps = two.steps ∙ one.steps;
}

-- nothing was done
pub acted-none : {R G : Type 0} → (call : Call R G) → HasPass call → Acted call call
acted-none call of = record {
  parts = record { commons = refl; pass = refl; trace = refl; steps = refl };
  kept = kept-same call.commons.now call.pass.now of;
  continues = continues-none call.trace.now.events (known call.pass.now);
}

-- one step, and then another
pub acted-then : {R G : Type 0} → (first mid last : Call R G) → Acted first mid → Acted mid last → Acted first last
acted-then first mid last one two = record {
  parts = parts-then first mid last one.parts two.parts;
  kept =
      kept-then first.commons.now first.pass.now mid.pass.now last.pass.now one.kept
      (subst (λ commons. IsKept commons mid.pass.now last.pass.now) one.parts.commons two.kept);
  continues =
      continues-then first.trace.now.events mid.trace.now.events last.trace.now.events (known first.pass.now) (known mid.pass.now) (known last.pass.now)
      one.continues two.continues;
}

-- the same, told from the end
pub acted-behind : {R G : Type 0} → (first mid last : Call R G) → Acted mid last → Acted first mid → Acted first last
acted-behind first mid last two one = acted-then first mid last one two

-- the pass is one of the objects that the call works with
pub acted-of : {R G : Type 0} → (old new : Call R G) → Acted old new → HasPass new
acted-of old new acted = subst (λ commons. IsPassOfAll commons new.pass.now) (sym acted.parts.commons) acted.kept.of

-- by the result
pub acts-by : {R G A : Type 0} → (old new : Call R G) (result : Result A Halt) → Acted old new → IfErr result (IsHalt (known new.pass.now)) → Acts old new result
acts-by old new (Ok value) acted halt = acted
acts-by old new (Err cause) acted halt = (acted, halt)

pub acted-by : {R G A : Type 0} → (old new : Call R G) (result : Result A Halt) → Acts old new result → Acted old new
acted-by old new (Ok value) acts = acts
acted-by old new (Err cause) acts = acts.0

pub acts-then : {R G A : Type 0} → (first mid last : Call R G) (result : Result A Halt) → Acted first mid → Acts mid last result → Acts first last result
acts-then first mid last (Ok value) one two = acted-then first mid last one two
acts-then first mid last (Err cause) one two = (acted-then first mid last one two.0, two.1)

-- the pass is as it was, and no event was added
pub acted-still : {R G : Type 0} → (old new : Call R G) → SameParts old new → HasPass old → new.pass.now ≡ old.pass.now → new.trace.now.events ≡ old.trace.now.events → Acted old new
acted-still old new parts of pass events = record {
  parts = parts;
  kept = subst (IsKept old.commons.now old.pass.now) (sym pass) (kept-same old.commons.now old.pass.now of);
  continues =
      subst (λ p. Continues old.trace.now.events new.trace.now.events (known old.pass.now) (known p)) (sym pass)
      (continues-same old.trace.now.events new.trace.now.events (known old.pass.now) events);
}

-- ---- the cache

-- no call on it
pub cache-none : {R G A : Type 0} → (call : Call R G) (value : A) → HasPass call → UsesCache call call (Ok value)
cache-none call value of = record { acts = acted-none call of; only = refl; steps = refl }

-- and memory was wanting
pub cache-stop : {R G A : Type 0} → (call : Call R G) → HasPass call → UsesCache {A = A} call call (Err halt.Memory)
cache-stop call of = record { acts = (acted-none call of, tt); only = refl; steps = refl }

-- the result of another type
pub cache-ok : {R G A B : Type 0} → (old new : Call R G) (value : A) (other : B) → UsesCache old new (Ok value) → UsesCache old new (Ok other)
cache-ok old new value other uses = record { acts = uses.acts; only = uses.only; steps = uses.steps }

pub cache-err : {R G A B : Type 0} → (old new : Call R G) (cause : Halt) → UsesCache {A = A} old new (Err cause) → UsesCache {A = B} old new (Err cause)
cache-err old new cause uses = record { acts = uses.acts; only = uses.only; steps = uses.steps }

-- memory was wanting behind a step
pub cache-break : {R G A B : Type 0} → (old new : Call R G) (value : B) → UsesCache old new (Ok value) → UsesCache {A = A} old new (Err halt.Memory)
cache-break old new value uses = record { acts = (uses.acts, tt); only = uses.only; steps = uses.steps }

-- one step, and then another
pub events-then : (first mid last : Trace) → OnlyEvents first mid → OnlyEvents mid last → OnlyEvents first last
events-then first mid last one two = two ∙ ap (λ (t : Trace). record t { events = last.events }) one

pub cache-then : {R G A B : Type 0} → (first mid last : Call R G) (value : B) (result : Result A Halt) → UsesCache first mid (Ok value) → UsesCache mid last result → UsesCache first last result
cache-then first mid last value result one two = record {
  acts = acts-then first mid last result one.acts two.acts;
  only = events-then first.trace.now mid.trace.now last.trace.now one.only two.only;
  steps = two.steps ∙ one.steps;
}

-- the checks are those from before
pub cache-checks : (old new : Trace) → OnlyEvents old new → new.checks ≡ old.checks
cache-checks old new only = ap (λ (t : Trace). t.checks) only

-- no check was added, and none was counted
pub cache-counted : {R G A : Type 0} → (count : G → ℕ) (old new : Call R G) (result : Result A Halt) → UsesCache old new result → Counted count old new
cache-counted {G = G} count old new result uses =
    counts-none old.trace.now.checks new.trace.now.checks _ _ (cache-checks old.trace.now new.trace.now uses.only) (ap (λ (s : Steps G). count s.ledger) uses.steps)

-- ---- tests

-- no signature was tested
pub tests-none : {R G A : Type 0} → (count : G → ℕ) (call : Call R G) (value : A) → HasPass call → Tests count call call (Ok value)
tests-none count call value of = record {
  acts = acted-none call of;
  only = only-none call.trace.now [] (pair_of [] []) call.trace.now refl;
  counted = counts-none call.trace.now.checks call.trace.now.checks _ _ refl refl;
}

-- and memory was wanting
pub tests-stop : {R G A B : Type 0} → (count : G → ℕ) (old new : Call R G) (value : B) → Tests count old new (Ok value) → Tests {A = A} count old new (Err halt.Memory)
tests-stop count old new value tests = record { acts = (tests.acts, tt); only = tests.only; counted = tests.counted }

-- the result of another type
pub tests-ok : {R G A B : Type 0} → (count : G → ℕ) (old new : Call R G) (value : A) (other : B) → Tests count old new (Ok value) → Tests count old new (Ok other)
tests-ok count old new value other tests = record { acts = tests.acts; only = tests.only; counted = tests.counted }

pub tests-err : {R G A B : Type 0} → (count : G → ℕ) (old new : Call R G) (cause : Halt) → Tests {A = A} count old new (Err cause) → Tests {A = B} count old new (Err cause)
tests-err count old new cause tests = record { acts = tests.acts; only = tests.only; counted = tests.counted }
