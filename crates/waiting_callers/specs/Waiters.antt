-- Callers that wait: what a look finds of each, whose turn it is, and who is let go.
use Rattle.std.specs.Prelude.{◌≡◌, ◌-◌, ℕ, List, [], ◌∷◌, ◌++◌, All, nat_le, Bool, true, false, Option, Some, None, option_map}
use Rattle.waiting_callers.specs.declared.look.Look.{Look}
use Rattle.waiting_callers.specs.declared.look.Look.TheVariants.{Silent, Speaks, Whole, Gone}
use Rattle.waiting_callers.specs.declared.waiter.Waiter.{Waiter}

-- for how many milliseconds a caller may say nothing
abbrev pub silence : ℕ
silence = 10000

-- in how many milliseconds a request has to be there, from when it was seen to begin
abbrev pub request_time : ℕ
request_time = 5000

-- how many callers wait at most
abbrev pub most_callers : ℕ
most_callers = 256

-- a look found what was to come next, where that is told
abbrev pub Told : Option (List Look) → Look → Option (List Look) → Type 0
Told before found now = before ≡ option_map (λ rest. found ∷ rest) now

-- its request is there
abbrev pub whole_by : Look → Bool
whole_by Whole = true
whole_by found = false

-- when a request was first seen to have begun, by what a look found now
abbrev pub spoke_after : ℕ → Option ℕ → Look → Option ℕ
spoke_after now (Some spoke) found = Some spoke
spoke_after now None Speaks = Some now
spoke_after now None Whole = Some now
spoke_after now None found = None

-- a caller is let go: it can't be served, or its request isn't there, and it has said nothing for as long as it may, or not all in its time
abbrev pub late_by : ℕ → ℕ → Option ℕ → Look → Bool
late_by now came spoke Gone = true
late_by now came spoke Whole = false
late_by now came None found = nat_le silence (now - came)
late_by now came (Some spoke) found = nat_le request_time (now - spoke)

module _ {C : Type 0} where
  -- a caller that came then, at which nobody has looked
  abbrev pub newcomer : C → ℕ → Waiter C
  newcomer caller came = record { caller = caller; came = came; spoke = None; said = Silent }

  abbrev pub is_whole : Waiter C → Bool
  is_whole waiter = whole_by waiter.said

  abbrev pub is_late : ℕ → Waiter C → Bool
  is_late now waiter = late_by now waiter.came waiter.spoke waiter.said

  -- one look at a caller: it is who it was and came when it came
  pub record IsSeen (is_same : C → C → Type 0) (says : C → Option (List Look)) (now : ℕ) (old new : Waiter C) : Type 0 where
    pub same : is_same old.caller new.caller
    pub told : Told (says old.caller) new.said (says new.caller)
    pub came : new.came ≡ old.came
    pub spoke : new.spoke ≡ spoke_after now old.spoke new.said

  -- one look at each, in order
  abbrev pub AreSeen : (C → C → Type 0) → (C → Option (List Look)) → ℕ → List (Waiter C) → List (Waiter C) → Type 0
  AreSeen is_same says now [] new = new ≡ []
  AreSeen is_same says now (waiter ∷ old) (seen ∷ new) = IsSeen is_same says now waiter seen × AreSeen is_same says now old new
  AreSeen is_same says now (waiter ∷ old) [] = ⊥

module _ {A : Type 0} where
  -- the first of which that is true was taken, and each other stays where it stood: none is lost, and none overtakes another
  pub record IsTaken (is_due : A → Bool) (old : List A) (taken : A) (new : List A) : Type 0 where
    pub front : List A
    pub back : List A
    pub was : old ≡ front ++ taken ∷ back
    pub stay : new ≡ front ++ back
    pub due : is_due taken ≡ true
    pub first : All (λ x. is_due x ≡ false) front

  -- the first of which that is true was taken, or it is true of none, and all stay
  abbrev pub TakesFirst : (A → Bool) → List A → Option A → List A → Type 0
  TakesFirst is_due old None new = (new ≡ old) × All (λ x. is_due x ≡ false) old
  TakesFirst is_due old (Some taken) new = IsTaken is_due old taken new
