-- What comes from the other side, over several calls.
use Rattle.std.specs.Prelude.{◌≡◌, ◌≤◌, ◌<◌, ◌⊎◌, ℕ, Bool, true, false, List, ◌++◌, length, Option, Some, None, Result, Ok, Err}
use Rattle.fed_base.specs.Counts.{Rose}
use Rattle.fed_ports.specs.Inputs.{AtEnd}
use Rattle.fed_ports.specs.Lists.{Gave}
use Rattle.http_messages.specs.declared.inflow.Break.{Break}
use Rattle.http_messages.specs.declared.inflow.Break.TheVariants.{Failed, Memory}
use Rattle.http_messages.specs.Heads.{head_end, head_limit}

-- these bytes came and were added to a text; the end came, or didn't
pub record Comes (flow : List ℕ → Bool → Type 0) (before after : List ℕ) (ended : Bool) : Type 0 where
  pub got : List ℕ
  pub came : flow got ended
  pub adds : after ≡ before ++ got

-- a head came whole, with what came behind it; or none came and none will
abbrev pub HeadComes : (List ℕ → Bool → Type 0) → List ℕ → Option ℕ → Type 0
HeadComes came text (Some len) = came text false × (length text ≤ head_limit) × (head_end text ≡ Some len)
HeadComes came text None = (ended : Bool) × came text ended × (length text ≤ head_limit) × (head_end text ≡ None) × ((length text ≡ head_limit) ⊎ (ended ≡ true))

-- the same behind what a text had before
abbrev pub HeadComesOn : (List ℕ → Bool → Type 0) → List ℕ → List ℕ → Option ℕ → Type 0
HeadComesOn came before after (Some len) = Comes came before after false × (length after ≤ head_limit) × (head_end after ≡ Some len)
HeadComesOn came before after None =
    (ended : Bool) × Comes came before after ended × (length after ≤ head_limit) × (head_end after ≡ None) × ((length after ≡ head_limit) ⊎ (ended ≡ true))

-- this is said where a call failed
abbrev pub OnFailed : {T : Type 0} → Result T Break → Type 0 → Type 0
OnFailed (Ok x) P = Unit {0}
OnFailed (Err Failed) P = P
OnFailed (Err Memory) P = Unit {0}

-- these bytes came and were added to a text, and then a call failed
pub record Broken (flow : List ℕ → Type 0) (before after : List ℕ) : Type 0 where
  pub got : List ℕ
  pub broke : flow got
  pub adds : after ≡ before ++ got

-- a call failed before a head was there, where one could still come
abbrev pub HeadBroken : (List ℕ → Type 0) → List ℕ → Type 0
HeadBroken broke text = broke text × (length text < head_limit) × (head_end text ≡ None)

-- the same behind what a text had before
abbrev pub HeadBrokenOn : (List ℕ → Type 0) → List ℕ → List ℕ → Type 0
HeadBrokenOn broke before after = Broken broke before after × (length after < head_limit) × (head_end after ≡ None)

-- the count rose where a call failed, and else it is as before
abbrev pub BreakCause : {T : Type 0} → ℕ → ℕ → Result T Break → Type 0
BreakCause before now (Ok x) = now ≡ before
BreakCause before now (Err Failed) = (before ≤ now) × Rose before now
BreakCause before now (Err Memory) = now ≡ before

-- the bytes that a source gave; where the end came nothing is left
pub record Given (old new : Option (List ℕ)) (got : List ℕ) (ended : Bool) : Type 0 where
  pub gave : Gave old got new
  pub at_end : ended ≡ true → AtEnd new

-- at most so many bytes were taken from a source
pub record TakenFew (old new : Option (List ℕ)) (most : ℕ) : Type 0 where
  pub got : List ℕ
  pub few : length got ≤ most
  pub gave : Gave old got new
