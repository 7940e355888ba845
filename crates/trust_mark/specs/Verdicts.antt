-- What is answered on a trust mark: until when a good one is good, and the first reason for which any other isn't.
use Rattle.std.specs.Prelude.{◌≡◌, ◌≤◌, ◌<◌, ℕ, Bool, true, false, Option, Some, None, option_and_then, IfSome, IsSome}
use Rattle.entity_statement.specs.Claims.{Claims}
use Rattle.trust_mark.specs.Marks.{Case, MarkOk, Meets, delegation_of, mark_of, owner_of}
use Rattle.trust_mark.specs.declared.mark.Mark.{Mark}
use Rattle.trust_mark.specs.declared.verdict.MarkReason.{MarkReason}
use Rattle.trust_mark.specs.declared.verdict.MarkReason.TheVariants.{Form, Subject, Kind, Unlisted, Issuer, Times, Signature, Delegation}
use Rattle.trust_mark.specs.declared.verdict.MarkVerdict.{MarkVerdict}
use Rattle.trust_mark.specs.declared.verdict.MarkVerdict.TheVariants.{Good, Bad}

-- the place of a condition in their order
abbrev pub place_of : MarkReason → ℕ
place_of Form = 0
place_of Subject = 1
place_of Kind = 2
place_of Unlisted = 3
place_of Issuer = 4
place_of Times = 5
place_of Signature = 6
place_of Delegation = 7

-- the entry's text reads as this mark, which meets the conditions before this one, and not this one
pub record FailsAt (case : Case) (reason : MarkReason) (mark : Mark) : Type 0 where
  pub before : (earlier : MarkReason) → place_of earlier < place_of reason → Meets case mark earlier
  pub reads : Meets case mark Form
  pub here : ¬ Meets case mark reason

-- the first reason for which no mark of the entry is good
abbrev pub IsFirstReason : Case → MarkReason → Type 0
IsFirstReason case Form = mark_of case.entry.text ≡ None
IsFirstReason case reason = (mark : Mark) × FailsAt case reason mark

-- the verdict on the entry: of a good mark its `exp`
abbrev pub IsVerdictOn : Case → MarkVerdict → Type 0
IsVerdictOn case (Good exp) = (mark : Mark) × MarkOk case mark × (exp ≡ mark.exp)
IsVerdictOn case (Bad reason) = IsFirstReason case reason

-- the mark is good
abbrev pub is_good : MarkVerdict → Bool
is_good (Good exp) = true
is_good (Bad reason) = false

-- what holds of a good mark, with its end
abbrev pub IfGood : MarkVerdict → (Option ℕ → Type 0) → Type 0
IfGood (Good exp) P = P exp
IfGood (Bad reason) P = Unit {0}

-- the mark ended at the moment or before it
pub record HasEnded (mark : Mark) (t : ℕ) : Type 0 where
  pub exp : ℕ
  pub there : mark.exp ≡ Some exp
  pub ended : exp ≤ t

-- the mark doesn't end, nor does its delegation where its type has an owner
pub record NeverEnds (anchor : Claims) (mark : Mark) : Type 0 where
  pub mark_lasts : mark.exp ≡ None
  pub delegation_lasts : IsSome (owner_of anchor mark.mark_type)
      → IfSome (option_and_then delegation_of mark.delegation) (λ delegation. delegation.exp ≡ None)
