-- What is answered on a chain: what a valid one resolves to, and the first failure of any other.
use Rattle.std.specs.Prelude.{◌≡◌, ℕ, List, [], ◌∷◌, length, fold, min, Bool, true, false}
use Rattle.fed_json.specs.Forms.{IsWhole}
use Rattle.entity_statement.specs.Claims.{Claims}
use Rattle.policy_merge.specs.Places.{AreUtf8}
use Rattle.chain_check.specs.declared.reason.Reason.{Reason}
use Rattle.chain_check.specs.declared.reason.Reason.TheVariants.{Form, Names, Times, Signature, Conflict, Policy}
use Rattle.chain_check.specs.declared.verdict.Resolved.{Resolved}
use Rattle.chain_check.specs.declared.verdict.Verdict.{Verdict}
use Rattle.chain_check.specs.declared.verdict.Verdict.TheVariants.{Valid, Refused}
use Rattle.fed_base.specs.Places.{FailsFirst}
use Rattle.chain_check.specs.Chains.{LosesForm}
use Rattle.chain_check.specs.Names.{LosesNames, subject_at}
use Rattle.chain_check.specs.Signatures.{CurrentAt, SignedAt}
use Rattle.chain_check.specs.Validity.{Case, chain_of, IsValid, ToNames, ToTimes, ToSignatures, ToLimits, ResolvesTo}
use Rattle.chain_check.specs.Resolving.{FailsToResolve}

-- the first failure of a chain: of the first class that it doesn't pass, the least place, and of a Conflict the place at
-- which merging from the anchor down fails first (its highest). The classes are Form, Names, Times, Signature, limits
-- (PathLength before Name at one place), Conflict and Policy
abbrev pub IsFirstFailure : Case → ℕ → Reason → Type 0
IsFirstFailure case place Form = LosesForm case.texts place
IsFirstFailure case place Names = ToNames case × LosesNames (chain_of case) case.anchor place
IsFirstFailure case place Times = ToTimes case × FailsFirst (CurrentAt (chain_of case) case.moment) (length (chain_of case)) place
IsFirstFailure case place Signature = ToSignatures case × FailsFirst (SignedAt case.texts (chain_of case) case.keys) (length (chain_of case)) place
IsFirstFailure case place reason = ToLimits case × FailsToResolve (chain_of case) place reason

-- the least moment at which a statement of the chain expires
unfoldable pub least_exp : List Claims → ℕ
least_exp [] = 0
least_exp (leaf ∷ rest) = fold (λ exp s. min exp s.exp) leaf.exp rest

-- the leaf, its metadata under the policy, and the chain's end
pub record IsResolved (chain : List Claims) (resolved : Resolved) : Type 0 where
  pub leaf : resolved.leaf ≡ subject_at chain 0
  pub exp : resolved.exp ≡ least_exp chain
  pub metadata : ResolvesTo chain resolved.metadata

-- the verdict on the chain
abbrev pub IsVerdictOn : Case → Verdict → Type 0
IsVerdictOn case (Valid resolved) = IsValid case × IsResolved (chain_of case) resolved
IsVerdictOn case (Refused place reason) = IsFirstFailure case place reason

-- the chain is valid
abbrev pub is_valid : Verdict → Bool
is_valid (Valid resolved) = true
is_valid (Refused place reason) = false

-- what holds of the resolved leaf of a valid chain
abbrev pub IfValid : Verdict → (Resolved → Type 0) → Type 0
IfValid (Valid resolved) P = P resolved
IfValid (Refused place reason) P = Unit {0}

-- the names that a reason tells are UTF-8
abbrev pub HasUtf8Names : Reason → Type 0
HasUtf8Names (Conflict t p f s) = AreUtf8 t p
HasUtf8Names (Policy t p o) = AreUtf8 t p
HasUtf8Names _ = Unit {0}

-- the trees and the names of a verdict have a JSON text
abbrev pub CanBeWritten : Verdict → Type 0
CanBeWritten (Valid resolved) = IsWhole resolved.metadata
CanBeWritten (Refused place reason) = HasUtf8Names reason
