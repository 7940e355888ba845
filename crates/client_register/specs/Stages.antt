-- What the steps of a registration answer.
use Rattle.std.specs.Prelude.{◌≡◌, ◌+◌, ℕ, List, ◌∷◌, drop, min, Option, Some, None, Result, Ok, Err}
use Rattle.fed_base.specs.declared.faults.Memory.{Memory as NoMemory}
use Rattle.chain_check.specs.Chains.{Texts}
use Rattle.chain_check.specs.Validity.{Case}
use Rattle.chain_check.specs.Verdicts.{IsVerdictOn}
use Rattle.chain_check.specs.declared.verdict.Resolved.{Resolved}
use Rattle.chain_check.specs.declared.verdict.Verdict.{Verdict}
use Rattle.chain_check.specs.declared.verdict.Verdict.TheVariants.{Valid, Refused}
use Rattle.client_register.specs.declared.fault.RegisterFault.{RegisterFault}
use Rattle.client_register.specs.declared.fault.RegisterFault.TheVariants.{Chain, NoType, NoChain, Spent, Fault, Memory}
use Rattle.client_register.specs.declared.found.Found.{Found}
use Rattle.client_register.specs.declared.found.Found.TheVariants as found
use Rattle.client_register.specs.declared.registration.Registration.{Registration}
use Rattle.client_register.specs.Answers.{IsRefused}
use Rattle.client_register.specs.Registrations.{Request, IsChain, party_in}

-- the found chain with this text in the place of its first, or why there is none
abbrev pub Follows : List ℕ → Option Found → Result Texts RegisterFault → Type 0
Follows text last (Ok chain) = (texts : Texts) × (last ≡ Some (found.Chain texts)) × (chain ≡ text ∷ drop 1 texts)
Follows text last (Err NoChain) = last ≡ Some found.NoChain
Follows text last (Err Spent) = last ≡ Some found.Spent
Follows text last (Err Fault) = last ≡ Some found.Fault
Follows text last (Err Memory) = Unit {0}
Follows text last (Err _) = ⊥

-- the request's chain, or why it has none
abbrev pub GivesChain : Request → Result Texts RegisterFault → Type 0
GivesChain q (Ok chain) = IsChain q chain
GivesChain q (Err NoType) = ⊥
GivesChain q (Err (Chain place reason)) = ⊥
GivesChain q (Err fault) = IsRefused q fault

-- what a chain resolves to, or its first failure
abbrev pub Decides : Case → Result Resolved RegisterFault → Type 0
Decides case (Ok resolved) = IsVerdictOn case (Valid resolved)
Decides case (Err (Chain place reason)) = IsVerdictOn case (Refused place reason)
Decides case (Err Memory) = Unit {0}
Decides case (Err _) = ⊥

-- the verdict on the chain
abbrev pub verdict_in : Result Resolved RegisterFault → Result Verdict NoMemory
verdict_in (Ok resolved) = Ok (Valid resolved)
verdict_in (Err (Chain place reason)) = Ok (Refused place reason)
verdict_in (Err _) = Err (record {})

-- what is registered of a leaf that a chain resolves to, where it is a relying party
abbrev pub Takes : Texts → Resolved → ℕ → ℕ → Result Registration RegisterFault → Type 0
Takes chain resolved lifetime t (Ok r) =
    (party_in resolved.metadata ≡ Some r.party)
    × (r ≡ record { sub = resolved.leaf; iat = t; exp = min resolved.exp (t + lifetime); party = r.party; chain = chain })
Takes chain resolved lifetime t (Err NoType) = party_in resolved.metadata ≡ None
Takes chain resolved lifetime t (Err Memory) = Unit {0}
Takes chain resolved lifetime t (Err _) = ⊥
