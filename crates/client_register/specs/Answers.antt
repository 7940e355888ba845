-- What a request for a registration is answered (OpenID Federation 1.0 sections 12.2.3 and 12.2.4).
use Rattle.std.specs.Prelude.{◌≡◌, ◌<◌, ◌≤◌, ◌+◌, ◌⊎◌, ℕ, pos, List, codes, Some, None, IfOk, Result, Ok, Err}
use Rattle.fed_base.specs.declared.faults.Memory.{Memory as NoMemory}
use Rattle.fed_json.specs.declared.tree.Json.{Json, Int}
use Rattle.fed_json.specs.Trees.{find, object_members}
use Rattle.sealed.specs.Sealing.{IsSealedFor, sealed_text}
use Rattle.entity_statement.specs.Claims.{Identifier}
use Rattle.chain_check.specs.Chains.{Texts, statements_of}
use Rattle.chain_check.specs.Counts.{CountsVerdict}
use Rattle.chain_check.specs.Verdicts.{HasUtf8Names, IsFirstFailure, least_exp}
use Rattle.chain_check.specs.declared.verdict.Resolved.{Resolved}
use Rattle.chain_check.specs.declared.verdict.Verdict.{Verdict}
use Rattle.chain_check.specs.declared.verdict.Verdict.TheVariants.{Valid, Refused}
use Rattle.client_register.specs.declared.fault.RegisterFault.{RegisterFault}
use Rattle.client_register.specs.declared.fault.RegisterFault.TheVariants.{Form, Chain, NoType, NoChain, Spent, Fault, Memory}
use Rattle.client_register.specs.declared.found.Found.{Found}
use Rattle.client_register.specs.declared.found.Found.TheVariants as found
use Rattle.client_register.specs.declared.posted.Posted.TheVariants.{Configuration, Neither}
use Rattle.client_register.specs.declared.registered.Registered.{Registered}
use Rattle.client_register.specs.Registrations.{Request, IsChain, IsRegistration, Resolves, case_in, party_in}
use Rattle.client_register.specs.Requests.{posted_in}

-- ---- registrations

-- the header's type of a registration (section 12.2.3)
abbrev pub registration_type : List ℕ
registration_type = codes "explicit-registration-response+jwt"

-- the claims register, and the text is these claims, sealed by the provider (section 12.2.3)
pub record IsRegistered (q : Request) (registered : Registered) : Type 0 where
  pub claims : IsRegistration q registered.claims
  pub text : registered.text ≡ sealed_text q.here.signer registration_type registered.claims

-- ---- refusals

-- a configuration was posted, and the finder answered so
abbrev pub IsFound : Request → Found → Type 0
IsFound q answer = (entity : Identifier) × (posted_in q.bytes ≡ Configuration entity) × (q.found ≡ Some answer)

-- a valid chain doesn't resolve to the metadata of a relying party (section 12.2.2)
abbrev pub LacksType : Request → Type 0
LacksType q = (chain : Texts) × (metadata : Json) × Resolves q chain metadata × (party_in metadata ≡ None)

-- the one refusal of a request, in the order in which they are looked for; want of memory may come at any place
abbrev pub IsRefused : Request → RegisterFault → Type 0
IsRefused q Form = posted_in q.bytes ≡ Neither
IsRefused q NoChain = IsFound q found.NoChain
IsRefused q Spent = IsFound q found.Spent
IsRefused q Fault = IsFound q found.Fault
IsRefused q (Chain place reason) = (chain : Texts) × IsChain q chain × IsFirstFailure (case_in q chain) place reason
IsRefused q NoType = LacksType q
IsRefused q Memory = Unit {0}

-- ---- answers

abbrev pub IsAnswer : Request → Result Registered RegisterFault → Type 0
IsAnswer q (Ok registered) = IsRegistered q registered
IsAnswer q (Err fault) = IsRefused q fault

-- memory was wanting
abbrev pub IsMemory : Result Registered RegisterFault → Type 0
IsMemory result = result ≡ Err Memory

-- the names that a refusal tells are UTF-8 (RFC 8259 section 8.1)
abbrev pub CanBeTold : RegisterFault → Type 0
CanBeTold (Chain place reason) = HasUtf8Names reason
CanBeTold _ = Unit {0}

-- a registration, or memory was wanting
abbrev pub IsRegisteredUnlessMemory : Result Registered RegisterFault → Type 0
IsRegisteredUnlessMemory (Ok registered) = Unit {0}
IsRegisteredUnlessMemory (Err fault) = fault ≡ Memory

-- ---- what a call does

-- a registration holds at its moment, where it may last at all, and ends with its chain or with the provider's lifetime (section 12.3)
pub record Lasts (q : Request) (claims : Json) : Type 0 where
  pub exp : ℕ
  pub says : find (codes "exp") (object_members claims) ≡ Some (Int (pos exp))
  pub begun : 0 < q.here.lifetime → q.here.moment < exp
  pub short : exp ≤ q.here.moment + q.here.lifetime
  pub within : (chain : Texts) → IsChain q chain → exp ≤ least_exp (statements_of chain)

-- a request has one answer, and each answer its cause
pub record Registers (q : Request) (result : Result Registered RegisterFault) : Type 0 where
  pub answer : IsAnswer q result
  -- but for want of memory there is no other
  pub one : (other : Result Registered RegisterFault) → IsAnswer q other → ¬ IsMemory other → ¬ IsMemory result → other ≡ result
  -- a leaf whose chain is valid and says that it is a relying party is registered
  pub complete : (chain : Texts) (metadata party : Json) → Resolves q chain metadata → party_in metadata ≡ Some party → IsRegisteredUnlessMemory result
  pub lasts : IfOk result (λ registered. Lasts q registered.claims)
  -- a text of at most 262,144 bytes is sealed by each set that has the provider's key
  pub sealed : IfOk result (λ registered. IsSealedFor q.here.signer registered.text)

-- ---- counts

-- the signatures that a check of the request's chain checks
abbrev pub CountsCheck : Request → Result Verdict NoMemory → ℕ → ℕ → Type 0
CountsCheck q verdict before now = (chain : Texts) × IsChain q chain × CountsVerdict (case_in q chain) verdict before now

-- what is counted by the answer: the check of the chain, and nothing where there is no chain
abbrev pub Counts : Request → Result Registered RegisterFault → ℕ → ℕ → Type 0
Counts q (Ok registered) before now = (resolved : Resolved) × CountsCheck q (Ok (Valid resolved)) before now
Counts q (Err NoType) before now = (resolved : Resolved) × CountsCheck q (Ok (Valid resolved)) before now
Counts q (Err (Chain place reason)) before now = CountsCheck q (Ok (Refused place reason)) before now
Counts q (Err Memory) before now = (now ≡ before) ⊎ ((verdict : Result Verdict NoMemory) × CountsCheck q verdict before now)
Counts q (Err _) before now = now ≡ before
