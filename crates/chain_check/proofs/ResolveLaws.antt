-- What the statements of a chain resolve to, from its parts.
use Rattle.std.proofs.Common.{◌≡◌, ◌<◌, ◌-◌, ◌∷◌, [], ℕ, List, length, take, drop, map, get_or, Some, None, Ok, Err, Result, refl, sym, ap, ap₂, ◌∙◌, subst, arith}
use Rattle.std.specs.Prelude.{fold, min, slice_get}
use Rattle.std.proofs.lemmas.List.{take-map, drop-map, length-map}
use Rattle.std.proofs.lemmas.Option.{slice_get-get_or, slice_get-map}
use Rattle.std.specs.Prelude.{option_map}
use Rattle.fed_json.specs.declared.tree.Json.{Json}
use Rattle.chain_limits.specs.declared.place.Place.{Place}
use Rattle.chain_limits.specs.Types.{types_allowed}
use Rattle.policy_merge.specs.Policies.{Types}
use Rattle.policy_apply.specs.declared.fault.ApplyFault.{ApplyFault}
use Rattle.entity_statement.specs.Claims.{Claims}
use Rattle.entity_statement.specs.declared.signed.SignedStatement.{SignedStatement}
use Rattle.chain_check.specs.declared.reason.Reason.{Reason}
use Rattle.chain_check.specs.declared.reason.Reason.TheVariants.{Form, Names, Times, Signature, PathLength, Name, Conflict, Policy}
use Rattle.chain_check.specs.declared.stop.Stop.{Stop}
use Rattle.chain_check.specs.declared.stop.Stop.TheVariants.{Refused, Memory}
use Rattle.chain_check.specs.Chains.{below_anchor}
use Rattle.chain_check.specs.Metadata.{allowed_metadata, limited_places, own_metadata, place_of, put_over}
use Rattle.chain_check.specs.Policies.{ConflictAt, merged_from, merged_policy}
use Rattle.chain_check.specs.Validity.{IsWithin, applied}
use Rattle.chain_check.specs.Verdicts.{least_exp}
use Rattle.chain_check.specs.Resolving.{FailsToResolve, IsConflictAt, IsLimit, IsRefusal}
use Rattle.chain_check.specs.Reading.{claims_in, entry_claims}
use Rattle.chain_check.specs.Stages.{Passes}
use Rattle.chain_check.proofs.NameLaws.{length-claims}

-- what an answer that isn't Ok says of other facts
pub Passes-err : {X Y : Type 0} (stop : Stop) (P : X → Type 0) (P' : Y → Type 0) (Q Q' : ℕ → Reason → Type 0) → ((place : ℕ) (reason : Reason) → Q place reason → Q' place reason)
    → Passes {X = X} (Err stop) P Q → Passes {X = Y} (Err stop) P' Q'
Passes-err (Refused place reason) P P' Q Q' then told = then place reason told
Passes-err Memory P P' Q Q' then told = tt

pub Passes-weaker : {X : Type 0} (r : Result X Stop) (P P' : X → Type 0) (Q Q' : ℕ → Reason → Type 0) → ((x : X) → P x → P' x) → ((place : ℕ) (reason : Reason) → Q place reason → Q' place reason)
    → Passes r P Q → Passes r P' Q'
Passes-weaker (Ok x) P P' Q Q' ok then told = ok x told
Passes-weaker (Err stop) P P' Q Q' ok then told = Passes-err stop P P' Q Q' then told

-- the policies of statements
abbrev pub policies_of : List Claims → List Types
policies_of = map (λ s. s.policy)

pub length-policies : (entries : List SignedStatement) → length (policies_of (claims_in entries)) ≡ length entries
length-policies entries = length-map (claims_in entries) (λ s. s.policy) ∙ length-claims entries

pub policy-there : (entries : List SignedStatement) (j : ℕ) (d : SignedStatement) → j < length entries → slice_get (policies_of (claims_in entries)) j ≡ Some (get_or entries j d).statement.policy
policy-there entries j d short =
    slice_get-map (λ s. s.policy) (claims_in entries) j ∙ ap (option_map (λ s. s.policy)) (slice_get-map entry_claims entries j ∙ ap (option_map entry_claims) (slice_get-get_or entries j d short))

pub policies-drop : (chain : List Claims) → policies_of (drop 1 chain) ≡ drop 1 (policies_of chain)
policies-drop chain = sym (drop-map (λ s. s.policy) 1 chain)

-- the statements below the trust anchor's
pub claims-below : (entries below : List SignedStatement) (n : ℕ) → n ≡ length entries - 1 → below ≡ take n entries → claims_in below ≡ below_anchor (claims_in entries)
claims-below entries below n is parts =
    ap claims_in parts ∙ sym (take-map entry_claims n entries) ∙ ap (λ k. take k (claims_in entries)) (is ∙ ap (λ k. k - 1) (sym (length-claims entries)))

module _ (entries below : List SignedStatement) (is_below : claims_in below ≡ below_anchor (claims_in entries)) where
  pub places-are : (places : List Place) → places ≡ map place_of (claims_in below) → places ≡ limited_places (claims_in entries)
  unfolding limited_places
  places-are places is = is ∙ ap (map place_of) is_below

  pub merged-is : merged_from 1 (policies_of (drop 1 (claims_in below))) ≡ merged_policy (claims_in entries)
  unfolding merged_policy
  merged-is = ap (λ cs. merged_from 1 (policies_of (drop 1 cs))) is_below

-- limits, conflicts and refusals, as failures of the chain
pub limit-fails : (chain : List Claims) (places : List Place) → places ≡ limited_places chain → (place : ℕ) (reason : Reason) → IsLimit places place reason → FailsToResolve chain place reason
limit-fails chain places is place PathLength told = subst (λ ps. IsLimit ps place PathLength) is told
limit-fails chain places is place Name told = subst (λ ps. IsLimit ps place Name) is told
limit-fails chain places is place Form told = absurd told
limit-fails chain places is place Names told = absurd told
limit-fails chain places is place Times told = absurd told
limit-fails chain places is place Signature told = absurd told
limit-fails chain places is place (Conflict t p f s) told = absurd told
limit-fails chain places is place (Policy t p o) told = absurd told

pub conflict-fails : (chain : List Claims) (outcome : Result Types ConflictAt) → outcome ≡ merged_policy chain → IsWithin chain → (place : ℕ) (reason : Reason) → IsConflictAt outcome place reason
    → FailsToResolve chain place reason
conflict-fails chain outcome is within place (Conflict t p f s) told = (within, sym is ∙ told)
conflict-fails chain outcome is within place PathLength told = absurd told
conflict-fails chain outcome is within place Name told = absurd told
conflict-fails chain outcome is within place Form told = absurd told
conflict-fails chain outcome is within place Names told = absurd told
conflict-fails chain outcome is within place Times told = absurd told
conflict-fails chain outcome is within place Signature told = absurd told
conflict-fails chain outcome is within place (Policy t p o) told = absurd told

pub refusal-fails : (chain : List Claims) (policy : Types) (outcome : Result Json ApplyFault) → merged_policy chain ≡ Ok policy → outcome ≡ applied chain policy → IsWithin chain
    → (place : ℕ) (reason : Reason) → IsRefusal outcome place reason → FailsToResolve chain place reason
refusal-fails chain policy outcome merged is within place (Policy t p o) told = (within, (policy, merged, (told.0, sym is ∙ told.1)))
refusal-fails chain policy outcome merged is within place PathLength told = absurd told
refusal-fails chain policy outcome merged is within place Name told = absurd told
refusal-fails chain policy outcome merged is within place Form told = absurd told
refusal-fails chain policy outcome merged is within place Names told = absurd told
refusal-fails chain policy outcome merged is within place Times told = absurd told
refusal-fails chain policy outcome merged is within place Signature told = absurd told
refusal-fails chain policy outcome merged is within place (Conflict t p f s) told = absurd told

-- the leaf's metadata
pub own-about : (entries : List SignedStatement) (d about : SignedStatement) → slice_get entries 1 ≡ Some about → put_over about.statement.metadata (get_or entries 0 d).statement.metadata ≡ own_metadata (claims_in entries)
unfolding own_metadata
own-about [] d about there = cc there
own-about (leaf ∷ []) d about there = cc there
own-about (leaf ∷ next ∷ rest) d about there = let same : about ≡ next = cc there in ap (λ (e : SignedStatement). put_over e.statement.metadata leaf.statement.metadata) same

pub own-alone : (entries : List SignedStatement) (d : SignedStatement) → 0 < length entries → slice_get entries 1 ≡ None → (get_or entries 0 d).statement.metadata ≡ own_metadata (claims_in entries)
unfolding own_metadata
own-alone [] d some none = absurd (omega arith)
own-alone (leaf ∷ []) d some none = refl
own-alone (leaf ∷ next ∷ rest) d some none = cc none

pub allowed-is : (chain : List Claims) (places : List Place) (own : Json) → places ≡ limited_places chain → own ≡ own_metadata chain → types_allowed places own ≡ allowed_metadata chain
unfolding allowed_metadata
allowed-is chain places own is_places is_own = ap₂ types_allowed is_places is_own

-- the least end
pub least-is : (entries : List SignedStatement) (d : SignedStatement) → 0 < length entries → fold (λ exp s. min exp s.exp) (get_or entries 0 d).statement.exp (claims_in entries) ≡ least_exp (claims_in entries)
unfolding least_exp
least-is [] d some = absurd (omega arith)
least-is (leaf ∷ rest) d some =
    let same : min leaf.statement.exp leaf.statement.exp ≡ leaf.statement.exp = omega arith in ap (λ e. fold (λ exp s. min exp s.exp) e (claims_in rest)) same
