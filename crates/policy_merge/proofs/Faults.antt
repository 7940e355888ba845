-- The faults that code answers.
use Rattle.std.proofs.Common.{◌≡◌, Option, Some, Result, Err, sym, ap, ◌∙◌}
use Rattle.policy_merge.specs.declared.fault.PolicyFault.{PolicyFault}
use Rattle.policy_merge.specs.declared.fault.PolicyFault.TheVariants.{Conflict, Memory}
use Rattle.fed_base.specs.Answers.{unless}
use Rattle.fed_json.proofs.Firsts.{unless_err, unless_some}
use Rattle.policy_merge.specs.Combining.{Gives, IsFault}

-- the fault that was named is the one expected
pub gives_fault : {T : Type 0} (f e : PolicyFault) (expected : Result T PolicyFault) → IsFault f e → expected ≡ Err e → Gives (Err f) expected
gives_fault Memory e expected is err = tt
gives_fault (Conflict t p g s) e expected is err = err ∙ ap Err (sym is)

-- a fault that is handed on
pub gives_on : {T U : Type 0} (f : PolicyFault) (o : Option PolicyFault) (value : T) (o' : Option PolicyFault) (value' : U)
    → Gives (Err f) (unless o value) → ((e : PolicyFault) → o ≡ Some e → o' ≡ Some e) → Gives (Err f) (unless o' value')
gives_on Memory o value o' value' is later = tt
gives_on (Conflict t p g s) o value o' value' is later = unless_some o' value' _ (later _ (unless_err o value _ is))
