-- The claims that marks and delegations have are read in two parts.
use Rattle.std.proofs.Common.{◌≡◌, List, codes, None, Result, Ok, Err, refl}
use Rattle.fed_base.specs.Answers.{◌>>=◌}
use Rattle.fed_json.specs.declared.tree.Member.{Member}
use Rattle.entity_statement.specs.Forms.{identifier, moment}
use Rattle.trust_mark.specs.Claims.{any_text, claim, claim_if_there, delegation_in}
use Rattle.trust_mark.specs.Stages.{grant_in, marked}
use Rattle.trust_mark.specs.declared.fault.MarkFault.{MarkFault}
use Rattle.trust_mark.specs.declared.mark.Mark.{Mark}

parted : {A B C X Y E : Type 0} (a : Result A E) (b : Result B E) (c : Result C E) (make : A → B → C → X) (rest : X → Result Y E)
    → ((a >>= λ x. b >>= λ y. c >>= λ z. Ok (make x y z)) >>= rest) ≡ (a >>= λ x. b >>= λ y. c >>= λ z. rest (make x y z))
parted (Err fault) b c make rest = refl
parted (Ok x) (Err fault) c make rest = refl
parted (Ok x) (Ok y) (Err fault) make rest = refl
parted (Ok x) (Ok y) (Ok z) make rest = refl

-- the grant, and then the times
abbrev pub by_grant : List Member → Result Mark MarkFault
by_grant members = grant_in members >>= λ g. claim (codes "iat") moment members >>= λ iat. claim_if_there (codes "exp") moment members >>= λ exp. Ok (marked g iat exp None)

pub delegation-by-grant : (members : List Member) → by_grant members ≡ delegation_in members
unfolding delegation_in grant_in
delegation-by-grant members =
    parted (claim (codes "iss") identifier members) (claim (codes "sub") identifier members) (claim (codes "trust_mark_type") any_text members)
    (λ iss sub mark_type. record { iss = iss; sub = sub; mark_type = mark_type })
    (λ g. claim (codes "iat") moment members >>= λ iat. claim_if_there (codes "exp") moment members >>= λ exp. Ok (marked g iat exp None))
