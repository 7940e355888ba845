use Rattle.std.proofs.Common.{Ok, rules, subst}
use Rattle.trust_mark.specs.Claims.{Gives}
use Rattle.trust_mark.proofs.GrantLaws.{by_grant, delegation-by-grant}
use Rattle.trust_mark.proofs.mark.delegation_in.Goals as goal

pub returns-in_err-grant : goal.returns-in_err-grant
returns-in_err-grant c =
    let told : Gives c.from_residual.result (by_grant c.args.claims.now) = search rules in
    subst (Gives c.from_residual.result) (delegation-by-grant c.args.claims.now) told

pub returns-in_err-grant-2 : goal.returns-in_err-grant-2
returns-in_err-grant-2 c =
    let told : Gives c.from_residual-in_err-grant-2.result (by_grant c.args.claims.now) = search rules in
    subst (Gives c.from_residual-in_err-grant-2.result) (delegation-by-grant c.args.claims.now) told

pub returns-in_err-grant-3 : goal.returns-in_err-grant-3
returns-in_err-grant-3 c =
    let told : Gives c.from_residual-in_err-grant-3.result (by_grant c.args.claims.now) = search rules in
    subst (Gives c.from_residual-in_err-grant-3.result) (delegation-by-grant c.args.claims.now) told

pub returns : goal.returns
returns c =
    let told : Gives (Ok c.marked.result) (by_grant c.args.claims.now) = search rules in
    subst (Gives (Ok c.marked.result)) (delegation-by-grant c.args.claims.now) told
