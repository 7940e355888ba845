use Rattle.std.proofs.Common.{◌≡◌, Err, subst, rules, arith, sym, ◌∙◌}
use Rattle.jws_form.specs.declared.fault.FormFault.TheVariants.{Parts}
use Rattle.jws_form.specs.Splitting.{Gives, splitting}
use Rattle.jws_form.proofs.Faults.{refused_by}
use Rattle.jws_form.proofs.Laws.{only, found_by}
use Rattle.jws_form.proofs.splitting.split_as.Goals as goal

pub returns-in-Some-clause-found : goal.returns-in-Some-clause-found
unfolding splitting
returns-in-Some-clause-found c =
    let exact : Gives c.read_parts.result (splitting c.args.text.now) = search rules in
    found_by _ _ (λ i. let fits = c.type_inv.text i in omega arith) c.read_parts.ensures.forms exact

pub returns-in-Some-clause-refused : goal.returns-in-Some-clause-refused
unfolding splitting
returns-in-Some-clause-refused c =
    let exact : Gives c.read_parts.result (splitting c.args.text.now) = search rules in
    refused_by _ _ (λ i. let fits = c.type_inv.text i in omega arith) exact

pub returns-in-None-clause-refused : goal.returns-in-None-clause-refused
unfolding splitting
returns-in-None-clause-refused c =
    let exact : splitting c.args.text.now ≡ Err Parts = search rules in
    refused_by (Err Parts) _ (λ i. let fits = c.type_inv.text i in omega arith) exact

pub returns-in-Some-clause-only : goal.returns-in-Some-clause-only
unfolding splitting
returns-in-Some-clause-only c =
    let exact : Gives c.read_parts.result (splitting c.args.text.now) = search rules in
    λ d is. subst (Gives c.read_parts.result) (only _ d is) exact

pub returns-in-None-clause-only : goal.returns-in-None-clause-only
unfolding splitting
returns-in-None-clause-only c =
    let exact : splitting c.args.text.now ≡ Err Parts = search rules in
    λ d is. sym (only _ d is) ∙ exact
