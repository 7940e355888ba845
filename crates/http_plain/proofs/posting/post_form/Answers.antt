use Rattle.std.proofs.Common.{◌∙◌, ap, subst}
use Rattle.http_plain.specs.Clients.{post_of}
use Rattle.http_plain.specs.Plans.{IsTarget}
use Rattle.http_plain.proofs.Exchanging.{leaves}
use Rattle.http_plain.proofs.posting.post_form.Goals as goal

pub returns-in-Err-Failed-clause-left : goal.returns-in-Err-Failed-clause-left
returns-in-Err-Failed-clause-left g c =
    leaves (post_of c.args.body.now) c.args.routes.now _ c.args.url.now _ _ _ c.in-Some.target.url c.in-Some.target.to _ c.as_slice.ensures c.as_slice-2.ensures
    (subst (IsTarget c.as_slice.result.now c.as_slice-2.result.now) c.in-Some.is c.in_ok-target.ensures) (c.deref.ensures.value ∙ c.in_ok-message.ensures ∙ ap (λ form. post_of form c.in-Some.target.url) c.as_slice-3.ensures)
    c.in-Err-Failed.ensures.left

pub returns-clause-left : goal.returns-clause-left
returns-clause-left g c =
    leaves (post_of c.args.body.now) c.args.routes.now _ c.args.url.now _ _ _ c.in-Some.target.url c.in-Some.target.to _ c.as_slice.ensures c.as_slice-2.ensures
    (subst (IsTarget c.as_slice.result.now c.as_slice-2.result.now) c.in-Some.is c.in_ok-target.ensures) (c.deref.ensures.value ∙ c.in_ok-message.ensures ∙ ap (λ form. post_of form c.in-Some.target.url) c.as_slice-3.ensures)
    c.in-Err-Memory.ensures.left
