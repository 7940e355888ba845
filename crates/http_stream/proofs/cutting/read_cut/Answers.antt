use Rattle.std.proofs.Common.{◌∙◌, Bool, Err, ap, arith, rules, sym, subst}
use Rattle.std.proofs.lemmas.Result.{err_from_is_err_and}
use Rattle.http_messages.specs.Cuts.{IsCut}
use Rattle.http_messages.specs.Heads.{head_limit}
use Rattle.http_messages.specs.Requests.{request_limit}
use Rattle.http_stream.specs.Cuttings.{Cutting}
use Rattle.http_stream.proofs.Reaching.{broke_cut, broke_later, cut_body, cut_short, few_body, few_more}
use Rattle.http_stream.proofs.cutting.read_cut.Goals as goal

pub returns-in_err-reach_head-clause-cuts : goal.returns-in_err-reach_head-clause-cuts
returns-in_err-reach_head-clause-cuts g c =
    let p = err_from_is_err_and c.from_residual.result c.from_residual.ensures.1 in
    subst (Cutting _ _ c.args.text.now.items c.reach_head.new.text.items) (sym (p.1 ∙ ap Err p.2))
    (broke_cut Bool _ _ c.args.text.now.items c.reach_head.new.text.items c.in_err-reach_head.field-0.0 (few_more _ _ head_limit request_limit (omega arith) c.in_err-reach_head.ensures.few) c.in_err-reach_head.ensures.broke)

pub returns-in_err-reach_end-clause-cuts : goal.returns-in_err-reach_end-clause-cuts
returns-in_err-reach_end-clause-cuts g c =
    let p = err_from_is_err_and c.from_residual-in_err-reach_end.result c.from_residual-in_err-reach_end.ensures.1 in
    subst (Cutting _ _ c.args.text.now.items c.reach_end.new.text.items) (sym (p.1 ∙ ap Err p.2))
    (broke_later Unit _ _ _ c.args.text.now.items c.reach_head.new.text.items c.reach_end.new.text.items c.in_ok-reach_head.field-0 c.in_err-reach_end.field-0.0 c.in_ok-reach_head.ensures.reached c.in_err-reach_end.ensures.few
    c.in_err-reach_end.ensures.broke)

pub returns-in_err-cut_request-2-clause-cuts : goal.returns-in_err-cut_request-2-clause-cuts
returns-in_err-cut_request-2-clause-cuts g c =
    let p = err_from_is_err_and c.from_residual-in_err-cut_request-2.result c.from_residual-in_err-cut_request-2.ensures.1 in
    subst (Cutting _ _ c.args.text.now.items c.reach_end.new.text.items) (sym (p.1 ∙ ap Err p.2))
    (few_body _ _ _ c.args.text.now.items c.reach_head.new.text.items c.reach_end.new.text.items c.in_ok-reach_head.field-0 c.in_ok-reach_head.ensures.reached c.in_ok-reach_end.ensures.reached)

pub returns-clause-cuts : goal.returns-clause-cuts
returns-clause-cuts g c =
    cut_body _ _ _ c.args.text.now.items c.reach_head.new.text.items c.reach_end.new.text.items c.in_ok-reach_head.field-0 c.in_ok-cut_request-2.field-0
    c.in_ok-reach_head.ensures.reached c.in_ok-reach_end.ensures.reached (subst (λ y. IsCut y c.in_ok-cut_request-2.field-0) c.deref-3.ensures.value c.in_ok-cut_request-2.ensures.cut)

pub returns-then-not-branch-clause-cuts : goal.returns-then-not-branch-clause-cuts
returns-then-not-branch-clause-cuts g c =
    cut_short _ _ c.args.text.now.items c.reach_head.new.text.items c.in_ok-reach_head.field-0 c.in_ok-cut_request.field-0 (search rules) c.in_ok-reach_head.ensures.reached
    (subst (λ y. IsCut y c.in_ok-cut_request.field-0) c.deref.ensures.value c.in_ok-cut_request.ensures.cut)
