use Rattle.std.proofs.Common.{◌≡◌, ◌+◌, ◌-◌, ap, arith, drop, subst, sym, take}
use Rattle.http_messages.specs.Cuts.{IsCut}
use Rattle.http_messages.proofs.Cutting.{cut_short, cut_stray, cut_whole, front_inside}
use Rattle.http_messages.proofs.Takings.{asked_as}
use Rattle.http_messages.proofs.cut.behind_head.Goals as goal

pub overflow_add-used : goal.overflow_add-used
overflow_add-used c = let within = front_inside c.args.bytes.now c.args.len c.requires.found in omega (arith, c.requires.says.small, within.1)

pub returns-then-plan : goal.returns-then-plan
returns-then-plan c =
    let x = c.args.bytes.now in
    subst (IsCut x) (sym c.not_a_request.ensures) (cut_stray x c.args.len c.args.plan c.requires.found c.requires.says c.if-plan.true)

pub returns-then-bytes-used : goal.returns-then-bytes-used
returns-then-bytes-used c = cut_short c.args.bytes.now c.args.len c.args.plan c.requires.found c.requires.says (omega (arith, c.if-bytes-used.true))

pub returns : goal.returns
returns c =
    let x = c.args.bytes.now in
    let len = c.args.len in
    let plan = c.args.plan in
    let size : (len + plan.size) - len ≡ plan.size = omega arith in
    let body = ap (λ n. take n (drop len x)) size in
    cut_whole x len plan c.in_ok-request.request c.requires.found c.requires.says c.if-plan.false (omega (arith, c.if-bytes-used.false))
    (asked_as c.in_ok-request.request plan.method _ _ _ _ c.of.ensures body c.in_ok-request.ensures)
