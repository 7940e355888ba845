use Rattle.std.proofs.Common.{List, get_or, ap, ◌∙◌, subst, arith}
use Rattle.mark_status.specs.Heeding.{HeedsBy, around}
use Rattle.mark_status.specs.Posts.{views_of}
use Rattle.mark_status.specs.Stages.{asking_by}
use Rattle.mark_status.specs.Tells.{Marked}
use Rattle.mark_status.proofs.HeedLaws.{heeding, none-by}
use Rattle.mark_status.proofs.LoopLaws.{all-pairs, before-broken, before-tested, next-broken, next-by, next-tested}
use Rattle.mark_status.proofs.TellLaws.{on_err}
use Rattle.mark_status.proofs.heeding.heed_each.Goals as goal

pub loop-place-init : goal.loop-place-init
loop-place-init g c =
    none-by (views_of g.A.Asker.asked g.A.Asker.gave) c.args.t (around c.args.asker.now (g.L.Ledger.count c.args.steps.now.ledger)) c.new-heeded.result c.new-heeded.ensures

pub returns-in_err-question-clause-broken : goal.returns-in_err-question-clause-broken
returns-in_err-question-clause-broken g c =
    let test = c.loop-place-test.true in
    let len = c.len-place-end.ensures in
    on_err c.from_residual.result (before-broken c.args.marks.now c.args.configs.now c.requires.each (views_of g.A.Asker.asked g.A.Asker.gave) c.args.t c.loop-place.place (omega (arith, test, len))
    (around c.args.asker.now (g.L.Ledger.count c.args.steps.now.ledger)) (around c.loop-place.asker (g.L.Ledger.count c.loop-place.steps.ledger)) c.loop-place.heeded c.loop-place.invariant)

pub returns-in_err-question-clause-tested : goal.returns-in_err-question-clause-tested
returns-in_err-question-clause-tested g c =
    let test = c.loop-place-test.true in
    let len = c.len-place-end.ensures in
    on_err c.from_residual.result (before-tested c.args.marks.now c.args.configs.now c.requires.each (views_of g.A.Asker.asked g.A.Asker.gave) c.args.t c.loop-place.place (omega (arith, test, len))
    (around c.args.asker.now (g.L.Ledger.count c.args.steps.now.ledger)) (around c.loop-place.asker (g.L.Ledger.count c.loop-place.steps.ledger)) c.loop-place.heeded c.loop-place.invariant)

pub returns-in_err-heard-clause-broken : goal.returns-in_err-heard-clause-broken
returns-in_err-heard-clause-broken g c =
    let test = c.loop-place-test.true in
    let len = c.len-place-end.ensures in
    on_err c.from_residual-in_err-heard.result (next-broken c.args.marks.now c.args.configs.now c.requires.each (views_of g.A.Asker.asked g.A.Asker.gave) c.args.t c.loop-place.place (omega (arith, test, len))
    (around c.args.asker.now (g.L.Ledger.count c.args.steps.now.ledger)) (around c.loop-place.asker (g.L.Ledger.count c.loop-place.steps.ledger)) c.loop-place.heeded c.loop-place.invariant
    c.heed_one-heard.new.asker c.in_err-heard.ensures.broken)

pub returns-in_err-heard-clause-tested : goal.returns-in_err-heard-clause-tested
returns-in_err-heard-clause-tested g c =
    let test = c.loop-place-test.true in
    let len = c.len-place-end.ensures in
    on_err c.from_residual-in_err-heard.result (next-tested c.args.marks.now c.args.configs.now c.requires.each (views_of g.A.Asker.asked g.A.Asker.gave) c.args.t c.loop-place.place (omega (arith, test, len))
    (around c.args.asker.now (g.L.Ledger.count c.args.steps.now.ledger)) (around c.loop-place.asker (g.L.Ledger.count c.loop-place.steps.ledger)) c.loop-place.heeded c.loop-place.invariant
    (g.L.Ledger.count c.heed_one-heard.new.steps.ledger) c.in_err-heard.ensures.tested)

pub loop-place-preserved : goal.loop-place-preserved
loop-place-preserved g c =
    let test = c.loop-place-test.true in
    let len = c.len-place-end.ensures in
    let entry = c.index-as_slice-place.result in
    let config = c.index-as_slice-place-in-loop-place.result in
    next-by c.args.marks.now c.args.configs.now c.requires.each (views_of g.A.Asker.asked g.A.Asker.gave) c.args.t c.loop-place.place (omega (arith, test, len))
    (around c.args.asker.now (g.L.Ledger.count c.args.steps.now.ledger)) (around c.loop-place.asker (g.L.Ledger.count c.loop-place.steps.ledger)) c.loop-place.heeded c.loop-place.invariant
    entry config (asking_by entry.text c.in_ok-question.question) (around c.heed_one-heard.new.asker (g.L.Ledger.count c.heed_one-heard.new.steps.ledger)) c.heed_one-heard.new.heeded
    (c.index-as_slice-place.is ∙ ap (λ l. get_or l c.loop-place.place entry) c.as_slice.ensures)
    (c.index-as_slice-place-in-loop-place.is ∙ ap (λ l. get_or l c.loop-place.place config) c.as_slice-in-loop-place.ensures)
    c.in_ok-question.ensures.asks c.in_ok-heard.ensures.one

pub returns-clause-heeds : goal.returns-clause-heeds
returns-clause-heeds g c =
    let test = c.loop-place-test.false in
    let end = c.loop-place.auto.place-end in
    let len = c.len-place-end.ensures in
    subst (λ (ms : List Marked). HeedsBy (views_of g.A.Asker.asked g.A.Asker.gave) (heeding ms c.args.t) (around c.args.asker.now (g.L.Ledger.count c.args.steps.now.ledger))
    (around c.loop-place.asker (g.L.Ledger.count c.loop-place.steps.ledger)) c.loop-place.heeded)
    (all-pairs c.args.marks.now c.args.configs.now c.requires.each c.loop-place.place (omega (arith, test, end, len))) c.loop-place.invariant
