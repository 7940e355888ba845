use Rattle.std.proofs.Common.{◌∙◌, sym}
use Rattle.http_plain.proofs.Exchanging.{answered_if, cause_on, err_part, left_if, ok_part, page_broke_if, part_broke, part_left, refused_broke, refused_part, shown_as, whole_left}
use Rattle.http_plain.proofs.exchange.exchange.Goals as goal

pub returns-clause-page : goal.returns-clause-page
returns-clause-page g c =
    answered_if _ _ _ _ _ c.args.to.now c.args.message.now c.read_page-page.result
    (ok_part c.open.result (sym c.if-is_err.ensures.value) c.open.ensures.added)
    (ok_part c.send_all.result (sym c.if-is_err-2.ensures.value) c.send_all.ensures.told)
    c.shut-2.ensures.told (shown_as _ _ (λ x e. g.met.W.Wire.shows c.send_all.new.net c.read_page-page.new.from x e) c.read_page-page.result c.read_page-page.ensures.page)

pub returns-clause-cause : goal.returns-clause-cause
returns-clause-cause g c =
    cause_on _ _ _ _ c.read_page-page.result
    (ok_part c.send_all.result (sym c.if-is_err-2.ensures.value) c.send_all.ensures.cause.same ∙ ok_part c.open.result (sym c.if-is_err.ensures.value) c.open.ensures.cause.same)
    c.shut-2.ensures.faults c.read_page-page.ensures.cause

pub returns-then-is_err-clause-left : goal.returns-then-is_err-clause-left
returns-then-is_err-clause-left g c = refused_part _ _ c.args.to.now c.args.message.now (err_part c.open.result (sym c.if-is_err.ensures.value) c.open.ensures.refused)

pub returns-then-is_err-2-clause-left : goal.returns-then-is_err-2-clause-left
returns-then-is_err-2-clause-left g c =
    part_left _ _ _ _ c.args.to.now c.args.message.now (ok_part c.open.result (sym c.if-is_err.ensures.value) c.open.ensures.added) (err_part c.send_all.result (sym c.if-is_err-2.ensures.value) c.send_all.ensures.part) c.shut.ensures.told

pub returns-clause-left : goal.returns-clause-left
returns-clause-left g c =
    left_if c.read_page-page.result (whole_left _ _ _ _ _ c.args.to.now c.args.message.now (ok_part c.open.result (sym c.if-is_err.ensures.value) c.open.ensures.added)
    (ok_part c.send_all.result (sym c.if-is_err-2.ensures.value) c.send_all.ensures.told) c.shut-2.ensures.told c.read_page-page.ensures.asked)

pub returns-then-is_err-clause-broke : goal.returns-then-is_err-clause-broke
returns-then-is_err-clause-broke g c = refused_broke _ _ c.args.to.now (err_part c.open.result (sym c.if-is_err.ensures.value) c.open.ensures.refused)

pub returns-then-is_err-2-clause-broke : goal.returns-then-is_err-2-clause-broke
returns-then-is_err-2-clause-broke g c =
    part_broke _ _ _ _ c.args.to.now c.args.message.now (ok_part c.open.result (sym c.if-is_err.ensures.value) c.open.ensures.added) (err_part c.send_all.result (sym c.if-is_err-2.ensures.value) c.send_all.ensures.part) c.shut.ensures.told

pub returns-clause-broke : goal.returns-clause-broke
returns-clause-broke g c =
    page_broke_if (g.W.Inflow.broke c.send_all.new.net c.read_page-page.new.from) _ _ _ _ _ c.args.to.now c.args.message.now c.read_page-page.result
    (ok_part c.open.result (sym c.if-is_err.ensures.value) c.open.ensures.added)
    (ok_part c.send_all.result (sym c.if-is_err-2.ensures.value) c.send_all.ensures.told)
    c.shut-2.ensures.told (λ x. g.met.W.Wire.loses c.send_all.new.net c.read_page-page.new.from x) c.read_page-page.ensures.broke
