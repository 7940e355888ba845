use Rattle.std.proofs.Common.{map, ap, ◌∙◌, subst}
use Rattle.reply_check.specs.Marks.{is_checked}
use Rattle.reply_check.specs.Stages.{IsFirst, here_by}
use Rattle.reply_check.proofs.LookLaws.{looked-flaw, looked-stand}
use Rattle.reply_check.proofs.marks.look_at_all.Goals as goal

pub returns-in-Some : goal.returns-in-Some
returns-in-Some g c =
    let here = here_by c.args.here.now in
    let among = subst (λ marks. IsFirst here marks c.in_ok-place.field-0) c.as_slice-marks.ensures c.in_ok-place.ensures in
    looked-flaw c.args.said.now c.args.here.now c.in-Some.place.place c.in-Some.place.flaw c.requires (subst (IsFirst here c.args.said.now.marks) c.in-Some.is among)

pub returns-in_ok-checked_among-in-None : goal.returns-in_ok-checked_among-in-None
returns-in_ok-checked_among-in-None g c =
    let here = here_by c.args.here.now in
    let among = subst (λ marks. IsFirst here marks c.in_ok-place.field-0) c.as_slice-marks.ensures c.in_ok-place.ensures in
    looked-stand c.args.said.now c.args.here.now c.in_ok-checked_among-in-None.field-0 c.requires (subst (IsFirst here c.args.said.now.marks) c.in-None.is among)
    (c.in_ok-checked_among-in-None.ensures ∙ ap (map (is_checked here)) c.as_slice-marks.ensures)
