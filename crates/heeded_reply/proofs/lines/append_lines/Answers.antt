use Rattle.std.proofs.Common.{get_or, ap, arith}
use Rattle.mark_status.specs.declared.tell.Tell.TheVariants.{Active}
use Rattle.heeded_reply.proofs.LineLaws.{lines-all, lines-next, lines-none}
use Rattle.heeded_reply.proofs.lines.append_lines.Goals as goal

pub loop-place-init : goal.loop-place-init
loop-place-init c = lines-none c.args.lines.now c.args.tells.now

pub loop-place-preserved : goal.loop-place-preserved
loop-place-preserved c =
    let test = c.loop-place-test.true in
    let len = c.len-place-end.ensures in
    lines-next c.args.lines.now c.args.tells.now c.loop-place.place _ Active c.loop-place.lines c.append_line.new.lines (omega (arith, test, len)) (ap (λ l. get_or l c.loop-place.place Active) c.as_slice.ensures)
    c.loop-place.invariant c.in_ok-append_line.ensures

pub returns : goal.returns
returns c =
    let test = c.loop-place-test.false in
    let most = c.loop-place.auto.place-end in
    let len = c.len-place-end.ensures in
    lines-all c.args.lines.now c.args.tells.now c.loop-place.place c.loop-place.lines (omega (arith, test, len, most)) c.loop-place.invariant
