use Rattle.std.proofs.Common.{◌∙◌, sym}
use Rattle.fed_json.proofs.Names.{rising_broken, rising_kept}
use Rattle.fed_json.proofs.Texts.{ge_decides}
use Rattle.fed_json.proofs.forms.names_rise.Goals as goal

pub returns-then-ge : goal.returns-then-ge
returns-then-ge c =
    let before = c.loop-member.before.now in
    let name = c.as_slice-name.result.now in
    let broken = sym (ge_decides before name c.ge.result c.ge.ensures) ∙ c.if-ge.true in
    sym (c.loop-member.invariant ∙ rising_broken c.in-Some.others.now c.loop-member.member-index c.member-item.result before name c.loop-member-test.true c.member-item.is c.as_slice-name.ensures broken)

pub loop-member-preserved : goal.loop-member-preserved
loop-member-preserved c =
    let before = c.loop-member.before.now in
    let name = c.as_slice-name.result.now in
    let kept = sym (ge_decides before name c.ge.result c.ge.ensures) ∙ c.if-ge.false in
    c.loop-member.invariant ∙ rising_kept c.in-Some.others.now c.loop-member.member-index c.member-item.result before name c.loop-member-test.true c.member-item.is c.as_slice-name.ensures kept
