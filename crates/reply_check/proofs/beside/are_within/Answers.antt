use Rattle.std.proofs.Common.{◌≡◌, Some, sym, ◌∙◌, below_more}
use Rattle.fed_json.specs.Trees.{find}
use Rattle.fed_json.specs.declared.tree.Member.{Member}
use Rattle.reply_check.proofs.PlaceLaws.{at-place, there-at}
use Rattle.reply_check.proofs.beside.are_within.Goals as goal

pub returns-then-not-is_among : goal.returns-then-not-is_among
returns-then-not-is_among c =
    let m = c.index-carried-place.result in
    let there = there-at c.args.carried.now c.loop-place.place m c.loop-place-test.true c.index-carried-place.is in
    (λ bad. cc bad, λ all. let among = c.is_among.ensures.1 (all c.loop-place.place c.loop-place-test.true m there) in let bad = sym among ∙ c.if-not-is_among.true in cc bad)

pub loop-place-preserved : goal.loop-place-preserved
loop-place-preserved c =
    let m = c.index-carried-place.result in
    below_more _ _ c.loop-place.invariant
    (at-place (λ (x : Member). find x.name c.args.members.now ≡ Some x.value) c.args.carried.now c.loop-place.place m c.loop-place-test.true c.index-carried-place.is
    (c.is_among.ensures.0 c.if-not-is_among.false))
