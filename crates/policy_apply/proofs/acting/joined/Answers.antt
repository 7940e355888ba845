use Rattle.std.proofs.Common.{◌∙◌, Some, option_map, sym, ap}
use Rattle.std.specs.List.{join_with_byte}
use Rattle.policy_apply.proofs.Joins.{joining-end, popped}
use Rattle.policy_apply.proofs.acting.joined.Goals as goal

pub returns : goal.returns
returns c =
    let all = joining-end c.args.list.now c.loop-word.text c.loop-word.word-index c.loop-word-test.false c.loop-word.invariant in
    ap Some (popped all.0 c.loop-word.text c.pop.new.self c.pop.result all.2 c.pop.ensures) ∙ sym (ap (option_map (join_with_byte 32)) all.1)
