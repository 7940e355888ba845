use Rattle.std.proofs.Common.{◌∙◌, ◌+◌, sym, ap, subst, take}
use Rattle.chain_limits.specs.Types.{in_set}
use Rattle.chain_limits.proofs.Named.{Both, both-more, both-same}
use Rattle.chain_limits.proofs.types.named_too.Goals as goal
use Rattle.chain_limits.proofs.types.named_too.Goals.{then-has+in_ok-from_slice+in_ok-insert, else-has}

pub loop-name-preserved : goal.loop-name-preserved
loop-name-preserved c =
    let names = c.args.names.now in
    let types = c.as_slice-name-items.result.now in
    let i = c.loop-name.name-index in
    let t = c.name-item.result in
    elim c.if-has.branch [
      | then-has+in_ok-from_slice+in_ok-insert w ↦
          subst (Both names (take (i + 1) types)) (sym w.both-is)
          (both-more names types i t c.loop-name-test.true c.name-item.is c.loop-name.both w.insert.new.self w.in_ok-from_slice.field-0 w.in_ok-insert.ensures.keys
          (w.in_ok-from_slice.ensures.items ∙ w.as_slice-then-has.ensures) (sym (c.has.ensures ∙ ap (in_set names) c.as_slice.ensures) ∙ w.if-has.true) c.loop-name.invariant)
      | else-has w ↦
          subst (Both names (take (i + 1) types)) (sym w.both-is)
          (both-same names types i t c.loop-name-test.true c.name-item.is c.loop-name.both (sym (c.has.ensures ∙ ap (in_set names) c.as_slice.ensures) ∙ w.if-has.false) c.loop-name.invariant)
    ]
