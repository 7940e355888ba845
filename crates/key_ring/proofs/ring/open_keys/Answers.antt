use Rattle.std.proofs.Common.{refl}
use Rattle.std.proofs.lemmas.Result.{err_from_is_err_and}
use Rattle.key_ring.proofs.OpenLaws.{opened_fault, opened_next, opened_none}
use Rattle.key_ring.proofs.ring.open_keys.Goals as goal

pub loop-key-init : goal.loop-key-init
loop-key-init c = opened_none c.new-held.result c.args.keys.now c.new-held.ensures

pub loop-key-preserved : goal.loop-key-preserved
loop-key-preserved c =
    let joins = c.in_ok-add_held.ensures in
    opened_next c.loop-key.held c.add_held.new.held c.args.keys.now c.loop-key.key-index _ _ c.loop-key.invariant c.loop-key-test.true refl joins.0 joins.1

pub returns-in_err-add_held : goal.returns-in_err-add_held
returns-in_err-add_held c =
    let p = err_from_is_err_and c.from_residual.result c.from_residual.ensures.1 in
    rw (p.1, p.2) (opened_fault c.loop-key.held c.args.keys.now c.add_held.new.held c.loop-key.key-index _ _ c.in_err-add_held.field-0.0 c.loop-key.invariant c.loop-key-test.true refl c.in_err-add_held.ensures)
