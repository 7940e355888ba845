use Rattle.std.proofs.Common.{sym, subst, take, ◌+◌}
use Rattle.chain_limits.proofs.Named.{All, all-narrowed, all-same}
use Rattle.chain_limits.proofs.types.named_by_all.Goals as goal
use Rattle.chain_limits.proofs.types.named_by_all.Goals.{in-Some+in_ok-named_too, in_default}

pub loop-place-preserved : goal.loop-place-preserved
loop-place-preserved c =
    let places = c.args.places.now in
    let i = c.loop-place.place-index in
    let place = c.place-item.result in
    elim c.match-place.branch [
      | in-Some+in_ok-named_too w ↦
          subst (All (take (i + 1) places)) (sym w.names-is)
          (all-narrowed places i place c.loop-place-test.true c.place-item.is c.loop-place.names w.in_ok-named_too.field-0 w.in-Some.types w.in-Some.is w.in_ok-named_too.ensures c.loop-place.invariant)
      | in_default w ↦ subst (All (take (i + 1) places)) (sym w.names-is) (all-same places i place c.loop-place-test.true c.place-item.is c.loop-place.names w.in_default.is c.loop-place.invariant)
    ]
