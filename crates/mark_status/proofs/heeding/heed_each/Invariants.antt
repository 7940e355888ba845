use Rattle.std.proofs.Common.{take}
use Rattle.std.specs.Prelude.{zip}
use Rattle.mark_status.specs.Heeding.{HeedsBy, around}
use Rattle.mark_status.specs.Posts.{views_of}
use Rattle.mark_status.proofs.heeding.heed_each.Given as goal

abbrev pub invariant-loop-place : goal.invariant-loop-place
invariant-loop-place g l =
    HeedsBy (views_of g.A.Asker.asked g.A.Asker.gave) (record { marked = take l.place (zip l.marks l.configs); moment = l.t })
    (around l.fn.asker (g.L.Ledger.count l.fn.steps.ledger)) (around l.asker (g.L.Ledger.count l.steps.ledger)) l.heeded
