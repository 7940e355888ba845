use Rattle.mark_status.specs.Heeding.{around}
use Rattle.mark_status.specs.Posts.{views_of}
use Rattle.mark_status.proofs.KeptLaws.{calls-heeded, faults-heeded, kept-heeded, left-heeded}
use Rattle.mark_status.proofs.heeding.heed.Goals as goal

pub returns-clause-kept : goal.returns-clause-kept
returns-clause-kept g c = kept-heeded c.args.marks.now c.args.configs.now c.args.t c.heed_each.result

pub returns-clause-left_out : goal.returns-clause-left_out
returns-clause-left_out g c =
    left-heeded (views_of g.A.Asker.asked g.A.Asker.gave) c.args.marks.now c.args.configs.now c.args.t
    (around c.args.asker.now (g.L.Ledger.count c.args.steps.now.ledger)) (around c.heed_each.new.asker (g.L.Ledger.count c.heed_each.new.steps.ledger))
    c.requires.each c.heed_each.result c.heed_each.ensures.heeds

pub returns-clause-calls : goal.returns-clause-calls
returns-clause-calls g c =
    calls-heeded (views_of g.A.Asker.asked g.A.Asker.gave) c.args.marks.now c.args.configs.now c.args.t
    (around c.args.asker.now (g.L.Ledger.count c.args.steps.now.ledger)) (around c.heed_each.new.asker (g.L.Ledger.count c.heed_each.new.steps.ledger))
    c.heed_each.result c.heed_each.ensures.heeds

pub returns-clause-faults : goal.returns-clause-faults
returns-clause-faults g c =
    faults-heeded (views_of g.A.Asker.asked g.A.Asker.gave) c.args.marks.now c.args.configs.now c.args.t
    (around c.args.asker.now (g.L.Ledger.count c.args.steps.now.ledger)) (around c.heed_each.new.asker (g.L.Ledger.count c.heed_each.new.steps.ledger))
    c.heed_each.result c.heed_each.ensures.heeds
