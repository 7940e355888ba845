use Rattle.mark_status.specs.Heeding.{around}
use Rattle.mark_status.specs.Posts.{views_of}
use Rattle.mark_status.specs.Stages.{asking_by}
use Rattle.mark_status.proofs.TellLaws.{heard-broken, heard-tested, on_err}
use Rattle.mark_status.proofs.heeding.heed_one.Goals as goal

pub returns-clause-tested : goal.returns-clause-tested
returns-clause-tested g c =
    on_err c.add.result (heard-tested (views_of g.A.Asker.asked g.A.Asker.gave) (asking_by c.args.entry.now.text c.args.question.now) c.args.entry.now
    (around c.args.asker.now (g.L.Ledger.count c.args.steps.now.ledger)) (around c.ask.new.asker (g.L.Ledger.count c.ask.new.steps.ledger)) c.in_ok-tell.tell c.in_ok-tell.ensures.hears)

pub returns-clause-broken : goal.returns-clause-broken
returns-clause-broken g c =
    on_err c.add.result (heard-broken (views_of g.A.Asker.asked g.A.Asker.gave) (asking_by c.args.entry.now.text c.args.question.now) c.args.entry.now
    (around c.args.asker.now (g.L.Ledger.count c.args.steps.now.ledger)) (around c.ask.new.asker (g.L.Ledger.count c.ask.new.steps.ledger)) c.in_ok-tell.tell c.in_ok-tell.ensures.hears)
