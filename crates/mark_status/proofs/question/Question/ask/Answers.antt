use Rattle.std.proofs.Common.{refl}
use Rattle.mark_status.specs.Heeding.{around}
use Rattle.mark_status.specs.Posts.{views_of}
use Rattle.mark_status.specs.Stages.{asking_by}
use Rattle.mark_status.proofs.PostLaws.{memory-wanted}
use Rattle.mark_status.proofs.TellLaws.{fault-heard, page-heard, unasked-heard}
use Rattle.mark_status.proofs.question.Question.ask.Goals as goal

pub returns-in_default-clause-hears : goal.returns-in_default-clause-hears
returns-in_default-clause-hears g c =
    unasked-heard (views_of g.A.Asker.asked g.A.Asker.gave) (asking_by c.args.entry.now.text c.args.self.now) c.args.entry.now
    (around c.args.asker.now (g.L.Ledger.count c.args.steps.now.ledger)) c.in_default.is

pub returns-in-Ok-clause-hears : goal.returns-in-Ok-clause-hears
returns-in-Ok-clause-hears g c =
    page-heard (views_of g.A.Asker.asked g.A.Asker.gave) (asking_by c.args.entry.now.text c.args.self.now) c.args.entry.now c.in-Some.url c.in_ok-body.body c.in-Some.is c.in_ok-body.ensures
    (around c.args.asker.now (g.L.Ledger.count c.args.steps.now.ledger)) (around c.post.new.self (g.L.Ledger.count c.tell.new.steps.ledger)) c.in-Ok.page c.tell.result
    c.in-Ok.ensures.gave c.in-Ok.ensures.asks c.tell.ensures.tell c.tell.ensures.counted

pub returns-in-Err-Failed-clause-hears : goal.returns-in-Err-Failed-clause-hears
returns-in-Err-Failed-clause-hears g c =
    fault-heard (views_of g.A.Asker.asked g.A.Asker.gave) (asking_by c.args.entry.now.text c.args.self.now) c.args.entry.now c.in-Some.url c.in_ok-body.body c.in-Some.is c.in_ok-body.ensures
    (around c.args.asker.now (g.L.Ledger.count c.args.steps.now.ledger)) (around c.post.new.self (g.L.Ledger.count c.args.steps.now.ledger))
    (rw c.in-Err-Failed.field-0-is at c.in-Err-Failed.ensures.gave) (rw c.in-Err-Failed.field-0-is at c.in-Err-Failed.ensures.asks) refl

pub returns-clause-broken : goal.returns-clause-broken
returns-clause-broken g c =
    memory-wanted (views_of g.A.Asker.asked g.A.Asker.gave) c.args.asker.now c.post.new.self c.in-Some.url c.in_ok-body.body
    (rw c.in-Err-Memory.field-0-is at c.in-Err-Memory.ensures.gave) (rw c.in-Err-Memory.field-0-is at c.in-Err-Memory.ensures.asks)
