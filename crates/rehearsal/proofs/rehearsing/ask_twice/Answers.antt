use Rattle.rehearsal.proofs.RehearsalLaws.{asked-twice}
use Rattle.rehearsal.proofs.rehearsing.ask_twice.Goals as goal

pub returns-clause-asked : goal.returns-clause-asked
returns-clause-asked g c =
    asked-twice c.args.node.now c.args.params c.args.anchor.now c.args.link.now _ _ _ _ _ c.in_ok-first.first c.in_ok-second.second c.counts_of-counts.result _ c.new-clock.ensures c.new.ensures
    c.in_ok-first.ensures.answer c.counts_of-counts.ensures c.in_ok-second.ensures.answer c.in_ok-summary.ensures
