use Rattle.std.proofs.Common.{subst}
use Rattle.http_messages.specs.Cuts.{IsCut}
use Rattle.http_stream.proofs.Reaching.{cut_now}
use Rattle.http_stream.proofs.cutting.next_cut.Goals as goal

pub returns-in-Whole-clause-cuts : goal.returns-in-Whole-clause-cuts
returns-in-Whole-clause-cuts g c =
    cut_now _ c.args.inbox.now c.in_ok-cut.cut c.in-Whole.asked c.in-Whole.last c.in-Whole.used (subst (λ y. IsCut y c.in_ok-cut.cut) c.bytes.ensures c.in_ok-cut.ensures.cut) c.in-Whole.is
