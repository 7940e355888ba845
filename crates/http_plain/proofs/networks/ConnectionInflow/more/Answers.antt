use Rattle.std.proofs.Common.{◌==◌, take}
use Rattle.http_plain.proofs.Exchanging.{none_came, received_asked}
use Rattle.http_plain.proofs.networks.ConnectionInflow.more.Goals as goal

pub returns-clause-asked : goal.returns-clause-asked
returns-clause-asked g c = received_asked c.receive.result _ _ (λ n. take n c.receive.new.into) (λ n. n == 0) c.receive.ensures.received c.receive.ensures.err

pub returns-clause-broke : goal.returns-clause-broke
returns-clause-broke g c = none_came c.receive.result _ _ c.receive.ensures.err
