use Rattle.node_requests.proofs.Asking.{as_any, one_asked}
use Rattle.node_requests.proofs.KindLaws.{one_kind}
use Rattle.node_requests.proofs.laws.requests.Goals as goal

pub returns : goal.returns
returns c = record { one = one_asked; one_kind = one_kind; more = as_any }
