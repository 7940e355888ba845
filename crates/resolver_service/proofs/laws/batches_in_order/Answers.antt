use Rattle.resolver_service.proofs.OrderLaws.{has_calls_of, has_only_calls, in_order, stands_past}
use Rattle.resolver_service.proofs.laws.batches_in_order.Goals as goal

pub returns : goal.returns
returns g c = record { past = stands_past; desks = has_calls_of; only = has_only_calls; in_order = in_order }
