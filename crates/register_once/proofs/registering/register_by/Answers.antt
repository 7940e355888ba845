use Rattle.std.proofs.Common.{subst}
use Rattle.client_register.specs.Requests.{IsPosted, posted_in}
use Rattle.register_once.proofs.registering.register_by.Goals as goal

pub returns-clause-posted : goal.returns-clause-posted
returns-clause-posted g c = subst (λ bytes. IsPosted bytes (posted_in bytes)) c.as_slice.ensures c.register.ensures.posted
