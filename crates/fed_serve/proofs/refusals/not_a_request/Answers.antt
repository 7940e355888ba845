use Rattle.std.proofs.Common.{List, ℕ, ap}
use Rattle.http_messages.specs.declared.response.Media.TheVariants.{Json}
use Rattle.http_messages.specs.declared.response.Response.{Response}
use Rattle.fed_serve.proofs.refusals.not_a_request.Goals as goal

refused : List ℕ → Response
refused body = record { status = 400; media = Json; body = body }

pub returns : goal.returns
unfolding refused
returns c = ap refused c.in_ok-of.ensures
