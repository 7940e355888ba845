use Rattle.fed_resolver.specs.Calls.{GaveAll}
use Rattle.fed_serve.proofs.Sameness.{as_authority}
use Rattle.fed_serve.proofs.laws.authorities.Goals as goal

pub returns : goal.returns
returns g c = λ node from to. as_authority node (GaveAll g.L.Link.gave from to)
