use Rattle.fed_resolver.specs.Calls.{GaveAll}
use Rattle.fed_serve.proofs.Sameness.{one_answer}
use Rattle.fed_serve.proofs.laws.answers.Goals as goal

pub returns : goal.returns
returns g c = record { one = λ node from to begun ended. one_answer node (GaveAll g.L.Link.gave from to) (GaveAll g.L.Link.gave begun ended) }
