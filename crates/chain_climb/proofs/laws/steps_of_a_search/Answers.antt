use Rattle.chain_climb.specs.Climbs.{climb}
use Rattle.chain_climb.proofs.LevelLaws.{judged-ordered, judged-path, path-judged}
use Rattle.chain_climb.proofs.PrefixLaws.{like-climb, like-whole}
use Rattle.chain_climb.proofs.laws.steps_of_a_search.Goals as goal

pub returns-clause-judges : goal.returns-clause-judges
returns-clause-judges c found leaf anchor depth path = (judged-path found leaf anchor depth path, λ leads. path-judged found leaf anchor depth path leads.0 leads.1)

pub returns-clause-ordered : goal.returns-clause-ordered
returns-clause-ordered c found leaf anchor depth differ = judged-ordered found leaf anchor depth differ

pub returns-clause-same : goal.returns-clause-same
returns-clause-same c found other leaf anchor depth agree =
    like-whole found other (climb found leaf anchor depth) (climb other leaf anchor depth) (like-climb found other anchor depth leaf) agree
