use Rattle.std.proofs.Common.{[]}
use Rattle.statement_shelf.proofs.StepLaws.{none-small, run-small}
use Rattle.statement_shelf.proofs.laws.parts_stay_small.Goals as goal

pub returns : goal.returns
returns c = λ calls part run. run-small calls [] part none-small run
