use Rattle.std.proofs.Common.{rules}
use Rattle.sealed.specs.Seals.{IsSealed}
use Rattle.sealed.proofs.Sealings.{sealed_verifies}
use Rattle.sealed.proofs.pairs.Sealed.text.Goals as goal

pub returns-clause-verifies : goal.returns-clause-verifies
returns-clause-verifies c = λ parts is. let seal : IsSealed c.args.self.now = search rules in sealed_verifies c.args.self.now parts seal is
