use Rattle.std.proofs.Common.{rules}
use Rattle.sealed.specs.Seals.{IsUnsealed}
use Rattle.sealed.proofs.Sealings.{unsealed_fails}
use Rattle.sealed.proofs.pairs.Unsealed.text.Goals as goal

pub returns-clause-fails : goal.returns-clause-fails
returns-clause-fails c = λ parts is. let miss : IsUnsealed c.args.self.now = search rules in unsealed_fails c.args.self.now parts miss is
