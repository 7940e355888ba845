use Rattle.std.proofs.Common.{arith}
use Rattle.std.proofs.lemmas.Grind.{common_steps}
use Rattle.chain_check.proofs.signatures.is_signed.Goals as goal

pub returns-then-j-eq0-clause-signed : goal.returns-then-j-eq0-clause-signed
returns-then-j-eq0-clause-signed g c = grind (arith, common_steps)
