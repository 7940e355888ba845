use Rattle.authority_core.proofs.TextLengths.{short-fit}
use Rattle.authority_core.proofs.laws.short_claims_fit.Goals as goal

pub returns : goal.returns
returns c = short-fit
