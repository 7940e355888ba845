use Rattle.authority_core.proofs.IssueLaws.{refused-only}
use Rattle.authority_core.proofs.laws.issues_are_refused_only.Goals as goal

pub returns : goal.returns
returns c = refused-only
