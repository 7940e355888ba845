use Rattle.authority_core.proofs.IssueLaws.{issues-read}
use Rattle.authority_core.proofs.laws.issues_are_read.Goals as goal

pub returns : goal.returns
returns c = issues-read
