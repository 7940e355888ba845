use Rattle.mark_status.proofs.FormLaws.{form-read}
use Rattle.mark_status.proofs.laws.forms.Goals as goal

pub returns : goal.returns
returns c = form-read
