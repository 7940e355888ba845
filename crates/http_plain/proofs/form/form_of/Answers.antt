use Rattle.std.proofs.Common.{rules}
use Rattle.http_plain.proofs.form.form_of.Goals as goal

pub returns : goal.returns
returns c = search rules
