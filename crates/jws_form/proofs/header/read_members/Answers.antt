use Rattle.std.proofs.Common.{rules}
use Rattle.jws_form.specs.Splitting.{names_of}
use Rattle.jws_form.proofs.header.read_members.Goals as goal

pub returns-in_default-clause-exact : goal.returns-in_default-clause-exact
unfolding names_of
returns-in_default-clause-exact c = search rules
