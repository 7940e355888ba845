use Rattle.std.proofs.Common.{IfErr, subst}
use Rattle.jws_form.specs.Faults.{HasFault}
use Rattle.jws_form.proofs.splitting.split_text.Goals as goal

pub returns-clause-refused : goal.returns-clause-refused
returns-clause-refused c = subst (λ text. IfErr c.split_as.result (HasFault text)) c.as_slice.ensures c.split_as.ensures.refused
