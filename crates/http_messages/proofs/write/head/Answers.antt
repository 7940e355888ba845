use Rattle.std.proofs.Common.{◌∙◌, append_assoc}
use Rattle.http_messages.specs.Responses.{head_with}
use Rattle.http_messages.proofs.write.head.Goals as goal

pub returns-in-Ok : goal.returns-in-Ok
unfolding head_with
returns-in-Ok c = c.in-Ok.ensures.ok ∙ rw c.name-kind.ensures (simp append_assoc)
