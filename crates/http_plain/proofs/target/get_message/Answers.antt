use Rattle.std.proofs.Common.{◌∙◌, ap₂, append_assoc}
use Rattle.http_plain.specs.Clients.{get_text}
use Rattle.http_plain.proofs.target.get_message.Goals as goal

pub returns-in-Ok : goal.returns-in-Ok
unfolding get_text
returns-in-Ok c = c.in-Ok.ensures.ok ∙ (simp append_assoc) ∙ ap₂ get_text c.path-target.ensures c.host-host.ensures
