use Rattle.std.proofs.Common.{◌∙◌, ap₂, append_assoc}
use Rattle.http_plain.specs.Clients.{post_head}
use Rattle.http_plain.proofs.target.post_head.Goals as goal

pub returns-in-Ok : goal.returns-in-Ok
unfolding post_head
returns-in-Ok c = c.in-Ok.ensures.ok ∙ (simp append_assoc) ∙ ap₂ (λ target host. post_head target host c.args.size) c.path-target.ensures c.host-host.ensures
