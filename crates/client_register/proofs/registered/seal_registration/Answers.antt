use Rattle.std.proofs.Common.{◌∙◌, ap}
use Rattle.sealed.specs.Sealing.{sealed_text}
use Rattle.client_register.proofs.registered.seal_registration.Goals as goal

pub returns-clause-text : goal.returns-clause-text
returns-clause-text c = c.in_ok-text.ensures.text ∙ ap (λ typ. sealed_text c.args.keys.now typ c.args.claims) c.in_ok-typ.ensures
