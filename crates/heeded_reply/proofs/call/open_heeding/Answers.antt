use Rattle.heeded_reply.proofs.call.open_heeding.Goals as goal

pub returns : goal.returns
returns g c = record { call = c.in_ok-call.ensures; signer = c.in_ok-signer.ensures; routes = c.in_ok-routes.ensures }
