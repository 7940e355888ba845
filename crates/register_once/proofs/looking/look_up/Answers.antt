use Rattle.std.proofs.Common.{refl, subst}
use Rattle.resolve_call.specs.CallSteps.{IsCallAt}
use Rattle.http_plain.specs.Networks.{network_seen}
use Rattle.register_once.specs.Finding.{request_for}
use Rattle.register_once.specs.Opened.{aimed_of}
use Rattle.register_once.proofs.FinderLaws.{carries, looked-up}
use Rattle.register_once.proofs.looking.look_up.Goals as goal

pub resolve_at-outcome-requires-clause-ready : goal.resolve_at-outcome-requires-clause-ready
resolve_at-outcome-requires-clause-ready g c = λ lives within. (c.in_ok-parts.parts, c.in_ok-call.ensures)

pub found_in-requires : goal.found_in-requires
found_in-requires g c =
    carries _ _ c.resolve_at-outcome.result c.resolve_at-outcome.result.result refl
    (c.resolve_at-outcome.ensures.call c.in_ok-parts.parts c.in_ok-call.ensures).told.alone.resolves.tells

pub returns-clause-looks : goal.returns-clause-looks
returns-clause-looks g c =
    looked-up (aimed_of c.args.aim) (network_seen g.N.Network c.args.net.now) (network_seen g.N.Network c.resolve_at-outcome.new.net) c.resolve_at-outcome.new.worn c.args.entity.now c.found_in.result c.resolve_at-outcome.result
    (subst (λ parts. IsCallAt parts (request_for c.args.entity.now c.args.aim.anchor.now) c.args.aim.moment (network_seen g.N.Network c.args.net.now) (network_seen g.N.Network c.resolve_at-outcome.new.net) c.resolve_at-outcome.result) c.in_ok-parts.ensures
    (subst (λ request. IsCallAt c.in_ok-parts.parts request c.args.aim.moment (network_seen g.N.Network c.args.net.now) (network_seen g.N.Network c.resolve_at-outcome.new.net) c.resolve_at-outcome.result) c.in_ok-request.ensures
    (c.resolve_at-outcome.ensures.call c.in_ok-parts.parts c.in_ok-call.ensures)))
    c.found_in.ensures c.resolve_at-outcome.ensures.worn
