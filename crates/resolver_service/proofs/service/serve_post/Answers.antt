use Rattle.std.proofs.Common.{rules, ◌≡◌, Some, inl}
use Rattle.fed_base.specs.Counts.{Rose}
use Rattle.resolver_service.proofs.EndLaws.{ends_from, listened, unheard}
use Rattle.resolver_service.proofs.service.serve_post.Goals as goal

pub returns-in-Ok-clause-ends : goal.returns-in-Ok-clause-ends
returns-in-Ok-clause-ends g c = λ node is.
    let port : g.N.Network.port c.listen.new.self ≡ Some c.args.post.port = search (rules, c.listen.ensures.port) in
    let faults : g.N.Network.faults c.listen.new.self ≡ g.N.Network.faults c.args.net.now = search (rules, c.listen.ensures.cause) in
    ends_from _ node c.args.post _ _ _ c.serve_listening.result
    (listened c.args.post.port _ (g.N.Network.port c.args.net.now) _ _ _ _ _ _ _ _ _ port c.listen.ensures.exchanges c.listen.ensures.callers c.listen.ensures.settled faults) (c.serve_listening.ensures.ends node is)

pub returns-in-Err-clause-ends : goal.returns-in-Err-clause-ends
returns-in-Err-clause-ends g c = λ node is.
    let port : g.N.Network.port c.listen.new.self ≡ g.N.Network.port c.args.net.now = search (rules, c.listen.ensures.as_before) in
    let rose : Rose (g.N.Network.faults c.args.net.now) (g.N.Network.faults c.listen.new.self) = search (rules, c.listen.ensures.cause) in (
      rose,
      inl (unheard (g.N.Network.port c.listen.new.self) (g.N.Network.port c.args.net.now) _ _ _ _ _ _ (g.N.Network.faults c.args.net.now) (g.N.Network.faults c.listen.new.self) _ port
          c.listen.ensures.exchanges c.listen.ensures.callers c.listen.ensures.settled),
    )
