use Rattle.std.proofs.Common.{◌≡◌, ◌++◌, ◌+◌, [], ◌∷◌, length, length-append, ap, sym, subst, ◌∙◌, arith}
use Rattle.turn_log.specs.Groups.{known}
use Rattle.resolver_service.specs.Steps.{AreMade}
use Rattle.resolver_service.proofs.DeskLaws.{made_more, made_none, same_after, same_none}
use Rattle.resolver_service.proofs.ShareLaws.{shared_more, shared_none}
use Rattle.resolver_service.proofs.desks.add_desks.Goals as goal

pub loop-preserved : goal.loop-preserved
loop-preserved g c =
    let inv = c.loop.invariant in
    let many = length-append c.loop.desks.items (c.in_ok-desk.desk ∷ []) in
    let size = inv.2 in
    let n : length (c.loop.desks.items ++ c.in_ok-desk.desk ∷ []) ≡ c.loop.counter + 1 = omega arith in (
      c.new_desk.ensures.of,
      same_after _ _ _ inv.1 c.new_desk.ensures.same,
      ap length c.in_ok-push.ensures.items ∙ n,
      made_more _ _ c.args.server.now.part.now _ _ c.loop.desks.items _ c.in_ok-desk.desk c.in_ok-push.ensures.items inv.3 inv.1 c.in_ok-desk.ensures.ready c.in_ok-desk.ensures.new,
      shared_more _ _ _ c.loop.desks.items _ c.in_ok-desk.desk c.in_ok-push.ensures.items inv.4 c.in_ok-desk.ensures.halves,
    )

pub loop-init : goal.loop-init
loop-init g c = (c.requires.of, same_none (known c.args.pass.now), ap length c.requires.none, subst (AreMade _ _ _ _) (sym c.requires.none) (made_none _ _ c.args.server.now.part.now _), shared_none (known c.args.pass.now) c.args.desks.now.items c.requires.none)
