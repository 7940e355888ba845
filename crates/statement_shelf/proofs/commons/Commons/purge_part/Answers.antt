use Rattle.std.proofs.Common.{◌≡◌, arith}
use Rattle.turn_log.specs.Groups.{known}
use Rattle.statement_shelf.proofs.Purges.{purge-reply}
use Rattle.statement_shelf.proofs.commons.Commons.purge_part.Goals as goal

pub unreachable-requires : goal.unreachable-requires
unreachable-requires g c =
    let told = purge-reply ((known c.args.pass.now).part c.args.at) _ c.args.moment c.in_ok-reply.reply c.in_ok-reply.ensures.told.here (c.is_history.ensures.parts_legal c.args.at c.requires.at) in
    c.in_default.not-Dropped told.0 told.1

pub returns-clause-few : goal.returns-clause-few
returns-clause-few g c =
    let told = purge-reply ((known c.args.pass.now).part c.args.at) _ c.args.moment c.in_ok-reply.reply c.in_ok-reply.ensures.told.here (c.is_history.ensures.parts_legal c.args.at c.requires.at) in
    let is = c.in-Dropped.is in
    let one = told.1 in
    let same : c.in-Dropped.count ≡ told.0 = cc in
    let few = told.2 in
    omega (arith, same, few)
