use Rattle.std.proofs.Common.{rules}
use Rattle.std.specs.Bool.{Decides}
use Rattle.std.specs.List.{Contains}
use Rattle.fed_json.proofs.Among.{among_from_contains}
use Rattle.fed_json.proofs.sets.is_member.Goals as goal

pub returns-clause-test : goal.returns-clause-test
returns-clause-test c =
    let decides : Decides c.any.result (Contains c.args.list.now c.args.tree.now) = search rules in
    among_from_contains c.args.list.now c.args.tree.now c.any.result decides
