use Rattle.std.proofs.Common.{rules, ◌<◌, length, refl}
use Rattle.turn_log.specs.Passes.{Extends, IsWorn}
use Rattle.turn_log.proofs.PartLists.{changed_alone, if_ok, if_err, in_both}
use Rattle.turn_log.proofs.GroupCalls.{part_told, part_ends, part_worn}
use Rattle.turn_log.proofs.group.KeptGroup+T+B.part.Goals as goal

pub returns-clause-alone : goal.returns-clause-alone
returns-clause-alone g c =
    let less : c.args.at < length c.args.pass.now.parts.items = search rules in
    let xs = c.args.pass.now.parts.items in
    record {
      parts = in_both c.act_at.result _ _ _
          (λ r h. changed_alone xs c.act_at.new.passes.items c.args.at (λ a b. Extends a c.args.call r b) less h (λ a b k. k.alone))
          (λ e h. changed_alone xs c.act_at.new.passes.items c.args.at (λ a b. IsWorn a e.count b) less h (λ a b k. k.alone))
          c.act_at.ensures.told c.act_at.ensures.worn;
      book = refl;
    }

pub returns-clause-told : goal.returns-clause-told
returns-clause-told g c =
    let less : c.args.at < length c.args.pass.now.parts.items = search rules in
    if_ok c.act_at.result _ _ (λ r h. part_told c.args.pass.now.parts.items c.act_at.new.passes.items c.args.pass.now.book c.args.at c.args.call r less h) c.act_at.ensures.told

pub returns-clause-ends : goal.returns-clause-ends
returns-clause-ends g c =
    let less : c.args.at < length c.args.pass.now.parts.items = search rules in
    if_ok c.act_at.result _ _ (λ r h. part_ends c.args.pass.now _ c.args.at c.args.call r less h) c.act_at.ensures.told

pub returns-clause-worn : goal.returns-clause-worn
returns-clause-worn g c =
    let less : c.args.at < length c.args.pass.now.parts.items = search rules in
    if_err c.act_at.result _ _ (λ e h. part_worn c.args.pass.now.parts.items c.act_at.new.passes.items c.args.pass.now.book c.args.at e.count less h) c.act_at.ensures.worn
