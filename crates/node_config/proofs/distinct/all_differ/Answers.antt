use Rattle.std.proofs.Common.{rules, sym, ◌∙◌, true, false}
use Rattle.node_config.proofs.DistinctIds.{negated, seen_again, seen_more}
use Rattle.node_config.proofs.distinct.all_differ.Goals as goal

pub returns-then-not-added : goal.returns-then-not-added
returns-then-not-added g c =
    sym (seen_again g.T.HasId.id_of c.args.items.now c.loop-item.item-index c.item-item.result c.text.result c.loop-item.seen c.loop-item.invariant c.loop-item-test.true c.item-item.is
    (c.text.ensures.text ∙ c.id.ensures) (negated _ true (sym c.in_ok-added.ensures.added ∙ search rules)))

pub loop-item-preserved : goal.loop-item-preserved
loop-item-preserved g c =
    seen_more g.T.HasId.id_of c.args.items.now c.loop-item.item-index c.item-item.result c.text.result c.loop-item.seen c.insert.new.self c.loop-item.invariant c.loop-item-test.true c.item-item.is
    (c.text.ensures.text ∙ c.id.ensures) (negated _ false (sym c.in_ok-added.ensures.added ∙ search rules)) c.in_ok-added.ensures.updates.0
