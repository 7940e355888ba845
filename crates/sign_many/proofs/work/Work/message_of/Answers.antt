use Rattle.std.proofs.Common.{◌<◌, ◌^◌, ◌∙◌, arith}
use Rattle.sign_many.proofs.LayerLaws.{message-first, message-above, root-inside}
use Rattle.sign_many.proofs.work.Work.message_of.Goals as goal

pub returns-then-layer-eq0 : goal.returns-then-layer-eq0
returns-then-layer-eq0 c =
    let t = c.args.self.now in
    message-first t.params.tree_height t.place t.sk_seed c.args.key.now c.args.layer c.if-layer-eq0.true

pub part-requires : goal.part-requires
part-requires c =
    let inside = root-inside c.args.self.now c.args.layer c.args.below.now (omega (arith, c.if-layer-eq0.false)) c.requires.done in
    (omega arith, rw c.xmss_bytes.ensures.value (rw (← c.self.view_is) at inside))

pub returns : goal.returns
returns c =
    let t = c.args.self.now in
    let small : t.place.pair < 2 ^ t.params.tree_height = rw (← c.self.view_is) c.self.invariant.1 in
    let above = message-above t c.args.layer c.args.key.now c.args.below.now (omega (arith, c.if-layer-eq0.false)) small c.requires.done in
    c.part.ensures.value ∙ rw (c.xmss_bytes.ensures.value, ← c.self.view_is) (rw (← c.self.view_is) at above)
