use Rattle.std.proofs.Common.{arith}
use Rattle.fed_json.specs.Compact.{compact}
use Rattle.jwk_set.specs.Trees.{key_tree}
use Rattle.authority_core.proofs.LengthLaws.{pieces-more}
use Rattle.authority_core.proofs.lengths.each_key.Goals as goal

pub loop-key-preserved : goal.loop-key-preserved
loop-key-preserved c =
    omega (
      arith,
      pieces-more (λ k. compact (key_tree k)) c.args.keys.now c.loop-key.key-index c.key-item.result c.loop-key-test.true c.key-item.is,
      c.loop-key.invariant,
      c.in_ok-after_key.ensures,
      c.in_ok-left.ensures.0,
      c.in_ok-left.ensures.1,
    )
