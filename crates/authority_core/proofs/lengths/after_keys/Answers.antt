use Rattle.std.proofs.Common.{arith, ap}
use Rattle.authority_core.specs.Lengths.{keys_length}
use Rattle.authority_core.proofs.LengthLaws.{then-fits}
use Rattle.authority_core.proofs.StatementLengths.{set-length}
use Rattle.authority_core.proofs.lengths.after_keys.Goals as goal

pub returns : goal.returns
returns c =
    then-fits c.each_key.result c.args.room c.in_ok-left.left 64 (keys_length c.as_slice.result.now) _ c.each_key.ensures
    (omega (arith, c.in_ok-left.ensures.0, c.in_ok-left.ensures.1)) (omega (arith, set-length c.args.keys.now.keys, ap keys_length c.as_slice.ensures))
