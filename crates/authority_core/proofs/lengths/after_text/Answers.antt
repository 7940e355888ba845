use Rattle.std.proofs.Common.{arith}
use Rattle.authority_core.proofs.LengthLaws.{less-fits}
use Rattle.authority_core.proofs.Quoted.{quoted-short}
use Rattle.authority_core.proofs.lengths.after_text.Goals as goal

pub returns : goal.returns
returns c =
    less-fits c.checked_sub.result c.args.room c.in_ok-most.most _ c.checked_sub.ensures
    (omega (arith, quoted-short c.args.text.now, c.in_ok-most.ensures.1, c.in_ok-checked_mul.ensures.1))
