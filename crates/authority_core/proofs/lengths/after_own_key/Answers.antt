use Rattle.std.proofs.Common.{arith, ap, length, rules, ◌≡◌}
use Rattle.fed_json.specs.Compact.{quoted}
use Rattle.authority_core.proofs.LengthLaws.{then-fits}
use Rattle.authority_core.proofs.StatementLengths.{own-length}
use Rattle.authority_core.proofs.lengths.after_own_key.Goals as goal

pub returns : goal.returns
returns c =
    let size : length c.args.public.now ≡ 32 = search rules in
    then-fits c.after_text.result c.args.room c.in_ok-left.left 500 (length (quoted c.as_slice.result.now)) _ c.after_text.ensures
    (omega (arith, c.in_ok-left.ensures.0, c.in_ok-left.ensures.1)) (omega (arith, own-length c.args.kid.now c.args.alg c.args.public.now size, ap (λ s. length (quoted s)) c.as_slice.ensures))
