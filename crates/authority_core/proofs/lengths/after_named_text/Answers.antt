use Rattle.std.proofs.Common.{arith, ◌+◌, length}
use Rattle.fed_json.specs.Compact.{quoted}
use Rattle.authority_core.proofs.LengthLaws.{less-then, text_member-length}
use Rattle.authority_core.proofs.lengths.after_named_text.Goals as goal

pub returns : goal.returns
returns c =
    less-then c.checked_sub.result c.args.room c.in_ok-rest.rest (length (quoted c.args.name.now) + length (quoted c.args.text.now)) 2 _ c.checked_sub.ensures
    (omega (arith, c.in_ok-left.ensures, c.in_ok-rest.ensures)) (omega (arith, text_member-length c.args.name.now c.args.text.now))
