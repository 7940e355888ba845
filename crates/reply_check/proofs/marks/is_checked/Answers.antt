use Rattle.std.proofs.Common.{rules}
use Rattle.std.specs.Option.{option_copied}
use Rattle.reply_check.specs.Stages.{here_by, keys_in}
use Rattle.reply_check.proofs.LookLaws.{checked-is}
use Rattle.reply_check.proofs.marks.is_checked.Goals as goal

pub returns : goal.returns
returns c =
    checked-is (here_by c.args.here.now) c.args.entry.now c.in_ok-mark.mark (keys_in (option_copied c.issuer_keys.result)) c.are_shown.result (search rules)
    c.issuer_keys.ensures c.are_shown.ensures
