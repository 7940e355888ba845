use Rattle.std.proofs.Common.{rules}
use Rattle.reply_check.specs.Stages.{here_by, keys_in}
use Rattle.std.specs.Option.{option_copied}
use Rattle.reply_check.proofs.LookLaws.{flaw-is}
use Rattle.reply_check.proofs.marks.flaw_of.Goals as goal

pub returns : goal.returns
returns g c =
    flaw-is (here_by c.args.here.now) c.args.entry.now c.in_ok-mark.mark c.is_late-late.result c.are_shown-checked.result (keys_in (option_copied c.issuer_keys-keys.result)) c.in_ok-verdict.field-0 c.flaw_by.result
    (search rules) c.is_late-late.ensures c.issuer_keys-keys.ensures (search rules) (search rules) (search rules)
