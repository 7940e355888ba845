use Rattle.std.proofs.Common.{subst}
use Rattle.fed_ports.specs.Inputs.{EndsAs}
use Rattle.cli_commands.proofs.ReadLaws.{long_input}
use Rattle.cli_commands.proofs.answer.read_text.Goals as goal

-- src/answer.rt
pub returns-in-Err-TooLong-clause-read : goal.returns-in-Err-TooLong-clause-read
returns-in-Err-TooLong-clause-read g c =
    let old = g.S.Source.left c.args.input.now in
    let new = g.S.Source.left c.read_all.new.input in
    let before = g.S.Source.read_faults c.args.input.now in
    let now = g.S.Source.read_faults c.read_all.new.input in
    long_input old new before now (subst (λ z. EndsAs old new before now z) c.in-Err-TooLong.field-0-is c.in-Err-TooLong.ensures.read)
