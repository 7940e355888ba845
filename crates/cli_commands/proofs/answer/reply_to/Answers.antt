use Rattle.std.proofs.Common.{subst}
use Rattle.cli_commands.specs.Operations.{IsPrepared}
use Rattle.cli_commands.proofs.ReplyLaws.{reached_done, reached_awaits}
use Rattle.cli_commands.proofs.SealingLaws.{done_sealed, awaited_sealed}
use Rattle.cli_commands.proofs.answer.reply_to.Goals as goal

-- src/answer.rt
pub returns-in-Answered-clause-reply : goal.returns-in-Answered-clause-reply
returns-in-Answered-clause-reply g c =
    let file = c.in_ok-file.ensures.found in
    let prepared = subst (IsPrepared c.args.command.now c.args.moment file.0) c.in-Answered.is (c.in_ok-reply.ensures file.0 file.2) in
    reached_done c.args.command.now c.args.moment (g.D.Store.files c.args.store.now) (g.S.Source.left c.args.input.now) file.0 c.in-Answered.reply file.1 prepared

-- src/answer.rt
pub returns-in_ok-reply-in-WantsInput-clause-reply : goal.returns-in_ok-reply-in-WantsInput-clause-reply
returns-in_ok-reply-in-WantsInput-clause-reply g c =
    let file = c.in_ok-file.ensures.found in
    let prepared = subst (IsPrepared c.args.command.now c.args.moment file.0) c.in-WantsInput.is (c.in_ok-reply.ensures file.0 file.2) in
    reached_awaits c.args.command.now c.args.moment (g.D.Store.files c.args.store.now) (g.S.Source.left c.args.input.now) (g.S.Source.left c.read_text.new.input) file.0
    (g.S.Source.read_faults c.args.input.now) (g.S.Source.read_faults c.read_text.new.input) c.in_ok-text-in-WantsInput.text c.in-WantsInput.operation c.in_ok-reply-in-WantsInput.reply
    file.1 prepared c.in_ok-text-in-WantsInput.ensures.read c.in_ok-reply-in-WantsInput.ensures.performed

-- src/answer.rt
pub returns-in-Answered-clause-sealed : goal.returns-in-Answered-clause-sealed
returns-in-Answered-clause-sealed g c =
    let file = c.in_ok-file.ensures.found in
    let prepared = subst (IsPrepared c.args.command.now c.args.moment file.0) c.in-Answered.is (c.in_ok-reply.ensures file.0 file.2) in
    done_sealed c.args.command.now c.args.moment (g.D.Store.files c.args.store.now) file.0 c.in-Answered.reply prepared

-- src/answer.rt
pub returns-in_ok-reply-in-WantsInput-clause-sealed : goal.returns-in_ok-reply-in-WantsInput-clause-sealed
returns-in_ok-reply-in-WantsInput-clause-sealed g c =
    let file = c.in_ok-file.ensures.found in
    let prepared = subst (IsPrepared c.args.command.now c.args.moment file.0) c.in-WantsInput.is (c.in_ok-reply.ensures file.0 file.2) in
    awaited_sealed c.args.command.now c.args.moment (g.D.Store.files c.args.store.now) file.0 c.in-WantsInput.operation c.in_ok-reply-in-WantsInput.reply file.1 prepared
    c.in_ok-reply-in-WantsInput.ensures.sealed
