use Rattle.std.proofs.Common.{◌∙◌, subst}
use Rattle.cli_commands.specs.Answers.{IsEnded, Output, output_of, readings_of}
use Rattle.cli_commands.proofs.ReplyLaws.{reached_at}
use Rattle.cli_commands.proofs.SealingLaws.{ended_sealed}
use Rattle.cli_commands.proofs.TopLaws.{clock_used, ended_answers, ended_source, ended_sink, ended_store, ended_range}
use Rattle.cli_commands.proofs.top.perform_command.Goals as goal
use Rattle.fed_ports.specs.Times.{ClockAt}

-- src/top.rt
pub returns-in-Ok : goal.returns-in-Ok
returns-in-Ok g c =
    let cmd = c.args.command.now in
    let reply = c.in-Ok.reply in
    let status = c.conclude.result in
    let first : ClockAt = readings_of g.C.Clock c.args.clock.now in
    let now : ClockAt = readings_of g.C.Clock c.moment_for-moment.new.clock in
    let left = g.S.Source.left c.args.input.now in
    let left' = g.S.Source.left c.reply_to.new.input in
    let held = g.K.Sink.held c.args.out.now in
    let sink = g.K.Sink.write_faults c.args.out.now in
    let store = g.D.Store.store_faults c.reply_to.new.store in
    let x : Output = record { held = held; write_faults = sink; files = g.D.Store.files c.args.store.now; store_faults = store } in
    let y : Output = output_of g.K.Sink g.D.Store c.conclude.new.out c.conclude.new.store in
    let reached = reached_at cmd first now c.moment_for-moment.result x.files left left' reply c.moment_for-moment.ensures.moment c.in-Ok.ensures.reply in
    let ended = subst (λ f. IsEnded cmd reply (record { held = held; write_faults = sink; files = f; store_faults = store }) y status) c.in-Ok.ensures.files c.conclude.ensures.ended in
    record {
      answers = ended_answers cmd now.last left left' x y reply status reached ended;
      sealed = ended_sealed cmd reply x y status c.in-Ok.ensures.sealed ended;
      source = ended_source cmd now.last left left' x y reply (g.S.Source.read_faults c.args.input.now) (g.S.Source.read_faults c.reply_to.new.input) status c.in-Ok.ensures.steady.0 reached ended;
      sink = ended_sink cmd now.last left left' x y reply status reached ended;
      store = ended_store cmd now.last left left' x y reply (g.D.Store.store_faults c.args.store.now) status c.in-Ok.ensures.steady.1 reached ended;
      clock = clock_used cmd first now c.moment_for-moment.result status c.moment_for-moment.ensures.moment;
      range = ended_range cmd now.last left left' x y reply status reached ended;
      input_apart = c.in-Ok.ensures.input_apart;
      store_apart = λ none. c.conclude.ensures.apart none ∙ c.in-Ok.ensures.store_apart none;
      clock_apart = c.moment_for-moment.ensures.apart;
    }
