use Rattle.std.proofs.Common.{ℕ, List, refl, inl, subst}
use Rattle.cli_inspect.specs.Outputs.{WritesLine}
use Rattle.cli_inspect.proofs.InspectLaws.{inspected, inspected_at, stopped}
use Rattle.cli_inspect.proofs.inspecting.inspect.Goals as goal

-- src/inspecting.rt
pub returns-in-Ok : goal.returns-in-Ok
returns-in-Ok g c =
    let written = λ (text : List ℕ). WritesLine c.in-Ok.reply.status text (g.K.Sink.held c.args.out.now) (g.K.Sink.held c.write_line.new.out)
    (g.K.Sink.write_faults c.args.out.now) (g.K.Sink.write_faults c.write_line.new.out) c.write_line.result in
    inspected c.args.inspection.now _ _ c.in-Ok.reply _
    (inspected_at c.args.inspection.now _ _ _ c.moment_for-moment.result _ c.in-Ok.reply c.moment_for-moment.ensures.last c.in-Ok.ensures.reply)
    c.in-Ok.ensures.small (subst written c.as_slice.ensures c.write_line.ensures) c.in-Ok.ensures.steady.0 c.in-Ok.ensures.steady.1
    (record { files = c.in-Ok.ensures.files; input = c.in-Ok.ensures.input_apart; store = c.in-Ok.ensures.store_apart; clock = c.moment_for-moment.ensures.apart })
    c.moment_for-moment.ensures.read

-- src/inspecting.rt
pub returns-in-Err : goal.returns-in-Err
returns-in-Err g c =
    stopped c.args.inspection.now _ _ c.in-Err.stop _ c.stopped.ensures c.in-Err.ensures.steady refl refl
    (record { files = c.in-Err.ensures.files; input = c.in-Err.ensures.input_apart; store = c.in-Err.ensures.store_apart; clock = c.moment_for-moment.ensures.apart })
    (λ reads. inl (c.moment_for-moment.ensures.read reads))
