use Rattle.std.proofs.Common.{subst, sym}
use Rattle.http_messages.specs.Cuts.{IsCut}
use Rattle.http_messages.proofs.Cutting.{cut_refused}
use Rattle.http_messages.proofs.cut.cut_request.Goals as goal

pub returns-in-None : goal.returns-in-None
returns-in-None c =
    let x = c.args.bytes.now in
    record { cut = subst (IsCut x) (sym c.not_a_request.ensures) (cut_refused x c.in-Some.len (sym c.in-Some.ensures.found) c.in-None.ensures) }
