use Rattle.std.proofs.Common.{is_some, ap, ◌∙◌, subst, sym}
use Rattle.entity_statement.specs.Signed.{IsReading, statement_of}
use Rattle.rows_mark.proofs.heed_rows.reads_as_statement.Goals as goal

pub returns-in-Some : goal.returns-in-Some
returns-in-Some c = λ _.
    let read = subst (IsReading c.as_slice.result.now) c.in-Some.is c.in_ok-signed.ensures in
    ap is_some (ap statement_of (sym c.as_slice.ensures) ∙ read.0)
