use Rattle.std.proofs.Common.{subst, arith}
use Rattle.std.specs.Prelude.{All, IsSome}
use Rattle.std.proofs.lemmas.List.{take_all}
use Rattle.std.proofs.lemmas.List.Elements.{All-more}
use Rattle.entity_statement.specs.declared.marks.MarkEntry.{MarkEntry}
use Rattle.trust_mark.specs.Marks.{mark_of}
use Rattle.rows_mark.proofs.heed_rows.marks_read.Goals as goal

pub loop-entry-preserved : goal.loop-entry-preserved
loop-entry-preserved c =
    let reads = c.in_ok-reads_as_mark.ensures c.if-not-branch.false in
    All-more (λ (e : MarkEntry). IsSome (mark_of e.text)) c.args.marks.now c.loop-entry.entry-index c.entry-item.result c.loop-entry-test.true c.loop-entry.invariant
    (subst (λ (e : MarkEntry). IsSome (mark_of e.text)) c.entry-item.is reads)

pub returns : goal.returns
returns c = λ _.
    let test = c.loop-entry-test.false in
    subst (All (λ (e : MarkEntry). IsSome (mark_of e.text))) (take_all c.loop-entry.entry-index c.args.marks.now (omega (arith, test))) c.loop-entry.invariant
