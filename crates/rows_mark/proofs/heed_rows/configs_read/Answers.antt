use Rattle.std.proofs.Common.{ℕ, List, subst, arith}
use Rattle.std.specs.Prelude.{All, IsSome}
use Rattle.std.proofs.lemmas.List.{take_all}
use Rattle.std.proofs.lemmas.List.Elements.{All-more}
use Rattle.entity_statement.specs.Signed.{statement_of}
use Rattle.rows_mark.proofs.heed_rows.configs_read.Goals as goal

pub loop-config-preserved : goal.loop-config-preserved
loop-config-preserved c =
    let reads = c.in_ok-reads_as_statement.ensures c.if-not-branch.false in
    All-more (λ (t : List ℕ). IsSome (statement_of t)) c.args.configs.now c.loop-config.config-index c.config-item.result c.loop-config-test.true c.loop-config.invariant
    (subst (λ (t : List ℕ). IsSome (statement_of t)) c.config-item.is reads)

pub returns : goal.returns
returns c = λ _.
    let test = c.loop-config-test.false in
    subst (All (λ (t : List ℕ). IsSome (statement_of t))) (take_all c.loop-config.config-index c.args.configs.now (omega (arith, test))) c.loop-config.invariant
