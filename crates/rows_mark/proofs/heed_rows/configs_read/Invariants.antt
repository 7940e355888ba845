use Rattle.std.specs.Prelude.{All, IsSome, take}
use Rattle.entity_statement.specs.Signed.{statement_of}
use Rattle.rows_mark.proofs.heed_rows.configs_read.Given as goal

abbrev pub invariant-loop-config : goal.invariant-loop-config
invariant-loop-config l = All (λ config. IsSome (statement_of config)) (take l.config-index l.configs)
