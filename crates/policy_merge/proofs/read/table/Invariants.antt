use Rattle.std.proofs.Common.{◌≡◌, ◌++◌, option_map, drop}
use Rattle.policy_merge.specs.Shapes.{table_of}
use Rattle.policy_merge.proofs.read.table.Given as goal

abbrev pub invariant-loop-member : goal.invariant-loop-member
invariant-loop-member g l =
    table_of g.T.FromTree.shape l.members ≡ option_map (λ rest. l.table ++ rest) (table_of g.T.FromTree.shape (drop l.member-index l.members))
