use Rattle.std.proofs.Common.{◌∙◌, ap, sym, Some, true≢false}
use Rattle.fed_json.proofs.Readings.{reading_found, reading_none, nesting-tree_of}
use Rattle.fed_json.proofs.read.read_tree.Goals as goal

pub returns-in_ok-tree-in-Ok-clause-tree : goal.returns-in_ok-tree-in-Ok-clause-tree
returns-in_ok-tree-in-Ok-clause-tree c = reading_found _ _ c.in-Ok.ensures.ok.0 c.in-Ok.ensures.ok.1 ∙ ap Some (sym c.in_ok-tree-in-Ok.ensures.tree)

pub returns-in_ok-tree-in-Ok-clause-shallow : goal.returns-in_ok-tree-in-Ok-clause-shallow
returns-in_ok-tree-in-Ok-clause-shallow c = rw (c.in_ok-tree-in-Ok.ensures.tree, nesting-tree_of _) c.in-Ok.ensures.nests

pub returns-else-is_memory-clause-tree : goal.returns-else-is_memory-clause-tree
returns-else-is_memory-clause-tree c = reading_none _ (c.in-Err.ensures.err (λ m. true≢false (sym (c.if-is_memory.ensures.1 m))))
