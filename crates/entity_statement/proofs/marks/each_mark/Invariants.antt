use Rattle.std.proofs.Common.{◌≡◌, ◌++◌, drop, option_map}
use Rattle.fed_json.specs.Trees.{each}
use Rattle.entity_statement.specs.Forms.{mark_of}
use Rattle.entity_statement.proofs.marks.each_mark.Given as goal

abbrev pub invariant-loop-item : goal.invariant-loop-item
invariant-loop-item l = each mark_of l.items ≡ option_map (λ rest. l.marks ++ rest) (each mark_of (drop l.item-index l.items))
