use Rattle.std.proofs.Common.{◌≡◌, drop, option_map}
use Rattle.fed_json.specs.Trees.{each}
use Rattle.entity_statement.specs.Forms.{identifier, once, once_after}
use Rattle.entity_statement.proofs.forms.each_once.Given as goal

abbrev pub invariant-loop-item : goal.invariant-loop-item
invariant-loop-item l = option_map once (each identifier l.items) ≡ option_map (once_after l.hints) (each identifier (drop l.item-index l.items))
