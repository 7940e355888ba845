use Rattle.std.proofs.Common.{◌≡◌, ◌++◌, drop}
use Rattle.std.specs.Prelude.{option_map}
use Rattle.fed_json.specs.Trees.{texts_in}
use Rattle.fed_json.proofs.lookup.texts_in.Given as goal

abbrev pub invariant-loop-item : goal.invariant-loop-item
invariant-loop-item l = texts_in l.items ≡ option_map (λ texts. l.texts ++ texts) (texts_in (drop l.item-index l.items))
