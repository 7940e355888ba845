use Rattle.std.proofs.Common.{◌≡◌, ◌++◌, map}
use Rattle.std.specs.Vec.Iter.{into_iter_items}
use Rattle.fed_json.specs.declared.tree.Json.{Text}
use Rattle.client_register.proofs.claims.text_list.Given as goal

abbrev pub invariant-loop-text : goal.invariant-loop-text
invariant-loop-text l = map Text l.fn.texts ≡ l.items ++ map Text (into_iter_items l.text-iterator)
