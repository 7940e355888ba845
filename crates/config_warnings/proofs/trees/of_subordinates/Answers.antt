use Rattle.std.proofs.Common.{sym, ap, ◌∙◌}
use Rattle.std.specs.List.{list_all}
use Rattle.fed_json.specs.Forms.{well_formed}
use Rattle.fed_json.proofs.Layers.{well_formed-List}
use Rattle.config_warnings.proofs.trees.of_subordinates.Goals as goal

pub each_subordinate-requires : goal.each_subordinate-requires
each_subordinate-requires c = ap (list_all well_formed) c.as_slice.ensures ∙ sym (well_formed-List c.in-List.items) ∙ sym (ap well_formed c.in-List.is) ∙ c.requires
