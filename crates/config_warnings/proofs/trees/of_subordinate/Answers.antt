use Rattle.std.proofs.Common.{sym, ap, ◌∙◌}
use Rattle.fed_json.specs.Forms.{well_formed, members_well_formed}
use Rattle.fed_json.proofs.Layers.{well_formed-Object}
use Rattle.config_warnings.proofs.trees.of_subordinate.Goals as goal

pub subordinate_in-requires : goal.subordinate_in-requires
subordinate_in-requires c = ap members_well_formed c.as_slice.ensures ∙ sym (well_formed-Object c.in-Object.members) ∙ sym (ap well_formed c.in-Object.is) ∙ c.requires
