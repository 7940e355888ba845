use Rattle.std.proofs.Common.{sym, ap, ◌∙◌}
use Rattle.fed_json.specs.Forms.{well_formed, members_well_formed}
use Rattle.fed_json.proofs.Layers.{well_formed-Object}
use Rattle.config_warnings.proofs.trees.of_tree.Goals as goal

pub of_members-requires : goal.of_members-requires
of_members-requires c = ap members_well_formed c.as_slice.ensures ∙ sym (well_formed-Object c.in-Object.members) ∙ sym (ap well_formed c.in-Object.is) ∙ c.requires
