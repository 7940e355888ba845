use Rattle.std.proofs.Common.{sym, ap, ◌∙◌}
use Rattle.fed_json.specs.Forms.{well_formed, members_well_formed}
use Rattle.fed_json.proofs.Layers.{well_formed-Object}
use Rattle.node_config.proofs.entities.read_anchor.Goals as goal

pub anchor_in-requires : goal.anchor_in-requires
anchor_in-requires c = ap members_well_formed c.as_slice.ensures ∙ sym (well_formed-Object c.in-Object.members) ∙ sym (ap well_formed c.in-Object.is) ∙ c.requires
