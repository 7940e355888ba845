use Rattle.std.proofs.Common.{sym, ap, ◌∙◌}
use Rattle.fed_json.specs.Forms.{well_formed, members_well_formed}
use Rattle.fed_json.proofs.Layers.{well_formed-Object}
use Rattle.entity_statement.proofs.marks.owner_of_type.Goals as goal

pub owner_with-requires : goal.owner_with-requires
owner_with-requires c = ap members_well_formed c.as_slice.ensures ∙ sym (well_formed-Object c.in-Object.claims) ∙ sym (ap well_formed c.in-Object.is) ∙ c.requires
