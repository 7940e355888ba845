use Rattle.std.proofs.Common.{sym, ap, ◌∙◌}
use Rattle.fed_json.specs.Forms.{well_formed, members_well_formed}
use Rattle.fed_json.proofs.Layers.{well_formed-Object}
use Rattle.jws_form.proofs.header.read_header.Goals as goal

pub read_members-requires : goal.read_members-requires
read_members-requires c =
    let object = c.in-Ok-Object in
    ap members_well_formed (c.as_slice.ensures ∙ object.members-is) ∙ sym (well_formed-Object object.members) ∙ ap well_formed (sym object.field-0-is) ∙ object.ensures.well_formed
