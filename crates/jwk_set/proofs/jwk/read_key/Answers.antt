use Rattle.std.proofs.Common.{not, sym, ap, ◌∙◌}
use Rattle.fed_json.specs.declared.tree.Json.{Object}
use Rattle.fed_json.specs.Forms.{well_formed, members_well_formed}
use Rattle.fed_json.proofs.Layers.{well_formed-Object}
use Rattle.jwk_set.proofs.Members.{foreign_formed, was_some}
use Rattle.jwk_set.proofs.jwk.read_key.Goals as goal

pub read_own-requires : goal.read_own-requires
read_own-requires c =
    ap members_well_formed c.as_slice-members.ensures ∙ sym (well_formed-Object c.in-Object.members) ∙ sym (ap well_formed c.in-Object.is) ∙ c.requires

pub returns-in_ok-copy-clause-formed : goal.returns-in_ok-copy-clause-formed
returns-in_ok-copy-clause-formed c =
    let typed = was_some c.text_at.result _ c.text_at.ensures.text (c.is_none.ensures ∙ ap not c.if-is_none.false) in
    foreign_formed c.args.tree.now c.in_ok-copy.field-0 c.as_slice-members.result.now (c.is_whole.ensures.0 c.if-not-is_whole.false)
    (c.in-Object.is ∙ ap Object (sym c.as_slice-members.ensures)) typed (sym c.is_own.ensures ∙ c.if-is_own.false) c.in_ok-copy.ensures
