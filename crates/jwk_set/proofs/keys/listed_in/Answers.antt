use Rattle.std.proofs.Common.{[], ◌∷◌, sym, ap, ◌∙◌, Some}
use Rattle.std.specs.List.{list_all}
use Rattle.fed_json.specs.Forms.{well_formed}
use Rattle.fed_json.specs.declared.tree.Json.{Object}
use Rattle.jwk_set.proofs.Members.{list_found}
use Rattle.jwk_set.proofs.keys.listed_in.Goals as goal

pub returns-in-Some-List-clause-formed : goal.returns-in-Some-List-clause-formed
returns-in-Some-List-clause-formed c = λ formed.
    ap (list_all well_formed) (c.as_slice-in-Some-List.ensures ∙ c.in-Some-List.keys-is)
    ∙ list_found c.args.tree.now c.as_slice.result.now (107 ∷ 101 ∷ 121 ∷ 115 ∷ []) c.in-Some-List.keys formed (c.in-Object.is ∙ ap Object (sym c.as_slice.ensures))
    (ap Some (sym c.in-Some-List.field-0-is) ∙ c.in-Some-List.ensures.value)
