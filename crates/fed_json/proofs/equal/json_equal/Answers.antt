use Rattle.std.proofs.Common.{◌∙◌, sym, subst}
use Rattle.fed_json.specs.Forms.{IsWellFormed}
use Rattle.fed_json.proofs.Maps.{same_objects}
use Rattle.fed_json.proofs.equal.json_equal.Goals as goal

pub returns-clause-objects : goal.returns-clause-objects
returns-clause-objects c x y left right formed formed' same =
    c.trees_equal.ensures.1 (left ∙ same_objects x y (subst IsWellFormed left formed) (subst IsWellFormed right formed') same ∙ sym right)
