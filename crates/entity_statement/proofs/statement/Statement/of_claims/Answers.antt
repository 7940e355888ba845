use Rattle.std.proofs.Common.{sym, ap, ◌∙◌}
use Rattle.fed_json.specs.Forms.{well_formed}
use Rattle.fed_json.proofs.Layers.{well_formed-Object}
use Rattle.entity_statement.proofs.statement.Statement.of_claims.Goals as goal

pub read_claims-requires : goal.read_claims-requires
read_claims-requires c = sym (well_formed-Object c.in-Object.members) ∙ sym (ap well_formed c.in-Object.is) ∙ c.requires
