use Rattle.std.proofs.Common.{◌∙◌, arith}
use Rattle.std.proofs.lemmas.Grind.{common_steps}
use Rattle.fed_json.proofs.Layers.{whole-List}
use Rattle.authority_core.proofs.registry.ids_that_pass.Goals as goal

pub returns-clause-whole : goal.returns-clause-whole
returns-clause-whole c = whole-List c.loop-s.ids ∙ c.loop-s.invariant.1

pub loop-s-preserved : goal.loop-s-preserved
loop-s-preserved c = grind (arith, common_steps)
