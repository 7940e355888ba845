use Rattle.rehearsal.proofs.WholeLaws.{found, found-whole}
use Rattle.rehearsal.proofs.summary.parameter_in.Goals as goal

pub returns-clause-whole : goal.returns-clause-whole
returns-clause-whole c =
    found-whole c.in_ok-parameters.parameters.now c.args.name.now c.object_members-2.result.now c.find-2.result
    (found c.args.metadata.now _ c.object_members.result.now c.in_ok-parameters.parameters.now c.requires c.object_members.ensures c.in_ok-parameters.ensures.value)
    c.object_members-2.ensures c.find-2.ensures.value
