use Rattle.std.proofs.Common.{ap, ◌∙◌}
use Rattle.entity_statement.specs.Told.{told}
use Rattle.trust_mark.specs.Marks.{owner_of}
use Rattle.trust_mark.proofs.DelegationLaws.{owned}
use Rattle.trust_mark.proofs.delegation.is_delegated.Goals as goal

pub returns-in-Some-clause-delegated : goal.returns-in-Some-clause-delegated
returns-in-Some-clause-delegated g c =
    owned c.args.mark.now c.args.t _ _ c.is_delegated_by.result (c.in-Some.ensures ∙ ap (owner_of (told c.args.anchor.now)) c.as_slice.ensures) c.is_delegated_by.ensures.delegated
