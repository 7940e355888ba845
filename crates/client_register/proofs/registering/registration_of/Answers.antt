use Rattle.std.proofs.Common.{◌∙◌, ap, sym, subst}
use Rattle.fed_json.specs.Forms.{IsWhole}
use Rattle.fed_json.specs.Trees.{find}
use Rattle.client_register.specs.Registrations.{party_type}
use Rattle.client_register.proofs.ClaimLaws.{member-whole}
use Rattle.client_register.proofs.registering.registration_of.Goals as goal

pub returns-clause-whole : goal.returns-clause-whole
returns-clause-whole c = λ good.
    subst IsWhole (sym c.in_ok-party.ensures)
    (member-whole c.args.resolved.metadata party_type c.in-Some.party.now good (sym (c.in-Some.ensures.value ∙ ap (find party_type) c.object_members.ensures)))
