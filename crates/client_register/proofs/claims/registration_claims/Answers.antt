use Rattle.std.proofs.Common.{sym, subst}
use Rattle.fed_json.specs.Forms.{IsWhole}
use Rattle.sealed.specs.Sealing.{IsObject}
use Rattle.client_register.proofs.ClaimLaws.{claims-made, claims-object, claims-whole}
use Rattle.client_register.proofs.claims.registration_claims.Goals as goal

pub returns-clause-tree : goal.returns-clause-tree
returns-clause-tree c =
    claims-made c.args.iss.now c.args.anchor.now c.args.registration c.in_ok-members.members c.add.new.members c.add_chain.new.members c.in_ok-metadata.metadata c.in_ok-members.ensures.members c.in_ok-metadata.ensures
    c.in_ok-add.ensures c.in_ok-add_chain.ensures.members

pub returns-clause-object : goal.returns-clause-object
returns-clause-object c = subst IsObject (sym (returns-clause-tree c)) (claims-object c.args.iss.now c.args.anchor.now c.args.registration)

pub returns-clause-whole : goal.returns-clause-whole
returns-clause-whole c = λ party chain.
    subst IsWhole (sym (returns-clause-tree c))
    (claims-whole c.args.iss.now c.args.anchor.now c.args.registration party chain c.in_ok-members.ensures.moments.1 c.in_ok-members.ensures.moments.0 c.in_ok-members.ensures.utf8.0 c.in_ok-members.ensures.utf8.1
    c.in_ok-add_chain.ensures.utf8)
