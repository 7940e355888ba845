use Rattle.std.proofs.Common.{◌∙◌, ap, codes, subst}
use Rattle.std.specs.Str.{IsUtf8}
use Rattle.entity_id.specs.Identifiers.{IsIdentifier}
use Rattle.fed_json.specs.Members.{text_member}
use Rattle.node_config.specs.Told.{told, told_subordinate}
use Rattle.authority_core.proofs.Wholes.{statement-joined}
use Rattle.authority_core.proofs.claims.push_statement.Goals as goal

pub returns-clause-members : goal.returns-clause-members
returns-clause-members c =
    statement-joined (told c.args.node.now) (told_subordinate c.args.s.now) c.args.t c.in_ok-text_member.field-0
    c.args.members.now c.push_claim.new.members c.push_making.new.members c.push_keys.new.members c.push_claim-2.new.members c.push_claim-3.new.members c.push_claim-4.new.members c.push.new.self
    (c.in_ok-text_member.ensures ∙ ap (text_member (codes "sub")) c.text.ensures.text) c.in_ok-push_claim.ensures c.in_ok-push_making.ensures.members c.in_ok-push_keys.ensures.members
    c.in_ok-push_claim-2.ensures c.in_ok-push_claim-3.ensures c.in_ok-push_claim-4.ensures c.in_ok-push.ensures.ok

pub returns-clause-sound : goal.returns-clause-sound
returns-clause-sound c = record {
  iss_utf8 = c.in_ok-push_making.ensures.issuer;
  iss_is = c.in_ok-push_making.ensures.identifier;
  sub_utf8 = subst IsUtf8 c.text.ensures.text c.text.ensures.utf8;
  sub_is = subst IsIdentifier c.text.ensures.text c.text.ensures.identifier;
  whole = c.in_ok-push_keys.ensures.whole;
  keys_are = c.in_ok-push_keys.ensures.reads_back;
}
