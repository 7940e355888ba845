use Rattle.std.proofs.Common.{sym, subst}
use Rattle.std.specs.Str.{IsUtf8}
use Rattle.fed_json.specs.Forms.{IsWhole}
use Rattle.resolve_reply.proofs.ClaimLaws.{claims-made, claims-whole}
use Rattle.resolve_reply.proofs.claims.reply_claims.Goals as goal

pub returns-clause-tree : goal.returns-clause-tree
returns-clause-tree c =
    claims-made c.args.iss.now c.args.said c.text.result.now c.text-2.result.now c.in_ok-members.members c.add.new.members c.push.new.self c.add-2.new.members c.add_marks.new.members c.in_ok-text_member.field-0
    c.in_ok-chain.chain c.text.ensures.text c.text-2.ensures.text c.in_ok-members.ensures.members c.in_ok-add.ensures c.in_ok-text_member.ensures c.in_ok-push.ensures.ok c.in_ok-chain.ensures c.in_ok-add-2.ensures
    c.in_ok-add_marks.ensures

pub returns-clause-whole : goal.returns-clause-whole
returns-clause-whole c = λ writable.
    subst IsWhole (sym (returns-clause-tree c))
    (claims-whole c.args.iss.now c.args.said writable c.times_and_issuer.ensures.exp_bounded c.times_and_issuer.ensures.iat_bounded (subst IsUtf8 c.text.ensures.text c.text.ensures.utf8)
    (subst IsUtf8 c.text-2.ensures.text c.text-2.ensures.utf8))

pub returns-clause-says : goal.returns-clause-says
returns-clause-says c = λ writable. record {
  iss = c.args.iss.now;
  said = c.args.said;
  claims_are = returns-clause-tree c;
  writable = writable;
  iat = c.times_and_issuer.ensures.iat_bounded;
  iss_utf8 = subst IsUtf8 c.text.ensures.text c.text.ensures.utf8;
  sub_utf8 = subst IsUtf8 c.text-2.ensures.text c.text-2.ensures.utf8;
}
