use Rattle.std.proofs.Common.{sym, ap, ◌∙◌, subst}
use Rattle.std.specs.List.{filter}
use Rattle.std.proofs.Common.{map}
use Rattle.fed_json.specs.Forms.{IsWhole}
use Rattle.sealed.specs.Sealing.{IsObject}
use Rattle.resolve_reply.specs.Replies.{is_unmarked, with_end}
use Rattle.resolve_reply.proofs.ClaimLaws.{resealed-made, resealed-object, resealed-whole}
use Rattle.resolve_reply.proofs.resealing.resealed_claims.Goals as goal

pub returns-clause-tree : goal.returns-clause-tree
returns-clause-tree c =
    resealed-made c.args.claims c.args.exp c.args.marks c.in_ok-members.members c.add_marks.new.members
    (c.in_ok-members.ensures.members ∙ ap (λ ms. map (with_end c.args.exp) (filter is_unmarked ms)) c.members_of.ensures) c.in_ok-add_marks.ensures

pub returns-clause-object : goal.returns-clause-object
returns-clause-object c = subst IsObject (sym (returns-clause-tree c)) (resealed-object c.args.claims c.args.exp c.args.marks)

pub returns-clause-whole : goal.returns-clause-whole
returns-clause-whole c = λ says utf8.
    subst IsWhole (sym (returns-clause-tree c)) (resealed-whole c.args.claims c.args.exp c.args.marks says c.with_end.ensures.bounded utf8)
