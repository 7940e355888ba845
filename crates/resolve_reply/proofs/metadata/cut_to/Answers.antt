use Rattle.std.proofs.Common.{sym, ap, ◌∙◌, subst, true≢false}
use Rattle.std.specs.List.{filter}
use Rattle.fed_json.specs.declared.tree.Json.{Object}
use Rattle.fed_json.specs.Forms.{IsWhole}
use Rattle.resolve_reply.specs.Replies.{is_wanted}
use Rattle.resolve_reply.proofs.ClaimLaws.{cut-none, cut-some, cut-whole}
use Rattle.resolve_reply.proofs.metadata.cut_to.Goals as goal

pub returns-then-is_empty-clause-cut : goal.returns-then-is_empty-clause-cut
returns-then-is_empty-clause-cut c = sym (cut-none c.args.types.now c.args.metadata (c.is_empty.ensures.0 c.if-is_empty.true))

pub returns-clause-cut : goal.returns-clause-cut
returns-clause-cut c =
    let made =
    c.of_types.ensures ∙ ap (λ ts. filter (is_wanted ts) c.members_of-members.result) c.as_slice.ensures ∙ ap (filter (is_wanted c.args.types.now)) c.members_of-members.ensures in
    ap Object made ∙ sym (cut-some c.args.types.now c.args.metadata (λ none. true≢false (sym (c.is_empty.ensures.1 none) ∙ c.if-is_empty.false)))

pub returns-clause-whole : goal.returns-clause-whole
returns-clause-whole c = λ good.
    let made =
    c.of_types.ensures ∙ ap (λ ts. filter (is_wanted ts) c.members_of-members.result) c.as_slice.ensures ∙ ap (filter (is_wanted c.args.types.now)) c.members_of-members.ensures in
    subst IsWhole (ap Object (sym made)) (cut-whole c.args.types.now c.args.metadata good)
