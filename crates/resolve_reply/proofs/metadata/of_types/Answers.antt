use Rattle.std.proofs.Common.{ap, ◌∙◌, rules}
use Rattle.std.specs.List.{filter}
use Rattle.std.proofs.lemmas.Fn.{filter_same}
use Rattle.resolve_reply.specs.Replies.{is_wanted}
use Rattle.resolve_reply.proofs.metadata.of_types.Goals as goal

pub returns : goal.returns
returns c =
    c.from_vec.ensures ∙ filter_same _ (is_wanted c.args.types.now) _ (λ x b f k. search rules) _ _ c.retain.ensures.filtered
    ∙ ap (filter (is_wanted c.args.types.now)) c.into_vec-members.ensures
