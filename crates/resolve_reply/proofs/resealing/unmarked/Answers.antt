use Rattle.std.proofs.Common.{ap, ◌∙◌, rules}
use Rattle.std.specs.List.{filter}
use Rattle.std.proofs.lemmas.Fn.{filter_same}
use Rattle.resolve_reply.specs.Replies.{is_unmarked}
use Rattle.resolve_reply.proofs.resealing.unmarked.Goals as goal

pub returns : goal.returns
returns c =
    c.from_vec.ensures ∙ filter_same _ is_unmarked _ (λ x b f k. search rules) _ _ c.retain.ensures.filtered
    ∙ ap (filter is_unmarked) c.into_vec-members.ensures
