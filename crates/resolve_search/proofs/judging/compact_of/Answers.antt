use Rattle.std.proofs.Common.{⊎_elim}
use Rattle.jws_form.specs.Splitting.{splitting}
use Rattle.resolve_search.proofs.ChainLaws.{split-or}
use Rattle.resolve_search.proofs.judging.compact_of.Goals as goal

pub unreachable-requires : goal.unreachable-requires
unreachable-requires c =
    ⊎_elim (λ wanting. c.in_default.not-Memory (cc (wanting, c.in-Err.is))) (λ given. cc (given.1, c.in-Err.is)) (split-or c.split_text.result (splitting c.args.text.now) c.split_text.ensures.exact c.requires)
