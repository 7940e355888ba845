use Rattle.std.proofs.Common.{sym, subst}
use Rattle.chain_climb.specs.Climbs.{page_named}
use Rattle.chain_climb.specs.declared.answer.Answer.TheVariants.{Good}
use Rattle.resolve_search.specs.Answering.{TellsAsk}
use Rattle.resolve_search.proofs.AnsweringLaws.{tells-bad, tells-good}
use Rattle.resolve_search.proofs.answering.answer_read.Goals as goal

pub returns-then-good : goal.returns-then-good
returns-then-good c = λ t issuer subject read passes.
    subst (λ s. TellsAsk t (page_named issuer subject c.args.ask.now.url) c.args.ask.now (Good s c.origin_of-origin.result)) (sym c.statement_of.ensures)
    (tells-good t issuer subject c.args.ask.now c.args.signed read c.args.good c.origin_of-origin.result c.if-good.true passes c.origin_of-origin.ensures)

pub returns-else-good : goal.returns-else-good
returns-else-good c = λ t issuer subject read passes. tells-bad t issuer subject c.args.ask.now c.args.signed read c.args.good c.origin_of-origin.result c.if-good.false passes c.origin_of-origin.ensures
