use Rattle.trust_mark.specs.Grammar.{IsMark}
use Rattle.trust_mark.proofs.GrammarLaws.{mark-found, mark-only}
use Rattle.trust_mark.proofs.PayloadLaws.{found_by, only_by}
use Rattle.trust_mark.proofs.mark.Mark.read.Goals as goal

pub returns-clause-found : goal.returns-clause-found
returns-clause-found c = found_by (IsMark c.args.compact.now) c.mark_in_text.result _ (mark-found c.args.compact.now) c.mark_in_text.ensures

pub returns-clause-only : goal.returns-clause-only
returns-clause-only c = λ mark is. only_by c.mark_in_text.result _ mark (mark-only c.args.compact.now mark is) c.mark_in_text.ensures
