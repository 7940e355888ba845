use Rattle.trust_mark.specs.Grammar.{IsStatusAnswer}
use Rattle.trust_mark.proofs.GrammarLaws.{status-found, status-only}
use Rattle.trust_mark.proofs.PayloadLaws.{found_by, only_by}
use Rattle.trust_mark.proofs.status.StatusAnswer.read.Goals as goal

pub returns-clause-found : goal.returns-clause-found
returns-clause-found c = found_by (IsStatusAnswer c.args.compact.now) c.answer_in_text.result _ (status-found c.args.compact.now) c.answer_in_text.ensures

pub returns-clause-only : goal.returns-clause-only
returns-clause-only c = λ answer is. only_by c.answer_in_text.result _ answer (status-only c.args.compact.now answer is) c.answer_in_text.ensures
