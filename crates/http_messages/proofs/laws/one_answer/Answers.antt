use Rattle.http_messages.proofs.Texts.{one_answer, one_text}
use Rattle.http_messages.proofs.laws.one_answer.Goals as goal

pub returns-clause-text : goal.returns-clause-text
returns-clause-text c = one_text

pub returns-clause-answer : goal.returns-clause-answer
returns-clause-answer c = one_answer
