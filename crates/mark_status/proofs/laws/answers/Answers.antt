use Rattle.mark_status.proofs.AnswerLaws.{told-exactly}
use Rattle.mark_status.proofs.laws.answers.Goals as goal

pub returns : goal.returns
returns c = told-exactly
