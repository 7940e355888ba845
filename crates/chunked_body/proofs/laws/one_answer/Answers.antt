use Rattle.std.proofs.Common.{true, inr, refl, sym, ◌∙◌}
use Rattle.chunked_body.specs.Readings.{run, start}
use Rattle.chunked_body.proofs.Decided.{answer_of, found, only}
use Rattle.chunked_body.proofs.laws.one_answer.Goals as goal

pub returns-clause-answer : goal.returns-clause-answer
returns-clause-answer c x ended a b h k = only x ended a h ∙ sym (only x ended b k)

pub returns-clause-some : goal.returns-clause-some
returns-clause-some c x = (answer_of (run start x).place (run start x).body, found x true (run start x) refl (inr refl))
