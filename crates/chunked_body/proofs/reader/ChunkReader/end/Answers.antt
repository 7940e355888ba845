use Rattle.std.proofs.Common.{subst}
use Rattle.chunked_body.specs.Answers.{IsChunked}
use Rattle.chunked_body.specs.Readers.{reading}
use Rattle.chunked_body.proofs.Decided.{answer_of, found, neither}
use Rattle.chunked_body.proofs.reader.ChunkReader.end.Goals as goal

pub returns-in-Done : goal.returns-in-Done
returns-in-Done c x ended h d = subst (λ p. IsChunked x ended (answer_of p c.args.self.body)) c.in-Done.is (found x ended (reading c.args.self) h d)

pub returns-in-Over : goal.returns-in-Over
returns-in-Over c x ended h d = subst (λ p. IsChunked x ended (answer_of p c.args.self.body)) c.in-Over.is (found x ended (reading c.args.self) h d)

pub returns-in_default : goal.returns-in_default
returns-in_default c x ended h d =
    subst (λ a. IsChunked x ended a) (neither c.args.self.place c.args.self.body c.in_default.not-Done c.in_default.not-Over) (found x ended (reading c.args.self) h d)
