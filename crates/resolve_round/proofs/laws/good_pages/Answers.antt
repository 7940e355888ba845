use Rattle.resolve_round.proofs.WordLaws.{configuration-words, statement-words, words-configuration, words-statement}
use Rattle.resolve_round.proofs.laws.good_pages.Goals as goal

pub returns : goal.returns
returns c = record {
  configurations = λ pages entity t s splits. (configuration-words pages entity t s splits, words-configuration pages entity t s);
  statements = λ pages t page s apart. (statement-words pages t page s, words-statement pages t page s apart);
}
