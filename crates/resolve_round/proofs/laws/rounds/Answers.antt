use Rattle.resolve_round.specs.Pages.{HasValidChain}
use Rattle.resolve_round.specs.Rounds.{good_in, pages_in}
use Rattle.resolve_round.proofs.StopLaws.{one-stop}
use Rattle.resolve_round.proofs.BestLaws.{finished-none, found-best}
use Rattle.resolve_round.proofs.RoundLaws.{asks-all, asks-once, ended-at_bound}
use Rattle.resolve_round.proofs.laws.rounds.Goals as goal

pub returns : goal.returns
returns c = record {
  asks_once = λ query course. asks-once query (good_in query course) (HasValidChain query (pages_in course)) course;
  ended_at_bound = λ query course. ended-at_bound query (good_in query course) (HasValidChain query (pages_in course)) course;
  asks_all = λ query course. asks-all query (good_in query course) (HasValidChain query (pages_in course)) course;
  one_stop = one-stop;
  best = found-best;
  none_left = finished-none;
}
