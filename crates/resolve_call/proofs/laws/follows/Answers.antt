use Rattle.resolve_call.proofs.laws.follows.Goals as goal

pub returns : goal.returns
returns c = λ node resolver request before now outcome call. record {
  hits = c.hits.ensures node resolver request before now outcome call;
  one_round = c.one_round.ensures node resolver request before now outcome call;
  speaks = c.webs.ensures.speaks node resolver request before now outcome call;
  agrees = λ web shows answered. c.webs.ensures.agrees node resolver request before now outcome call web shows answered;
}
