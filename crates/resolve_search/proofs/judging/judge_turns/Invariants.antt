use Rattle.std.proofs.Common.{◌≤◌, ◌+◌}
use Rattle.chain_check.specs.Chains.{max_statements}
use Rattle.chain_check.specs.Judging.{texts_of}
use Rattle.resolve_round.specs.Calls.{Acted, Counted}
use Rattle.resolve_search.specs.Judging.{IsTried, case_at}
use Rattle.resolve_round.specs.Knowing.{HoldsSoFar, with_search}
use Rattle.resolve_round.specs.Testing.{OnlyTests}
use Rattle.resolve_round.specs.Told.{ProvesGood}
use Rattle.resolve_search.proofs.judging.judge_turns.Given as goal

abbrev pub invariant-loop-turn : goal.invariant-loop-turn
invariant-loop-turn g l = record {
  acted : Acted l.fn.call l.call;
  only : OnlyTests l.fn.call.trace.now l.call.trace.now;
  holds : HoldsSoFar l.aim.age l.search l.call.trace.now;
  good : ProvesGood (with_search l.fn.call.trace.now l.search) → ProvesGood (with_search l.call.trace.now l.search);
  counted : Counted g.G.Ledger.count l.fn.call l.call;
  tried : IsTried l.call.trace.now (case_at l.fn.call.trace.now l.aim.anchor (texts_of l.fn.chain)) l._turn l.tried;
  few : l._turn ≤ max_statements + 1;
}
