use Rattle.std.proofs.Common.{[], refl, sym, subst, arith}
use Rattle.std.proofs.lemmas.Result.{err_from_is_err_and}
use Rattle.sealed.specs.Seals.{pair_of}
use Rattle.chain_check.specs.Judging.{texts_of}
use Rattle.resolve_search.specs.Judging.{IsTried, IsTurn, case_at}
use Rattle.resolve_search.specs.declared.judging.Turn.TheVariants.{More, Ruled}
use Rattle.resolve_round.proofs.CallLaws.{acted-none, acted-of, acted-then}
use Rattle.resolve_search.proofs.ChainLaws.{case-same, got-same, turn-candidate, turn-tried}
use Rattle.resolve_round.proofs.TestingLaws.{counts-none, counts-sum, only-none, only-then}
use Rattle.resolve_search.proofs.judging.judge_turns.Goals as goal

pub loop-turn-init : goal.loop-turn-init
loop-turn-init g c = record {
  acted = acted-none c.args.call.now c.requires.of;
  only = only-none c.args.call.now.trace.now [] (pair_of [] []) c.args.call.now.trace.now refl;
  holds = c.requires.holds;
  good = λ good. good;
  counted = counts-none c.args.call.now.trace.now.checks c.args.call.now.trace.now.checks _ _ refl refl;
  tried = c.requires.tried;
  few = omega arith;
}

pub take_turn-requires-clause-of : goal.take_turn-requires-clause-of
take_turn-requires-clause-of g c = acted-of c.args.call.now c.loop-turn.call c.loop-turn.invariant.acted

pub take_turn-requires-clause-got : goal.take_turn-requires-clause-got
take_turn-requires-clause-got g c =
    got-same c.args.search.now.asks (texts_of c.loop-turn.tried) (texts_of c.args.chain) c.loop-turn.invariant.tried.are c.requires.got

pub take_turn-requires-clause-candidate : goal.take_turn-requires-clause-candidate
take_turn-requires-clause-candidate g c =
    turn-candidate c.args.call.now.trace.now c.loop-turn.call.trace.now c.args.aim.now.anchor (texts_of c.args.chain) c.loop-turn.tried c.args.entries.now c.loop-turn.invariant.only c.loop-turn.invariant.tried.are c.requires.candidate

pub take_turn-requires-clause-tried : goal.take_turn-requires-clause-tried
take_turn-requires-clause-tried g c =
    turn-tried c.args.call.now.trace.now c.loop-turn.call.trace.now c.args.aim.now.anchor (texts_of c.args.chain) c.loop-turn._turn c.loop-turn.tried c.loop-turn.invariant.only c.loop-turn.invariant.tried

pub returns-in_err-ruling-clause-judges : goal.returns-in_err-ruling-clause-judges
returns-in_err-ruling-clause-judges g c =
    let p = err_from_is_err_and c.from_residual.result c.from_residual.ensures.1 in
    let acts = c.in_err-ruling.ensures.judges.tests.acts in
    rw (p.1, p.2) (record {
      tests = record {
        acts = (acted-then c.args.call.now c.loop-turn.call c.take_turn.new.call c.loop-turn.invariant.acted acts.0, acts.1);
        only = only-then c.args.call.now.trace.now c.loop-turn.call.trace.now c.take_turn.new.call.trace.now c.loop-turn.invariant.only c.in_err-ruling.ensures.judges.tests.only;
        counted = counts-sum c.args.call.now.trace.now.checks c.loop-turn.call.trace.now.checks c.take_turn.new.call.trace.now.checks _ _ _ c.loop-turn.invariant.counted c.in_err-ruling.ensures.judges.tests.counted;
      };
      holds = c.in_err-ruling.ensures.judges.holds;
      good = tt;
    })

pub returns-in-Ruled-clause-judges : goal.returns-in-Ruled-clause-judges
returns-in-Ruled-clause-judges g c = record {
  tests = record {
    acts = acted-then c.args.call.now c.loop-turn.call c.take_turn.new.call c.loop-turn.invariant.acted c.in_ok-ruling.ensures.judges.tests.acts;
    only = only-then c.args.call.now.trace.now c.loop-turn.call.trace.now c.take_turn.new.call.trace.now c.loop-turn.invariant.only c.in_ok-ruling.ensures.judges.tests.only;
    counted = counts-sum c.args.call.now.trace.now.checks c.loop-turn.call.trace.now.checks c.take_turn.new.call.trace.now.checks _ _ _ c.loop-turn.invariant.counted c.in_ok-ruling.ensures.judges.tests.counted;
  };
  holds = c.in_ok-ruling.ensures.judges.holds;
  good = λ good. c.in_ok-ruling.ensures.judges.good (c.loop-turn.invariant.good good);
}

pub returns-in-Ruled-clause-ruled : goal.returns-in-Ruled-clause-ruled
returns-in-Ruled-clause-ruled g c =
    let old = c.args.call.now.trace.now in
    let mid = c.loop-turn.call.trace.now in
    let texts = texts_of c.args.chain in
    let same = case-same old mid c.args.aim.now.anchor (texts_of c.loop-turn.tried) texts c.loop-turn.invariant.only c.loop-turn.invariant.tried.are in
    let turn = c.in_ok-ruling.ensures.turn c.loop-turn._turn (subst (λ case. IsTried mid case c.loop-turn._turn c.loop-turn.tried) (sym same) c.loop-turn.invariant.tried) in
    subst (λ case. IsTurn c.take_turn.new.call.trace.now case c.loop-turn._turn (Ruled c.in-Ruled.ruling)) same (rw c.in-Ruled.is at turn)

pub loop-turn-preserved : goal.loop-turn-preserved
loop-turn-preserved g c =
    let old = c.args.call.now.trace.now in
    let mid = c.loop-turn.call.trace.now in
    let texts = texts_of c.args.chain in
    let turn = c.in_ok-ruling.ensures.turn c.loop-turn._turn
    (subst (λ case. IsTried mid case c.loop-turn._turn c.loop-turn.tried) (sym (case-same old mid c.args.aim.now.anchor (texts_of c.loop-turn.tried) texts c.loop-turn.invariant.only c.loop-turn.invariant.tried.are)) c.loop-turn.invariant.tried) in
    let more : IsTurn c.take_turn.new.call.trace.now (case_at old c.args.aim.now.anchor texts) c.loop-turn._turn (More c.in-More.more) =
    subst (λ case. IsTurn c.take_turn.new.call.trace.now case c.loop-turn._turn (More c.in-More.more)) (case-same old mid c.args.aim.now.anchor (texts_of c.loop-turn.tried) texts c.loop-turn.invariant.only c.loop-turn.invariant.tried.are)
    (rw c.in-More.is at turn) in
    record {
      acted = acted-then c.args.call.now c.loop-turn.call c.take_turn.new.call c.loop-turn.invariant.acted c.in_ok-ruling.ensures.judges.tests.acts;
      only = only-then old mid c.take_turn.new.call.trace.now c.loop-turn.invariant.only c.in_ok-ruling.ensures.judges.tests.only;
      holds = c.in_ok-ruling.ensures.judges.holds;
      good = λ good. c.in_ok-ruling.ensures.judges.good (c.loop-turn.invariant.good good);
      counted = counts-sum old.checks mid.checks c.take_turn.new.call.trace.now.checks _ _ _ c.loop-turn.invariant.counted c.in_ok-ruling.ensures.judges.tests.counted;
      tried = more.1;
      few = let low = more.0 in omega (arith, low);
    }

pub unreachable-requires : goal.unreachable-requires
unreachable-requires g c =
    let few = c.loop-turn.invariant.few in
    absurd (omega (arith, few))
