use Rattle.std.proofs.Common.{ℕ, None, Ok, Err, refl, sym, ap, subst, arith}
use Rattle.std.proofs.lemmas.Result.{err_from_is_err_and}
use Rattle.chain_climb.specs.declared.want.Bounds.{Bounds}
use Rattle.chain_climb.specs.Sessions.{begun}
use Rattle.resolve_round.specs.Getting.{point}
use Rattle.resolve_round.specs.Linking.{link_seen, link_view}
use Rattle.resolve_search.specs.Turning.{IsStep, IsUnderWay}
use Rattle.resolve_round.proofs.LinkLaws.{uses-none}
use Rattle.resolve_round.proofs.TestingLaws.{counts-none, counts-sum}
use Rattle.resolve_round.proofs.WalkLaws.{walked-none}
use Rattle.resolve_round.proofs.CallLaws.{acted-none, acted-of, acted-then}
use Rattle.resolve_search.proofs.CallLaws.{keeps-stop, link-by, link-then}
use Rattle.resolve_search.proofs.TurningLaws.{begin-under, call-then}
use Rattle.resolve_search.proofs.round.drive.Goals as goal

-- ---- memory was wanting at the beginning

pub returns-in_err-session-clause-keeps : goal.returns-in_err-session-clause-keeps
returns-in_err-session-clause-keeps g c =
    let p = err_from_is_err_and c.from_residual.result c.from_residual.ensures.1 in
    rw (p.1, p.2) (keeps-stop g.G.Ledger.count c.args.aim.now.age c.args.search.now c.args.call.now c.requires.ready)

pub returns-in_err-session-clause-link : goal.returns-in_err-session-clause-link
returns-in_err-session-clause-link g c =
    let still = walked-none g.L.Link.gave c.args.link.now c.args.link.now c.args.search.now.asks c.args.search.now.asks refl refl in
    link-by (link_view g.L.Link.calls g.L.Link.link_faults g.L.Link.web g.L.Link.gave) c.args.link.now c.args.link.now c.args.link.now c.args.search.now c.args.search.now c.args.search.now (uses-none (link_seen (g.L.Link.calls c.args.link.now) (g.L.Link.link_faults c.args.link.now) (g.L.Link.web c.args.link.now)) c.args.search.now c.args.search.now refl) still c.from_residual.result

-- ---- the turns

pub loop-session-init : goal.loop-session-init
loop-session-init g c = record {
  acted = acted-none c.args.call.now c.requires.ready.of;
  same = record { moment = refl; epoch = refl; keys = refl; bounds = refl; searches = refl };
  used = uses-none (link_seen (g.L.Link.calls c.args.link.now) (g.L.Link.link_faults c.args.link.now) (g.L.Link.web c.args.link.now)) c.args.search.now c.args.search.now refl;
  walked = walked-none g.L.Link.gave c.args.link.now c.args.link.now c.args.search.now.asks c.args.search.now.asks refl refl;
  holds = c.requires.ready.holds;
  good = c.requires.ready.good;
  counted = counts-none c.args.call.now.trace.now.checks c.args.call.now.trace.now.checks _ _ refl refl;
  under =
      subst (IsUnderWay c.args.aim.now c.args.call.now.trace.now (point c.args.call.now.trace.now c.args.search.now)) (sym c.in_ok-session.ensures)
      (subst (λ s. IsUnderWay c.args.aim.now c.args.call.now.trace.now (point c.args.call.now.trace.now s) (begun c.args.aim.now.leaf c.args.aim.now.anchor c.args.aim.now.bounds)) (sym c.requires.begun)
      (begin-under c.args.aim.now c.args.call.now.trace.now));
}

pub step-requires-clause-ready : goal.step-requires-clause-ready
step-requires-clause-ready g c = record { of = acted-of c.args.call.now c.loop-session.call c.loop-session.invariant.acted; holds = c.loop-session.invariant.holds; good = c.loop-session.invariant.good }

pub step-requires-clause-under : goal.step-requires-clause-under
step-requires-clause-under g c = (c.args.call.now.trace.now, c.loop-session.invariant.under)

pub returns-in_err-end-clause-keeps : goal.returns-in_err-end-clause-keeps
returns-in_err-end-clause-keeps g c =
    let p = err_from_is_err_and c.from_residual-in_err-end.result c.from_residual-in_err-end.ensures.1 in
    let acts = c.in_err-end.ensures.keeps.acts in
    rw (p.1, p.2) (record {
      acts = (acted-then c.args.call.now c.loop-session.call c.step.new.call c.loop-session.invariant.acted acts.0, acts.1);
      same = call-then c.args.call.now.trace.now c.loop-session.call.trace.now c.step.new.call.trace.now c.loop-session.invariant.same c.in_err-end.ensures.keeps.same;
      counted = counts-sum c.args.call.now.trace.now.checks c.loop-session.call.trace.now.checks c.step.new.call.trace.now.checks _ _ _ c.loop-session.invariant.counted c.in_err-end.ensures.keeps.counted;
      holds = c.in_err-end.ensures.keeps.holds;
      good = tt;
    })

pub returns-in_err-end-clause-link : goal.returns-in_err-end-clause-link
returns-in_err-end-clause-link g c =
    let p = err_from_is_err_and c.from_residual-in_err-end.result c.from_residual-in_err-end.ensures.1 in
    rw (p.1, p.2) (link-then (link_view g.L.Link.calls g.L.Link.link_faults g.L.Link.web g.L.Link.gave) c.args.link.now c.loop-session.link c.step.new.link c.args.search.now c.loop-session.search c.step.new.search c.loop-session.invariant.used c.loop-session.invariant.walked {A = ℕ} (Err c.in_err-end.field-0.0) c.in_err-end.ensures.link)

pub returns-in-Some-clause-keeps : goal.returns-in-Some-clause-keeps
returns-in-Some-clause-keeps g c = record {
  acts = acted-then c.args.call.now c.loop-session.call c.step.new.call c.loop-session.invariant.acted c.in_ok-end.ensures.keeps.acts;
  same = call-then c.args.call.now.trace.now c.loop-session.call.trace.now c.step.new.call.trace.now c.loop-session.invariant.same c.in_ok-end.ensures.keeps.same;
  counted = counts-sum c.args.call.now.trace.now.checks c.loop-session.call.trace.now.checks c.step.new.call.trace.now.checks _ _ _ c.loop-session.invariant.counted c.in_ok-end.ensures.keeps.counted;
  holds = c.in_ok-end.ensures.keeps.holds;
  good = c.in_ok-end.ensures.keeps.good;
}

pub returns-in-Some-clause-link : goal.returns-in-Some-clause-link
returns-in-Some-clause-link g c = link-then (link_view g.L.Link.calls g.L.Link.link_faults g.L.Link.web g.L.Link.gave) c.args.link.now c.loop-session.link c.step.new.link c.args.search.now c.loop-session.search c.step.new.search c.loop-session.invariant.used c.loop-session.invariant.walked {A = ℕ} (Ok 0) c.in_ok-end.ensures.link

pub returns-in-Some-clause-round : goal.returns-in-Some-clause-round
returns-in-Some-clause-round g c = rw c.in-Some.is at (c.in_ok-end.ensures.turn c.args.call.now.trace.now c.loop-session.invariant.under)

pub loop-session-preserved : goal.loop-session-preserved
loop-session-preserved g c =
    let turn : IsStep c.args.aim.now c.args.call.now.trace.now (point c.step.new.call.trace.now c.step.new.search) c.step.new.session None =
    rw c.in_default.is at (c.in_ok-end.ensures.turn c.args.call.now.trace.now c.loop-session.invariant.under) in
    let link = link-then (link_view g.L.Link.calls g.L.Link.link_faults g.L.Link.web g.L.Link.gave) c.args.link.now c.loop-session.link c.step.new.link c.args.search.now c.loop-session.search c.step.new.search c.loop-session.invariant.used c.loop-session.invariant.walked {A = ℕ} (Ok 0) c.in_ok-end.ensures.link in
    record {
      acted = acted-then c.args.call.now c.loop-session.call c.step.new.call c.loop-session.invariant.acted c.in_ok-end.ensures.keeps.acts;
      same = call-then c.args.call.now.trace.now c.loop-session.call.trace.now c.step.new.call.trace.now c.loop-session.invariant.same c.in_ok-end.ensures.keeps.same;
      used = link.0;
      walked = link.1;
      holds = c.in_ok-end.ensures.keeps.holds;
      good = c.in_ok-end.ensures.keeps.good;
      counted = counts-sum c.args.call.now.trace.now.checks c.loop-session.call.trace.now.checks c.step.new.call.trace.now.checks _ _ _ c.loop-session.invariant.counted c.in_ok-end.ensures.keeps.counted;
      under = turn;
    }

pub loop-session-smaller : goal.loop-session-smaller
loop-session-smaller g c =
    let grows = rw c.in_default.is at c.in_ok-end.ensures.grows in
    let few = c.in_ok-end.ensures.few in
    let most = ap (λ (b : Bounds). b.paths) c.loop-session.invariant.under.bounds in
    let answers = c.answers-answers.ensures in
    omega (arith, grows, few, most, answers)
