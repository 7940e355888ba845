use Rattle.std.proofs.Common.{refl, sym, ◌∙◌}
use Rattle.std.proofs.lemmas.Result.{err_from_is_err_and}
use Rattle.resolve_round.specs.Getting.{point}
use Rattle.resolve_round.specs.Linking.{link_seen, link_view}
use Rattle.resolve_search.specs.Turning.{ended_as}
use Rattle.resolve_round.proofs.GettingLaws.{holds-counts}
use Rattle.resolve_round.proofs.LinkLaws.{uses-none}
use Rattle.resolve_round.proofs.TestingLaws.{counts-none}
use Rattle.resolve_round.proofs.WalkLaws.{walked-none}
use Rattle.resolve_round.proofs.CallLaws.{acted-none}
use Rattle.resolve_search.proofs.CallLaws.{keeps-stop, link-by}
use Rattle.resolve_search.proofs.TurningLaws.{asks-ended, done-turn, good-ended, ok-always, holds-ended, uses-ended, wants-configuration, wants-statement}
use Rattle.resolve_search.proofs.round.step.Goals as goal

-- ---- memory was wanting

pub returns-in_err-entity-clause-keeps : goal.returns-in_err-entity-clause-keeps
returns-in_err-entity-clause-keeps g c =
    let p = err_from_is_err_and c.from_residual.result c.from_residual.ensures.1 in
    rw (p.1, p.2) (keeps-stop g.G.Ledger.count c.args.aim.now.age c.args.search.now c.args.call.now c.requires.ready)

pub returns-in_err-entity-clause-link : goal.returns-in_err-entity-clause-link
returns-in_err-entity-clause-link g c =
    link-by (link_view g.L.Link.calls g.L.Link.link_faults g.L.Link.web g.L.Link.gave) c.args.link.now c.args.link.now c.args.link.now c.args.search.now c.args.search.now c.args.search.now (uses-none (link_seen (g.L.Link.calls c.args.link.now) (g.L.Link.link_faults c.args.link.now) (g.L.Link.web c.args.link.now)) c.args.search.now c.args.search.now refl) (walked-none g.L.Link.gave c.args.link.now c.args.link.now c.args.search.now.asks c.args.search.now.asks refl refl) c.from_residual.result

-- ---- a page is wanted

pub take_page-requires-clause-wants : goal.take_page-requires-clause-wants
take_page-requires-clause-wants g c =
    let want = sym c.in_ok-entity.ensures.want ∙ c.in-Config.is in
    wants-configuration c.args.session.now c.in-Config.entity c.in-Config.url want (rw c.in-Config.is at c.in_ok-entity.ensures.stays) (rw c.in-Config.is at c.in_ok-entity.ensures.new)

pub take_page-requires-in-Superior-clause-wants : goal.take_page-requires-in-Superior-clause-wants
take_page-requires-in-Superior-clause-wants g c =
    let want = sym c.in_ok-entity.ensures.want ∙ c.in-Superior.is in
    wants-statement c.args.session.now c.in-Superior.superior c.in-Superior.subject c.in-Superior.url want (rw c.in-Superior.is at c.in_ok-entity.ensures.next)
    (rw c.in-Superior.is at c.in_ok-entity.ensures.stays) (rw c.in-Superior.is at c.in_ok-entity.ensures.new)

-- ---- a verdict is wanted

pub take_path-requires-clause-wants : goal.take_path-requires-clause-wants
take_path-requires-clause-wants g c = record {
  want = sym c.in_ok-entity.ensures.want ∙ c.in-Judge.is;
  stays = rw c.in-Judge.is at c.in_ok-entity.ensures.stays;
}

pub returns-in-Judge-clause-link : goal.returns-in-Judge-clause-link
returns-in-Judge-clause-link g c =
    link-by (link_view g.L.Link.calls g.L.Link.link_faults g.L.Link.web g.L.Link.gave) c.args.link.now c.args.link.now c.args.link.now c.args.search.now c.take_path.new.search c.take_path.new.search (c.take_path.ensures.unused (link_seen (g.L.Link.calls c.args.link.now) (g.L.Link.link_faults c.args.link.now) (g.L.Link.web c.args.link.now))) (walked-none g.L.Link.gave c.args.link.now c.args.link.now c.args.search.now.asks c.take_path.new.search.asks refl c.take_path.ensures.asks) c.take_path.result

-- ---- nothing is wanted

pub returns-in-Done-clause-keeps : goal.returns-in-Done-clause-keeps
returns-in-Done-clause-keeps g c = record {
  acts = acted-none c.args.call.now c.requires.ready.of;
  same = record { moment = refl; epoch = refl; keys = refl; bounds = refl; searches = refl };
  counted = counts-none c.args.call.now.trace.now.checks c.args.call.now.trace.now.checks _ _ refl refl;
  holds = holds-ended c.args.aim.now.age c.args.call.now.trace.now c.args.search.now c.done.new.search (ended_as c.in-Done.end c.args.search.now.ended) c.done.ensures.search c.requires.ready.holds;
  good = good-ended c.args.aim.now.age c.args.call.now.trace.now c.args.search.now c.done.new.search (ended_as c.in-Done.end c.args.search.now.ended) c.done.ensures.search c.requires.ready.good;
}

pub returns-in-Done-clause-link : goal.returns-in-Done-clause-link
returns-in-Done-clause-link g c =
    let seen = (link_seen (g.L.Link.calls c.args.link.now) (g.L.Link.link_faults c.args.link.now) (g.L.Link.web c.args.link.now)) in (
      uses-ended 0 seen seen c.args.search.now c.args.search.now c.done.new.search (ended_as c.in-Done.end c.args.search.now.ended) c.done.ensures.search (uses-none seen c.args.search.now c.args.search.now refl),
      walked-none g.L.Link.gave c.args.link.now c.args.link.now c.args.search.now.asks c.done.new.search.asks refl (asks-ended c.args.search.now c.done.new.search (ended_as c.in-Done.end c.args.search.now.ended) c.done.ensures.search),
    )

pub returns-in-Done-clause-turn : goal.returns-in-Done-clause-turn
returns-in-Done-clause-turn g c = λ start under.
    done-turn c.args.aim.now start (point c.args.call.now.trace.now c.args.search.now) c.args.session.now under (holds-counts c.args.aim.now.age c.args.search.now c.args.call.now.trace.now c.requires.ready.holds) c.in-Done.end
    (sym c.in_ok-entity.ensures.want ∙ c.in-Done.is) c.done.new.search c.done.ensures.paths c.done.ensures.search c.done.result c.done.ensures.end

pub returns-in-Config-clause-few : goal.returns-in-Config-clause-few
returns-in-Config-clause-few g c = ok-always c.take_page.result c.in_ok-entity.ensures.bounded.few_judged

pub returns-in-Superior-clause-few : goal.returns-in-Superior-clause-few
returns-in-Superior-clause-few g c = ok-always c.take_page-in-Superior.result c.in_ok-entity.ensures.bounded.few_judged

pub returns-in-Judge-clause-few : goal.returns-in-Judge-clause-few
returns-in-Judge-clause-few g c = ok-always c.take_path.result c.in_ok-entity.ensures.bounded.few_judged

pub returns-in-Done-clause-few : goal.returns-in-Done-clause-few
returns-in-Done-clause-few g c = c.in_ok-entity.ensures.bounded.few_judged
