use Rattle.std.proofs.Common.{refl, sym, ◌∙◌, inl, inr, subst}
use Rattle.std.proofs.lemmas.Result.{IfOk-weaker, err_from_is_err_and}
use Rattle.turn_log.specs.Groups.{known}
use Rattle.resolve_round.specs.Linking.{link_seen, link_view}
use Rattle.resolve_round.specs.Told.{IsTrueSoFar}
use Rattle.resolve_round.proofs.ActsLaws.{continues-none}
use Rattle.resolve_round.proofs.Lasts.{last-within, put-last}
use Rattle.resolve_round.proofs.PassLaws.{kept-same}
use Rattle.resolve_round.proofs.TestingLaws.{counts-none}
use Rattle.resolve_search.proofs.CallLaws.{acts-around}
use Rattle.resolve_search.proofs.TurningLaws.{link-unused, round-begins, round-ends, round-good, round-proved, round-told}
use Rattle.resolve_search.proofs.WalkRounds.{round-used, stumbled-nothing}
use Rattle.resolve_search.proofs.round.search_round.Goals as goal

-- ---- memory was wanting at the beginning

pub returns-in_err-search-clause-acts : goal.returns-in_err-search-clause-acts
returns-in_err-search-clause-acts g c =
    let p = err_from_is_err_and c.from_residual.result c.from_residual.ensures.1 in
    rw (p.1, p.2) (record { parts = record { commons = refl; pass = refl; trace = refl; steps = refl }; kept = kept-same c.args.call.now.commons.now c.args.call.now.pass.now c.requires.of; continues = continues-none c.args.call.now.trace.now.events (known c.args.call.now.pass.now) }, tt)

pub returns-in_err-search-clause-call : goal.returns-in_err-search-clause-call
returns-in_err-search-clause-call g c = record { moment = refl; epoch = refl; keys = refl; bounds = refl; searches = inl refl }

pub returns-in_err-search-clause-link : goal.returns-in_err-search-clause-link
returns-in_err-search-clause-link g c =
    let p = err_from_is_err_and c.from_residual.result c.from_residual.ensures.1 in
    rw (p.1, p.2) (inl (link-unused (link_seen (g.L.Link.calls c.args.link.now) (g.L.Link.link_faults c.args.link.now) (g.L.Link.web c.args.link.now)) c.args.call.now.trace.now c.args.call.now.trace.now refl), stumbled-nothing g.L.Link.gave c.args.link.now c.args.call.now.trace.now c.args.call.now.trace.now refl)

pub returns-in_err-search-clause-counted : goal.returns-in_err-search-clause-counted
returns-in_err-search-clause-counted g c = counts-none c.args.call.now.trace.now.checks c.args.call.now.trace.now.checks _ _ refl refl

pub returns-in_err-begun-clause-acts : goal.returns-in_err-begun-clause-acts
returns-in_err-begun-clause-acts g c =
    let p = err_from_is_err_and c.from_residual-in_err-begun.result c.from_residual-in_err-begun.ensures.1 in
    rw (p.1, p.2) (record { parts = record { commons = refl; pass = refl; trace = refl; steps = refl }; kept = kept-same c.args.call.now.commons.now c.args.call.now.pass.now c.requires.of; continues = continues-none c.args.call.now.trace.now.events (known c.args.call.now.pass.now) }, tt)

pub returns-in_err-begun-clause-call : goal.returns-in_err-begun-clause-call
returns-in_err-begun-clause-call g c = record { moment = refl; epoch = refl; keys = refl; bounds = refl; searches = inl refl }

pub returns-in_err-begun-clause-link : goal.returns-in_err-begun-clause-link
returns-in_err-begun-clause-link g c =
    let p = err_from_is_err_and c.from_residual-in_err-begun.result c.from_residual-in_err-begun.ensures.1 in
    rw (p.1, p.2) (inl (link-unused (link_seen (g.L.Link.calls c.args.link.now) (g.L.Link.link_faults c.args.link.now) (g.L.Link.web c.args.link.now)) c.args.call.now.trace.now c.args.call.now.trace.now refl), stumbled-nothing g.L.Link.gave c.args.link.now c.args.call.now.trace.now c.args.call.now.trace.now refl)

pub returns-in_err-begun-clause-counted : goal.returns-in_err-begun-clause-counted
returns-in_err-begun-clause-counted g c = counts-none c.args.call.now.trace.now.checks c.args.call.now.trace.now.checks _ _ refl refl

pub returns-in_err-push-clause-acts : goal.returns-in_err-push-clause-acts
returns-in_err-push-clause-acts g c =
    let p = err_from_is_err_and c.from_residual-in_err-push.result c.from_residual-in_err-push.ensures.1 in
    rw (p.1, p.2) (record { parts = record { commons = refl; pass = refl; trace = refl; steps = refl }; kept = kept-same c.args.call.now.commons.now c.args.call.now.pass.now c.requires.of; continues = continues-none c.args.call.now.trace.now.events (known c.args.call.now.pass.now) }, tt)

pub returns-in_err-push-clause-call : goal.returns-in_err-push-clause-call
returns-in_err-push-clause-call g c = record { moment = refl; epoch = refl; keys = refl; bounds = refl; searches = inl c.in_err-push.ensures.err }

pub returns-in_err-push-clause-link : goal.returns-in_err-push-clause-link
returns-in_err-push-clause-link g c =
    let p = err_from_is_err_and c.from_residual-in_err-push.result c.from_residual-in_err-push.ensures.1 in
    rw (p.1, p.2) (inl (link-unused (link_seen (g.L.Link.calls c.args.link.now) (g.L.Link.link_faults c.args.link.now) (g.L.Link.web c.args.link.now)) c.args.call.now.trace.now (record c.args.call.now.trace.now { searches = c.push.new.self }) c.in_err-push.ensures.err), stumbled-nothing g.L.Link.gave c.args.link.now c.args.call.now.trace.now (record c.args.call.now.trace.now { searches = c.push.new.self }) c.in_err-push.ensures.err)

pub returns-in_err-push-clause-counted : goal.returns-in_err-push-clause-counted
returns-in_err-push-clause-counted g c = counts-none c.args.call.now.trace.now.checks c.args.call.now.trace.now.checks _ _ refl refl

pub returns-in_err-push-clause-told : goal.returns-in_err-push-clause-told
returns-in_err-push-clause-told g c = subst (λ l. IsTrueSoFar c.args.aim.now.age (record c.args.call.now.trace.now { searches = l })) (sym c.in_err-push.ensures.err) c.requires.told

-- ---- the round

pub drive-result-requires-clause-ready : goal.drive-result-requires-clause-ready
drive-result-requires-clause-ready g c = record {
  of = c.requires.of;
  holds = round-begins c.args.aim.now.age c.args.call.now.trace.now c.args.aim.now.leaf c.in_ok-begun.field-0 c.in_ok-search.search c.push.new.self c.in_ok-push.ensures.ok c.in_ok-search.ensures c.requires.told;
  good = round-good c.args.aim.now.age c.args.call.now.trace.now c.args.aim.now.leaf c.in_ok-begun.field-0 c.in_ok-search.search c.push.new.self c.in_ok-push.ensures.ok c.in_ok-search.ensures c.requires.good;
}

pub set-requires : goal.set-requires
set-requires g c =
    last-within c.args.call.now.trace.now.searches c.drive-result.new.call.trace.now.searches c.in_ok-begun.field-0 c.len-at.result c.len-at.ensures (c.drive-result.ensures.keeps.same.searches ∙ c.in_ok-push.ensures.ok)

pub returns-clause-acts : goal.returns-clause-acts
returns-clause-acts g c = acts-around c.args.call.now _ c.drive-result.new.call _ c.drive-result.result c.drive-result.ensures.keeps.acts (record { commons = refl; pass = refl; trace = refl; steps = refl }) (record { commons = refl; pass = refl; trace = refl; steps = refl }) refl refl refl refl

pub returns-clause-told : goal.returns-clause-told
returns-clause-told g c =
    let at = c.drive-result.ensures.keeps.same.searches ∙ c.in_ok-push.ensures.ok in
    let set = put-last c.args.call.now.trace.now.searches c.drive-result.new.call.trace.now.searches c.set.new.self c.in_ok-begun.field-0 c.drive-result.new.search c.len-at.result c.len-at.ensures at c.set.ensures in
    round-told c.args.aim.now.age c.drive-result.new.call.trace.now c.args.call.now.trace.now.searches c.in_ok-begun.field-0 c.drive-result.new.search c.set.new.self at set c.drive-result.ensures.keeps.holds

pub returns-clause-good : goal.returns-clause-good
returns-clause-good g c =
    let at = c.drive-result.ensures.keeps.same.searches ∙ c.in_ok-push.ensures.ok in
    let set = put-last c.args.call.now.trace.now.searches c.drive-result.new.call.trace.now.searches c.set.new.self c.in_ok-begun.field-0 c.drive-result.new.search c.len-at.result c.len-at.ensures at c.set.ensures in
    IfOk-weaker c.drive-result.result _ _
    (λ _ good. round-proved c.args.aim.now.age c.drive-result.new.call.trace.now c.args.call.now.trace.now.searches c.in_ok-begun.field-0 c.drive-result.new.search c.set.new.self at set good) c.drive-result.ensures.keeps.good

pub returns-clause-round : goal.returns-clause-round
returns-clause-round g c =
    let at = c.drive-result.ensures.keeps.same.searches ∙ c.in_ok-push.ensures.ok in
    let set = put-last c.args.call.now.trace.now.searches c.drive-result.new.call.trace.now.searches c.set.new.self c.in_ok-begun.field-0 c.drive-result.new.search c.len-at.result c.len-at.ensures at c.set.ensures in
    IfOk-weaker c.drive-result.result _ _
    (λ end is.
    record {
      search = c.drive-result.new.search;
      added = set;
      ends = round-ends c.args.aim.now c.args.call.now.trace.now c.drive-result.new.call.trace.now c.push.new.self c.set.new.self c.drive-result.new.search end is;
    })
    c.drive-result.ensures.round

pub returns-clause-call : goal.returns-clause-call
returns-clause-call g c =
    let at = c.drive-result.ensures.keeps.same.searches ∙ c.in_ok-push.ensures.ok in
    let set = put-last c.args.call.now.trace.now.searches c.drive-result.new.call.trace.now.searches c.set.new.self c.in_ok-begun.field-0 c.drive-result.new.search c.len-at.result c.len-at.ensures at c.set.ensures in
    let same = c.drive-result.ensures.keeps.same in
    record { moment = same.moment; epoch = same.epoch; keys = same.keys; bounds = same.bounds; searches = inr (c.drive-result.new.search, set) }

pub returns-clause-link : goal.returns-clause-link
returns-clause-link g c =
    let at = c.drive-result.ensures.keeps.same.searches ∙ c.in_ok-push.ensures.ok in
    let set = put-last c.args.call.now.trace.now.searches c.drive-result.new.call.trace.now.searches c.set.new.self c.in_ok-begun.field-0 c.drive-result.new.search c.len-at.result c.len-at.ensures at c.set.ensures in
    round-used (link_view g.L.Link.calls g.L.Link.link_faults g.L.Link.web g.L.Link.gave) c.args.link.now c.drive-result.new.link c.args.aim.now.leaf c.args.call.now.trace.now (record c.drive-result.new.call.trace.now { searches = c.set.new.self }) c.in_ok-search.search c.drive-result.new.search c.in_ok-search.ensures set c.drive-result.result c.drive-result.ensures.link

pub returns-clause-counted : goal.returns-clause-counted
returns-clause-counted g c = c.drive-result.ensures.keeps.counted
