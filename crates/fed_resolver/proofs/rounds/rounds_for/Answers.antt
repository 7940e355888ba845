use Rattle.std.proofs.Common.{◌≡◌, ℕ, Ok, Err, true, false, refl, sym, ap, ◌∙◌}
use Rattle.std.proofs.lemmas.Result.{err_from_is_err_and}
use Rattle.resolve_round.specs.Linking.{link_view}
use Rattle.resolve_round.proofs.TestingLaws.{counts-sum}
use Rattle.resolve_round.proofs.CallLaws.{acted-by, acted-of, acts-then}
use Rattle.fed_resolver.specs.Going.{is_settled}
use Rattle.fed_resolver.specs.Stretches.{moment_of}
use Rattle.fed_resolver.proofs.CourseLaws.{rounds-again, rounds-settled}
use Rattle.fed_resolver.proofs.ResultLaws.{ok-if}
use Rattle.fed_resolver.proofs.StretchLaws.{goes-for-then, round-goes, round-walks, walks-for-then}
use Rattle.fed_resolver.proofs.rounds.rounds_for.Goals as goal

pub search_round-requires-clause-of : goal.search_round-requires-clause-of
search_round-requires-clause-of g c = c.requires.ready.of

pub search_round-requires-clause-told : goal.search_round-requires-clause-told
search_round-requires-clause-told g c = c.requires.ready.told

pub search_round-requires-clause-good : goal.search_round-requires-clause-good
search_round-requires-clause-good g c = c.requires.ready.good

-- ---- the first round broke off

pub returns-in_err-first-clause-acts : goal.returns-in_err-first-clause-acts
returns-in_err-first-clause-acts g c =
    let p = err_from_is_err_and c.from_residual.result c.from_residual.ensures.1 in
    rw (p.1, p.2) c.in_err-first.ensures.acts

pub returns-in_err-first-clause-goes : goal.returns-in_err-first-clause-goes
returns-in_err-first-clause-goes g c =
    let p = err_from_is_err_and c.from_residual.result c.from_residual.ensures.1 in
    rw (p.1, p.2) (round-goes (link_view g.L.Link.calls g.L.Link.link_faults g.L.Link.web g.L.Link.gave) {A = ℕ} c.args.call.now c.search_round.new.call c.args.link.now c.search_round.new.link c.args.aim.now.age (Err c.in_err-first.field-0.0) c.in_err-first.ensures.call c.in_err-first.ensures.told c.in_err-first.ensures.acts c.in_err-first.ensures.link)

pub returns-in_err-first-clause-walked : goal.returns-in_err-first-clause-walked
returns-in_err-first-clause-walked g c =
    let p = err_from_is_err_and c.from_residual.result c.from_residual.ensures.1 in
    rw p.1 (round-walks (link_view g.L.Link.calls g.L.Link.link_faults g.L.Link.web g.L.Link.gave) {A = ℕ} c.args.link.now c.search_round.new.link c.args.call.now.trace.now c.search_round.new.call.trace.now (Err c.in_err-first.field-0.0) c.in_err-first.ensures.link)

-- ---- it settles

pub returns-then-is_settled-clause-goes : goal.returns-then-is_settled-clause-goes
returns-then-is_settled-clause-goes g c = round-goes (link_view g.L.Link.calls g.L.Link.link_faults g.L.Link.web g.L.Link.gave) c.args.call.now c.search_round.new.call c.args.link.now c.search_round.new.link c.args.aim.now.age (Ok c.in_ok-first.first) c.in_ok-first.ensures.call c.in_ok-first.ensures.told c.in_ok-first.ensures.acts c.in_ok-first.ensures.link

pub returns-then-is_settled-clause-walked : goal.returns-then-is_settled-clause-walked
returns-then-is_settled-clause-walked g c = round-walks (link_view g.L.Link.calls g.L.Link.link_faults g.L.Link.web g.L.Link.gave) c.args.link.now c.search_round.new.link c.args.call.now.trace.now c.search_round.new.call.trace.now (Ok c.in_ok-first.first) c.in_ok-first.ensures.link

pub returns-then-is_settled-clause-rounds : goal.returns-then-is_settled-clause-rounds
returns-then-is_settled-clause-rounds g c =
    let is : is_settled c.in_ok-first.first c.search_round.new.call.trace.now.searches ≡ true =
    sym (c.is_settled.ensures ∙ ap (is_settled c.in_ok-first.first) c.as_slice.ensures) ∙ c.if-is_settled.true in
    rounds-settled c.args.aim.now c.requires.looks c.args.call.now.trace.now c.search_round.new.call.trace.now c.in_ok-first.first c.in_ok-first.ensures.round
    c.in_ok-first.ensures.acts.continues.more c.in_ok-first.ensures.acts.continues.are is

-- ---- another round

pub search_round-requires-2-clause-of : goal.search_round-requires-2-clause-of
search_round-requires-2-clause-of g c = acted-of c.args.call.now c.search_round.new.call c.in_ok-first.ensures.acts

pub returns-clause-acts : goal.returns-clause-acts
returns-clause-acts g c = acts-then c.args.call.now c.search_round.new.call c.search_round-2.new.call c.search_round-2.result c.in_ok-first.ensures.acts c.search_round-2.ensures.acts

pub returns-clause-goes : goal.returns-clause-goes
returns-clause-goes g c =
    let first = round-goes (link_view g.L.Link.calls g.L.Link.link_faults g.L.Link.web g.L.Link.gave) c.args.call.now c.search_round.new.call c.args.link.now c.search_round.new.link c.args.aim.now.age (Ok c.in_ok-first.first) c.in_ok-first.ensures.call c.in_ok-first.ensures.told c.in_ok-first.ensures.acts c.in_ok-first.ensures.link in
    let two = c.search_round-2.ensures in
    goes-for-then c.args.aim.now.age (moment_of (link_view g.L.Link.calls g.L.Link.link_faults g.L.Link.web g.L.Link.gave) c.args.call.now c.args.link.now) (moment_of (link_view g.L.Link.calls g.L.Link.link_faults g.L.Link.web g.L.Link.gave) c.search_round.new.call c.search_round.new.link) (moment_of (link_view g.L.Link.calls g.L.Link.link_faults g.L.Link.web g.L.Link.gave) c.search_round-2.new.call c.search_round-2.new.link) c.search_round-2.result first
    (round-goes (link_view g.L.Link.calls g.L.Link.link_faults g.L.Link.web g.L.Link.gave) c.search_round.new.call c.search_round-2.new.call c.search_round.new.link c.search_round-2.new.link c.args.aim.now.age c.search_round-2.result two.call two.told two.acts two.link)

pub returns-clause-walked : goal.returns-clause-walked
returns-clause-walked g c =
    walks-for-then g.L.Link.gave c.args.link.now c.search_round.new.link c.search_round-2.new.link c.args.call.now.trace.now c.search_round.new.call.trace.now c.search_round-2.new.call.trace.now c.search_round-2.result
    (round-walks (link_view g.L.Link.calls g.L.Link.link_faults g.L.Link.web g.L.Link.gave) c.args.link.now c.search_round.new.link c.args.call.now.trace.now c.search_round.new.call.trace.now (Ok c.in_ok-first.first) c.in_ok-first.ensures.link)
    (round-walks (link_view g.L.Link.calls g.L.Link.link_faults g.L.Link.web g.L.Link.gave) c.search_round.new.link c.search_round-2.new.link c.search_round.new.call.trace.now c.search_round-2.new.call.trace.now c.search_round-2.result c.search_round-2.ensures.link)

pub returns-clause-counted : goal.returns-clause-counted
returns-clause-counted g c = counts-sum c.args.call.now.trace.now.checks c.search_round.new.call.trace.now.checks c.search_round-2.new.call.trace.now.checks _ _ _ c.in_ok-first.ensures.counted c.search_round-2.ensures.counted

pub returns-clause-rounds : goal.returns-clause-rounds
returns-clause-rounds g c =
    let is : is_settled c.in_ok-first.first c.search_round.new.call.trace.now.searches ≡ false =
    sym (c.is_settled.ensures ∙ ap (is_settled c.in_ok-first.first) c.as_slice.ensures) ∙ c.if-is_settled.false in
    ok-if c.search_round-2.result _ _ c.search_round-2.ensures.round
    (λ end has. rounds-again c.args.aim.now c.requires.looks c.args.call.now.trace.now c.search_round.new.call.trace.now c.in_ok-first.first c.in_ok-first.ensures.round
    c.in_ok-first.ensures.acts.continues.more c.in_ok-first.ensures.acts.continues.are (record c.args.aim.now { looks = false }) refl c.in_ok-first.ensures.call c.search_round-2.new.call.trace.now end has
    (acted-by c.search_round.new.call c.search_round-2.new.call c.search_round-2.result c.search_round-2.ensures.acts).continues.more (acted-by c.search_round.new.call c.search_round-2.new.call c.search_round-2.result c.search_round-2.ensures.acts).continues.are is)
