use Rattle.std.proofs.Common.{Err, length, sym, ap, ◌∙◌, subst, inl}
use Rattle.std.proofs.lemmas.Result.{err_from_is_err_and}
use Rattle.turn_log.specs.Groups.{known}
use Rattle.resolve_round.specs.Told.{IsTrueSoFar}
use Rattle.resolve_round.specs.declared.aim.Aim.{Aim}
use Rattle.resolve_round.specs.Linking.{link_seen}
use Rattle.fed_resolver.specs.Calls.{WornOnly}
use Rattle.fed_resolver.specs.Going.{HasRounds, faults_in, last_search}
use Rattle.fed_resolver.specs.Refusals.{GoesBy, WalksBy, WholeBy, outcome_of, refused_by}
use Rattle.fed_resolver.specs.Stretches.{Goes, GoesTo, moment_at}
use Rattle.fed_resolver.specs.Told.{situation_of}
use Rattle.fed_resolver.specs.Uses.{CountsTests}
use Rattle.fed_resolver.proofs.BeginLaws.{counts-broken, whole-broken, worn-broken}
use Rattle.fed_resolver.proofs.SearchLaws.{begun-good, begun-true, leaf-found, leaf-refused}
use Rattle.resolve_round.proofs.CallLaws.{acted-of, acted-then}
use Rattle.fed_resolver.proofs.StretchLaws.{goes-on_to, goes-still, goes-then, parts-acted, parts-none, stumbled-still, stumbles-then, walks-then}
use Rattle.fed_resolver.proofs.TickLaws.{checks-counted, goes-answered, goes-broken, some-counted, walks-answered, walks-broken}
use Rattle.fed_resolver.proofs.WholeLaws.{counts-by, refused-answered, refused-unworn, whole-by}
use Rattle.fed_resolver.proofs.call.search.Goals as goal
use Rattle.fed_base.specs.Counts.{counted}

-- ---- memory was wanting at the beginning

pub returns-in_err-aim-clause-goes : goal.returns-in_err-aim-clause-goes
returns-in_err-aim-clause-goes g c =
    let here = situation_of c.args.request.now c.args.signer.now c.args.t in
    let seen = link_seen (g.L.Link.calls c.args.link.now) (g.L.Link.link_faults c.args.link.now) (g.L.Link.web c.args.link.now) in
    let p = err_from_is_err_and c.from_residual.result c.from_residual.ensures.1 in
    rw (p.1, p.2) (inl (goes-still c.args.signer.now.age (moment_at c.args.call.now.trace.now (known c.args.call.now.pass.now) seen) (begun-true here c.args.signer.now.age c.args.call.now.trace.now c.requires.begun)))

pub returns-in_err-aim-clause-walked : goal.returns-in_err-aim-clause-walked
returns-in_err-aim-clause-walked g c =
    let p = err_from_is_err_and c.from_residual.result c.from_residual.ensures.1 in
    rw (p.1, p.2) (stumbled-still g.L.Link.gave c.args.link.now c.args.call.now.trace.now)

pub returns-in_err-aim-clause-whole : goal.returns-in_err-aim-clause-whole
returns-in_err-aim-clause-whole g c = let p = err_from_is_err_and c.from_residual.result c.from_residual.ensures.1 in rw (p.1, p.2) tt

pub returns-in_err-aim-clause-worn : goal.returns-in_err-aim-clause-worn
returns-in_err-aim-clause-worn g c = let p = err_from_is_err_and c.from_residual.result c.from_residual.ensures.1 in rw (p.1, p.2) tt

pub returns-in_err-aim-clause-counted : goal.returns-in_err-aim-clause-counted
returns-in_err-aim-clause-counted g c =
    let ticks = g.G.Ledger.count c.args.call.now.steps.now.ledger in
    let p = err_from_is_err_and c.from_residual.result c.from_residual.ensures.1 in
    rw (p.1, p.2) (some-counted c.args.call.now.trace.now ticks ticks (sym (ap (λ cs. counted (length cs) ticks) c.requires.begun.checks)))

-- ---- the leaf's rounds

pub rounds_for-ended-requires-clause-ready : goal.rounds_for-ended-requires-clause-ready
rounds_for-ended-requires-clause-ready g c =
    record {
      of = c.requires.of;
      told = begun-true (situation_of c.args.request.now c.args.signer.now c.args.t) c.in_ok-aim.aim.age c.args.call.now.trace.now c.requires.begun;
      good = begun-good (situation_of c.args.request.now c.args.signer.now c.args.t) c.args.call.now.trace.now c.requires.begun;
    }

pub rounds_for-ended-requires-clause-looks : goal.rounds_for-ended-requires-clause-looks
rounds_for-ended-requires-clause-looks g c = ap (λ (a : Aim). a.looks) c.in_ok-aim.ensures

pub returns-in_err-end-clause-worn : goal.returns-in_err-end-clause-worn
returns-in_err-end-clause-worn g c =
    let p = err_from_is_err_and c.from_residual-in_err-end.result c.from_residual-in_err-end.ensures.1 in
    rw (p.1, p.2) (worn-broken (known c.rounds_for-ended.new.call.pass.now) c.in_err-end.field-0.0 c.in_err-end.ensures.acts.1)

pub returns-in_err-end-clause-goes : goal.returns-in_err-end-clause-goes
returns-in_err-end-clause-goes g c =
    let seen = link_seen (g.L.Link.calls c.args.link.now) (g.L.Link.link_faults c.args.link.now) (g.L.Link.web c.args.link.now) in
    let now = link_seen (g.L.Link.calls c.rounds_for-ended.new.link) (g.L.Link.link_faults c.rounds_for-ended.new.link) (g.L.Link.web c.rounds_for-ended.new.link) in
    let old_moment = moment_at c.args.call.now.trace.now (known c.args.call.now.pass.now) seen in
    let new_moment = moment_at c.rounds_for-ended.new.call.trace.now (known c.rounds_for-ended.new.call.pass.now) now in
    let p = err_from_is_err_and c.from_residual-in_err-end.result c.from_residual-in_err-end.ensures.1 in
    rw (p.1, p.2) (goes-broken c.args.signer.now.age old_moment new_moment c.in_err-end.field-0.0
    (subst (λ (a : Aim). GoesTo a.age old_moment new_moment c.in_err-end.field-0.0) c.in_ok-aim.ensures c.in_err-end.ensures.goes))

pub returns-in_err-end-clause-walked : goal.returns-in_err-end-clause-walked
returns-in_err-end-clause-walked g c =
    let p = err_from_is_err_and c.from_residual-in_err-end.result c.from_residual-in_err-end.ensures.1 in
    rw (p.1, p.2) (walks-broken g.L.Link.gave c.args.link.now c.rounds_for-ended.new.link c.args.call.now.trace.now c.rounds_for-ended.new.call.trace.now c.in_err-end.field-0.0 c.in_err-end.ensures.walked)

pub returns-in_err-end-clause-counted : goal.returns-in_err-end-clause-counted
returns-in_err-end-clause-counted g c =
    let here = situation_of c.args.request.now c.args.signer.now c.args.t in
    let ticks = g.G.Ledger.count c.args.call.now.steps.now.ledger in
    let later = g.G.Ledger.count c.rounds_for-ended.new.call.steps.now.ledger in
    let p = err_from_is_err_and c.from_residual-in_err-end.result c.from_residual-in_err-end.ensures.1 in
    let start = sym (ap (λ cs. counted (length cs) ticks) c.requires.begun.checks) in
    rw (p.1, p.2) (counts-broken here c.args.signer.now c.rounds_for-ended.new.call.trace.now c.in_err-end.field-0.0 ticks later
    (some-counted c.rounds_for-ended.new.call.trace.now ticks later (checks-counted c.args.call.now.trace.now.checks c.rounds_for-ended.new.call.trace.now.checks ticks ticks later start c.in_err-end.ensures.counted)))

-- ---- a chain was found

pub reply_on-requires-clause-ready : goal.reply_on-requires-clause-ready
reply_on-requires-clause-ready g c = λ lives within.
    record {
      of = acted-of c.args.call.now c.rounds_for-ended.new.call c.in_ok-end.ensures.acts;
      told = subst (λ (a : Aim). IsTrueSoFar a.age c.rounds_for-ended.new.call.trace.now) c.in_ok-aim.ensures c.in_ok-end.ensures.goes.told;
      good = c.in_ok-end.ensures.good;
    }

pub reply_on-requires-clause-leaf : goal.reply_on-requires-clause-leaf
reply_on-requires-clause-leaf g c = λ lives within.
    let seen = link_seen (g.L.Link.calls c.args.link.now) (g.L.Link.link_faults c.args.link.now) (g.L.Link.web c.args.link.now) in
    let now = link_seen (g.L.Link.calls c.rounds_for-ended.new.link) (g.L.Link.link_faults c.rounds_for-ended.new.link) (g.L.Link.web c.rounds_for-ended.new.link) in
    let old_moment = moment_at c.args.call.now.trace.now (known c.args.call.now.pass.now) seen in
    let new_moment = moment_at c.rounds_for-ended.new.call.trace.now (known c.rounds_for-ended.new.call.pass.now) now in
    let goes = subst (λ (a : Aim). Goes a.age 0 old_moment new_moment) c.in_ok-aim.ensures c.in_ok-end.ensures.goes in
    let has = subst (λ (a : Aim). HasRounds a c.args.call.now.trace.now c.rounds_for-ended.new.call.trace.now c.in_ok-end.field-0) c.in_ok-aim.ensures c.in_ok-end.ensures.rounds in
    leaf-found c.args.request.now c.args.signer.now c.args.t c.args.call.now.trace.now c.rounds_for-ended.new.call.trace.now (known c.args.call.now.pass.now) (known c.rounds_for-ended.new.call.pass.now) seen now c.requires.begun goes c.in_ok-end.field-0 has c.in-Some.chain c.in-Some.is

pub returns-in_err-reply-in-Some-clause-worn : goal.returns-in_err-reply-in-Some-clause-worn
returns-in_err-reply-in-Some-clause-worn g c =
    let p = err_from_is_err_and c.from_residual-in_err-reply-in-Some.result c.from_residual-in_err-reply-in-Some.ensures.1 in
    rw (p.1, p.2) (worn-broken (known c.reply_on.new.call.pass.now) c.in_err-reply-in-Some.field-0.0 c.in_err-reply-in-Some.ensures.acts.1)

pub returns-in_err-reply-in-Some-clause-goes : goal.returns-in_err-reply-in-Some-clause-goes
returns-in_err-reply-in-Some-clause-goes g c =
    let first = moment_at c.args.call.now.trace.now (known c.args.call.now.pass.now) (link_seen (g.L.Link.calls c.args.link.now) (g.L.Link.link_faults c.args.link.now) (g.L.Link.web c.args.link.now)) in
    let mid = moment_at c.rounds_for-ended.new.call.trace.now (known c.rounds_for-ended.new.call.pass.now) (link_seen (g.L.Link.calls c.rounds_for-ended.new.link) (g.L.Link.link_faults c.rounds_for-ended.new.link) (g.L.Link.web c.rounds_for-ended.new.link)) in
    let last = moment_at c.reply_on.new.call.trace.now (known c.reply_on.new.call.pass.now) (link_seen (g.L.Link.calls c.reply_on.new.link) (g.L.Link.link_faults c.reply_on.new.link) (g.L.Link.web c.reply_on.new.link)) in
    let goes = subst (λ (a : Aim). Goes a.age 0 first mid) c.in_ok-aim.ensures c.in_ok-end.ensures.goes in
    let p = err_from_is_err_and c.from_residual-in_err-reply-in-Some.result c.from_residual-in_err-reply-in-Some.ensures.1 in
    let h = c.in_err-reply-in-Some.field-0.0 in
    rw (p.1, p.2) (goes-broken c.args.signer.now.age first last h (goes-on_to c.args.signer.now.age first mid last h goes c.in_err-reply-in-Some.ensures.goes))

pub returns-in_err-reply-in-Some-clause-whole : goal.returns-in_err-reply-in-Some-clause-whole
returns-in_err-reply-in-Some-clause-whole g c =
    let here = situation_of c.args.request.now c.args.signer.now c.args.t in
    let p = err_from_is_err_and c.from_residual-in_err-reply-in-Some.result c.from_residual-in_err-reply-in-Some.ensures.1 in
    rw (p.1, p.2) (whole-broken here c.args.signer.now c.reply_on.new.call.trace.now c.in_err-reply-in-Some.field-0.0)

pub returns-in_err-reply-in-Some-clause-walked : goal.returns-in_err-reply-in-Some-clause-walked
returns-in_err-reply-in-Some-clause-walked g c =
    let p = err_from_is_err_and c.from_residual-in_err-reply-in-Some.result c.from_residual-in_err-reply-in-Some.ensures.1 in
    rw (p.1, p.2) (walks-broken g.L.Link.gave c.args.link.now c.reply_on.new.link c.args.call.now.trace.now c.reply_on.new.call.trace.now c.in_err-reply-in-Some.field-0.0
    (stumbles-then g.L.Link.gave c.args.link.now c.rounds_for-ended.new.link c.reply_on.new.link c.args.call.now.trace.now c.rounds_for-ended.new.call.trace.now c.reply_on.new.call.trace.now c.in_ok-end.ensures.walked c.in_err-reply-in-Some.ensures.walked))

pub returns-in_err-reply-in-Some-clause-counted : goal.returns-in_err-reply-in-Some-clause-counted
returns-in_err-reply-in-Some-clause-counted g c =
    let here = situation_of c.args.request.now c.args.signer.now c.args.t in
    let ticks = g.G.Ledger.count c.args.call.now.steps.now.ledger in
    let p = err_from_is_err_and c.from_residual-in_err-reply-in-Some.result c.from_residual-in_err-reply-in-Some.ensures.1 in
    let start = sym (ap (λ cs. counted (length cs) ticks) c.requires.begun.checks) in
    let mid = checks-counted c.args.call.now.trace.now.checks c.rounds_for-ended.new.call.trace.now.checks ticks ticks (g.G.Ledger.count c.rounds_for-ended.new.call.steps.now.ledger) start c.in_ok-end.ensures.counted in
    rw (p.1, p.2) (counts-broken here c.args.signer.now c.reply_on.new.call.trace.now c.in_err-reply-in-Some.field-0.0 ticks (g.G.Ledger.count c.reply_on.new.call.steps.now.ledger) (c.in_err-reply-in-Some.ensures.counted ticks mid))

pub returns-in_ok-reply-in-Some-clause-goes : goal.returns-in_ok-reply-in-Some-clause-goes
returns-in_ok-reply-in-Some-clause-goes g c =
    let first = moment_at c.args.call.now.trace.now (known c.args.call.now.pass.now) (link_seen (g.L.Link.calls c.args.link.now) (g.L.Link.link_faults c.args.link.now) (g.L.Link.web c.args.link.now)) in
    let mid = moment_at c.rounds_for-ended.new.call.trace.now (known c.rounds_for-ended.new.call.pass.now) (link_seen (g.L.Link.calls c.rounds_for-ended.new.link) (g.L.Link.link_faults c.rounds_for-ended.new.link) (g.L.Link.web c.rounds_for-ended.new.link)) in
    let last = moment_at c.reply_on.new.call.trace.now (known c.reply_on.new.call.pass.now) (link_seen (g.L.Link.calls c.reply_on.new.link) (g.L.Link.link_faults c.reply_on.new.link) (g.L.Link.web c.reply_on.new.link)) in
    let goes = subst (λ (a : Aim). Goes a.age 0 first mid) c.in_ok-aim.ensures c.in_ok-end.ensures.goes in
    goes-then c.args.signer.now.age 0 first mid last goes c.in_ok-reply-in-Some.ensures.goes

pub returns-in_ok-reply-in-Some-clause-walked : goal.returns-in_ok-reply-in-Some-clause-walked
returns-in_ok-reply-in-Some-clause-walked g c =
    walks-then g.L.Link.gave c.args.link.now c.rounds_for-ended.new.link c.reply_on.new.link c.args.call.now.trace.now c.rounds_for-ended.new.call.trace.now c.reply_on.new.call.trace.now c.in_ok-end.ensures.walked c.in_ok-reply-in-Some.ensures.walked

pub returns-in_ok-reply-in-Some-clause-counted : goal.returns-in_ok-reply-in-Some-clause-counted
returns-in_ok-reply-in-Some-clause-counted g c =
    let ticks = g.G.Ledger.count c.args.call.now.steps.now.ledger in
    let start = sym (ap (λ cs. counted (length cs) ticks) c.requires.begun.checks) in
    let mid = checks-counted c.args.call.now.trace.now.checks c.rounds_for-ended.new.call.trace.now.checks ticks ticks (g.G.Ledger.count c.rounds_for-ended.new.call.steps.now.ledger) start c.in_ok-end.ensures.counted in
    c.in_ok-reply-in-Some.ensures.counted ticks mid

-- ---- none was

pub returns-in-None-clause-goes : goal.returns-in-None-clause-goes
returns-in-None-clause-goes g c =
    let first = moment_at c.args.call.now.trace.now (known c.args.call.now.pass.now) (link_seen (g.L.Link.calls c.args.link.now) (g.L.Link.link_faults c.args.link.now) (g.L.Link.web c.args.link.now)) in
    let mid = moment_at c.rounds_for-ended.new.call.trace.now (known c.rounds_for-ended.new.call.pass.now) (link_seen (g.L.Link.calls c.rounds_for-ended.new.link) (g.L.Link.link_faults c.rounds_for-ended.new.link) (g.L.Link.web c.rounds_for-ended.new.link)) in
    let goes = subst (λ (a : Aim). Goes a.age 0 first mid) c.in_ok-aim.ensures c.in_ok-end.ensures.goes in
    let faults = c.last_faults.result in
    let answered = refused-answered c.in_ok-end.field-0.end faults in
    subst (λ r. GoesBy c.args.signer.now.age first mid (Err r)) (sym c.refused_by.ensures) (goes-answered c.args.signer.now.age first mid (Err (refused_by c.in_ok-end.field-0.end faults)) answered goes)

pub returns-in-None-clause-walked : goal.returns-in-None-clause-walked
returns-in-None-clause-walked g c =
    let faults = c.last_faults.result in
    subst (λ r. WalksBy g.L.Link.gave c.args.link.now c.rounds_for-ended.new.link c.args.call.now.trace.now c.rounds_for-ended.new.call.trace.now (Err r)) (sym c.refused_by.ensures)
    (walks-answered g.L.Link.gave c.args.link.now c.rounds_for-ended.new.link c.args.call.now.trace.now c.rounds_for-ended.new.call.trace.now (Err (refused_by c.in_ok-end.field-0.end faults)) (refused-answered c.in_ok-end.field-0.end faults) c.in_ok-end.ensures.walked)

pub returns-in-None-clause-worn : goal.returns-in-None-clause-worn
returns-in-None-clause-worn g c =
    subst (λ r. WornOnly (known c.rounds_for-ended.new.call.pass.now) (Err r)) (sym c.refused_by.ensures) (refused-unworn (known c.rounds_for-ended.new.call.pass.now) c.in_ok-end.field-0.end c.last_faults.result)

pub returns-in-None-clause-whole : goal.returns-in-None-clause-whole
returns-in-None-clause-whole g c =
    let here = situation_of c.args.request.now c.args.signer.now c.args.t in
    let first = moment_at c.args.call.now.trace.now (known c.args.call.now.pass.now) (link_seen (g.L.Link.calls c.args.link.now) (g.L.Link.link_faults c.args.link.now) (g.L.Link.web c.args.link.now)) in
    let mid = moment_at c.rounds_for-ended.new.call.trace.now (known c.rounds_for-ended.new.call.pass.now) (link_seen (g.L.Link.calls c.rounds_for-ended.new.link) (g.L.Link.link_faults c.rounds_for-ended.new.link) (g.L.Link.web c.rounds_for-ended.new.link)) in
    let goes = subst (λ (a : Aim). Goes a.age 0 first mid) c.in_ok-aim.ensures c.in_ok-end.ensures.goes in
    let has = subst (λ (a : Aim). HasRounds a c.args.call.now.trace.now c.rounds_for-ended.new.call.trace.now c.in_ok-end.field-0) c.in_ok-aim.ensures c.in_ok-end.ensures.rounds in
    let faults = c.last_faults.result in
    let are = c.last_faults.ensures ∙ ap (λ l. faults_in (last_search l)) c.as_slice.ensures in
    let ticks = g.G.Ledger.count c.args.call.now.steps.now.ledger in
    let later = g.G.Ledger.count c.rounds_for-ended.new.call.steps.now.ledger in
    let start = sym (ap (λ cs. counted (length cs) ticks) c.requires.begun.checks) in
    let count = checks-counted c.args.call.now.trace.now.checks c.rounds_for-ended.new.call.trace.now.checks ticks ticks later start c.in_ok-end.ensures.counted in
    let answered = refused-answered c.in_ok-end.field-0.end faults in
    let all = leaf-refused c.args.request.now c.args.signer.now c.args.t c.args.call.now.trace.now c.rounds_for-ended.new.call.trace.now (known c.args.call.now.pass.now) (known c.rounds_for-ended.new.call.pass.now) (link_seen (g.L.Link.calls c.args.link.now) (g.L.Link.link_faults c.args.link.now) (g.L.Link.web c.args.link.now)) (link_seen (g.L.Link.calls c.rounds_for-ended.new.link) (g.L.Link.link_faults c.rounds_for-ended.new.link) (g.L.Link.web c.rounds_for-ended.new.link))
    c.requires.begun goes c.in_ok-end.field-0 has c.in-None.is c.in_ok-end.ensures.good faults are ticks later count in
    subst (λ r. WholeBy here c.args.signer.now c.rounds_for-ended.new.call.trace.now (Err r)) (sym c.refused_by.ensures)
    (whole-by here c.args.signer.now c.rounds_for-ended.new.call.trace.now (Err (refused_by c.in_ok-end.field-0.end faults)) answered all.whole)

pub returns-in-None-clause-counted : goal.returns-in-None-clause-counted
returns-in-None-clause-counted g c =
    let here = situation_of c.args.request.now c.args.signer.now c.args.t in
    let first = moment_at c.args.call.now.trace.now (known c.args.call.now.pass.now) (link_seen (g.L.Link.calls c.args.link.now) (g.L.Link.link_faults c.args.link.now) (g.L.Link.web c.args.link.now)) in
    let mid = moment_at c.rounds_for-ended.new.call.trace.now (known c.rounds_for-ended.new.call.pass.now) (link_seen (g.L.Link.calls c.rounds_for-ended.new.link) (g.L.Link.link_faults c.rounds_for-ended.new.link) (g.L.Link.web c.rounds_for-ended.new.link)) in
    let goes = subst (λ (a : Aim). Goes a.age 0 first mid) c.in_ok-aim.ensures c.in_ok-end.ensures.goes in
    let has = subst (λ (a : Aim). HasRounds a c.args.call.now.trace.now c.rounds_for-ended.new.call.trace.now c.in_ok-end.field-0) c.in_ok-aim.ensures c.in_ok-end.ensures.rounds in
    let faults = c.last_faults.result in
    let are = c.last_faults.ensures ∙ ap (λ l. faults_in (last_search l)) c.as_slice.ensures in
    let ticks = g.G.Ledger.count c.args.call.now.steps.now.ledger in
    let later = g.G.Ledger.count c.rounds_for-ended.new.call.steps.now.ledger in
    let start = sym (ap (λ cs. counted (length cs) ticks) c.requires.begun.checks) in
    let count = checks-counted c.args.call.now.trace.now.checks c.rounds_for-ended.new.call.trace.now.checks ticks ticks later start c.in_ok-end.ensures.counted in
    let answered = refused-answered c.in_ok-end.field-0.end faults in
    let all = leaf-refused c.args.request.now c.args.signer.now c.args.t c.args.call.now.trace.now c.rounds_for-ended.new.call.trace.now (known c.args.call.now.pass.now) (known c.rounds_for-ended.new.call.pass.now) (link_seen (g.L.Link.calls c.args.link.now) (g.L.Link.link_faults c.args.link.now) (g.L.Link.web c.args.link.now)) (link_seen (g.L.Link.calls c.rounds_for-ended.new.link) (g.L.Link.link_faults c.rounds_for-ended.new.link) (g.L.Link.web c.rounds_for-ended.new.link))
    c.requires.begun goes c.in_ok-end.field-0 has c.in-None.is c.in_ok-end.ensures.good faults are ticks later count in
    subst (λ r. CountsTests here c.args.signer.now (outcome_of (Err r) c.rounds_for-ended.new.call.trace.now) (Err r) ticks later) (sym c.refused_by.ensures)
    (counts-by here c.args.signer.now c.rounds_for-ended.new.call.trace.now (Err (refused_by c.in_ok-end.field-0.end faults)) ticks later answered all)

-- ---- what stays

pub returns-in_err-aim-clause-keeps : goal.returns-in_err-aim-clause-keeps
returns-in_err-aim-clause-keeps g c =
    parts-none c.args.call.now c.requires.of

pub returns-in_err-end-clause-keeps : goal.returns-in_err-end-clause-keeps
returns-in_err-end-clause-keeps g c =
    parts-acted c.args.call.now c.rounds_for-ended.new.call c.in_err-end.ensures.acts.0

pub returns-in_err-reply-in-Some-clause-keeps : goal.returns-in_err-reply-in-Some-clause-keeps
returns-in_err-reply-in-Some-clause-keeps g c =
    parts-acted c.args.call.now c.reply_on.new.call (acted-then c.args.call.now c.rounds_for-ended.new.call c.reply_on.new.call c.in_ok-end.ensures.acts c.in_err-reply-in-Some.ensures.acts.0)

pub returns-in_ok-reply-in-Some-clause-keeps : goal.returns-in_ok-reply-in-Some-clause-keeps
returns-in_ok-reply-in-Some-clause-keeps g c =
    parts-acted c.args.call.now c.reply_on.new.call (acted-then c.args.call.now c.rounds_for-ended.new.call c.reply_on.new.call c.in_ok-end.ensures.acts c.in_ok-reply-in-Some.ensures.acts)

pub returns-in-None-clause-keeps : goal.returns-in-None-clause-keeps
returns-in-None-clause-keeps g c =
    parts-acted c.args.call.now c.rounds_for-ended.new.call c.in_ok-end.ensures.acts
