use Rattle.std.proofs.Common.{Err, refl, sym, ap, subst}
use Rattle.std.proofs.lemmas.Result.{err_from_is_err_and}
use Rattle.turn_log.specs.Groups.{known}
use Rattle.chain_climb.specs.Elements.{Among}
use Rattle.resolve_round.specs.declared.trace.Trace.{Trace}
use Rattle.resolve_round.specs.Acts.{GainsEvents}
use Rattle.resolve_round.specs.Linking.{link_seen}
use Rattle.resolve_reply.specs.Bounds.{bounds_for}
use Rattle.fed_resolver.specs.Going.{IsBlank}
use Rattle.fed_resolver.specs.Refusals.{outcome_of}
use Rattle.fed_resolver.specs.Stretches.{moment_at}
use Rattle.fed_resolver.specs.Told.{situation_of}
use Rattle.fed_resolver.proofs.AnsweredLaws.{blank-counts, blank-resolves, can-take, gave-bare, last-searches, link-bare, taken-begun, taken-counts, taken-resolves}
use Rattle.fed_resolver.proofs.SearchLaws.{goes-any, searched-resolves}
use Rattle.fed_resolver.proofs.SpeakLaws.{complete-from}
use Rattle.fed_resolver.proofs.StretchLaws.{parts-behind}
use Rattle.fed_resolver.proofs.TickLaws.{gave-all, link-by}
use Rattle.fed_resolver.proofs.call.answer.Goals as goal

-- ---- the book wasn't read

pub returns-in_err-read_book-clause-resolves : goal.returns-in_err-read_book-clause-resolves
returns-in_err-read_book-clause-resolves g c =
    let here = situation_of c.args.request.now c.args.signer.now c.args.t in
    let p = err_from_is_err_and c.from_residual.result c.from_residual.ensures.1 in
    let made = c.in_err-read_book.ensures in
    let blank = subst (IsBlank (bounds_for c.args.signer.now.bounds c.args.request.now.anchor) c.args.t) (sym made.unread) c.requires.blank in
    rw p.1 (blank-resolves here c.args.signer.now c.read_book.new.trace blank c.in_err-read_book.field-0.0 p.0 p.2 (known c.args.call.now.pass.now) (known c.read_book.new.pass) made.gains made.fresh made.halt)

pub returns-in_err-read_book-clause-link : goal.returns-in_err-read_book-clause-link
returns-in_err-read_book-clause-link g c =
    let blank = subst (IsBlank (bounds_for c.args.signer.now.bounds c.args.request.now.anchor) c.args.t) (sym c.in_err-read_book.ensures.unread) c.requires.blank in
    link-bare c.read_book.new.trace blank.searches (link_seen (g.L.Link.calls c.args.link.now) (g.L.Link.link_faults c.args.link.now) (g.L.Link.web c.args.link.now)) c.from_residual.result

pub returns-in_err-read_book-clause-walked : goal.returns-in_err-read_book-clause-walked
returns-in_err-read_book-clause-walked g c =
    let blank = subst (IsBlank (bounds_for c.args.signer.now.bounds c.args.request.now.anchor) c.args.t) (sym c.in_err-read_book.ensures.unread) c.requires.blank in
    gave-bare c.read_book.new.trace blank.searches g.L.Link.gave c.args.link.now c.from_residual.result

pub returns-in_err-read_book-clause-counted : goal.returns-in_err-read_book-clause-counted
returns-in_err-read_book-clause-counted g c =
    let here = situation_of c.args.request.now c.args.signer.now c.args.t in
    let p = err_from_is_err_and c.from_residual.result c.from_residual.ensures.1 in
    let blank = subst (IsBlank (bounds_for c.args.signer.now.bounds c.args.request.now.anchor) c.args.t) (sym c.in_err-read_book.ensures.unread) c.requires.blank in
    rw p.1 (blank-counts here c.args.signer.now c.read_book.new.trace blank c.in_err-read_book.field-0.0 p.0 p.2 (g.G.Ledger.count c.args.call.now.steps.now.ledger))

-- ---- its keys weren't taken

pub take_keys-requires : goal.take_keys-requires
take_keys-requires g c =
    can-take (situation_of c.args.request.now c.args.signer.now c.args.t) c.args.call.now.trace.now c.read_book.new.trace c.requires.blank c.in_ok-read_book.ensures.read

pub returns-in_err-take_keys-clause-resolves : goal.returns-in_err-take_keys-clause-resolves
returns-in_err-take_keys-clause-resolves g c =
    let here = situation_of c.args.request.now c.args.signer.now c.args.t in
    let p = err_from_is_err_and c.from_residual-in_err-take_keys.result c.from_residual-in_err-take_keys.ensures.1 in
    let made = c.in_ok-read_book.ensures in
    rw (p.1, p.2) (taken-resolves here c.args.call.now.trace.now c.read_book.new.trace c.requires.blank made.read c.args.signer.now c.take_keys.new.trace (known c.args.call.now.pass.now) (known c.read_book.new.pass) made.gains made.fresh c.in_err-take_keys.field-0.0 c.in_err-take_keys.ensures)

pub returns-in_err-take_keys-clause-link : goal.returns-in_err-take_keys-clause-link
returns-in_err-take_keys-clause-link g c =
    let here = situation_of c.args.request.now c.args.signer.now c.args.t in
    let none = last-searches here c.args.call.now.trace.now c.read_book.new.trace c.requires.blank c.in_ok-read_book.ensures.read c.take_keys.new.trace (Err c.in_err-take_keys.field-0.0) c.in_err-take_keys.ensures in
    link-bare c.take_keys.new.trace none (link_seen (g.L.Link.calls c.args.link.now) (g.L.Link.link_faults c.args.link.now) (g.L.Link.web c.args.link.now)) c.from_residual-in_err-take_keys.result

pub returns-in_err-take_keys-clause-walked : goal.returns-in_err-take_keys-clause-walked
returns-in_err-take_keys-clause-walked g c =
    let here = situation_of c.args.request.now c.args.signer.now c.args.t in
    let none = last-searches here c.args.call.now.trace.now c.read_book.new.trace c.requires.blank c.in_ok-read_book.ensures.read c.take_keys.new.trace (Err c.in_err-take_keys.field-0.0) c.in_err-take_keys.ensures in
    gave-bare c.take_keys.new.trace none g.L.Link.gave c.args.link.now c.from_residual-in_err-take_keys.result

pub returns-in_err-take_keys-clause-counted : goal.returns-in_err-take_keys-clause-counted
returns-in_err-take_keys-clause-counted g c =
    let here = situation_of c.args.request.now c.args.signer.now c.args.t in
    let p = err_from_is_err_and c.from_residual-in_err-take_keys.result c.from_residual-in_err-take_keys.ensures.1 in
    let made = c.in_ok-read_book.ensures in
    rw (p.1, p.2) (taken-counts here c.args.call.now.trace.now c.read_book.new.trace c.requires.blank made.read c.args.signer.now c.take_keys.new.trace (known c.args.call.now.pass.now) (known c.read_book.new.pass) made.gains made.fresh c.in_err-take_keys.field-0.0 c.in_err-take_keys.ensures
    (g.G.Ledger.count c.args.call.now.steps.now.ledger))

-- ---- the search

pub search-requires-clause-begun : goal.search-requires-clause-begun
search-requires-clause-begun g c = λ lives within.
    taken-begun (situation_of c.args.request.now c.args.signer.now c.args.t) c.args.call.now.trace.now c.read_book.new.trace c.requires.blank c.in_ok-read_book.ensures.read c.take_keys.new.trace c.in_ok-take_keys.ensures

pub returns-clause-resolves : goal.returns-clause-resolves
returns-clause-resolves g c =
    let here = situation_of c.args.request.now c.args.signer.now c.args.t in
    let made = c.in_ok-read_book.ensures in
    let begun = taken-begun here c.args.call.now.trace.now c.read_book.new.trace c.requires.blank made.read c.take_keys.new.trace c.in_ok-take_keys.ensures in
    let same = ap (λ (t : Trace). t.events) c.in_ok-take_keys.ensures.same in
    searched-resolves c.args.request.now c.args.signer.now c.args.t (known c.args.call.now.pass.now) (known c.read_book.new.pass) (known c.search.new.call.pass.now) c.take_keys.new.trace c.search.new.call.trace.now
    (link_seen (g.L.Link.calls c.args.link.now) (g.L.Link.link_faults c.args.link.now) (g.L.Link.web c.args.link.now))
    (link_seen (g.L.Link.calls c.search.new.link) (g.L.Link.link_faults c.search.new.link) (g.L.Link.web c.search.new.link))
    c.search.result begun (subst (GainsEvents (known c.args.call.now.pass.now) (known c.read_book.new.pass)) (sym same) made.gains)
    (λ anchors at epoch keys among. made.fresh anchors at epoch keys (subst (Among _) same among))
    c.search.ensures.goes c.search.ensures.whole c.search.ensures.worn

pub returns-clause-link : goal.returns-clause-link
returns-clause-link g c =
    let here = situation_of c.args.request.now c.args.signer.now c.args.t in
    let begun = taken-begun here c.args.call.now.trace.now c.read_book.new.trace c.requires.blank c.in_ok-read_book.ensures.read c.take_keys.new.trace c.in_ok-take_keys.ensures in
    let seen = link_seen (g.L.Link.calls c.args.link.now) (g.L.Link.link_faults c.args.link.now) (g.L.Link.web c.args.link.now) in
    let now = link_seen (g.L.Link.calls c.search.new.link) (g.L.Link.link_faults c.search.new.link) (g.L.Link.web c.search.new.link) in
    let old_moment = moment_at c.take_keys.new.trace (known c.read_book.new.pass) seen in
    let new_moment = moment_at c.search.new.call.trace.now (known c.search.new.call.pass.now) now in
    let any = goes-any c.args.signer.now.age old_moment new_moment c.search.result c.search.ensures.goes in
    link-by c.args.signer.now.age old_moment new_moment c.search.result begun.searches any.1.told.counts c.search.ensures.goes

pub returns-clause-walked : goal.returns-clause-walked
returns-clause-walked g c =
    let here = situation_of c.args.request.now c.args.signer.now c.args.t in
    let begun = taken-begun here c.args.call.now.trace.now c.read_book.new.trace c.requires.blank c.in_ok-read_book.ensures.read c.take_keys.new.trace c.in_ok-take_keys.ensures in
    gave-all g.L.Link.gave c.args.link.now c.search.new.link c.take_keys.new.trace c.search.new.call.trace.now begun.searches c.search.result c.search.ensures.walked

-- ---- what the result says of the web

pub returns-in_err-read_book-clause-complete : goal.returns-in_err-read_book-clause-complete
returns-in_err-read_book-clause-complete g c =
    let link = returns-in_err-read_book-clause-link g c in
    complete-from (situation_of c.args.request.now c.args.signer.now c.args.t) c.args.signer.now (g.L.Link.web c.args.link.now) (g.L.Link.link_faults c.args.link.now) (g.L.Link.link_faults c.args.link.now)
    (outcome_of c.from_residual.result c.read_book.new.trace) (returns-in_err-read_book-clause-resolves g c).tells link.fetched link.faults

pub returns-in_err-take_keys-clause-complete : goal.returns-in_err-take_keys-clause-complete
returns-in_err-take_keys-clause-complete g c =
    let link = returns-in_err-take_keys-clause-link g c in
    complete-from (situation_of c.args.request.now c.args.signer.now c.args.t) c.args.signer.now (g.L.Link.web c.args.link.now) (g.L.Link.link_faults c.args.link.now) (g.L.Link.link_faults c.args.link.now)
    (outcome_of c.from_residual-in_err-take_keys.result c.take_keys.new.trace) (returns-in_err-take_keys-clause-resolves g c).tells link.fetched link.faults

pub returns-clause-complete : goal.returns-clause-complete
returns-clause-complete g c =
    let link = returns-clause-link g c in
    complete-from (situation_of c.args.request.now c.args.signer.now c.args.t) c.args.signer.now (g.L.Link.web c.args.link.now) (g.L.Link.link_faults c.args.link.now) (g.L.Link.link_faults c.search.new.link)
    (outcome_of c.search.result c.search.new.call.trace.now) (returns-clause-resolves g c).tells link.fetched link.faults

-- ---- what stays

pub search-requires-clause-of : goal.search-requires-clause-of
search-requires-clause-of g c = λ lives within.
    c.in_ok-read_book.ensures.kept.of

pub returns-in_err-read_book-clause-parts : goal.returns-in_err-read_book-clause-parts
returns-in_err-read_book-clause-parts g c = record { commons = refl; pass = refl; trace = refl; steps = refl }

pub returns-in_err-take_keys-clause-parts : goal.returns-in_err-take_keys-clause-parts
returns-in_err-take_keys-clause-parts g c = record { commons = refl; pass = refl; trace = refl; steps = refl }

pub returns-clause-parts : goal.returns-clause-parts
returns-clause-parts g c =
    (parts-behind c.args.call.now _ c.search.new.call c.search.ensures.keeps (record { parts = record { commons = refl; pass = refl; trace = refl; steps = refl }; kept = c.in_ok-read_book.ensures.kept })).parts

pub returns-clause-kept : goal.returns-clause-kept
returns-clause-kept g c =
    (parts-behind c.args.call.now _ c.search.new.call c.search.ensures.keeps (record { parts = record { commons = refl; pass = refl; trace = refl; steps = refl }; kept = c.in_ok-read_book.ensures.kept })).kept
