use Rattle.std.proofs.Common.{◌<◌, List, true, false, refl, sym, ap, subst}
use Rattle.std.proofs.lemmas.Result.{err_from_is_err_and}
use Rattle.resolve_round.specs.declared.trace.Ask.{Ask}
use Rattle.resolve_round.specs.declared.trace.Got.TheVariants.{Hit}
use Rattle.resolve_round.specs.declared.trace.Search.{Search}
use Rattle.resolve_round.specs.Getting.{LooksUp, point}
use Rattle.resolve_round.specs.Knowing.{HoldsSoFar}
use Rattle.resolve_round.specs.Linking.{TriesLink, UsesLink, link_seen}
use Rattle.resolve_round.specs.Walking.{Stumbled, Walked}
use Rattle.resolve_round.proofs.CallLaws.{cache-break, cache-err, cache-none, cache-ok}
use Rattle.resolve_round.proofs.GettingLaws.{ask_of, holds-counts}
use Rattle.resolve_round.proofs.LinkLaws.{tries-by, uses-hit, uses-none}
use Rattle.resolve_round.proofs.PlaceLaws.{good-fetched, holds-fetched, place-before, place-fetched, place-none, place-told, room-left, spent-at}
use Rattle.resolve_round.proofs.WalkLaws.{stumbled-still, walked-none, walked-one}
use Rattle.resolve_round.proofs.getting.obtain.Goals as goal

abbrev asks_of : Search → List Ask
asks_of search = search.asks

-- ---- it was asked before

pub returns-in-Some-clause-uses : goal.returns-in-Some-clause-uses
returns-in-Some-clause-uses g c = cache-none c.args.call.now _ c.requires.ready.of

pub returns-in-Some-clause-holds : goal.returns-in-Some-clause-holds
returns-in-Some-clause-holds g c = c.requires.ready.holds

pub returns-in-Some-clause-good : goal.returns-in-Some-clause-good
returns-in-Some-clause-good g c = c.requires.ready.good

pub returns-in-Some-clause-link : goal.returns-in-Some-clause-link
returns-in-Some-clause-link g c = (
  uses-none (link_seen (g.L.Link.calls c.args.link.now) (g.L.Link.link_faults c.args.link.now) (g.L.Link.web c.args.link.now)) c.args.search.now c.args.search.now refl,
  walked-none g.L.Link.gave c.args.link.now c.args.link.now c.args.search.now.asks c.args.search.now.asks refl refl,
)

pub returns-in-Some-clause-source : goal.returns-in-Some-clause-source
returns-in-Some-clause-source g c =
    place-before c.args.aim.now c.args.url.now (point c.args.call.now.trace.now c.args.search.now) c.in-Some.at c.place_of.result
    (rw (c.as_slice.ensures, c.as_slice-2.ensures) at c.place_of.ensures) c.in-Some.is

-- ---- an object is worn, or memory was wanting

pub returns-in_err-on_shelf-clause-uses : goal.returns-in_err-on_shelf-clause-uses
returns-in_err-on_shelf-clause-uses g c =
    let p = err_from_is_err_and c.from_residual.result c.from_residual.ensures.1 in
    rw (p.1, p.2) (cache-err c.args.call.now c.on_shelf.new.call _ c.in_err-on_shelf.ensures.uses)

pub returns-in_err-on_shelf-clause-link : goal.returns-in_err-on_shelf-clause-link
returns-in_err-on_shelf-clause-link g c =
    let p = err_from_is_err_and c.from_residual.result c.from_residual.ensures.1 in
    let seen = link_seen (g.L.Link.calls c.args.link.now) (g.L.Link.link_faults c.args.link.now) (g.L.Link.web c.args.link.now) in
    rw p.1 (
      tries-by seen seen c.args.search.now c.on_shelf.new.search p.0 (uses-none seen c.args.search.now c.on_shelf.new.search c.in_err-on_shelf.ensures.err),
      stumbled-still g.L.Link.gave c.args.link.now c.args.link.now c.args.search.now.asks c.on_shelf.new.search.asks
          (walked-none g.L.Link.gave c.args.link.now c.args.link.now c.args.search.now.asks c.on_shelf.new.search.asks refl (ap asks_of c.in_err-on_shelf.ensures.err)),
    )

-- ---- the cache told it

pub returns-then-branch-clause-uses : goal.returns-then-branch-clause-uses
returns-then-branch-clause-uses g c = cache-ok c.args.call.now c.on_shelf.new.call _ _ c.in_ok-on_shelf.ensures.uses

pub returns-then-branch-clause-link : goal.returns-then-branch-clause-link
returns-then-branch-clause-link g c =
    let found : LooksUp c.args.aim.now.looks c.args.url.now (point c.args.call.now.trace.now c.args.search.now) (point c.on_shelf.new.call.trace.now c.on_shelf.new.search) true = rw c.if-branch.true at c.in_ok-on_shelf.ensures.found in (
      uses-hit (link_seen (g.L.Link.calls c.args.link.now) (g.L.Link.link_faults c.args.link.now) (g.L.Link.web c.args.link.now)) c.args.search.now c.on_shelf.new.search c.args.url.now (found.1).proven (found.1).is,
      walked-one g.L.Link.gave c.args.link.now c.args.link.now c.args.search.now.asks c.on_shelf.new.search.asks (ask_of c.args.url.now (Hit (found.1).proven)) (ap asks_of (found.1).is) refl,
    )

pub returns-then-branch-clause-source : goal.returns-then-branch-clause-source
returns-then-branch-clause-source g c =
    let none = rw (c.as_slice.ensures, c.as_slice-2.ensures) at c.place_of.ensures in
    let fresh = place-none c.args.url.now c.args.search.now c.place_of.result none c.in_default.is in
    let old = point c.args.call.now.trace.now c.args.search.now in
    let new = point c.on_shelf.new.call.trace.now c.on_shelf.new.search in
    let found : LooksUp c.args.aim.now.looks c.args.url.now old new true = rw c.if-branch.true at c.in_ok-on_shelf.ensures.found in
    place-told c.args.aim.now c.args.url.now old new c.len-at.result fresh c.len-at.ensures found.0 found.1

-- ---- all calls were made

pub returns-then-search-aim-clause-uses : goal.returns-then-search-aim-clause-uses
returns-then-search-aim-clause-uses g c = cache-ok c.args.call.now c.on_shelf.new.call _ _ c.in_ok-on_shelf.ensures.uses

pub returns-then-search-aim-clause-link : goal.returns-then-search-aim-clause-link
returns-then-search-aim-clause-link g c =
    let found : LooksUp c.args.aim.now.looks c.args.url.now (point c.args.call.now.trace.now c.args.search.now) (point c.on_shelf.new.call.trace.now c.on_shelf.new.search) false = rw c.if-branch.false at c.in_ok-on_shelf.ensures.found in (
      uses-none (link_seen (g.L.Link.calls c.args.link.now) (g.L.Link.link_faults c.args.link.now) (g.L.Link.web c.args.link.now)) c.args.search.now c.on_shelf.new.search found.is,
      walked-none g.L.Link.gave c.args.link.now c.args.link.now c.args.search.now.asks c.on_shelf.new.search.asks refl (ap asks_of found.is),
    )

pub returns-then-search-aim-clause-source : goal.returns-then-search-aim-clause-source
returns-then-search-aim-clause-source g c =
    let none = rw (c.as_slice.ensures, c.as_slice-2.ensures) at c.place_of.ensures in
    let fresh = place-none c.args.url.now c.args.search.now c.place_of.result none c.in_default.is in
    let old = point c.args.call.now.trace.now c.args.search.now in
    let new = point c.on_shelf.new.call.trace.now c.on_shelf.new.search in
    let found : LooksUp c.args.aim.now.looks c.args.url.now old new false = rw c.if-branch.false at c.in_ok-on_shelf.ensures.found in
    spent-at c.args.aim.now c.args.url.now old new fresh found c.if-search-aim.true

-- ---- it is asked of the link

pub fetch-requires-clause-counts : goal.fetch-requires-clause-counts
fetch-requires-clause-counts g c = holds-counts c.args.aim.now.age c.on_shelf.new.search c.on_shelf.new.call.trace.now c.in_ok-on_shelf.ensures.holds

pub returns-in_err-fetch-clause-uses : goal.returns-in_err-fetch-clause-uses
returns-in_err-fetch-clause-uses g c =
    let p = err_from_is_err_and c.from_residual-in_err-fetch.result c.from_residual-in_err-fetch.ensures.1 in
    rw (p.1, p.2) (cache-break c.args.call.now c.on_shelf.new.call _ c.in_ok-on_shelf.ensures.uses)

pub returns-in_err-fetch-clause-link : goal.returns-in_err-fetch-clause-link
returns-in_err-fetch-clause-link g c =
    let p = err_from_is_err_and c.from_residual-in_err-fetch.result c.from_residual-in_err-fetch.ensures.1 in
    let seen = link_seen (g.L.Link.calls c.args.link.now) (g.L.Link.link_faults c.args.link.now) (g.L.Link.web c.args.link.now) in
    let now = link_seen (g.L.Link.calls c.fetch.new.link) (g.L.Link.link_faults c.fetch.new.link) (g.L.Link.web c.fetch.new.link) in
    let found : LooksUp c.args.aim.now.looks c.args.url.now (point c.args.call.now.trace.now c.args.search.now) (point c.on_shelf.new.call.trace.now c.on_shelf.new.search) false = rw c.if-branch.false at c.in_ok-on_shelf.ensures.found in
    rw (p.1, p.2) (
      subst (λ s. TriesLink seen now s c.fetch.new.search) found.is c.in_err-fetch.ensures.tried,
      subst (λ (s : Search). Stumbled g.L.Link.gave c.args.link.now c.fetch.new.link s.asks c.fetch.new.search.asks) found.is c.in_err-fetch.ensures.stumbled,
    )

pub returns-in_err-fetch-clause-holds : goal.returns-in_err-fetch-clause-holds
returns-in_err-fetch-clause-holds g c =
    subst (λ s. HoldsSoFar c.args.aim.now.age s c.on_shelf.new.call.trace.now) (sym c.in_err-fetch.ensures.err) c.in_ok-on_shelf.ensures.holds

pub returns-clause-uses : goal.returns-clause-uses
returns-clause-uses g c = cache-ok c.args.call.now c.on_shelf.new.call _ _ c.in_ok-on_shelf.ensures.uses

pub returns-clause-link : goal.returns-clause-link
returns-clause-link g c =
    let seen = link_seen (g.L.Link.calls c.args.link.now) (g.L.Link.link_faults c.args.link.now) (g.L.Link.web c.args.link.now) in
    let now = link_seen (g.L.Link.calls c.fetch.new.link) (g.L.Link.link_faults c.fetch.new.link) (g.L.Link.web c.fetch.new.link) in
    let found : LooksUp c.args.aim.now.looks c.args.url.now (point c.args.call.now.trace.now c.args.search.now) (point c.on_shelf.new.call.trace.now c.on_shelf.new.search) false = rw c.if-branch.false at c.in_ok-on_shelf.ensures.found in (
      subst (λ s. UsesLink 0 seen now s c.fetch.new.search) found.is c.in_ok-fetch.ensures.used,
      subst (λ (s : Search). Walked g.L.Link.gave c.args.link.now c.fetch.new.link s.asks c.fetch.new.search.asks) found.is c.in_ok-fetch.ensures.walked,
    )

pub returns-clause-holds : goal.returns-clause-holds
returns-clause-holds g c =
    holds-fetched c.args.aim.now.age c.on_shelf.new.call.trace.now (g.L.Link.web c.args.link.now) c.on_shelf.new.search c.fetch.new.search c.args.url.now c.in_ok-fetch.ensures.ok c.in_ok-on_shelf.ensures.holds

pub returns-clause-good : goal.returns-clause-good
returns-clause-good g c =
    good-fetched c.args.aim.now.age c.on_shelf.new.call.trace.now (g.L.Link.web c.args.link.now) c.on_shelf.new.search c.fetch.new.search c.args.url.now c.in_ok-fetch.ensures.ok c.in_ok-on_shelf.ensures.good

pub returns-clause-source : goal.returns-clause-source
returns-clause-source g c =
    let none = rw (c.as_slice.ensures, c.as_slice-2.ensures) at c.place_of.ensures in
    let fresh = place-none c.args.url.now c.args.search.now c.place_of.result none c.in_default.is in
    let old = point c.args.call.now.trace.now c.args.search.now in
    let mid = point c.on_shelf.new.call.trace.now c.on_shelf.new.search in
    let new = point c.on_shelf.new.call.trace.now c.fetch.new.search in
    let found : LooksUp c.args.aim.now.looks c.args.url.now old mid false = rw c.if-branch.false at c.in_ok-on_shelf.ensures.found in
    let room : c.args.search.now.calls < c.args.aim.now.bounds.calls = room-left c.args.aim.now c.args.url.now old mid found c.if-search-aim.false in
    place-fetched c.args.aim.now c.args.url.now old new c.len-at.result fresh c.len-at.ensures c.on_shelf.new.search (g.L.Link.web c.args.link.now) c.in_ok-fetch.ensures.ok found.is room found.added
