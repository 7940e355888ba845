use Rattle.std.proofs.Common.{◌≡◌, length, false, Some, None, refl, sym, ap, subst, arith}
use Rattle.std.proofs.lemmas.List.{length_push}
use Rattle.std.proofs.lemmas.Result.{err_from_is_err_and}
use Rattle.chain_climb.specs.Elements.{Among}
use Rattle.statement_shelf.specs.declared.calls.Proven.{Proven}
use Rattle.statement_shelf.specs.declared.calls.ShelfCall.TheVariants.{Look}
use Rattle.statement_shelf.specs.declared.calls.ShelfReply.TheVariants.{Hit, Miss}
use Rattle.resolve_round.specs.declared.trace.Event.TheVariants.{Shelf}
use Rattle.resolve_round.specs.declared.trace.Got.TheVariants as got
use Rattle.resolve_round.specs.Getting.{point}
use Rattle.resolve_round.specs.Knowing.{AnswersStand, HoldsSoFar, with_search}
use Rattle.resolve_round.specs.Looking.{HasLooked}
use Rattle.resolve_round.specs.Proving.{AddsProves, IsProvedThere}
use Rattle.resolve_round.specs.Told.{ProvesGood}
use Rattle.resolve_round.proofs.CallLaws.{acted-of, cache-break, cache-checks, cache-err, cache-none, cache-ok, cache-then, events-then}
use Rattle.resolve_round.proofs.GettingLaws.{ask_of, good-missed, hit-good, hit-looked, holds-answers, holds-asked, holds-counts, holds-looked, holds-proves, holds-tried, look-missed, look-told, no-look}
use Rattle.resolve_round.proofs.Lasts.{front-taken}
use Rattle.resolve_round.proofs.getting.on_shelf.Goals as goal

same-hit : (p q : Proven) → got.Hit p ≡ got.Hit q → p ≡ q
same-hit p q same = cc same

-- ---- a round that doesn't look

pub returns-then-not-aim-clause-uses : goal.returns-then-not-aim-clause-uses
returns-then-not-aim-clause-uses g c = cache-none c.args.call.now false c.requires.ready.of

pub returns-then-not-aim-clause-holds : goal.returns-then-not-aim-clause-holds
returns-then-not-aim-clause-holds g c = c.requires.ready.holds

pub returns-then-not-aim-clause-good : goal.returns-then-not-aim-clause-good
returns-then-not-aim-clause-good g c = c.requires.ready.good

pub returns-then-not-aim-clause-found : goal.returns-then-not-aim-clause-found
returns-then-not-aim-clause-found g c = no-look c.args.aim.now.looks c.args.url.now (point c.args.call.now.trace.now c.args.search.now) c.if-not-aim.true

-- ---- memory was wanting at the Look, or an object is worn

pub look-requires : goal.look-requires
look-requires g c = record { of = c.requires.ready.of }

pub returns-in_err-proven-clause-uses : goal.returns-in_err-proven-clause-uses
returns-in_err-proven-clause-uses g c =
    let p = err_from_is_err_and c.from_residual.result c.from_residual.ensures.1 in
    rw (p.1, p.2) (cache-err c.args.call.now c.look.new.call _ c.in_err-proven.ensures.uses)

pub returns-in_err-proven-clause-holds : goal.returns-in_err-proven-clause-holds
returns-in_err-proven-clause-holds g c =
    subst (HoldsSoFar c.args.aim.now.age c.args.search.now) (sym c.in_err-proven.ensures.uses.only)
    (holds-tried c.args.aim.now.age c.args.call.now.trace.now c.args.search.now c.args.url.now c.look.new.call.trace.now.events c.in_err-proven.ensures.tried c.requires.ready.holds c.requires.ready.good)

-- ---- it was told nothing

pub returns-in_default-clause-uses : goal.returns-in_default-clause-uses
returns-in_default-clause-uses g c = cache-ok c.args.call.now c.look.new.call _ _ c.in_ok-proven.ensures.uses

pub returns-in_default-clause-holds : goal.returns-in_default-clause-holds
returns-in_default-clause-holds g c =
    let old = c.args.call.now.trace.now in
    let mid = c.look.new.call.trace.now in
    let looked : HasLooked old.events c.args.url.now old.moment mid.events None = rw c.in_default.is at c.in_ok-proven.ensures.looked in
    subst (HoldsSoFar c.args.aim.now.age c.args.search.now) (sym c.in_ok-proven.ensures.uses.only)
    (holds-looked c.args.aim.now.age old c.args.search.now c.args.url.now Miss mid.events looked c.requires.ready.holds c.requires.ready.good)

pub returns-in_default-clause-good : goal.returns-in_default-clause-good
returns-in_default-clause-good g c =
    let old = c.args.call.now.trace.now in
    let mid = c.look.new.call.trace.now in
    let looked : HasLooked old.events c.args.url.now old.moment mid.events None = rw c.in_default.is at c.in_ok-proven.ensures.looked in
    subst (λ t. ProvesGood (with_search t c.args.search.now)) (sym c.in_ok-proven.ensures.uses.only)
    (good-missed old c.args.search.now c.args.url.now mid.events looked c.requires.ready.good)

pub returns-in_default-clause-found : goal.returns-in_default-clause-found
returns-in_default-clause-found g c =
    let old = c.args.call.now.trace.now in
    let mid = c.look.new.call.trace.now in
    let looked : HasLooked old.events c.args.url.now old.moment mid.events None = rw c.in_default.is at c.in_ok-proven.ensures.looked in
    look-missed c.args.aim.now.looks c.args.url.now (point old c.args.search.now) (point mid c.args.search.now) c.if-not-aim.false refl looked

-- ---- it was told a text

pub prove_hit-requires-clause-of : goal.prove_hit-requires-clause-of
prove_hit-requires-clause-of g c = acted-of c.args.call.now c.look.new.call c.in_ok-proven.ensures.uses.acts

pub prove_hit-requires-clause-before : goal.prove_hit-requires-clause-before
prove_hit-requires-clause-before g c =
    let old = c.args.call.now.trace.now in
    let mid = c.look.new.call.trace.now in
    let looked : HasLooked old.events c.args.url.now old.moment mid.events (Some c.in-Some.proven) = rw c.in-Some.is at c.in_ok-proven.ensures.looked in
    let pushed = ap length looked in
    let more = length_push old.events (Shelf (Look c.args.url.now old.moment) (Hit c.in-Some.proven)) in
    let len = c.len-before.ensures in
    omega (arith, pushed, more, len)

pub prove_hit-requires-clause-answers : goal.prove_hit-requires-clause-answers
prove_hit-requires-clause-answers g c =
    subst AnswersStand (sym (cache-checks c.args.call.now.trace.now c.look.new.call.trace.now c.in_ok-proven.ensures.uses.only))
    (holds-answers c.args.aim.now.age c.args.search.now c.args.call.now.trace.now c.requires.ready.holds)

pub returns-in_err-prove_hit-clause-uses : goal.returns-in_err-prove_hit-clause-uses
returns-in_err-prove_hit-clause-uses g c =
    let p = err_from_is_err_and c.from_residual-in_err-prove_hit.result c.from_residual-in_err-prove_hit.ensures.1 in
    rw (p.1, p.2) (cache-err c.args.call.now c.prove_hit.new.call _ (cache-then c.args.call.now c.look.new.call c.prove_hit.new.call _ _ c.in_ok-proven.ensures.uses c.in_err-prove_hit.ensures.uses))

pub returns-in_err-prove_hit-clause-holds : goal.returns-in_err-prove_hit-clause-holds
returns-in_err-prove_hit-clause-holds g c =
    let old = c.args.call.now.trace.now in
    let mid = c.look.new.call.trace.now in
    let new = c.prove_hit.new.call.trace.now in
    let looked : HasLooked old.events c.args.url.now old.moment mid.events (Some c.in-Some.proven) = rw c.in-Some.is at c.in_ok-proven.ensures.looked in
    let adds = subst (λ checks. AddsProves checks mid.events new.events) (cache-checks old mid c.in_ok-proven.ensures.uses.only) c.prove_hit.ensures.only in
    subst (HoldsSoFar c.args.aim.now.age c.args.search.now) (sym (events-then old mid new c.in_ok-proven.ensures.uses.only c.in_err-prove_hit.ensures.uses.only))
    (holds-proves c.args.aim.now.age old c.args.search.now mid.events new.events adds
    (holds-looked c.args.aim.now.age old c.args.search.now c.args.url.now (Hit c.in-Some.proven) mid.events looked c.requires.ready.holds c.requires.ready.good))

pub add_hit-requires : goal.add_hit-requires
add_hit-requires g c = holds-counts c.args.aim.now.age c.args.search.now c.args.call.now.trace.now c.requires.ready.holds

pub returns-in_err-add_hit-clause-uses : goal.returns-in_err-add_hit-clause-uses
returns-in_err-add_hit-clause-uses g c =
    let p = err_from_is_err_and c.from_residual-in_err-add_hit.result c.from_residual-in_err-add_hit.ensures.1 in
    rw (p.1, p.2) (cache-break c.args.call.now c.prove_hit.new.call _ (cache-then c.args.call.now c.look.new.call c.prove_hit.new.call _ _ c.in_ok-proven.ensures.uses c.in_ok-prove_hit.ensures.uses))

pub returns-in_err-add_hit-clause-holds : goal.returns-in_err-add_hit-clause-holds
returns-in_err-add_hit-clause-holds g c =
    let old = c.args.call.now.trace.now in
    let mid = c.look.new.call.trace.now in
    let new = c.prove_hit.new.call.trace.now in
    let looked : HasLooked old.events c.args.url.now old.moment mid.events (Some c.in-Some.proven) = rw c.in-Some.is at c.in_ok-proven.ensures.looked in
    let adds = subst (λ checks. AddsProves checks mid.events new.events) (cache-checks old mid c.in_ok-proven.ensures.uses.only) c.prove_hit.ensures.only in
    subst (λ s. HoldsSoFar c.args.aim.now.age s new) (sym c.in_err-add_hit.ensures.err)
    (subst (HoldsSoFar c.args.aim.now.age c.args.search.now) (sym (events-then old mid new c.in_ok-proven.ensures.uses.only c.in_ok-prove_hit.ensures.uses.only))
    (holds-proves c.args.aim.now.age old c.args.search.now mid.events new.events adds
    (holds-looked c.args.aim.now.age old c.args.search.now c.args.url.now (Hit c.in-Some.proven) mid.events looked c.requires.ready.holds c.requires.ready.good)))

pub returns-in_err-add_hit-clause-err : goal.returns-in_err-add_hit-clause-err
returns-in_err-add_hit-clause-err g c =
    let p = err_from_is_err_and c.from_residual-in_err-add_hit.result c.from_residual-in_err-add_hit.ensures.1 in
    rw p.1 c.in_err-add_hit.ensures.err

pub returns-clause-uses : goal.returns-clause-uses
returns-clause-uses g c =
    cache-ok c.args.call.now c.prove_hit.new.call _ _ (cache-then c.args.call.now c.look.new.call c.prove_hit.new.call _ _ c.in_ok-proven.ensures.uses c.in_ok-prove_hit.ensures.uses)

pub returns-clause-holds : goal.returns-clause-holds
returns-clause-holds g c =
    let old = c.args.call.now.trace.now in
    let mid = c.look.new.call.trace.now in
    let new = c.prove_hit.new.call.trace.now in
    let looked : HasLooked old.events c.args.url.now old.moment mid.events (Some c.in-Some.proven) = rw c.in-Some.is at c.in_ok-proven.ensures.looked in
    let adds = subst (λ checks. AddsProves checks mid.events new.events) (cache-checks old mid c.in_ok-proven.ensures.uses.only) c.prove_hit.ensures.only in
    let now = record old { events = new.events } in
    subst (HoldsSoFar c.args.aim.now.age c.add_hit.new.search) (sym (events-then old mid new c.in_ok-proven.ensures.uses.only c.in_ok-prove_hit.ensures.uses.only))
    (subst (λ s. HoldsSoFar c.args.aim.now.age s now) (sym c.in_ok-add_hit.ensures.ok)
    (holds-asked c.args.aim.now.age now c.args.search.now (ask_of c.args.url.now (got.Hit c.in-Some.proven))
    (λ proven same. (
      old.moment,
      subst (λ p. Among (Shelf (Look c.args.url.now old.moment) (Hit p)) new.events) (same-hit c.in-Some.proven proven same)
          (hit-looked c.args.aim.now.age old c.args.search.now c.args.url.now c.in-Some.proven mid.events looked new.events old.checks adds),
    ))
    (holds-proves c.args.aim.now.age old c.args.search.now mid.events new.events adds
    (holds-looked c.args.aim.now.age old c.args.search.now c.args.url.now (Hit c.in-Some.proven) mid.events looked c.requires.ready.holds c.requires.ready.good))))

pub returns-clause-good : goal.returns-clause-good
returns-clause-good g c =
    let old = c.args.call.now.trace.now in
    let mid = c.look.new.call.trace.now in
    let new = c.prove_hit.new.call.trace.now in
    let looked : HasLooked old.events c.args.url.now old.moment mid.events (Some c.in-Some.proven) = rw c.in-Some.is at c.in_ok-proven.ensures.looked in
    let same = cache-checks old mid c.in_ok-proven.ensures.uses.only in
    let adds = subst (λ checks. AddsProves checks mid.events new.events) same c.prove_hit.ensures.only in
    let front = front-taken old.events mid.events (Shelf (Look c.args.url.now old.moment) (Hit c.in-Some.proven)) c.len-before.result c.len-before.ensures looked in
    let proved : IsProvedThere old.checks c.args.url.now c.in-Some.proven.text old.events mid.events new.events =
    subst (λ checks. IsProvedThere checks c.args.url.now c.in-Some.proven.text old.events mid.events new.events) same
    (subst (λ es. IsProvedThere mid.checks c.args.url.now c.in-Some.proven.text es mid.events new.events) front c.in_ok-prove_hit.ensures.proved) in
    subst (λ t. ProvesGood (with_search t c.add_hit.new.search)) (sym (events-then old mid new c.in_ok-proven.ensures.uses.only c.in_ok-prove_hit.ensures.uses.only))
    (subst (λ s. ProvesGood (with_search (record old { events = new.events }) s)) (sym c.in_ok-add_hit.ensures.ok)
    (hit-good c.args.aim.now.age old c.args.search.now c.args.url.now c.in-Some.proven mid.events looked new.events adds proved c.requires.ready.good))

pub returns-clause-found : goal.returns-clause-found
returns-clause-found g c =
    let old = c.args.call.now.trace.now in
    let mid = c.look.new.call.trace.now in
    let new = c.prove_hit.new.call.trace.now in
    let looked : HasLooked old.events c.args.url.now old.moment mid.events (Some c.in-Some.proven) = rw c.in-Some.is at c.in_ok-proven.ensures.looked in
    let adds = subst (λ checks. AddsProves checks mid.events new.events) (cache-checks old mid c.in_ok-proven.ensures.uses.only) c.prove_hit.ensures.only in (
      c.if-not-aim.false,
      look-told c.args.url.now (point old c.args.search.now) (point new c.add_hit.new.search) c.in-Some.proven old.checks mid.events looked adds c.in_ok-add_hit.ensures.ok,
    )
