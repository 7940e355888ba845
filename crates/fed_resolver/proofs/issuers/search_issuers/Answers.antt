use Rattle.std.proofs.Common.{◌≡◌, ◌<◌, [], length, take, get_or, refl, sym, ◌∙◌, subst, inl, rules}
use Rattle.std.proofs.lemmas.Result.{err_from_is_err_and}
use Rattle.std.proofs.lemmas.List.{take_all}
use Rattle.resolve_round.specs.Linking.{link_view}
use Rattle.resolve_round.proofs.TestingLaws.{counts-none, counts-sum}
use Rattle.resolve_round.proofs.CallLaws.{acted-none, acted-of, acted-then}
use Rattle.fed_resolver.specs.Going.{HasIssuers, first_aim}
use Rattle.fed_resolver.specs.Stretches.{moment_of}
use Rattle.fed_resolver.proofs.IssuerLaws.{fresh-at, issuers-more, issuers-none, taken-more}
use Rattle.fed_resolver.proofs.StretchLaws.{goes-on_to, goes-still, goes-then, stumbled-still, stumbles-then, walked-still, walks-then}
use Rattle.fed_resolver.proofs.issuers.search_issuers.Goals as goal

-- ---- memory was wanting at the beginning

pub returns-in_err-searched-clause-acts : goal.returns-in_err-searched-clause-acts
returns-in_err-searched-clause-acts g c =
    let p = err_from_is_err_and c.from_residual.result c.from_residual.ensures.1 in
    rw (p.1, p.2) (acted-none c.args.call.now c.requires.ready.of, tt)

pub returns-in_err-searched-clause-goes : goal.returns-in_err-searched-clause-goes
returns-in_err-searched-clause-goes g c =
    let p = err_from_is_err_and c.from_residual.result c.from_residual.ensures.1 in
    rw (p.1, p.2) (inl (goes-still c.args.signer.now.age (moment_of (link_view g.L.Link.calls g.L.Link.link_faults g.L.Link.web g.L.Link.gave) c.args.call.now c.args.link.now) c.requires.ready.told))

pub returns-in_err-searched-clause-walked : goal.returns-in_err-searched-clause-walked
returns-in_err-searched-clause-walked g c =
    let p = err_from_is_err_and c.from_residual.result c.from_residual.ensures.1 in
    rw p.1 (stumbled-still g.L.Link.gave c.args.link.now c.args.call.now.trace.now)

pub returns-in_err-searched-clause-counted : goal.returns-in_err-searched-clause-counted
returns-in_err-searched-clause-counted g c = counts-none c.args.call.now.trace.now.checks c.args.call.now.trace.now.checks _ _ refl refl

-- ---- the issuers

pub loop-id-init : goal.loop-id-init
loop-id-init g c = record {
  acted = acted-none c.args.call.now c.requires.ready.of;
  goes = goes-still c.args.signer.now.age (moment_of (link_view g.L.Link.calls g.L.Link.link_faults g.L.Link.web g.L.Link.gave) c.args.call.now c.args.link.now) c.requires.ready.told;
  walked = walked-still g.L.Link.gave c.args.link.now c.args.call.now.trace.now;
  counted = counts-none c.args.call.now.trace.now.checks c.args.call.now.trace.now.checks _ _ refl refl;
  good = c.requires.ready.good;
  by_mark = refl;
  issuers = subst (HasIssuers (first_aim c.args.request.now.sub c.args.request.now.anchor c.args.signer.now) [] c.args.call.now.trace.now c.args.call.now.trace.now) (sym c.requires.none) (issuers-none (first_aim c.args.request.now.sub c.args.request.now.anchor c.args.signer.now) c.args.call.now.trace.now);
}

pub search_issuer-requires : goal.search_issuer-requires
search_issuer-requires g c = record { ready = record { of = acted-of c.args.call.now c.loop-id.call c.loop-id.invariant.acted; told = c.loop-id.invariant.goes.told; good = c.loop-id.invariant.good } }

pub returns-in_err-search_issuer-clause-acts : goal.returns-in_err-search_issuer-clause-acts
returns-in_err-search_issuer-clause-acts g c =
    let p = err_from_is_err_and c.from_residual-in_err-search_issuer.result c.from_residual-in_err-search_issuer.ensures.1 in
    let acts = c.in_err-search_issuer.ensures.acts in
    rw (p.1, p.2) (acted-then c.args.call.now c.loop-id.call c.search_issuer.new.call c.loop-id.invariant.acted acts.0, acts.1)

pub returns-in_err-search_issuer-clause-goes : goal.returns-in_err-search_issuer-clause-goes
returns-in_err-search_issuer-clause-goes g c =
    let p = err_from_is_err_and c.from_residual-in_err-search_issuer.result c.from_residual-in_err-search_issuer.ensures.1 in
    rw (p.1, p.2) (goes-on_to c.args.signer.now.age (moment_of (link_view g.L.Link.calls g.L.Link.link_faults g.L.Link.web g.L.Link.gave) c.args.call.now c.args.link.now) (moment_of (link_view g.L.Link.calls g.L.Link.link_faults g.L.Link.web g.L.Link.gave) c.loop-id.call c.loop-id.link) (moment_of (link_view g.L.Link.calls g.L.Link.link_faults g.L.Link.web g.L.Link.gave) c.search_issuer.new.call c.search_issuer.new.link) c.in_err-search_issuer.field-0.0 c.loop-id.invariant.goes c.in_err-search_issuer.ensures.goes)

pub returns-in_err-search_issuer-clause-walked : goal.returns-in_err-search_issuer-clause-walked
returns-in_err-search_issuer-clause-walked g c =
    let p = err_from_is_err_and c.from_residual-in_err-search_issuer.result c.from_residual-in_err-search_issuer.ensures.1 in
    rw p.1 (stumbles-then g.L.Link.gave c.args.link.now c.loop-id.link c.search_issuer.new.link c.args.call.now.trace.now c.loop-id.call.trace.now c.search_issuer.new.call.trace.now c.loop-id.invariant.walked c.in_err-search_issuer.ensures.walked)

pub returns-in_err-search_issuer-clause-counted : goal.returns-in_err-search_issuer-clause-counted
returns-in_err-search_issuer-clause-counted g c = counts-sum c.args.call.now.trace.now.checks c.loop-id.call.trace.now.checks c.search_issuer.new.call.trace.now.checks _ _ _ c.loop-id.invariant.counted c.in_err-search_issuer.ensures.counted

pub loop-id-preserved : goal.loop-id-preserved
loop-id-preserved g c =
    let made = c.in_ok-search_issuer.ensures in
    let before = c.loop-id.invariant in
    let searched = c.as_slice-id-items.result.now in
    let id = c.id-item.result in
    let less : c.loop-id.id-index < length searched = search rules in
    let at : id ≡ get_or searched c.loop-id.id-index id = c.id-item.is in
    let aim = first_aim c.args.request.now.sub c.args.request.now.anchor c.args.signer.now in
    let fresh = fresh-at c.args.issuers.now.by_mark searched c.loop-id.id-index id (c.as_slice-id-items.ensures ∙ c.in_ok-searched.ensures) less at in
    record {
      acted = acted-then c.args.call.now c.loop-id.call c.search_issuer.new.call before.acted made.acts;
      goes = goes-then c.args.signer.now.age 0 (moment_of (link_view g.L.Link.calls g.L.Link.link_faults g.L.Link.web g.L.Link.gave) c.args.call.now c.args.link.now) (moment_of (link_view g.L.Link.calls g.L.Link.link_faults g.L.Link.web g.L.Link.gave) c.loop-id.call c.loop-id.link) (moment_of (link_view g.L.Link.calls g.L.Link.link_faults g.L.Link.web g.L.Link.gave) c.search_issuer.new.call c.search_issuer.new.link) before.goes made.goes;
      walked = walks-then g.L.Link.gave c.args.link.now c.loop-id.link c.search_issuer.new.link c.args.call.now.trace.now c.loop-id.call.trace.now c.search_issuer.new.call.trace.now before.walked made.walked;
      counted = counts-sum c.args.call.now.trace.now.checks c.loop-id.call.trace.now.checks c.search_issuer.new.call.trace.now.checks _ _ _ before.counted made.counted;
      good = made.good;
      by_mark = before.by_mark;
      issuers =
          subst (λ ids. HasIssuers aim ids c.args.call.now.trace.now c.search_issuer.new.call.trace.now c.search_issuer.new.found) (sym (taken-more searched c.loop-id.id-index id less at))
          (issuers-more c.args.request.now.sub c.args.request.now.anchor c.args.signer.now (take c.loop-id.id-index searched) id c.args.call.now.trace.now c.loop-id.call.trace.now c.search_issuer.new.call.trace.now c.loop-id.issuers.found c.search_issuer.new.found
          before.issuers fresh before.goes.call made.issuer);
    }

pub returns-clause-acts : goal.returns-clause-acts
returns-clause-acts g c = c.loop-id.invariant.acted

pub returns-clause-issuers : goal.returns-clause-issuers
returns-clause-issuers g c =
    let aim = first_aim c.args.request.now.sub c.args.request.now.anchor c.args.signer.now in
    let all = take_all c.loop-id.id-index c.as_slice-id-items.result.now c.loop-id-test.false in
    subst (λ ids. HasIssuers aim ids c.args.call.now.trace.now c.loop-id.call.trace.now c.loop-id.issuers.found) (all ∙ c.as_slice-id-items.ensures ∙ c.in_ok-searched.ensures) c.loop-id.invariant.issuers
