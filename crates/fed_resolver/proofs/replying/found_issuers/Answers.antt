use Rattle.std.proofs.Common.{refl, inl}
use Rattle.std.proofs.lemmas.Result.{err_from_is_err_and}
use Rattle.resolve_round.specs.Linking.{link_view}
use Rattle.resolve_round.proofs.TestingLaws.{counts-none}
use Rattle.resolve_round.proofs.CallLaws.{acted-none}
use Rattle.fed_resolver.specs.Stretches.{moment_of}
use Rattle.fed_resolver.proofs.StretchLaws.{goes-still, stumbled-still}
use Rattle.fed_resolver.proofs.replying.found_issuers.Goals as goal

-- ---- memory was wanting at the beginning

pub returns-in_err-issuers-clause-acts : goal.returns-in_err-issuers-clause-acts
returns-in_err-issuers-clause-acts g c =
    let p = err_from_is_err_and c.from_residual.result c.from_residual.ensures.1 in
    rw (p.1, p.2) (acted-none c.args.call.now c.requires.ready.of, tt)

pub returns-in_err-issuers-clause-goes : goal.returns-in_err-issuers-clause-goes
returns-in_err-issuers-clause-goes g c =
    let p = err_from_is_err_and c.from_residual.result c.from_residual.ensures.1 in
    rw (p.1, p.2) (inl (goes-still c.args.signer.now.age (moment_of (link_view g.L.Link.calls g.L.Link.link_faults g.L.Link.web g.L.Link.gave) c.args.call.now c.args.link.now) c.requires.ready.told))

pub returns-in_err-issuers-clause-walked : goal.returns-in_err-issuers-clause-walked
returns-in_err-issuers-clause-walked g c =
    let p = err_from_is_err_and c.from_residual.result c.from_residual.ensures.1 in
    rw p.1 (stumbled-still g.L.Link.gave c.args.link.now c.args.call.now.trace.now)

pub returns-in_err-issuers-clause-counted : goal.returns-in_err-issuers-clause-counted
returns-in_err-issuers-clause-counted g c = counts-none c.args.call.now.trace.now.checks c.args.call.now.trace.now.checks _ _ refl refl

-- ---- a search broke off

pub returns-in_err-search_issuers-clause-acts : goal.returns-in_err-search_issuers-clause-acts
returns-in_err-search_issuers-clause-acts g c =
    let p = err_from_is_err_and c.from_residual-in_err-search_issuers.result c.from_residual-in_err-search_issuers.ensures.1 in
    rw (p.1, p.2) c.in_err-search_issuers.ensures.acts

pub returns-in_err-search_issuers-clause-goes : goal.returns-in_err-search_issuers-clause-goes
returns-in_err-search_issuers-clause-goes g c =
    let p = err_from_is_err_and c.from_residual-in_err-search_issuers.result c.from_residual-in_err-search_issuers.ensures.1 in
    rw (p.1, p.2) c.in_err-search_issuers.ensures.goes

pub returns-in_err-search_issuers-clause-walked : goal.returns-in_err-search_issuers-clause-walked
returns-in_err-search_issuers-clause-walked g c =
    let p = err_from_is_err_and c.from_residual-in_err-search_issuers.result c.from_residual-in_err-search_issuers.ensures.1 in
    rw p.1 c.in_err-search_issuers.ensures.walked
