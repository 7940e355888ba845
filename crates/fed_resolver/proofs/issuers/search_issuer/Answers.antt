use Rattle.std.proofs.Common.{IsSome, Some, refl, sym, ap, ◌∙◌, subst, inl}
use Rattle.std.proofs.lemmas.Result.{err_from_is_err_and}
use Rattle.entity_statement.specs.Signed.{statement_of}
use Rattle.resolve_round.specs.declared.aim.Aim.{Aim}
use Rattle.resolve_round.specs.Linking.{link_view}
use Rattle.resolve_round.proofs.TestingLaws.{counts-none}
use Rattle.resolve_round.proofs.CallLaws.{acted-none}
use Rattle.fed_resolver.specs.Going.{HasRounds, KeepsBy, first_aim, first_text}
use Rattle.fed_resolver.specs.Stretches.{CanGoOn, Goes, GoesTo, moment_of}
use Rattle.fed_resolver.proofs.KeptLaws.{issuer-kept, issuer-none, issuer-reads}
use Rattle.fed_resolver.proofs.StretchLaws.{goes-still, stumbled-still, stumbles-none}
use Rattle.fed_resolver.proofs.issuers.search_issuer.Goals as goal

-- ---- memory was wanting at the beginning

pub returns-in_err-aim-clause-acts : goal.returns-in_err-aim-clause-acts
returns-in_err-aim-clause-acts g c =
    let p = err_from_is_err_and c.from_residual.result c.from_residual.ensures.1 in
    rw (p.1, p.2) (acted-none c.args.call.now c.requires.ready.of, tt)

pub returns-in_err-aim-clause-goes : goal.returns-in_err-aim-clause-goes
returns-in_err-aim-clause-goes g c =
    let p = err_from_is_err_and c.from_residual.result c.from_residual.ensures.1 in
    rw (p.1, p.2) (inl (goes-still c.args.signer.now.age (moment_of (link_view g.L.Link.calls g.L.Link.link_faults g.L.Link.web g.L.Link.gave) c.args.call.now c.args.link.now) c.requires.ready.told))

pub returns-in_err-aim-clause-walked : goal.returns-in_err-aim-clause-walked
returns-in_err-aim-clause-walked g c =
    let p = err_from_is_err_and c.from_residual.result c.from_residual.ensures.1 in
    rw p.1 (stumbled-still g.L.Link.gave c.args.link.now c.args.call.now.trace.now)

pub returns-in_err-aim-clause-counted : goal.returns-in_err-aim-clause-counted
returns-in_err-aim-clause-counted g c = counts-none c.args.call.now.trace.now.checks c.args.call.now.trace.now.checks _ _ refl refl

-- ---- the rounds

pub rounds_for-ended-requires-clause-ready : goal.rounds_for-ended-requires-clause-ready
rounds_for-ended-requires-clause-ready g c = subst (λ (a : Aim). CanGoOn a.age c.args.call.now) (sym c.in_ok-aim.ensures) c.requires.ready

pub returns-in_err-end-clause-acts : goal.returns-in_err-end-clause-acts
returns-in_err-end-clause-acts g c =
    let p = err_from_is_err_and c.from_residual-in_err-end.result c.from_residual-in_err-end.ensures.1 in
    rw (p.1, p.2) c.in_err-end.ensures.acts

pub returns-in_err-end-clause-goes : goal.returns-in_err-end-clause-goes
returns-in_err-end-clause-goes g c =
    let p = err_from_is_err_and c.from_residual-in_err-end.result c.from_residual-in_err-end.ensures.1 in
    rw (p.1, p.2) (subst (λ (a : Aim). GoesTo a.age (moment_of (link_view g.L.Link.calls g.L.Link.link_faults g.L.Link.web g.L.Link.gave) c.args.call.now c.args.link.now) (moment_of (link_view g.L.Link.calls g.L.Link.link_faults g.L.Link.web g.L.Link.gave) c.rounds_for-ended.new.call c.rounds_for-ended.new.link) c.in_err-end.field-0.0) c.in_ok-aim.ensures c.in_err-end.ensures.goes)

pub returns-in_err-end-clause-walked : goal.returns-in_err-end-clause-walked
returns-in_err-end-clause-walked g c =
    let p = err_from_is_err_and c.from_residual-in_err-end.result c.from_residual-in_err-end.ensures.1 in
    rw p.1 c.in_err-end.ensures.walked

-- ---- a chain was found

pub keep_issuer-kept-requires : goal.keep_issuer-kept-requires
keep_issuer-kept-requires g c =
    let has = subst (λ (a : Aim). HasRounds a c.args.call.now.trace.now c.rounds_for-ended.new.call.trace.now c.in_ok-end.field-0) c.in_ok-aim.ensures c.in_ok-end.ensures.rounds in
    let says = issuer-reads (first_aim c.args.id.now c.args.anchor.now c.args.signer.now) c.args.call.now.trace.now c.rounds_for-ended.new.call.trace.now c.in_ok-end.field-0 has c.in-Some.chain c.in-Some.is in
    subst IsSome (sym (ap (λ l. statement_of (first_text l)) c.as_slice.ensures ∙ says.1)) refl

pub returns-in_err-kept-clause-acts : goal.returns-in_err-kept-clause-acts
returns-in_err-kept-clause-acts g c =
    let p = err_from_is_err_and c.from_residual-in_err-kept.result c.from_residual-in_err-kept.ensures.1 in
    rw (p.1, p.2) (c.in_ok-end.ensures.acts, tt)

pub returns-in_err-kept-clause-goes : goal.returns-in_err-kept-clause-goes
returns-in_err-kept-clause-goes g c =
    let p = err_from_is_err_and c.from_residual-in_err-kept.result c.from_residual-in_err-kept.ensures.1 in
    rw (p.1, p.2) (inl (subst (λ (a : Aim). Goes a.age 0 (moment_of (link_view g.L.Link.calls g.L.Link.link_faults g.L.Link.web g.L.Link.gave) c.args.call.now c.args.link.now) (moment_of (link_view g.L.Link.calls g.L.Link.link_faults g.L.Link.web g.L.Link.gave) c.rounds_for-ended.new.call c.rounds_for-ended.new.link)) c.in_ok-aim.ensures c.in_ok-end.ensures.goes))

pub returns-in_err-kept-clause-walked : goal.returns-in_err-kept-clause-walked
returns-in_err-kept-clause-walked g c =
    let p = err_from_is_err_and c.from_residual-in_err-kept.result c.from_residual-in_err-kept.ensures.1 in
    rw p.1 (stumbles-none g.L.Link.gave c.args.link.now c.rounds_for-ended.new.link c.args.call.now.trace.now c.rounds_for-ended.new.call.trace.now c.in_ok-end.ensures.walked)

pub returns-clause-goes : goal.returns-clause-goes
returns-clause-goes g c = subst (λ (a : Aim). Goes a.age 0 (moment_of (link_view g.L.Link.calls g.L.Link.link_faults g.L.Link.web g.L.Link.gave) c.args.call.now c.args.link.now) (moment_of (link_view g.L.Link.calls g.L.Link.link_faults g.L.Link.web g.L.Link.gave) c.rounds_for-ended.new.call c.rounds_for-ended.new.link)) c.in_ok-aim.ensures c.in_ok-end.ensures.goes

pub returns-clause-issuer : goal.returns-clause-issuer
returns-clause-issuer g c =
    let has = subst (λ (a : Aim). HasRounds a c.args.call.now.trace.now c.rounds_for-ended.new.call.trace.now c.in_ok-end.field-0) c.in_ok-aim.ensures c.in_ok-end.ensures.rounds in
    issuer-kept (first_aim c.args.id.now c.args.anchor.now c.args.signer.now) c.args.call.now.trace.now c.rounds_for-ended.new.call.trace.now c.in_ok-end.field-0 has c.in-Some.chain c.in-Some.is c.args.found.now c.keep_issuer-kept.new.found
    (subst (λ l. KeepsBy c.args.id.now (Some (first_text l)) c.args.found.now c.keep_issuer-kept.new.found) c.as_slice.ensures c.in_ok-kept.ensures)

-- ---- none was

pub returns-in_default-clause-goes : goal.returns-in_default-clause-goes
returns-in_default-clause-goes g c = subst (λ (a : Aim). Goes a.age 0 (moment_of (link_view g.L.Link.calls g.L.Link.link_faults g.L.Link.web g.L.Link.gave) c.args.call.now c.args.link.now) (moment_of (link_view g.L.Link.calls g.L.Link.link_faults g.L.Link.web g.L.Link.gave) c.rounds_for-ended.new.call c.rounds_for-ended.new.link)) c.in_ok-aim.ensures c.in_ok-end.ensures.goes

pub returns-in_default-clause-issuer : goal.returns-in_default-clause-issuer
returns-in_default-clause-issuer g c =
    let has = subst (λ (a : Aim). HasRounds a c.args.call.now.trace.now c.rounds_for-ended.new.call.trace.now c.in_ok-end.field-0) c.in_ok-aim.ensures c.in_ok-end.ensures.rounds in
    issuer-none (first_aim c.args.id.now c.args.anchor.now c.args.signer.now) c.args.call.now.trace.now c.rounds_for-ended.new.call.trace.now c.in_ok-end.field-0 has c.in_default.is c.args.found.now c.args.found.now refl
