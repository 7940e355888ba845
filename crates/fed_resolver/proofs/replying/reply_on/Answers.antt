use Rattle.std.proofs.Common.{IsSome, refl, sym, ap, ◌∙◌, subst, inl}
use Rattle.std.proofs.lemmas.Result.{err_from_is_err_and}
use Rattle.entity_statement.specs.Signed.{statement_of}
use Rattle.resolve_round.specs.Linking.{link_view}
use Rattle.resolve_round.proofs.CallLaws.{acted-none}
use Rattle.fed_resolver.specs.Going.{first_text, last_text}
use Rattle.fed_resolver.specs.Outcomes.{asked_query}
use Rattle.fed_resolver.specs.Stretches.{moment_of}
use Rattle.fed_resolver.specs.Told.{situation_of}
use Rattle.fed_resolver.proofs.EndTexts.{first-says, last-says}
use Rattle.fed_resolver.proofs.StretchLaws.{goes-still, stumbled-still}
use Rattle.fed_resolver.proofs.TickLaws.{some-counted}
use Rattle.fed_resolver.proofs.replying.reply_on.Goals as goal

pub read_ends-requires-clause-first : goal.read_ends-requires-clause-first
read_ends-requires-clause-first g c =
    let leaf = c.requires.leaf in
    let query = asked_query (situation_of c.args.request.now c.args.signer.now c.args.t) c.args.call.now.trace.now in
    let says = first-says query leaf.rounds.last leaf.rounds.last_round leaf.path leaf.is_path c.args.call.now.trace.now c.args.chain leaf.is_found in
    subst IsSome (sym (ap (λ l. statement_of (first_text l)) c.as_slice.ensures ∙ says.reads)) refl

pub read_ends-requires-clause-last : goal.read_ends-requires-clause-last
read_ends-requires-clause-last g c =
    let leaf = c.requires.leaf in
    let query = asked_query (situation_of c.args.request.now c.args.signer.now c.args.t) c.args.call.now.trace.now in
    let says = last-says query leaf.rounds.last leaf.rounds.last_round leaf.path leaf.is_path c.args.call.now.trace.now c.args.chain leaf.is_found in
    subst IsSome (sym (ap (λ l. statement_of (last_text l)) c.as_slice.ensures ∙ says.reads)) refl

pub returns-in_err-ends-clause-acts : goal.returns-in_err-ends-clause-acts
returns-in_err-ends-clause-acts g c =
    let p = err_from_is_err_and c.from_residual.result c.from_residual.ensures.1 in
    rw (p.1, p.2) (acted-none c.args.call.now c.requires.ready.of, tt)

pub returns-in_err-ends-clause-goes : goal.returns-in_err-ends-clause-goes
returns-in_err-ends-clause-goes g c =
    let p = err_from_is_err_and c.from_residual.result c.from_residual.ensures.1 in
    rw (p.1, p.2) (inl (goes-still c.args.signer.now.age (moment_of (link_view g.L.Link.calls g.L.Link.link_faults g.L.Link.web g.L.Link.gave) c.args.call.now c.args.link.now) c.requires.ready.told))

pub returns-in_err-ends-clause-walked : goal.returns-in_err-ends-clause-walked
returns-in_err-ends-clause-walked g c =
    let p = err_from_is_err_and c.from_residual.result c.from_residual.ensures.1 in
    rw p.1 (stumbled-still g.L.Link.gave c.args.link.now c.args.call.now.trace.now)

pub returns-in_err-ends-clause-counted : goal.returns-in_err-ends-clause-counted
returns-in_err-ends-clause-counted g c = λ before start.
    let p = err_from_is_err_and c.from_residual.result c.from_residual.ensures.1 in
    rw p.1 (some-counted c.args.call.now.trace.now before (g.G.Ledger.count c.args.call.now.steps.now.ledger) start)
