use Rattle.std.proofs.Common.{Ok, ap, refl, subst, sym}
use Rattle.std.proofs.lemmas.Result.{err_from_is_err_and}
use Rattle.std.specs.Prelude.{IsTrue}
use Rattle.std.specs.List.{list_all}
use Rattle.std.specs.Str.{is_utf8}
use Rattle.client_register.specs.Finders.{HasAnswered}
use Rattle.client_register.specs.Registrations.{registrar, request}
use Rattle.client_register.specs.Requests.{posted_in}
use Rattle.client_register.specs.declared.registration.Registration.{Registration}
use Rattle.client_register.proofs.RequestLaws.{posted-is}
use Rattle.client_register.proofs.StageLaws.{asks-any, asks-same, chain-counts, chain-refused, chain-told, failure-counts, failure-refused, memory-counts, memory-refused, registered-counts, registered-told, type-counts, type-refused, type-told}
use Rattle.client_register.proofs.registering.register.Goals as goal

pub returns-in_err-chain-clause-posted : goal.returns-in_err-chain-clause-posted
returns-in_err-chain-clause-posted g c =
    posted-is c.args.posted.now

pub returns-in_err-resolved-clause-posted : goal.returns-in_err-resolved-clause-posted
returns-in_err-resolved-clause-posted g c =
    posted-is c.args.posted.now

pub returns-in_err-registration-clause-posted : goal.returns-in_err-registration-clause-posted
returns-in_err-registration-clause-posted g c =
    posted-is c.args.posted.now

pub returns-in_err-claims-clause-posted : goal.returns-in_err-claims-clause-posted
returns-in_err-claims-clause-posted g c =
    posted-is c.args.posted.now

pub returns-in_err-seal_registration-clause-posted : goal.returns-in_err-seal_registration-clause-posted
returns-in_err-seal_registration-clause-posted g c =
    posted-is c.args.posted.now

pub returns-clause-posted : goal.returns-clause-posted
returns-clause-posted g c =
    posted-is c.args.posted.now

pub returns-in_err-chain-clause-registers : goal.returns-in_err-chain-clause-registers
returns-in_err-chain-clause-registers g c =
    let p = err_from_is_err_and c.from_residual.result c.from_residual.ensures.1 in
    rw (p.1, p.2) (chain-refused (request (registrar c.args.iss.now c.args.keys.now c.args.anchor.now c.args.anchor_keys.now.keys c.args.lifetime c.args.t) c.args.posted.now (g.F.Finder.seen c.chain_for.new.finder).last) c.in_err-chain.field-0.0 (c.in_err-chain.ensures.chain (registrar c.args.iss.now c.args.keys.now c.args.anchor.now c.args.anchor_keys.now.keys c.args.lifetime c.args.t)))

pub returns-in_err-chain-clause-asks : goal.returns-in_err-chain-clause-asks
returns-in_err-chain-clause-asks g c =
    let p = err_from_is_err_and c.from_residual.result c.from_residual.ensures.1 in
    rw (p.1, p.2) (asks-same (λ before after entity answer. HasAnswered (g.F.Finder.seen before) (g.F.Finder.seen after) answer × g.F.Finder.gave before after entity c.args.anchor.now answer) c.args.finder.now c.chain_for.new.finder _ _ (posted_in c.args.posted.now) c.in_err-chain.field-0.0 c.in_err-chain.ensures.asks)

pub returns-in_err-chain-clause-counted : goal.returns-in_err-chain-clause-counted
returns-in_err-chain-clause-counted g c =
    let p = err_from_is_err_and c.from_residual.result c.from_residual.ensures.1 in
    rw (p.1, p.2) (chain-counts (request (registrar c.args.iss.now c.args.keys.now c.args.anchor.now c.args.anchor_keys.now.keys c.args.lifetime c.args.t) c.args.posted.now (g.F.Finder.seen c.chain_for.new.finder).last) c.in_err-chain.field-0.0 _ _ (c.in_err-chain.ensures.chain (registrar c.args.iss.now c.args.keys.now c.args.anchor.now c.args.anchor_keys.now.keys c.args.lifetime c.args.t)) refl)

pub returns-in_err-chain-clause-told : goal.returns-in_err-chain-clause-told
returns-in_err-chain-clause-told g c =
    let p = err_from_is_err_and c.from_residual.result c.from_residual.ensures.1 in
    rw (p.1, p.2) (chain-told (request (registrar c.args.iss.now c.args.keys.now c.args.anchor.now c.args.anchor_keys.now.keys c.args.lifetime c.args.t) c.args.posted.now (g.F.Finder.seen c.chain_for.new.finder).last) c.in_err-chain.field-0.0 (c.in_err-chain.ensures.chain (registrar c.args.iss.now c.args.keys.now c.args.anchor.now c.args.anchor_keys.now.keys c.args.lifetime c.args.t)))

pub returns-in_err-resolved-clause-told : goal.returns-in_err-resolved-clause-told
returns-in_err-resolved-clause-told g c =
    let p = err_from_is_err_and c.from_residual-in_err-resolved.result c.from_residual-in_err-resolved.ensures.1 in
    rw (p.1, p.2) c.in_err-resolved.ensures.told

pub returns-in_err-registration-clause-told : goal.returns-in_err-registration-clause-told
returns-in_err-registration-clause-told g c =
    let p = err_from_is_err_and c.from_residual-in_err-registration.result c.from_residual-in_err-registration.ensures.1 in
    rw (p.1, p.2) (type-told c.in_ok-chain.chain c.in_ok-resolved.resolved c.args.lifetime c.args.t c.in_err-registration.field-0.0 c.in_err-registration.ensures.takes)

pub returns-in_err-claims-clause-told : goal.returns-in_err-claims-clause-told
returns-in_err-claims-clause-told g c =
    let p = err_from_is_err_and c.from_residual-in_err-claims.result c.from_residual-in_err-claims.ensures.1 in
    rw (p.1, p.2) tt

pub returns-in_err-seal_registration-clause-told : goal.returns-in_err-seal_registration-clause-told
returns-in_err-seal_registration-clause-told g c =
    let p = err_from_is_err_and c.from_residual-in_err-seal_registration.result c.from_residual-in_err-seal_registration.ensures.1 in
    rw (p.1, p.2) tt

pub returns-in_err-resolved-clause-registers : goal.returns-in_err-resolved-clause-registers
returns-in_err-resolved-clause-registers g c =
    let p = err_from_is_err_and c.from_residual-in_err-resolved.result c.from_residual-in_err-resolved.ensures.1 in
    rw (p.1, p.2) (failure-refused (request (registrar c.args.iss.now c.args.keys.now c.args.anchor.now c.args.anchor_keys.now.keys c.args.lifetime c.args.t) c.args.posted.now (g.F.Finder.seen c.chain_for.new.finder).last) c.in_ok-chain.chain (c.in_ok-chain.ensures.chain (registrar c.args.iss.now c.args.keys.now c.args.anchor.now c.args.anchor_keys.now.keys c.args.lifetime c.args.t)) c.in_err-resolved.field-0.0 c.in_err-resolved.ensures.verdict)

pub returns-in_err-resolved-clause-asks : goal.returns-in_err-resolved-clause-asks
returns-in_err-resolved-clause-asks g c =
    asks-any (λ before after entity answer. HasAnswered (g.F.Finder.seen before) (g.F.Finder.seen after) answer × g.F.Finder.gave before after entity c.args.anchor.now answer) c.args.finder.now c.chain_for.new.finder (posted_in c.args.posted.now) c.in_ok-chain.chain c.from_residual-in_err-resolved.result c.in_ok-chain.ensures.asks

pub returns-in_err-resolved-clause-counted : goal.returns-in_err-resolved-clause-counted
returns-in_err-resolved-clause-counted g c =
    let p = err_from_is_err_and c.from_residual-in_err-resolved.result c.from_residual-in_err-resolved.ensures.1 in
    rw (p.1, p.2) (failure-counts (request (registrar c.args.iss.now c.args.keys.now c.args.anchor.now c.args.anchor_keys.now.keys c.args.lifetime c.args.t) c.args.posted.now (g.F.Finder.seen c.chain_for.new.finder).last) c.in_ok-chain.chain (c.in_ok-chain.ensures.chain (registrar c.args.iss.now c.args.keys.now c.args.anchor.now c.args.anchor_keys.now.keys c.args.lifetime c.args.t)) c.in_err-resolved.field-0.0 _ _ c.in_err-resolved.ensures.verdict c.in_err-resolved.ensures.counted)

pub returns-in_err-registration-clause-registers : goal.returns-in_err-registration-clause-registers
returns-in_err-registration-clause-registers g c =
    let p = err_from_is_err_and c.from_residual-in_err-registration.result c.from_residual-in_err-registration.ensures.1 in
    rw (p.1, p.2) (type-refused (request (registrar c.args.iss.now c.args.keys.now c.args.anchor.now c.args.anchor_keys.now.keys c.args.lifetime c.args.t) c.args.posted.now (g.F.Finder.seen c.chain_for.new.finder).last) c.in_ok-chain.chain (c.in_ok-chain.ensures.chain (registrar c.args.iss.now c.args.keys.now c.args.anchor.now c.args.anchor_keys.now.keys c.args.lifetime c.args.t)) c.in_ok-resolved.resolved c.in_ok-resolved.ensures.verdict c.args.lifetime c.args.t c.in_err-registration.field-0.0 c.in_err-registration.ensures.takes)

pub returns-in_err-registration-clause-asks : goal.returns-in_err-registration-clause-asks
returns-in_err-registration-clause-asks g c =
    asks-any (λ before after entity answer. HasAnswered (g.F.Finder.seen before) (g.F.Finder.seen after) answer × g.F.Finder.gave before after entity c.args.anchor.now answer) c.args.finder.now c.chain_for.new.finder (posted_in c.args.posted.now) c.in_ok-chain.chain c.from_residual-in_err-registration.result c.in_ok-chain.ensures.asks

pub returns-in_err-registration-clause-counted : goal.returns-in_err-registration-clause-counted
returns-in_err-registration-clause-counted g c =
    let p = err_from_is_err_and c.from_residual-in_err-registration.result c.from_residual-in_err-registration.ensures.1 in
    rw (p.1, p.2) (type-counts (request (registrar c.args.iss.now c.args.keys.now c.args.anchor.now c.args.anchor_keys.now.keys c.args.lifetime c.args.t) c.args.posted.now (g.F.Finder.seen c.chain_for.new.finder).last) c.in_ok-chain.chain (c.in_ok-chain.ensures.chain (registrar c.args.iss.now c.args.keys.now c.args.anchor.now c.args.anchor_keys.now.keys c.args.lifetime c.args.t)) c.in_ok-resolved.resolved c.in_ok-resolved.ensures.verdict c.args.lifetime c.args.t c.in_err-registration.field-0.0 _ _ c.in_err-registration.ensures.takes c.in_ok-resolved.ensures.counted)

pub returns-in_err-claims-clause-registers : goal.returns-in_err-claims-clause-registers
returns-in_err-claims-clause-registers g c =
    let p = err_from_is_err_and c.from_residual-in_err-claims.result c.from_residual-in_err-claims.ensures.1 in
    rw (p.1, p.2) (memory-refused (request (registrar c.args.iss.now c.args.keys.now c.args.anchor.now c.args.anchor_keys.now.keys c.args.lifetime c.args.t) c.args.posted.now (g.F.Finder.seen c.chain_for.new.finder).last))

pub returns-in_err-claims-clause-asks : goal.returns-in_err-claims-clause-asks
returns-in_err-claims-clause-asks g c =
    asks-any (λ before after entity answer. HasAnswered (g.F.Finder.seen before) (g.F.Finder.seen after) answer × g.F.Finder.gave before after entity c.args.anchor.now answer) c.args.finder.now c.chain_for.new.finder (posted_in c.args.posted.now) c.in_ok-chain.chain c.from_residual-in_err-claims.result c.in_ok-chain.ensures.asks

pub returns-in_err-claims-clause-counted : goal.returns-in_err-claims-clause-counted
returns-in_err-claims-clause-counted g c =
    let p = err_from_is_err_and c.from_residual-in_err-claims.result c.from_residual-in_err-claims.ensures.1 in
    rw (p.1, p.2) (memory-counts (request (registrar c.args.iss.now c.args.keys.now c.args.anchor.now c.args.anchor_keys.now.keys c.args.lifetime c.args.t) c.args.posted.now (g.F.Finder.seen c.chain_for.new.finder).last) c.in_ok-chain.chain (c.in_ok-chain.ensures.chain (registrar c.args.iss.now c.args.keys.now c.args.anchor.now c.args.anchor_keys.now.keys c.args.lifetime c.args.t)) c.in_ok-resolved.resolved c.in_ok-resolved.ensures.verdict _ _ c.in_ok-resolved.ensures.counted)

pub returns-in_err-seal_registration-clause-registers : goal.returns-in_err-seal_registration-clause-registers
returns-in_err-seal_registration-clause-registers g c =
    let p = err_from_is_err_and c.from_residual-in_err-seal_registration.result c.from_residual-in_err-seal_registration.ensures.1 in
    rw (p.1, p.2) (memory-refused (request (registrar c.args.iss.now c.args.keys.now c.args.anchor.now c.args.anchor_keys.now.keys c.args.lifetime c.args.t) c.args.posted.now (g.F.Finder.seen c.chain_for.new.finder).last))

pub returns-in_err-seal_registration-clause-asks : goal.returns-in_err-seal_registration-clause-asks
returns-in_err-seal_registration-clause-asks g c =
    asks-any (λ before after entity answer. HasAnswered (g.F.Finder.seen before) (g.F.Finder.seen after) answer × g.F.Finder.gave before after entity c.args.anchor.now answer) c.args.finder.now c.chain_for.new.finder (posted_in c.args.posted.now) c.in_ok-chain.chain c.from_residual-in_err-seal_registration.result c.in_ok-chain.ensures.asks

pub returns-in_err-seal_registration-clause-counted : goal.returns-in_err-seal_registration-clause-counted
returns-in_err-seal_registration-clause-counted g c =
    let p = err_from_is_err_and c.from_residual-in_err-seal_registration.result c.from_residual-in_err-seal_registration.ensures.1 in
    rw (p.1, p.2) (memory-counts (request (registrar c.args.iss.now c.args.keys.now c.args.anchor.now c.args.anchor_keys.now.keys c.args.lifetime c.args.t) c.args.posted.now (g.F.Finder.seen c.chain_for.new.finder).last) c.in_ok-chain.chain (c.in_ok-chain.ensures.chain (registrar c.args.iss.now c.args.keys.now c.args.anchor.now c.args.anchor_keys.now.keys c.args.lifetime c.args.t)) c.in_ok-resolved.resolved c.in_ok-resolved.ensures.verdict _ _ c.in_ok-resolved.ensures.counted)

pub seal_registration-requires-clause-whole : goal.seal_registration-requires-clause-whole
seal_registration-requires-clause-whole g c =
    c.in_ok-claims.ensures.whole (c.in_ok-registration.ensures.whole c.in_ok-resolved.ensures.whole) (subst (λ chain. IsTrue (list_all is_utf8 chain)) (sym (ap (λ (r : Registration). r.chain) c.in_ok-registration.ensures.takes.1)) c.in_ok-resolved.ensures.utf8)

pub seal_registration-requires-clause-object : goal.seal_registration-requires-clause-object
seal_registration-requires-clause-object g c =
    c.in_ok-claims.ensures.object

pub returns-clause-registers : goal.returns-clause-registers
returns-clause-registers g c =
    registered-told (request (registrar c.args.iss.now c.args.keys.now c.args.anchor.now c.args.anchor_keys.now.keys c.args.lifetime c.args.t) c.args.posted.now (g.F.Finder.seen c.chain_for.new.finder).last) c.in_ok-chain.chain (c.in_ok-chain.ensures.chain (registrar c.args.iss.now c.args.keys.now c.args.anchor.now c.args.anchor_keys.now.keys c.args.lifetime c.args.t)) c.in_ok-resolved.resolved c.in_ok-resolved.ensures.verdict c.in_ok-registration.registration c.in_ok-claims.claims c.in_ok-seal_registration.field-0 c.in_ok-registration.ensures.takes c.in_ok-claims.ensures.tree c.in_ok-seal_registration.ensures.claims c.in_ok-seal_registration.ensures.text c.in_ok-seal_registration.ensures.sealed

pub returns-clause-asks : goal.returns-clause-asks
returns-clause-asks g c =
    asks-any (λ before after entity answer. HasAnswered (g.F.Finder.seen before) (g.F.Finder.seen after) answer × g.F.Finder.gave before after entity c.args.anchor.now answer) c.args.finder.now c.chain_for.new.finder (posted_in c.args.posted.now) c.in_ok-chain.chain (Ok c.in_ok-seal_registration.field-0) c.in_ok-chain.ensures.asks

pub returns-clause-counted : goal.returns-clause-counted
returns-clause-counted g c =
    registered-counts (request (registrar c.args.iss.now c.args.keys.now c.args.anchor.now c.args.anchor_keys.now.keys c.args.lifetime c.args.t) c.args.posted.now (g.F.Finder.seen c.chain_for.new.finder).last) c.in_ok-chain.chain (c.in_ok-chain.ensures.chain (registrar c.args.iss.now c.args.keys.now c.args.anchor.now c.args.anchor_keys.now.keys c.args.lifetime c.args.t)) c.in_ok-resolved.resolved c.in_ok-resolved.ensures.verdict c.in_ok-seal_registration.field-0 _ _ c.in_ok-resolved.ensures.counted
