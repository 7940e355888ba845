use Rattle.std.proofs.Common.{false, sym, ◌∙◌}
use Rattle.std.proofs.lemmas.Result.{IfOk-weaker}
use Rattle.entity_statement.specs.Told.{told}
use Rattle.resolve_round.proofs.CallLaws.{tests-none}
use Rattle.resolve_round.proofs.OwnLaws.{keeps-good, keeps-true, sealed-as_answered, unnamed-unsealed}
use Rattle.resolve_round.proofs.own.seals_itself.Goals as goal

-- ---- its header names a key

pub verifies-requires-clause-compact : goal.verifies-requires-clause-compact
verifies-requires-clause-compact g c = c.requires.split

pub returns-in-Some-clause-sealed : goal.returns-in-Some-clause-sealed
returns-in-Some-clause-sealed g c =
    let named = sym c.own_key.ensures ∙ c.in-Some.is in
    IfOk-weaker c.verifies.result _ _
    (λ good answer. sealed-as_answered c.args.signed.now.compact c.args.signed.now.statement.jwks.keys c.requires.split c.in-Some.public good named answer)
    c.verifies.ensures.answer

pub returns-in-Some-clause-stays_true : goal.returns-in-Some-clause-stays_true
returns-in-Some-clause-stays_true g c =
    let named = sym c.own_key.ensures ∙ c.in-Some.is in
    keeps-true c.args.call.now.trace.now c.verifies.new.call.trace.now c.args.url.now c.args.signed.now.compact (told c.args.signed.now.statement) c.in-Some.public c.requires.split c.requires.reads named
    c.verifies.ensures.stays_true

pub returns-in-Some-clause-proved : goal.returns-in-Some-clause-proved
returns-in-Some-clause-proved g c =
    let named = sym c.own_key.ensures ∙ c.in-Some.is in
    IfOk-weaker c.verifies.result _ _
    (λ _ stays.
    keeps-good c.args.call.now.trace.now c.verifies.new.call.trace.now c.args.url.now c.args.signed.now.compact (told c.args.signed.now.statement) c.in-Some.public c.requires.split c.requires.reads named stays)
    c.verifies.ensures.proved

-- ---- it names none

pub returns-in-None-clause-tests : goal.returns-in-None-clause-tests
returns-in-None-clause-tests g c = tests-none g.G.Ledger.count c.args.call.now false c.requires.of

pub returns-in-None-clause-sealed : goal.returns-in-None-clause-sealed
returns-in-None-clause-sealed g c =
    unnamed-unsealed c.args.signed.now.compact c.args.signed.now.statement.jwks.keys c.requires.split (sym c.own_key.ensures ∙ c.in-None.is)

pub returns-in-None-clause-stays_true : goal.returns-in-None-clause-stays_true
returns-in-None-clause-stays_true g c = λ age search obtained holds. holds

pub returns-in-None-clause-proved : goal.returns-in-None-clause-proved
returns-in-None-clause-proved g c = λ search obtained good. good
