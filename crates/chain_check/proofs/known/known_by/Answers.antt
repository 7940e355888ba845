use Rattle.std.proofs.Common.{sym, ◌∙◌}
use Rattle.chain_check.proofs.JudgingLaws.{fails-missed, fails-nameless, known-seal, unknown-named}
use Rattle.chain_check.proofs.known.known_by.Goals as goal

pub returns-in_default : goal.returns-in_default
returns-in_default c = fails-nameless c.args.set.now.keys c.args.tried.now c.args.compact.now c.requires.compact (sym c.signing_key.ensures ∙ c.in_default.is)

pub returns-then-has_seal : goal.returns-then-has_seal
returns-then-has_seal c =
    known-seal c.args.set.now.keys c.args.tried.now c.args.compact.now c.in-Some.public c.requires.compact (sym c.signing_key.ensures ∙ c.in-Some.is) (c.has_seal.ensures.stands.0 c.if-has_seal.true) (c.has_seal.ensures.sealed c.if-has_seal.true)

pub returns-then-has_miss : goal.returns-then-has_miss
returns-then-has_miss c =
    fails-missed c.args.set.now.keys c.args.tried.now c.args.compact.now c.in-Some.public c.requires.compact (sym c.signing_key.ensures ∙ c.in-Some.is)
    (λ at. let bad = sym (c.has_seal.ensures.stands.1 at) ∙ c.if-has_seal.false in cc bad) (c.has_miss.ensures.stands.0 c.if-has_miss.true) (c.has_miss.ensures.unsealed c.if-has_miss.true)

pub returns-else-has_miss : goal.returns-else-has_miss
returns-else-has_miss c =
    unknown-named c.args.set.now.keys c.args.tried.now c.args.compact.now c.in-Some.public c.requires.compact (sym c.signing_key.ensures ∙ c.in-Some.is)
    (λ at. let bad = sym (c.has_seal.ensures.stands.1 at) ∙ c.if-has_seal.false in cc bad) (λ at. let bad = sym (c.has_miss.ensures.stands.1 at) ∙ c.if-has_miss.false in cc bad)
