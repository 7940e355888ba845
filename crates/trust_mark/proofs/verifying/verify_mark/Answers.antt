use Rattle.entity_statement.specs.Told.{told}
use Rattle.trust_mark.proofs.Laws.{lasts_answer, leaf_answer, listed_answer, never_revived, one_answer, only_answer, owned_answer}
use Rattle.trust_mark.proofs.verifying.verify_mark.Goals as goal

pub returns-clause-only : goal.returns-clause-only
returns-clause-only g c = only_answer c.args.entry.now c.args.leaf.now (told c.args.anchor.now) c.args.issuer_keys.now.keys c.args.t c.verified.result c.verified.ensures.verdict

pub returns-clause-one : goal.returns-clause-one
returns-clause-one g c = one_answer c.args.entry.now c.args.leaf.now (told c.args.anchor.now) c.args.issuer_keys.now.keys c.args.t c.verified.result c.verified.ensures.verdict

pub returns-clause-one_leaf : goal.returns-clause-one_leaf
returns-clause-one_leaf g c = leaf_answer c.args.entry.now c.args.leaf.now (told c.args.anchor.now) c.args.issuer_keys.now.keys c.args.t c.verified.result c.verified.ensures.verdict

pub returns-clause-listed : goal.returns-clause-listed
returns-clause-listed g c = listed_answer c.args.entry.now c.args.leaf.now (told c.args.anchor.now) c.args.issuer_keys.now.keys c.args.t c.verified.result c.verified.ensures.verdict

pub returns-clause-owned : goal.returns-clause-owned
returns-clause-owned g c = owned_answer c.args.entry.now c.args.leaf.now (told c.args.anchor.now) c.args.issuer_keys.now.keys c.args.t c.verified.result c.verified.ensures.verdict

pub returns-clause-lasts : goal.returns-clause-lasts
returns-clause-lasts g c = lasts_answer c.args.entry.now c.args.leaf.now (told c.args.anchor.now) c.args.issuer_keys.now.keys c.args.t c.verified.result c.verified.ensures.verdict

pub returns-clause-ended : goal.returns-clause-ended
returns-clause-ended g c = λ mark reads ended later after.
    never_revived c.args.entry.now c.args.leaf.now (told c.args.anchor.now) c.args.issuer_keys.now.keys c.args.t later after mark reads ended
