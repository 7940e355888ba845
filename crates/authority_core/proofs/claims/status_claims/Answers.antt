use Rattle.std.proofs.Common.{subst, sym}
use Rattle.std.specs.Str.{IsUtf8}
use Rattle.trust_mark.specs.Statuses.{answer_of}
use Rattle.authority_core.proofs.StatusLaws.{answer-object, answer-tree, answer-whole}
use Rattle.authority_core.proofs.claims.status_claims.Goals as goal

pub returns-clause-tree : goal.returns-clause-tree
returns-clause-tree c = answer-tree c.write.result _ _ (λ i. answer_of (c.in_ok-iss.ensures i) c.args.t (c.in_ok-trust_mark.ensures i) c.args.status) c.write.ensures.tree

pub returns-clause-whole : goal.returns-clause-whole
returns-clause-whole c = answer-whole c.write.result _ (subst IsUtf8 (sym c.in_ok-trust_mark.ensures) c.requires) c.write.ensures.whole

pub returns-clause-object : goal.returns-clause-object
returns-clause-object c = answer-object c.write.result _ c.write.ensures.tree
