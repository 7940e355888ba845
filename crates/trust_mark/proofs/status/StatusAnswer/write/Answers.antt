use Rattle.std.proofs.Common.{subst}
use Rattle.std.specs.Str.{IsUtf8}
use Rattle.entity_id.specs.Identifiers.{IsIdentifier}
use Rattle.trust_mark.proofs.StatusLaws.{read_answer, tree_answer, whole_answer}
use Rattle.trust_mark.proofs.status.StatusAnswer.write.Goals as goal

pub returns-clause-tree : goal.returns-clause-tree
returns-clause-tree c =
    tree_answer c.answer_tree.result c.args.self.now _ _ c.text-iss.ensures.text c.as_slice-trust_mark.ensures c.answer_tree.ensures.tree

pub returns-clause-whole : goal.returns-clause-whole
returns-clause-whole c =
    whole_answer c.answer_tree.result c.args.self.now (returns-clause-tree c) c.answer_tree.ensures.bounded (subst IsUtf8 c.text-iss.ensures.text c.text-iss.ensures.utf8)

pub returns-clause-reads_back : goal.returns-clause-reads_back
returns-clause-reads_back c =
    read_answer c.answer_tree.result c.args.self.now (returns-clause-tree c) (subst IsIdentifier c.text-iss.ensures.text c.text-iss.ensures.identifier)
