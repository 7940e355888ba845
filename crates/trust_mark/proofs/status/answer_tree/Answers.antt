use Rattle.trust_mark.specs.Statuses.{answer_of}
use Rattle.trust_mark.proofs.StatusLaws.{tree_made}
use Rattle.trust_mark.proofs.status.answer_tree.Goals as goal

pub returns-clause-tree : goal.returns-clause-tree
returns-clause-tree c =
    tree_made (answer_of c.args.iss.now c.args.iat c.args.trust_mark.now c.args.status) c.new-members.result c.add_number.new.members c.add_texts.new.members _
    c.new-members.ensures c.in_ok-add_number.ensures c.in_ok-add_texts.ensures c.word.ensures
