use Rattle.std.proofs.Common.{subst}
use Rattle.node_files.specs.NodeFiles.{Answers, IsNodeFor}
use Rattle.node_files.proofs.NodeLaws.{node_of_file}
use Rattle.node_files.proofs.opening.open_node.Goals as goal

pub returns-clause-node : goal.returns-clause-node
returns-clause-node g c =
    node_of_file (g.D.Store.files c.args.store.now) c.args.config.now c.in_ok-bytes.bytes c.node_for.result c.in_ok-bytes.ensures.read
    (subst (λ files. Answers files (IsNodeFor files c.in_ok-bytes.bytes) c.node_for.result) c.in_ok-bytes.ensures.files c.node_for.ensures.node)
