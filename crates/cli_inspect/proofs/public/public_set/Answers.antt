use Rattle.cli_inspect.proofs.PublicLaws.{reads-back}
use Rattle.cli_inspect.proofs.public.public_set.Goals as goal

pub returns-clause-reads_back : goal.returns-clause-reads_back
returns-clause-reads_back c =
    reads-back c.write_tree-text.result c.args.ring.now c.in_ok-tree.tree c.in_ok-set.set.keys c.in_ok-tree.ensures.tree c.in_ok-set.ensures.keys c.in_ok-tree.ensures.reads_back
    c.write_tree-text.ensures.reads_back
