use Rattle.key_ring.proofs.FileLaws.{written-is}
use Rattle.key_ring.proofs.writing.ring_text.Goals as goal

pub returns-clause-written : goal.returns-clause-written
returns-clause-written c =
    written-is c.in_ok-text.text c.in_ok-tree.tree c.args.keys.now c.requires c.in_ok-tree.ensures.tree (c.in_ok-text.ensures.reads_back c.in_ok-tree.ensures.shallow)
