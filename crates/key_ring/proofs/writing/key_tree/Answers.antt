use Rattle.key_ring.proofs.writing.key_tree.Goals as goal

pub returns : goal.returns
returns c = c.in_ok-add_key.ensures c.new-members.ensures
