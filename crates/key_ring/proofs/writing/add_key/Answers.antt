use Rattle.key_ring.proofs.MemberLaws.{key-filled}
use Rattle.key_ring.proofs.writing.add_key.Goals as goal

pub returns : goal.returns
returns c = λ none.
    key-filled c.add_tree.result c.args.version c.args.members.now c.add_alg.new.members c.add_number.new.members c.add_number-2.new.members c.add_seeds.new.members c.add_tree.new.members c.in_ok-state_tree.field-0 c.args.key.now
    none c.in_ok-add_alg.ensures c.in_ok-add_number.ensures c.in_ok-add_number-2.ensures c.in_ok-add_seeds.ensures c.in_ok-state_tree.ensures c.add_tree.ensures
