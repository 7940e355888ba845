use Rattle.std.proofs.Common.{subst, sym}
use Rattle.key_ring.specs.Rings.{HasForm}
use Rattle.key_ring.proofs.FoundAgain.{form-of, other-tree, that-tree, wrong-size}
use Rattle.key_ring.proofs.reading.compared.Goals as goal

pub tree_of-requires : goal.tree_of-requires
tree_of-requires c =
    subst HasForm (sym c.as_slice-2.ensures)
    (form-of c.args.version c.args.keys c.as_slice.result.now c.is_ring_size.result c.requires.formed c.as_slice.ensures c.is_ring_size.ensures c.if-not-is_ring_size.false)

pub returns-then-not-is_ring_size : goal.returns-then-not-is_ring_size
returns-then-not-is_ring_size c =
    wrong-size c.args.version c.args.tree.now c.args.keys c.as_slice.result.now c.is_ring_size.result c.requires.version c.requires.found c.as_slice.ensures c.is_ring_size.ensures
    c.if-not-is_ring_size.true

pub returns-then-json_equal : goal.returns-then-json_equal
returns-then-json_equal c =
    that-tree c.args.version c.args.tree.now c.in_ok-written.written c.args.keys c.as_slice-2.result.now c.json_equal.result c.requires.formed
    (form-of c.args.version c.args.keys c.as_slice.result.now c.is_ring_size.result c.requires.formed c.as_slice.ensures c.is_ring_size.ensures c.if-not-is_ring_size.false)
    c.as_slice-2.ensures c.in_ok-written.ensures.tree c.json_equal.ensures.equal c.if-json_equal.true

pub returns-else-json_equal : goal.returns-else-json_equal
returns-else-json_equal c =
    other-tree c.args.version c.args.tree.now c.in_ok-written.written c.args.keys c.as_slice-2.result.now c.json_equal.result c.requires.version c.requires.found c.as_slice-2.ensures
    c.in_ok-written.ensures.tree c.json_equal.ensures.equal c.if-json_equal.false
