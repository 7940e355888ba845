use Rattle.std.proofs.Common.{rules, ◌≡◌, Some}
use Rattle.node_files.specs.NodeFiles.{ring_name}
use Rattle.node_files.proofs.NodeLaws.{ring_named}
use Rattle.node_files.proofs.opening.ring_for.Goals as goal

pub returns-in-Some-clause-ring : goal.returns-in-Some-clause-ring
returns-in-Some-clause-ring g c =
    let named : ring_name c.args.config.now ≡ Some c.in-Some.ring.now = search (rules, c.text_at.ensures.text, c.object_members.ensures, c.in-Some.is) in
    ring_named (g.D.Store.files c.args.store.now) c.args.config.now c.in-Some.ring.now c.open_ring.result named c.open_ring.ensures.ring
