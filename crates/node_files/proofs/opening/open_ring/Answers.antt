use Rattle.node_files.proofs.NodeLaws.{counts_after, ring_of}
use Rattle.node_files.proofs.opening.open_ring.Goals as goal

pub returns-clause-ring : goal.returns-clause-ring
returns-clause-ring g c =
    ring_of (g.D.Store.files c.args.store.now) c.args.name.now c.in_ok-bytes.bytes c.read_ring.result c.in_ok-bytes.ensures.read (c.read_ring.ensures.ring (g.D.Store.files c.args.store.now))

pub returns-clause-counts : goal.returns-clause-counts
returns-clause-counts g c =
    counts_after _ _ _ c.read_ring.result c.in_ok-bytes.ensures.counts (c.read_ring.ensures.steady (g.D.Store.store_faults c.read_file.new.store))
