-- What one end of a connection in memory holds.
use Rattle.std.specs.Prelude.{ℕ, List, Option, Some}
use Rattle.fed_ports.specs.MemoryStreams.{source_left, source_plan, source_faults, sink_held, sink_room, sink_plan, sink_faults}
use Rattle.fed_base.specs.Plans.{Plan}
use Rattle.fed_net.specs.declared.memory_peer.MemoryPeer.{MemoryPeer}

-- the bytes that are left to read
abbrev pub peer_left : MemoryPeer → List ℕ
peer_left peer = source_left peer.source

-- the bytes that it was given
abbrev pub peer_held : MemoryPeer → List ℕ
peer_held peer = sink_held peer.sink

-- how many bytes it takes in all
abbrev pub peer_room : MemoryPeer → ℕ
peer_room peer = sink_room peer.sink

-- the readings and the writings that are to fail
abbrev pub peer_reads : MemoryPeer → Plan
peer_reads peer = source_plan peer.source

abbrev pub peer_writes : MemoryPeer → Plan
peer_writes peer = sink_plan peer.sink

-- how often a reading and a writing has failed
abbrev pub peer_read_faults : MemoryPeer → ℕ
peer_read_faults peer = source_faults peer.source

abbrev pub peer_write_faults : MemoryPeer → ℕ
peer_write_faults peer = sink_faults peer.sink

-- what a reading leaves, and what a writing leaves
abbrev pub peer_written : MemoryPeer → Option (List ℕ) × ℕ
peer_written peer = (Some (peer_held peer), peer_write_faults peer)

abbrev pub peer_to_read : MemoryPeer → Option (List ℕ) × ℕ
peer_to_read peer = (Some (peer_left peer), peer_read_faults peer)
