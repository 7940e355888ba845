use Rattle.std.proofs.Common.{◌≡◌, ◌≤◌, ◌+◌, ◌-◌, length, drop, false}
use Rattle.chunked_body.specs.Readers.{is_over, reading, room_of}
use Rattle.chunked_body.specs.Readings.{run}
use Rattle.chunked_body.proofs.reader.ChunkReader.take.Given as goal

abbrev pub invariant-loop-at : goal.invariant-loop-at
invariant-loop-at l = record {
  inside : l.at ≤ length l.piece;
  rest : run (reading l.self) (drop l.at l.piece) ≡ run (reading l.fn.self) l.piece;
  least : room_of l.self ≤ room_of l.fn.self;
  room : is_over l.self ≡ false → room_of l.self + l.at ≤ room_of l.fn.self;
}

abbrev pub decreases-loop-at : goal.decreases-loop-at
decreases-loop-at l = length l.piece - l.at
