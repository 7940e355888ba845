-- What a reader has read.
use Rattle.std.specs.Prelude.{◌≡◌, ℕ, Bool, List}
use Rattle.chunked_body.specs.declared.reader.ChunkReader.{ChunkReader}
use Rattle.chunked_body.specs.Readings.{Chunking, is_final, run, start}

abbrev pub reading : ChunkReader → Chunking
reading r = record { place = r.place; room = r.room; body = r.body }

-- these bytes have come
abbrev pub HasRead : ChunkReader → List ℕ → Type 0
HasRead r x = reading r ≡ run start x

-- what the body is is known
abbrev pub is_over : ChunkReader → Bool
is_over r = is_final r.place

-- how many bytes may still come
abbrev pub room_of : ChunkReader → ℕ
room_of r = r.room
