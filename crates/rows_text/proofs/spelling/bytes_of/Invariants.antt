use Rattle.std.proofs.Common.{length}
use Rattle.rows_text.proofs.spelling.bytes_of.Given as goal

abbrev pub decreases-loop-byte : goal.decreases-loop-byte
decreases-loop-byte l = length l.rest
