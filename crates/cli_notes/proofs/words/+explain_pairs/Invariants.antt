use Rattle.std.proofs.Common.{length}
use Rattle.cli_notes.proofs.words.+explain_pairs.Given as goal

abbrev pub decreases-explain_pairs : goal.decreases-explain_pairs
decreases-explain_pairs l = length l.pairs.now
