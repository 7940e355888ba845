use Rattle.std.proofs.Common.{length}
use Rattle.system_notes.proofs.named_file.+value_of.Given as goal

-- the words are left one by one
abbrev pub decreases-value_of : goal.decreases-value_of
decreases-value_of l = length l.words.now
