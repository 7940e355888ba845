use Rattle.std.proofs.Common.{length}
use Rattle.config_warnings.proofs.ended.+of_signer.Given as goal

abbrev pub decreases-of_signer : goal.decreases-of_signer
decreases-of_signer l = length l.keys.now
