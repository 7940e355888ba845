use Rattle.std.proofs.Common.{◌∙◌, set-set}
use Rattle.std.proofs.lemmas.List.{set-get_or}
use Rattle.rows_signature.specs.Copies.{turned}
use Rattle.rows_signature.proofs.check.is_copy_valid.Goals as goal

pub returns-clause-value : goal.returns-clause-value
unfolding turned
returns-clause-value g c = c.is_valid-valid.ensures

pub returns-clause-same : goal.returns-clause-same
returns-clause-same g c = set-set _ _ _ _ ∙ set-get_or _ _ _
