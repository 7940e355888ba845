use Rattle.std.proofs.Common.{codes, refl}
use Rattle.key_ring.specs.Changes.{retire_key}
use Rattle.cli_rings.proofs.RotateLaws.{change_made, change_refused}
use Rattle.cli_rings.proofs.rotate.retire.Goals as goal

-- src/rotate.rt
pub returns-in-Ok : goal.returns-in-Ok
returns-in-Ok c =
    change_made c.done.result c.args.ring (retire_key c.args.kid.now) (codes "done") (codes "done") _ _ c.new-name.result _ c.in-Ok.ensures.answer c.in-Ok.ensures.left.files
    c.new-name.ensures c.file.ensures refl c.done.ensures

-- src/rotate.rt
pub returns : goal.returns
returns c = change_refused (Unit {0}) c.refused.result c.args.ring (retire_key c.args.kid.now) (codes "done") c.in-Err.fault c.in-Err.ensures.answer c.refused.ensures
