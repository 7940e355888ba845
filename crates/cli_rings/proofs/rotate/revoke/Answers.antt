use Rattle.std.proofs.Common.{◌≡◌, ℕ, codes, refl, subst}
use Rattle.std.specs.Prelude.{IfOk}
use Rattle.key_ring.specs.Changes.{revoke_key}
use Rattle.cli_rings.specs.Rotations.{change_reply}
use Rattle.cli_rings.proofs.RotateLaws.{change_made, change_refused}
use Rattle.cli_rings.proofs.rotate.revoke.Goals as goal

-- src/rotate.rt
pub returns-in-Ok : goal.returns-in-Ok
returns-in-Ok c =
    let revoked = λ (at : ℕ). revoke_key c.args.kid.now at c.args.reason in
    subst (λ at. IfOk c.done.result (λ reply. reply ≡ change_reply c.args.ring (revoked at) (codes "done"))) c.seconds.ensures.seconds
    (change_made c.done.result c.args.ring (revoked c.seconds.result) (codes "done") (codes "done") _ _ c.new-name.result _ c.in-Ok.ensures.answer c.in-Ok.ensures.left.files
    c.new-name.ensures c.file.ensures refl c.done.ensures)

-- src/rotate.rt
pub returns : goal.returns
returns c =
    let revoked = λ (at : ℕ). revoke_key c.args.kid.now at c.args.reason in
    subst (λ at. IfOk c.refused.result (λ reply. reply ≡ change_reply c.args.ring (revoked at) (codes "done"))) c.seconds.ensures.seconds
    (change_refused (Unit {0}) c.refused.result c.args.ring (revoked c.seconds.result) (codes "done") c.in-Err.fault c.in-Err.ensures.answer c.refused.ensures)
