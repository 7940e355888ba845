use Rattle.std.proofs.Common.{subst}
use Rattle.std.specs.Prelude.{Err}
use Rattle.key_ring.specs.Files.{Opens}
use Rattle.cli_rings.proofs.RingLaws.{known_found, shape_found}
use Rattle.cli_rings.proofs.ring_file.open_ring.Goals as goal

-- src/ring_file.rt
pub returns-in-Err-Shape : goal.returns-in-Err-Shape
returns-in-Err-Shape c = λ bytes is.
    shape_found c.args.file.now c.in-Whole.bytes bytes c.in-Err-Shape.field-0 c.in-Whole.is is (subst (λ t. Opens t (Err c.in-Err-Shape.field-0)) c.as_slice.ensures c.in-Err-Shape.ensures) c.in-Err-Shape.field-0-is

-- src/ring_file.rt
pub returns-in-Err-Known : goal.returns-in-Err-Known
returns-in-Err-Known c = λ bytes is.
    known_found c.args.file.now c.in-Whole.bytes bytes c.in-Err-Known.field-0 c.in-Err-Known.field-0-0 c.in-Whole.is is (subst (λ t. Opens t (Err c.in-Err-Known.field-0)) c.as_slice.ensures c.in-Err-Known.ensures) c.in-Err-Known.field-0-is
