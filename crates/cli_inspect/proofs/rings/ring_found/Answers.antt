use Rattle.std.proofs.Common.{subst}
use Rattle.std.specs.Prelude.{Err}
use Rattle.key_ring.specs.Files.{Opens}
use Rattle.cli_inspect.proofs.ConfigLaws.{found_known, found_shape}
use Rattle.cli_inspect.proofs.rings.ring_found.Goals as goal

pub returns-in-Err-Shape : goal.returns-in-Err-Shape
returns-in-Err-Shape c = λ bytes is.
    found_shape c.args.file.now c.in-Whole.bytes bytes c.in-Err-Shape.field-0 c.in-Whole.is is (subst (λ t. Opens t (Err c.in-Err-Shape.field-0)) c.as_slice.ensures c.in-Err-Shape.ensures) c.in-Err-Shape.field-0-is

pub returns-in-Err-Known : goal.returns-in-Err-Known
returns-in-Err-Known c = λ bytes is.
    found_known c.args.file.now c.in-Whole.bytes bytes c.in-Err-Known.field-0 c.in-Err-Known.field-0-0 c.in-Whole.is is
    (subst (λ t. Opens t (Err c.in-Err-Known.field-0)) c.as_slice.ensures c.in-Err-Known.ensures) c.in-Err-Known.field-0-is
