use Rattle.std.proofs.Common.{refl}
use Rattle.base64url.proofs.Canonical.{written}
use Rattle.base64url.proofs.coding.encode_32.Goals as goal

pub returns : goal.returns
returns c = written _ _ _ c.encode_slice.result c.told-bytes refl c.encode_slice.ensures.fits c.encode_slice.ensures.written
