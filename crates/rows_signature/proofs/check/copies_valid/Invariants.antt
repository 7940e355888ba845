use Rattle.std.proofs.Common.{◌≡◌, ℕ, ◌<◌, length}
use Rattle.std.specs.Prelude.{◌↔◌, IsTrue, false, slice_index_or}
use Rattle.slh_dsa.specs.Verifying.{Verifies}
use Rattle.rows_signature.specs.Copies.{turned, place_of_copy}
use Rattle.rows_signature.proofs.check.copies_valid.Given as goal

abbrev pub invariant-copies : goal.invariant-copies
invariant-copies g l = record {
  size : length l.valid ≡ 8;
  same : l.signature ≡ l.fn.signature;
  each : (n : ℕ) → n < l.n → IsTrue (slice_index_or l.valid n false) ↔ Verifies l.alg l.public l.message (turned l.fn.signature (place_of_copy n (length l.fn.signature)));
}
