-- The part of a URL, as it is summed.
use Rattle.std.proofs.Common.{◌≡◌, ◌+◌, ◌%◌, ℕ, List, [], ◌∷◌, ◌++◌, arith}
use Rattle.std.proofs.lemmas.List.Sums.{sum_by_push}
use Rattle.statement_shelf.specs.Entries.{part_of}

pub part-more : (bytes : List ℕ) (byte part : ℕ) → part ≡ part_of bytes → (part + byte) % 8 ≡ part_of (bytes ++ byte ∷ [])
part-more bytes byte part is = let more = sum_by_push (λ x. x) bytes byte in omega (arith, is, more)
