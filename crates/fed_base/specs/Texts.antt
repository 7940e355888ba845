-- The bytes of a text, which has them alone or shares them with its copies.
use Rattle.std.specs.Prelude.{ℕ, List, take}
use Rattle.std.specs.Arc.{arc_value}
use Rattle.fed_base.specs.declared.bytes.Bytes.{Bytes}
use Rattle.fed_base.specs.declared.bytes.Bytes.TheVariants.{Own, Shared}

-- the bytes that are seen: of shared ones the first `len`
abbrev pub bytes_of : Bytes → List ℕ
bytes_of (Own own) = own.items
bytes_of (Shared all len) = take len (arc_value all).items
