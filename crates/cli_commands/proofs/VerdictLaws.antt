-- Texts and numbers as JSON.
use Rattle.std.proofs.Common.{◌≡◌, ◌<◌, ◌^◌, ℕ, List, pos, ◌&&◌, not, false, ap₂, ◌∙◌, rules}
use Rattle.std.specs.Prelude.{decimal, IsTrue}
use Rattle.std.specs.Str.{is_utf8}
use Rattle.fed_json.proofs.Layers.{well_formed-Text}
use Rattle.fed_json.specs.Compact.{compact, quoted}
use Rattle.fed_json.specs.Forms.{IsWhole, has_odd}
use Rattle.fed_json.specs.declared.tree.Json.{Int, Text, the_lemmas}

-- a text has a JSON text where it is UTF-8
pub whole_text : (bytes : List ℕ) → IsTrue (is_utf8 bytes) → IsWhole (Text bytes)
whole_text bytes utf8 =
    let plain : has_odd (Text bytes) ≡ false = search (rules, the_lemmas) in
    ap₂ (λ a b. a && not b) (well_formed-Text bytes ∙ utf8) plain

-- and a number of 64 bits
pub whole_number : (n : ℕ) → n < 2 ^ 64 → IsWhole (Int (pos n))
whole_number n small = search (rules, the_lemmas, small)

-- the JSON text of a text stands between quotation marks
pub compact_text_of : (bytes : List ℕ) → compact (Text bytes) ≡ quoted bytes
compact_text_of bytes = search (rules, the_lemmas)

-- that of a number is decimal
pub compact_number_of : (n : ℕ) → compact (Int (pos n)) ≡ decimal n
compact_number_of n = search (rules, the_lemmas)
