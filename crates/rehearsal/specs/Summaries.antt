-- What a rehearsal tells: a summary of six lines.
use Rattle.std.specs.Prelude.{◌≡◌, ℕ, zero, suc, List, [], ◌∷◌, ◌++◌, ◌+◌, length, fold, min, codes, decimal, Option, Some}
use Rattle.fed_base.specs.Counts.{last_count}
use Rattle.fed_base.specs.Values.{◌>>=◌}
use Rattle.fed_json.specs.declared.tree.Json.{Json}
use Rattle.fed_json.specs.Compact.{compact}
use Rattle.fed_json.specs.Trees.{find, object_members}
use Rattle.resolve_round.specs.declared.trace.Search.{Search}
use Rattle.resolve_round.specs.declared.trace.Trace.{Trace}
use Rattle.rehearsal.specs.declared.summary.Counts.{Counts}
use Rattle.rehearsal.specs.declared.summary.Summary.{Summary}
use Rattle.rehearsal.specs.Configurations.{parameter_name}

-- how many pages all rounds asked of the link, added up; as every count does, the sum stands still at its last value
abbrev pub with_calls : ℕ → Search → ℕ
with_calls n search = min (n + search.calls) last_count

unfoldable pub calls_of : List Search → ℕ
calls_of searches = fold with_calls 0 searches

abbrev pub calls_in : Trace → ℕ
calls_in trace = calls_of trace.searches

-- what one resolve call took
pub record IsCountOf (trace : Trace) (counts : Counts) : Type 0 where
  pub calls : counts.calls ≡ calls_in trace
  pub checks : counts.checks ≡ length trace.checks

-- a parameter of the relying party's metadata, found by its name
unfoldable pub parameter_in : Json → List ℕ → Option Json
parameter_in metadata name = find (codes "openid_relying_party") (object_members metadata) >>= (λ parameters. find name (object_members parameters))

-- the value of the last of so many parameters as compact JSON, and a hyphen where there is none
abbrev pub IsLast : ℕ → Json → List ℕ → Type 0
IsLast zero metadata text = text ≡ codes "-"
IsLast (suc i) metadata text = (value : Json) × (parameter_in metadata (parameter_name i) ≡ Some value) × (text ≡ compact value)

-- ---- the lines, each with its line end

-- two numbers with a space between them
abbrev pub two_numbers : ℕ → ℕ → List ℕ
two_numbers a b = decimal a ++ (codes " " ++ decimal b)

-- a line: a word, what it says, and a line end
abbrev pub line : List ℕ → List ℕ → List ℕ
line word said = word ++ (said ++ 10 ∷ [])

-- the first four, whose values are numbers
unfoldable pub numbers_text : Summary → List ℕ
numbers_text s =
    line (codes "params ") (decimal s.params)
    ++ (line (codes "chain ") (decimal s.chain)
    ++ (line (codes "link calls ") (two_numbers s.first.calls s.second.calls)
    ++ line (codes "checks ") (two_numbers s.first.checks s.second.checks)))

-- all six
unfoldable pub summary_text : Summary → List ℕ
summary_text s = numbers_text s ++ (line (codes "last ") s.last ++ codes "valid\n")
