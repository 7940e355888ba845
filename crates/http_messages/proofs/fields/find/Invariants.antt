use Rattle.std.proofs.Common.{◌≡◌, drop, map, List, ℕ, [], ◌∷◌, ◌++◌}
use Rattle.httparse.specs.Spans.{header_bytes}
use Rattle.http_messages.specs.Fields.{values_named}
use Rattle.http_messages.specs.declared.fields.Found.{Found}
use Rattle.http_messages.specs.declared.fields.Found.TheVariants.{Absent, Once, Again}
use Rattle.http_messages.proofs.fields.find.Given as goal

abbrev pub so_far : Found → List (List ℕ)
so_far Absent = []
so_far (Once v) = v.now ∷ []
so_far Again = []

abbrev pub invariant-loop-line : goal.invariant-loop-line
invariant-loop-line l = record {
  told : so_far l.found ++ values_named l.name (map (header_bytes l.buf) (drop l.line-index l.lines)) ≡ values_named l.name (map (header_bytes l.buf) l.lines);
  not : l.found ≡ Again → ⊥;
}
