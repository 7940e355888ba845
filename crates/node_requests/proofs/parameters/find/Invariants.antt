use Rattle.std.proofs.Common.{◌≡◌, drop, List, ℕ, [], ◌∷◌, ◌++◌}
use Rattle.node_requests.specs.Parameters.{values_of}
use Rattle.node_requests.specs.declared.parameters.Found.{Found}
use Rattle.node_requests.specs.declared.parameters.Found.TheVariants.{Absent, Once, Again}
use Rattle.node_requests.proofs.parameters.find.Given as goal

abbrev pub so_far : Found → List (List ℕ)
so_far Absent = []
so_far (Once v) = v.now ∷ []
so_far Again = []

abbrev pub invariant-loop-pair : goal.invariant-loop-pair
invariant-loop-pair l = record {
  told : so_far l.found ++ values_of l.name (drop l.pair-index l.pairs) ≡ values_of l.name l.pairs;
  not : l.found ≡ Again → ⊥;
}
