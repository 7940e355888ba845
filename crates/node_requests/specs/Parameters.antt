-- Parameters of a request, by their names.
use Rattle.std.specs.Prelude.{List, [], ◌∷◌, ℕ, codes, bytes_eq, Bool, true, false, Option, Some, None, if◌then◌else◌}
use Rattle.http_messages.specs.declared.request.Pair.{Pair}

-- the values of a parameter, in order
abbrev pub values_of : List ℕ → List Pair → List (List ℕ)
values_of name [] = []
values_of name (p ∷ ps) = if bytes_eq p.name name then p.value ∷ values_of name ps else values_of name ps

-- the value of a parameter that stands exactly once
abbrev pub once : List (List ℕ) → Option (List ℕ)
once [] = None
once (value ∷ []) = Some value
once (value ∷ next ∷ values) = None

-- the value of one that stands at most once
abbrev pub at_most_once : List (List ℕ) → Option (Option (List ℕ))
at_most_once [] = Some None
at_most_once (value ∷ []) = Some (Some value)
at_most_once (value ∷ next ∷ values) = None

-- true or false, as a word
abbrev pub truth_of : List ℕ → Option Bool
truth_of word = if bytes_eq word (codes "true") then Some true else (if bytes_eq word (codes "false") then Some false else None)

-- the same of a parameter that stands at most once; where it is absent it is false
abbrev pub flag_of : List (List ℕ) → Option Bool
flag_of [] = Some false
flag_of (value ∷ []) = truth_of value
flag_of (value ∷ next ∷ values) = None
