-- What a trace shows of a text and a key.
use Rattle.std.specs.Prelude.{◌-◌, ◌⊎◌, ℕ, List, [], ◌∷◌, ◌++◌, length, take, find, bytes_eq, Bool, true, false, ◌&&◌, MatchBool, Option, Some, None, option_map, if◌then◌else◌}
use Rattle.std.specs.List.{list_any}
use Rattle.sealed.specs.Seals.{IsSealed, IsUnsealed, Pair}
use Rattle.chain_climb.specs.Elements.{Among}
use Rattle.statement_shelf.specs.declared.calls.Proven.{Proven}
use Rattle.statement_shelf.specs.declared.calls.ShelfCall.TheVariants.{Look}
use Rattle.statement_shelf.specs.declared.calls.ShelfReply.TheVariants as reply
use Rattle.resolve_round.specs.declared.trace.Check.{Check}
use Rattle.resolve_round.specs.declared.trace.Event.{Event}
use Rattle.resolve_round.specs.declared.trace.Event.TheVariants.{Shelf}
use Rattle.resolve_round.specs.declared.trace.Search.{Search}
use Rattle.resolve_round.specs.declared.trace.Trace.{Trace}
use Rattle.resolve_round.specs.Told.{IsTrueSoFar, ShownByHit, TestedGood}
use Rattle.resolve_round.specs.Traces.{pair_in}

-- the check is of this pair
abbrev pub is_check_of : Pair → Check → Bool
is_check_of pair check = bytes_eq check.text pair.text && bytes_eq check.public pair.public

-- what the checks say of the pair, where one is of it
unfoldable pub answer_in : List Check → Pair → Option Bool
answer_in checks pair = option_map (λ check. check.good) (find (is_check_of pair) checks)

-- what was hit shows the pair as proved
abbrev pub shows_pair : Pair → Proven → Bool
shows_pair pair proven = bytes_eq proven.text pair.text && list_any (λ key. bytes_eq key pair.public) proven.keys

-- a Hit shows it
abbrev pub is_shown_at : Pair → Event → Bool
is_shown_at pair (Shelf (Look url moment) (reply.Hit proven)) = shows_pair pair proven
is_shown_at pair event = false

unfoldable pub is_shown_in : List Event → Pair → Bool
is_shown_in events pair = list_any (is_shown_at pair) events

-- whether the pair verifies, where the trace shows it
abbrev pub known_or : Option Bool → Bool → Option Bool
known_or (Some good) shown = Some good
known_or None shown = if shown then Some true else None

abbrev pub known_of : Trace → Pair → Option Bool
known_of trace pair = known_or (answer_in trace.checks pair) (is_shown_in trace.events pair)

-- the trace shows that the pair verifies: it was tested and is good, or a hit showed it as proved
abbrev pub IsKnownGood : Trace → Pair → Type 0
IsKnownGood trace pair = TestedGood trace.checks pair ⊎ ShownByHit trace.events pair

-- the answer of a test
abbrev pub IsAnswer : Pair → Bool → Type 0
IsAnswer pair good = MatchBool good (IsSealed pair) (IsUnsealed pair)

-- each check has the answer of its test
abbrev pub AnswersStand : List Check → Type 0
AnswersStand checks = (check : Check) → Among check checks → IsAnswer (pair_in check) check.good

-- the trace with the round that is under way in the place of the last one
abbrev pub with_search : Trace → Search → Trace
with_search trace search = record trace { searches = take (length trace.searches - 1) trace.searches ++ search ∷ [] }

-- what the trace and the round that is under way tell is true
abbrev pub HoldsSoFar : ℕ → Search → Trace → Type 0
HoldsSoFar age search trace = IsTrueSoFar age (with_search trace search)
