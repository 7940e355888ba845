-- What the rounds for the issuers of a leaf's marks say of these marks (OpenID Federation 1.0 section 7.3).
use Rattle.std.specs.Prelude.{ℕ, List, [], bytes_eq, slice_get, Option, None, option_and_then, option_map}
use Rattle.std.specs.List.{filter}
use Rattle.std.specs.Option.{option_map_or}
use Rattle.jwk_set.specs.declared.jwk.Jwk.{Jwk}
use Rattle.entity_statement.specs.Claims.{Claims, Identifier}
use Rattle.entity_statement.specs.Signed.{statement_of}
use Rattle.chain_climb.specs.Climbs.{configuration_of}
use Rattle.resolve_round.specs.Courses.{Course, Stop, finished, found, out_of_calls, out_of_paths}
use Rattle.resolve_round.specs.Pages.{Pages, Query, chain_of}
use Rattle.resolve_round.specs.Rounds.{good_in, last_course, pages_in}
use Rattle.resolve_reply.specs.Marks.{IssuerKeys, IssuerTexts, Judging, looked_at, searched_issuers, tests_of_marks}

-- where a round found a path, what its pages say
abbrev pub if_found : {X : Type 0} → Stop → Option X → Option X
if_found (found path) said = said
if_found finished said = None
if_found (out_of_calls page) said = None
if_found (out_of_paths path) said = None

-- what the configuration of an entity says in a round that found a path
abbrev pub said_in : Query → Course → Identifier → Option Claims
said_in query round entity = if_found round.stop (good_in query round (configuration_of entity))

-- the rounds that an entity was searched in
abbrev pub rounds_for : Identifier → List Course → List Course
rounds_for entity courses = filter (λ course. bytes_eq course.search.leaf entity) courses

-- the keys of an issuer's configuration, where the last of its rounds found a chain
unfoldable pub found_keys : Query → List Course → IssuerKeys
found_keys query others issuer =
    option_and_then (λ round. option_map (λ claims. claims.keys) (said_in query round issuer)) (last_course (rounds_for issuer others))

-- the first text of the chain of a path
abbrev pub text_by : Pages → Stop → Option (List ℕ)
text_by pages (found path) = slice_get (chain_of pages path) 0
text_by pages finished = None
text_by pages (out_of_calls page) = None
text_by pages (out_of_paths path) = None

-- the first text of the chain that a round found: the configuration of its entity
unfoldable pub first_text_of : Course → Option (List ℕ)
first_text_of round = text_by (pages_in round) round.stop

-- the configuration of an issuer: the first text of the chain that the last of its rounds found
unfoldable pub found_texts : List Course → IssuerTexts
found_texts others issuer = option_and_then first_text_of (last_course (rounds_for issuer others))

-- the keys that a configuration says
unfoldable pub keys_said : Option (List ℕ) → Option (List Jwk)
keys_said text = option_map (λ (claims : Claims). claims.keys) (option_and_then statement_of text)

-- by what the leaf's marks are judged after these rounds
abbrev pub judging_after : Query → Claims → List Course → Judging
judging_after query anchor others = record { leaf = query.entity; anchor = anchor; keys = found_keys query others; moment = query.moment }

-- what the leaf's and the anchor's configurations say where the last of the leaf's rounds found a chain
pub record Ends : Type 0 where
  pub leaf : Claims
  pub anchor : Claims

abbrev pub both_ends : Option Claims → Option Claims → Option Ends
both_ends leaf anchor = option_and_then (λ l. option_map (λ a. record { leaf = l; anchor = a }) anchor) leaf

abbrev pub ends_of : Query → Course → Option Ends
ends_of query last = both_ends (said_in query last query.entity) (said_in query last query.anchor)

-- the issuers that are searched after it
abbrev pub issuers_after : Query → Course → List Identifier
issuers_after query last = option_map_or (λ ends. searched_issuers ends.leaf.marks ends.anchor) (ends_of query last) []

-- how many signatures of marks are tested after these rounds
abbrev pub tests_after : Query → Course → List Course → ℕ
tests_after query last others = option_map_or (λ ends. tests_of_marks (judging_after query ends.anchor others) (looked_at ends.leaf.marks)) (ends_of query last) 0

unfoldable pub marks_tested : Query → List Course → List Course → ℕ
marks_tested query leaf others = option_map_or (λ last. tests_after query last others) (last_course leaf) 0
