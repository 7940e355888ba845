-- What one hint of a path comes to, by the answers so far.
use Rattle.std.specs.Prelude.{ℕ, List, bytes_eq, Option, Some, None, if◌then◌else◌}
use Rattle.std.specs.List.{list_any}
use Rattle.entity_id.specs.Urls.{fetch_url_of, well_known_of}
use Rattle.entity_statement.specs.Claims.{Identifier}
use Rattle.entity_statement.specs.Use.{fetch_endpoint_in}
use Rattle.chain_climb.specs.declared.path.Path.{Path}
use Rattle.chain_climb.specs.declared.facing.Facing.{Facing}
use Rattle.chain_climb.specs.declared.facing.Facing.TheVariants.{Passed, Wants, Spent as AllSpent, Adds}
use Rattle.chain_climb.specs.declared.want.Want.TheVariants.{Config, Superior}
use Rattle.chain_climb.specs.declared.answer.Report.{Report}
use Rattle.chain_climb.specs.declared.answer.Report.TheVariants.{Good, Spent}
use Rattle.chain_climb.specs.declared.answer.PageAnswer.{PageAnswer}
use Rattle.chain_climb.specs.Climbs.{configuration_of, last_of, statement_about}
use Rattle.chain_climb.specs.Sessions.{answer_to}

-- the superior's statement about the last entity
abbrev pub after_statement : Identifier → Identifier → List ℕ → Option Report → Facing
after_statement superior subject url None = Wants (Superior superior subject url)
after_statement superior subject url (Some (Good statement origin)) = Adds url
after_statement superior subject url (Some Spent) = AllSpent
after_statement superior subject url (Some answer) = Passed

-- the superior's fetch endpoint
abbrev pub after_endpoint : List PageAnswer → Path → Identifier → Option (List ℕ) → Facing
after_endpoint pages path superior None = Passed
after_endpoint pages path superior (Some endpoint) =
    after_statement superior (last_of path) (fetch_url_of endpoint (last_of path)) (answer_to pages (statement_about superior (last_of path) endpoint))

-- the superior's configuration
abbrev pub after_config : List PageAnswer → Path → Identifier → Option Report → Facing
after_config pages path superior None = Wants (Config superior (well_known_of superior))
after_config pages path superior (Some (Good statement origin)) = after_endpoint pages path superior (fetch_endpoint_in statement.metadata)
after_config pages path superior (Some Spent) = AllSpent
after_config pages path superior (Some answer) = Passed

-- a hint
unfoldable pub face_of : List PageAnswer → Path → Identifier → Facing
face_of pages path superior =
    if list_any (bytes_eq superior) path.entities then Passed else after_config pages path superior (answer_to pages (configuration_of superior))
