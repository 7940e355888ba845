-- Where a node is asked.
use Rattle.std.specs.Prelude.{ℕ, List, [], None, Bool}
use Rattle.std.specs.Option.{option_map_or}
use Rattle.std.specs.Result.{result_ok}
use Rattle.url.specs.Parser.{parse_url}
use Rattle.entity_id.specs.Urls.{base_of}
use Rattle.entity_statement.specs.Claims.{Identifier}
use Rattle.node_requests.specs.declared.place.Place.{Place}

-- the path of the URL that an identifier is (URL Standard section 4.1), without the slash at its end
unfoldable pub node_path : Identifier → List ℕ
node_path id = base_of (option_map_or (λ url. url.path) (result_ok (parse_url None id)) [])

-- a node of that path, which resolves entities or doesn't
abbrev pub place_at : List ℕ → Bool → Place
place_at path resolves = record { path = path; resolves = resolves }
