-- What each handling of a request is answered with (OpenID Federation 1.0 section 8.9).
use Rattle.std.specs.Prelude.{ℕ, codes, Option, Some, None, is_some, if◌then◌else◌}
use Rattle.http_messages.specs.declared.response.Response.{Response}
pub use Rattle.http_messages.specs.Responses.{out_of_memory}
use Rattle.authority_core.specs.Answers.{configuration_response, fetch_response, historical_response, list_response, status_response}
use Rattle.authority_core.specs.Nodes.{Node as Authority, registered}
use Rattle.authority_core.specs.Statuses.{status_tests}
use Rattle.node_requests.specs.declared.asked.Asked.{Asked}
use Rattle.node_requests.specs.declared.asked.Asked.TheVariants as asked
use Rattle.fed_serve.specs.ResolverResponses.{not_in_control, refusal, resolve_response, rotate_response}
use Rattle.fed_serve.specs.Rotations.{Dealing, stranger, asked as replied, worn, untested}
use Rattle.fed_serve.specs.Handlings.{Handling, unread, not_asked, issued, resolved, dealt}

-- it is no request of the node
abbrev pub not_a_request : Response
not_a_request = refusal 400 (codes "invalid_request") (codes "not a request of this node")

-- what the node answers as an authority at the moment, and none where a resolver is asked
abbrev pub issued_response : Authority → ℕ → Asked → Option Response
issued_response node t asked.Configuration = Some (configuration_response node t)
issued_response node t (asked.Fetch sub) = Some (fetch_response node t sub)
issued_response node t (asked.List query) = Some (list_response node query)
issued_response node t asked.HistoricalKeys = Some (historical_response node t)
issued_response node t (asked.Status mark) = Some (status_response node t mark)
issued_response node t (asked.Resolution resolution) = None
issued_response node t (asked.Rotation change) = None

-- the response to other keys for a trust anchor, where it has one of its own
abbrev pub dealt_response : Dealing → Option Response
dealt_response stranger = Some not_in_control
dealt_response (replied reply) = rotate_response reply
dealt_response worn = None
dealt_response untested = None

-- the response to a handling, where it has one of its own
abbrev pub response_of : Authority → ℕ → Handling → Option Response
response_of node t unread = None
response_of node t not_asked = Some not_a_request
response_of node t (issued asked) = issued_response node t asked
response_of node t (resolved resolution outcome) = resolve_response outcome.result
response_of node t (dealt change dealing) = dealt_response dealing

-- the status of what an authority answers: 404 to a fetch where no subordinate has that identifier
abbrev pub status_of : Authority → Asked → ℕ
status_of node (asked.Fetch sub) = if is_some (registered sub node.settings) then 200 else 404
status_of node asked = 200

-- how many signatures are tested for it: that of a mark at most
abbrev pub tests_asked : Authority → Asked → ℕ
tests_asked node (asked.Status mark) = status_tests node mark
tests_asked node asked = 0
