-- A client's one exchange for a URL (RFC 9110 section 7, RFC 9112 section 3).
use Rattle.std.specs.Prelude.{◌≡◌, ◌≤◌, ℕ, ◌||◌, Bool, false, List, [], ◌∷◌, ◌++◌, length, codes, decimal, bytes_eq, cond, Option, Some, None, option_map, if◌then◌else◌}
use Rattle.std.specs.Result.{result_ok}
use Rattle.std.specs.Str.{is_utf8}
use Rattle.fed_base.specs.Values.{◌>>=◌}
use Rattle.fed_ports.specs.declared.address.Address.{Address}
use Rattle.fed_ports.specs.declared.page.Page.{Page}
use Rattle.fed_ports.specs.Exchanges.{Exchange}
use Rattle.url.specs.declared.slicing.Position.TheVariants.{BeforeHost, AfterPort, BeforePath, AfterQuery}
use Rattle.url.specs.Host.{host_text}
use Rattle.url.specs.Parser.{parse_url}
use Rattle.url.specs.Parts.{Parts, nonempty_host, text_between}
use Rattle.http_plain.specs.declared.route.Route.{Route}
use Rattle.http_plain.specs.Pages.{IsPage, answer_limit}
use Rattle.http_messages.specs.Responses.{crlf}

-- the scheme is one of the web (RFC 9110 section 4.2)
abbrev pub is_web : Parts → Bool
is_web url = bytes_eq url.scheme (codes "http") || bytes_eq url.scheme (codes "https")

-- the URL that the text is (URL Standard section 4.4), where it is one of the web
unfoldable pub url_in : List ℕ → Option Parts
url_in text = cond (is_utf8 text) (result_ok (parse_url None text) >>= λ url. cond (is_web url) (Some url) None) None

-- the address of the first route to that host
unfoldable pub route_to : List Route → List ℕ → Option Address
route_to [] host = None
route_to (r ∷ rs) host = if bytes_eq r.host host then Some r.to else route_to rs host

-- the address for a URL, by its host as a text without the port
unfoldable pub address_of : List Route → Parts → Option Address
address_of routes url = option_map host_text (nonempty_host url) >>= route_to routes

-- the URL is none of the web, or no route has its host
abbrev pub HasNoRoute : List Route → List ℕ → Type 0
HasNoRoute routes text = (url_in text >>= address_of routes) ≡ None

-- the message that asks for a URL: its path and query, and its host with the port that the URL keeps (RFC 9112 sections 3.2 and 9.6)
unfoldable pub get_text : List ℕ → List ℕ → List ℕ
get_text target host =
    codes "GET " ++ target ++ codes " HTTP/1.1" ++ crlf
    ++ codes "Host: " ++ host ++ crlf
    ++ codes "Accept: */*" ++ crlf
    ++ codes "Connection: close" ++ crlf
    ++ crlf

abbrev pub message_of : Parts → List ℕ
message_of url = get_text (text_between url BeforePath AfterQuery) (text_between url BeforeHost AfterPort)

-- the head of a message that posts a form of so many bytes (RFC 9110 section 9.3.3)
unfoldable pub post_head : List ℕ → List ℕ → ℕ → List ℕ
post_head target host size =
    codes "POST " ++ target ++ codes " HTTP/1.1" ++ crlf
    ++ codes "Host: " ++ host ++ crlf
    ++ codes "Accept: */*" ++ crlf
    ++ codes "Content-Type: application/x-www-form-urlencoded" ++ crlf
    ++ codes "Content-Length: " ++ decimal size ++ crlf
    ++ codes "Connection: close" ++ crlf
    ++ crlf

abbrev pub head_of_post : Parts → ℕ → List ℕ
head_of_post url size = post_head (text_between url BeforePath AfterQuery) (text_between url BeforeHost AfterPort) size

-- the message that posts a form to a URL: the head, and the form behind it
abbrev pub post_of : List ℕ → Parts → List ℕ
post_of form url = head_of_post url (length form) ++ form

-- the page of a URL by the routes and one exchange: it went to the URL's address, its sent bytes are the whole message for that URL, it
-- didn't fail, and what was received, with the end where it came, fixes the page
pub record PageBy (message_for : Parts → List ℕ) (text : List ℕ) (routes : List Route) (x : Exchange) (p : Page) : Type 0 where
  pub url : Parts
  pub reads : url_in text ≡ Some url
  pub address : address_of routes url ≡ Some x.to
  pub message : x.sent ≡ message_for url
  pub steady : x.failed ≡ false
  -- no more bytes were taken than the longest head and body have, and the piece with which they are over
  pub few : length x.received ≤ answer_limit
  pub page : IsPage x.received x.ended p

-- that of a GET
abbrev pub ClientPage : List ℕ → List Route → Exchange → Page → Type 0
ClientPage = PageBy message_of
