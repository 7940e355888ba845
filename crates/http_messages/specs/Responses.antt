-- The text of a response (RFC 9112 sections 4 and 6).
use Rattle.std.specs.Prelude.{◌≡◌, ◌≢◌, ℕ, ◌==◌, List, [], ◌∷◌, ◌++◌, length, codes, decimal, Option, Some, None, if◌then◌else◌}
use Rattle.http_messages.specs.declared.response.Media.{Media}
use Rattle.http_messages.specs.declared.response.Media.TheVariants.{Json, Statement, Resolve, JwkSet, Status}
use Rattle.http_messages.specs.declared.response.Response.{Response}

abbrev pub crlf : List ℕ
crlf = 13 ∷ 10 ∷ []

-- a media type as it is written (OpenID Federation 1.0 section 15.8)
abbrev pub media_name : Media → List ℕ
media_name Json = codes "application/json"
media_name Statement = codes "application/entity-statement+jwt"
media_name Resolve = codes "application/resolve-response+jwt"
media_name JwkSet = codes "application/jwk-set+jwt"
media_name Status = codes "application/trust-mark-status-response+jwt"

-- a status and its reason (RFC 9112 section 4, RFC 9110 section 15), where it has one here
abbrev pub reason_of : ℕ → Option (List ℕ)
reason_of status =
    if status == 200 then Some (codes "200 OK")
    else (if status == 400 then Some (codes "400 Bad Request")
    else (if status == 403 then Some (codes "403 Forbidden")
    else (if status == 404 then Some (codes "404 Not Found")
    else (if status == 409 then Some (codes "409 Conflict")
    else (if status == 500 then Some (codes "500 Internal Server Error")
    else (if status == 503 then Some (codes "503 Service Unavailable")
    else (if status == 507 then Some (codes "507 Insufficient Storage") else None)))))))

-- the status has a reason
abbrev pub HasReason : ℕ → Type 0
HasReason status = reason_of status ≢ None

-- a status line and four lines of head, of which the last says whether the connection is kept (RFC 9112 section 9.3)
unfoldable pub head_with : List ℕ → List ℕ → List ℕ → ℕ → List ℕ
head_with connection reason media size =
    codes "HTTP/1.1 " ++ reason ++ crlf
    ++ codes "Content-Type: " ++ media ++ crlf
    ++ codes "Content-Length: " ++ decimal size ++ crlf
    ++ codes "Connection: " ++ connection ++ crlf
    ++ crlf

-- the text, as a whole, of a response with that word on its connection
pub record SaidText (connection text : List ℕ) (r : Response) : Type 0 where
  pub reason : List ℕ
  pub has_reason : reason_of r.status ≡ Some reason
  pub spelled : text ≡ head_with connection reason (media_name r.media) (length r.body) ++ r.body

-- the text of a response behind which the connection is closed
abbrev pub ResponseText : List ℕ → Response → Type 0
ResponseText text r = SaidText (codes "close") text r

-- the text of a response behind which it goes on
abbrev pub KeptText : List ℕ → Response → Type 0
KeptText text r = SaidText (codes "keep-alive") text r

-- the response that memory was wanting (RFC 4918 section 11.5)
abbrev pub out_of_memory : Response
out_of_memory = record { status = 507; media = Json; body = codes "{\"error\":\"server_error\",\"error_description\":\"out of memory\"}" }
