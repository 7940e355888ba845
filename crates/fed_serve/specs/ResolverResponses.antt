-- What a resolver answers, by what came of a request (OpenID Federation 1.0 sections 8.3.2 and 8.9).
use Rattle.std.specs.Prelude.{ℕ, List, ◌++◌, codes, decimal, Option, Some, None, Result, Ok, Err}
use Rattle.http_messages.specs.declared.response.Media.TheVariants.{Json, Resolve}
use Rattle.http_messages.specs.declared.response.Response.{Response}
use Rattle.statement_shelf.specs.declared.calls.BookReply.{BookReply}
use Rattle.statement_shelf.specs.declared.calls.BookReply.TheVariants as book
use Rattle.resolve_reply.specs.declared.reply.Reply.{Reply}
use Rattle.fed_resolver.specs.declared.outcome.Refusal.{Refusal}
use Rattle.fed_resolver.specs.declared.outcome.Refusal.TheVariants.{NoAnchor, NotFound, PolicyOnly, NoChain, Unavailable, Budget, Worn, Memory}

-- a refusal, with its body (section 8.9)
abbrev pub refusal : ℕ → List ℕ → List ℕ → Response
refusal status error description = record {
  status = status;
  media = Json;
  body = codes "{\"error\":\"" ++ error ++ codes "\",\"error_description\":\"" ++ description ++ codes "\"}";
}

-- the anchor isn't listed
abbrev pub no_anchor : Response
no_anchor = refusal 404 (codes "invalid_trust_anchor") (codes "no such trust anchor")

-- a reply, or why there is none; a worn object and want of memory have no response of their own
abbrev pub resolve_response : Result Reply Refusal → Option Response
resolve_response (Ok reply) = Some (record { status = 200; media = Resolve; body = reply.text })
resolve_response (Err NoAnchor) = Some no_anchor
resolve_response (Err NotFound) = Some (refusal 404 (codes "not_found") (codes "no such entity"))
resolve_response (Err PolicyOnly) = Some (refusal 400 (codes "invalid_metadata") (codes "policies refuse the metadata"))
resolve_response (Err NoChain) = Some (refusal 400 (codes "invalid_trust_chain") (codes "no valid trust chain"))
resolve_response (Err Unavailable) = Some (refusal 503 (codes "temporarily_unavailable") (codes "a fetch failed"))
resolve_response (Err (Budget calls paths)) = Some (refusal 500 (codes "server_error") (codes "search budget ended"))
resolve_response (Err (Worn count)) = None
resolve_response (Err Memory) = None

-- other keys for an anchor don't come from a control key
abbrev pub not_in_control : Response
not_in_control = refusal 403 (codes "invalid_client") (codes "not sealed by a control key")

-- the epoch is this one, after a change; or it is this one, and the change came from another
abbrev pub changed : ℕ → Response
changed epoch = record { status = 200; media = Json; body = codes "{\"epoch\":" ++ decimal epoch ++ codes "}" }

abbrev pub another_epoch : ℕ → Response
another_epoch epoch = record {
  status = 409;
  media = Json;
  body = codes "{\"epoch\":" ++ decimal epoch ++ codes ",\"error\":\"invalid_request\",\"error_description\":\"another epoch\"}";
}

-- what other keys for an anchor are answered with, by the reply of the book
abbrev pub rotate_response : BookReply → Option Response
rotate_response (book.Rotated epoch) = Some (changed epoch)
rotate_response (book.Behind epoch) = Some (another_epoch epoch)
rotate_response book.NoAnchor = Some no_anchor
rotate_response reply = None
