-- What the parts of the client know of an answer's head and of a URL.
use Rattle.std.specs.Prelude.{◌≡◌, ◌≤◌, ℕ, List, length, take, Option, Some, None}
use Rattle.fed_ports.specs.declared.address.Address.{Address}
use Rattle.fed_ports.specs.Exchanges.{Changed, Exchange, with_failure, with_sent}
use Rattle.url.specs.Parts.{Parts}
use Rattle.httparse.specs.Grammar.{ResponseHead}
use Rattle.httparse.specs.Spans.{IsResponseAt, IsResponseWithin}
use Rattle.httparse.specs.declared.spans.HeaderSpan.{HeaderSpan}
use Rattle.httparse.specs.declared.spans.ResponseSpans.{ResponseSpans}
use Rattle.http_plain.specs.declared.route.Route.{Route}
use Rattle.http_plain.specs.declared.target.Target.{Target}
use Rattle.http_plain.specs.Clients.{HasNoRoute, address_of, url_in}
use Rattle.http_plain.specs.Pages.{IsAnswerHead}

-- the places are those of the head that an answer's text is, or it is none
abbrev pub IsAnswerHeading : List ℕ → List HeaderSpan → Option ResponseSpans → Type 0
IsAnswerHeading text lines None = (h : ResponseHead) → IsAnswerHead text h → ⊥
IsAnswerHeading text lines (Some r) = IsResponseWithin text lines r × (r.len ≡ length text) × ((h : ResponseHead) × IsAnswerHead text h × IsResponseAt text lines r h)

-- the URL that a text is, and where it is asked for
pub record SaysTarget (routes : List Route) (text : List ℕ) (url : Parts) (to : Address) : Type 0 where
  pub reads : url_in text ≡ Some url
  pub address : address_of routes url ≡ Some to

-- the target of a URL, or that there is no route to it
abbrev pub IsTarget : List Route → List ℕ → Option Target → Type 0
IsTarget routes text None = HasNoRoute routes text
IsTarget routes text (Some t) = SaysTarget routes text t.url t.to

-- so many bytes of the message were sent, and then a call failed
abbrev pub SentBroken : Option (List Exchange) → List ℕ → Option (List Exchange) → Type 0
SentBroken old message new = (n : ℕ) × (n ≤ length message) × Changed old (λ x. with_failure (with_sent (take n message) x)) new
