-- What bytes at the front of a stream of requests are (RFC 9112 sections 6.3, 9.3 and 9.6).
use Rattle.std.specs.Prelude.{◌≡◌, ◌≤◌, ◌⊎◌, ℕ, ◌+◌, ◌&&◌, Bool, true, false, List, ◌++◌, length, map, codes, bytes_eq, min, nat_lt, Option, Some, None, if◌then◌else◌}
use Rattle.httparse.specs.Grammar.{RequestHead}
use Rattle.httparse.specs.Spans.{name_and_value}
use Rattle.http_messages.specs.declared.cut.Cut.{Cut}
use Rattle.http_messages.specs.declared.cut.Cut.TheVariants.{Whole, More}
use Rattle.http_messages.specs.declared.request.Incoming.TheVariants.{Asked, NotARequest}
use Rattle.http_messages.specs.declared.request.Request.{Request}
use Rattle.http_messages.specs.Connections.{closes}
use Rattle.http_messages.specs.Fields.{Line, stated, values_named}
use Rattle.http_messages.specs.Heads.{BeginsWithHead, HasNoHead, head_limit}
use Rattle.http_messages.specs.Requests.{EndsEarly, IsHead, IsRefused, RequestText, size_by}

-- a length is stated, and it isn't 0
abbrev pub states_bytes : Option (Option ℕ) → Bool
states_bytes None = false
states_bytes (Some None) = false
states_bytes (Some (Some n)) = nat_lt 0 n

-- a GET states a body, whose bytes nobody would take off a connection that goes on
abbrev pub has_stray_body : List ℕ → List Line → Bool
has_stray_body method lines = bytes_eq method (codes "GET") && states_bytes (stated 6 (values_named (codes "content-length") lines))

abbrev pub is_stray : RequestHead → Bool
is_stray h = has_stray_body h.method (map name_and_value h.fields)

-- how many bytes of body follow that head on a stream; none where it isn't that of a request there
abbrev pub stream_size_by : RequestHead → Option ℕ
stream_size_by h = if is_stray h then None else size_by h

-- the text, as a whole, of a request on a stream, and whether its sender closes behind it
pub record StreamText (text : List ℕ) (r : Request) (last : Bool) : Type 0 where
  pub is_text : RequestText text r
  pub bodiless : is_stray is_text.parts ≡ false
  pub is_last : last ≡ closes is_text.parts

-- the bytes begin with the text of a request on a stream
pub record BeginsStream (x : List ℕ) (r : Request) (last : Bool) (used : ℕ) : Type 0 where
  pub text : List ℕ
  pub rest : List ℕ
  pub bytes : x ≡ text ++ rest
  pub is_text : StreamText text r last
  pub size : used ≡ length text

-- no head of a request on a stream
abbrev pub IsRefusedThere : List ℕ → Type 0
IsRefusedThere head = (h : RequestHead) → IsHead head h → stream_size_by h ≡ None

-- the bytes aren't a request of a stream, however they go on
abbrev pub IsNoStreamRequest : List ℕ → Type 0
IsNoStreamRequest x = (HasNoHead x × (head_limit ≤ length x)) ⊎ ((head : List ℕ) × BeginsWithHead x head × IsRefusedThere head)

-- what is cut off the front: the request with whose text the bytes begin; all of them, where they aren't one; or nothing of what ends early
abbrev pub IsCut : List ℕ → Cut → Type 0
IsCut x (Whole (Asked r) last used) = BeginsStream x r last used
IsCut x (Whole NotARequest last used) = IsNoStreamRequest x × (last ≡ true) × (used ≡ length x)
IsCut x More = EndsEarly x

-- a head, and how many bytes a request with that head has
pub record NeedsAll (x : List ℕ) (n : ℕ) : Type 0 where
  pub head : List ℕ
  pub begins : BeginsWithHead x head
  pub parts : RequestHead
  pub reads : IsHead head parts
  pub size : ℕ
  pub sized : size_by parts ≡ Some size
  pub all : n ≡ length head + size

-- the least length at which bytes that begin with these can be whole: by the head with which they begin, and else a byte more, up to the
-- most of a head
abbrev pub Needs : List ℕ → ℕ → Type 0
Needs x n =
    (HasNoHead x × (n ≡ min (length x + 1) head_limit))
    ⊎ (NeedsAll x n ⊎ ((head : List ℕ) × BeginsWithHead x head × IsRefused head × (n ≡ length head)))
