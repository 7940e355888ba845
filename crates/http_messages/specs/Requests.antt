-- The text of a request (RFC 9112 sections 3 and 6), and the bytes that aren't one.
use Rattle.std.specs.Prelude.{◌≡◌, ◌≤◌, ◌<◌, ◌⊎◌, ℕ, ◌+◌, ◌==◌, Bool, ◌||◌, not, List, [], ◌++◌, length, map, take, drop, codes, bytes_eq, nat_lt, nat_eq, cond, Option, Some, None, if◌then◌else◌}
use Rattle.std.specs.List.{position_or_len, starts_with}
use Rattle.std.specs.Str.Lossy.{utf8_lossy}
use Rattle.form_urlencoded.specs.Form.{raw_pairs, decode}
use Rattle.httparse.specs.Spans.{name_and_value}
use Rattle.httparse.specs.Grammar.{RequestHead, ReadsRequest}
use Rattle.http_messages.specs.declared.request.Method.{Method}
use Rattle.http_messages.specs.declared.request.Method.TheVariants.{Get, Post}
use Rattle.http_messages.specs.declared.request.Pair.{Pair}
use Rattle.http_messages.specs.declared.request.Request.{Request}
use Rattle.http_messages.specs.Fields.{Line, has_line, values_named, stated}
use Rattle.http_messages.specs.Heads.{head_limit, line_limit, BeginsWithHead, HasNoHead, IsHeadText}

-- the most bytes of a body
abbrev pub body_limit : ℕ
body_limit = 300000

-- the most bytes that are taken for one request
abbrev pub request_limit : ℕ
request_limit = head_limit + body_limit

-- the two methods that are taken (RFC 9110 sections 9.3.1 and 9.3.3)
abbrev pub method_of : List ℕ → Option Method
method_of m = if bytes_eq m (codes "GET") then Some Get else (if bytes_eq m (codes "POST") then Some Post else None)

-- how many bytes of body a method and a stated length give; the body of a GET isn't read
abbrev pub body_by : Option Method → Option (Option ℕ) → Option ℕ
body_by None length = None
body_by (Some m) None = None
body_by (Some Get) (Some None) = Some 0
body_by (Some Post) (Some None) = None
body_by (Some Get) (Some (Some n)) = cond (nat_lt body_limit n) None (Some 0)
body_by (Some Post) (Some (Some n)) = cond (nat_lt body_limit n) None (Some n)

-- the same by a method, a target and header lines: the target has to be a path, and no transfer coding is taken
unfoldable pub body_size : List ℕ → List ℕ → List Line → Option ℕ
body_size method target lines =
    if not (starts_with nat_eq target (codes "/")) || has_line (codes "transfer-encoding") lines then None
    else body_by (method_of method) (stated 6 (values_named (codes "content-length") lines))

-- how many bytes of body follow that head; none where it isn't that of a request
abbrev pub size_by : RequestHead → Option ℕ
size_by h = body_size h.method h.target (map name_and_value h.fields)

-- the text as a whole is that head (RFC 9112 section 3), with no more lines than may be
pub record IsHead (text : List ℕ) (h : RequestHead) : Type 0 where
  pub reads : ReadsRequest text h []
  pub lines : length h.fields ≤ line_limit

abbrev pub is_question : ℕ → Bool
is_question b = b == 63

-- what stands before the first question mark of a target (RFC 9112 section 3.2.1)
abbrev pub path_of : List ℕ → List ℕ
path_of target = take (position_or_len is_question target) target

-- what stands behind it
abbrev pub query_of : List ℕ → List ℕ
query_of target = drop (position_or_len is_question target + 1) target

-- a name or a value as it is meant (URL Standard section 5.1)
abbrev pub decoded : List ℕ → List ℕ
decoded s = utf8_lossy (decode s)

abbrev pub pair_of : List ℕ × List ℕ → Pair
pair_of p = record { name = decoded p.0; value = decoded p.1 }

-- the names and values of a query, in order
abbrev pub pairs_of : List ℕ → List Pair
pairs_of query = map pair_of (raw_pairs query)

-- the text, as a whole, of a request: a head, and the body whose length the head gives
pub record RequestText (text : List ℕ) (r : Request) : Type 0 where
  pub head : List ℕ
  pub spelled : text ≡ head ++ r.body
  pub is_head : IsHeadText head
  pub parts : RequestHead
  pub reads : IsHead head parts
  pub sized : size_by parts ≡ Some (length r.body)
  pub method : method_of parts.method ≡ Some r.method
  pub path : r.path ≡ path_of parts.target
  pub pairs : r.pairs ≡ pairs_of (query_of parts.target)

-- the bytes begin with a request's text
pub record Begins (x : List ℕ) (r : Request) : Type 0 where
  pub text : List ℕ
  pub rest : List ℕ
  pub bytes : x ≡ text ++ rest
  pub is_text : RequestText text r

-- no request's head: not one of its form, or one with which there is no request
abbrev pub IsRefused : List ℕ → Type 0
IsRefused head = (h : RequestHead) → IsHead head h → size_by h ≡ None

-- the bytes aren't a request, however they go on
abbrev pub IsNoRequest : List ℕ → Type 0
IsNoRequest x = (HasNoHead x × (head_limit ≤ length x)) ⊎ ((head : List ℕ) × BeginsWithHead x head × IsRefused head)

-- the bytes end inside the body that their head gives
pub record EndsInBody (x : List ℕ) : Type 0 where
  pub head : List ℕ
  pub begins : BeginsWithHead x head
  pub parts : RequestHead
  pub reads : IsHead head parts
  pub size : ℕ
  pub sized : size_by parts ≡ Some size
  pub short : length x < length head + size

-- the bytes end before the head does, or before the body does
abbrev pub EndsEarly : List ℕ → Type 0
EndsEarly x = (HasNoHead x × (length x < head_limit)) ⊎ EndsInBody x
