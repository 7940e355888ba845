-- What the parts of the reader know of a head.
use Rattle.std.specs.Prelude.{◌≡◌, ◌≤◌, ℕ, List, [], ◌∷◌, length, cond, nat_lt, Option, Some, None, Result, Ok, Err, slice_range}
use Rattle.httparse.specs.Grammar.{RequestHead}
use Rattle.httparse.specs.Spans.{IsRequestAt, IsRequestWithin}
use Rattle.httparse.specs.declared.spans.HeaderSpan.{HeaderSpan}
use Rattle.httparse.specs.declared.spans.RequestSpans.{RequestSpans}
use Rattle.http_messages.specs.declared.fields.Found.{Found}
use Rattle.http_messages.specs.declared.fields.Found.TheVariants.{Absent, Once, Again}
use Rattle.http_messages.specs.declared.fields.Stated.{Stated}
use Rattle.http_messages.specs.declared.fields.Stated.TheVariants.{Absent as NotStated, Size, Bad}
use Rattle.http_messages.specs.declared.inflow.Break.{Break}
use Rattle.http_messages.specs.declared.inflow.Break.TheVariants.{Failed, Memory}
use Rattle.http_messages.specs.declared.plan.Plan.{Plan}
use Rattle.http_messages.specs.declared.read.ReadEnd.{ReadEnd}
use Rattle.http_messages.specs.declared.read.ReadEnd.TheVariants.{ReadFault, Ended, Memory as NoMemory}
use Rattle.http_messages.specs.declared.request.Incoming.{Incoming}
use Rattle.http_messages.specs.declared.request.Incoming.TheVariants.{NotARequest}
use Rattle.http_messages.specs.declared.request.Method.{Method}
use Rattle.http_messages.specs.declared.request.Request.{Request}
use Rattle.http_messages.specs.Connections.{closes}
use Rattle.http_messages.specs.Cuts.{is_stray}
use Rattle.http_messages.specs.Heads.{head_limit}
use Rattle.http_messages.specs.Requests.{IsHead, IsRefused, body_limit, size_by, method_of, path_of, pairs_of, query_of}

-- the only one of the values, or that there is none or are more
abbrev pub IsFound : Found → List (List ℕ) → Type 0
IsFound Absent values = values ≡ []
IsFound (Once v) values = values ≡ v.now ∷ []
IsFound Again values = (v : List ℕ) × (w : List ℕ) × (vs : List (List ℕ)) × (values ≡ v ∷ w ∷ vs)

-- a stated length as the definitions have it
abbrev pub stated_view : Stated → Option (Option ℕ)
stated_view NotStated = Some None
stated_view (Size n) = Some (Some n)
stated_view Bad = None

-- the places are those of the head that the text is, or it is none
abbrev pub IsHeading : List ℕ → List HeaderSpan → Option RequestSpans → Type 0
IsHeading text lines None = (h : RequestHead) → IsHead text h → ⊥
IsHeading text lines (Some r) = IsRequestWithin text lines r × (r.len ≡ length text) × ((h : RequestHead) × IsHead text h × IsRequestAt text lines r h)

-- what the text says, which is a head
pub record SaysPlan (text : List ℕ) (p : Plan) : Type 0 where
  pub parts : RequestHead
  pub reads : IsHead text parts
  pub sized : size_by parts ≡ Some p.size
  pub small : p.size ≤ body_limit
  pub method : method_of parts.method ≡ Some p.method
  pub ordered : p.target.start ≤ p.target.end
  pub in_range : p.target.end ≤ length text
  pub target : slice_range text p.target.start p.target.end ≡ parts.target
  pub stray : p.is_stray ≡ is_stray parts
  pub last : p.is_last ≡ closes parts

abbrev pub IsPlan : List ℕ → Option Plan → Type 0
IsPlan text None = IsRefused text
IsPlan text (Some p) = SaysPlan text p

-- the request has this method, target and body
pub record IsAsked (r : Request) (method : Method) (target body : List ℕ) : Type 0 where
  pub method_is : r.method ≡ method
  pub path : r.path ≡ path_of target
  pub pairs : r.pairs ≡ pairs_of (query_of target)
  pub body_is : r.body ≡ body

-- why a request wasn't read, where reading broke off
abbrev pub end_of : Break → ReadEnd
end_of Failed = ReadFault
end_of Memory = NoMemory

-- what so many bytes show where no head is in them and none will come
abbrev pub without_head : ℕ → Result Incoming ReadEnd
without_head have = cond (nat_lt have head_limit) (Err Ended) (Ok NotARequest)
