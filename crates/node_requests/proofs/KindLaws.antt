-- The kind of a request, by its method and its path.
use Rattle.std.proofs.Common.{◌≡◌, ℕ, List, ◌++◌, codes, bytes_eq, Bool, true, false, cond, refl, sym, ap, ap₂, ◌∙◌, subst}
use Rattle.std.proofs.lemmas.List.{append_cancel_left}
use Rattle.std.proofs.lemmas.Slice.Eq.{bytes_eq-Decides}
use Rattle.http_messages.specs.declared.request.Method.{Method}
use Rattle.http_messages.specs.declared.request.Method.TheVariants.{Get, Post}
use Rattle.http_messages.specs.declared.request.Request.{Request}
use Rattle.node_requests.specs.declared.asked.Asked.{Asked}
use Rattle.node_requests.specs.declared.asked.Asked.TheVariants as asked
use Rattle.node_requests.specs.declared.kind.Kind.{Kind}
use Rattle.node_requests.specs.declared.kind.Kind.TheVariants as kind
use Rattle.node_requests.specs.declared.place.Place.{Place}
use Rattle.node_requests.specs.Requests.{AsksFor, IsAt, kind_of}
use Rattle.node_requests.specs.Steps.{kind_at, kind_had, kind_named}

-- ---- the table of methods and paths

-- the row of a kind
abbrev pub IsRow : Method → List ℕ → Kind → Type 0
IsRow m rest kind.Configuration = (m ≡ Get) × (rest ≡ codes "/.well-known/openid-federation")
IsRow m rest kind.Fetch = (m ≡ Get) × (rest ≡ codes "/fetch")
IsRow m rest kind.List = (m ≡ Get) × (rest ≡ codes "/list")
IsRow m rest kind.HistoricalKeys = (m ≡ Get) × (rest ≡ codes "/historical-keys")
IsRow m rest kind.Status = (m ≡ Post) × (rest ≡ codes "/trust-mark-status")
IsRow m rest kind.Resolve = (m ≡ Get) × (rest ≡ codes "/resolve")
IsRow m rest kind.AnchorKeys = (m ≡ Post) × (rest ≡ codes "/anchor-keys")
IsRow m rest kind.Other = Unit {0}

pick : (m : Method) (rest name : List ℕ) (k other : Kind) → IsRow m name k → IsRow m rest other → IsRow m rest (cond (bytes_eq rest name) k other)
pick m rest name k other here there = by_test (bytes_eq rest name) refl
  where
    by_test : (b : Bool) → bytes_eq rest name ≡ b → IsRow m rest (cond b k other)
    by_test true is = subst (λ x. IsRow m x k) (sym ((bytes_eq-Decides rest name).0 is)) here
    by_test false is = there

pub row : (m : Method) (rest : List ℕ) → IsRow m rest (kind_named m rest)
row Get rest =
    pick Get rest (codes "/.well-known/openid-federation") kind.Configuration _ (refl, refl)
    (pick Get rest (codes "/fetch") kind.Fetch _ (refl, refl)
    (pick Get rest (codes "/list") kind.List _ (refl, refl)
    (pick Get rest (codes "/historical-keys") kind.HistoricalKeys _ (refl, refl)
    (pick Get rest (codes "/resolve") kind.Resolve kind.Other (refl, refl) tt))))
row Post rest =
    pick Post rest (codes "/trust-mark-status") kind.Status _ (refl, refl)
    (pick Post rest (codes "/anchor-keys") kind.AnchorKeys kind.Other (refl, refl) tt)

-- ---- the kind of what is asked

kind_only : (place : Place) (rest name : List ℕ) (r : Request) (m : Method) → r.path ≡ place.path ++ rest → IsAt r m (place.path ++ name)
    → kind_at place.resolves r.method rest ≡ kind_at place.resolves m name
kind_only place rest name r m at is = ap₂ (λ method path. kind_at place.resolves method path) is.0 (append_cancel_left place.path rest name (sym at ∙ is.1))

pub kind_is : (place : Place) (rest : List ℕ) (r : Request) (a : Asked) → r.path ≡ place.path ++ rest → AsksFor place r a
    → kind_at place.resolves r.method rest ≡ kind_of a
kind_is place rest r asked.Configuration at is = kind_only place rest (codes "/.well-known/openid-federation") r Get at is
kind_is place rest r (asked.Fetch sub) at is = kind_only place rest (codes "/fetch") r Get at is.0
kind_is place rest r (asked.List query) at is = kind_only place rest (codes "/list") r Get at is.0
kind_is place rest r asked.HistoricalKeys at is = kind_only place rest (codes "/historical-keys") r Get at is
kind_is place rest r (asked.Status mark) at is = kind_only place rest (codes "/trust-mark-status") r Post at is.0
kind_is place rest r (asked.Resolution resolution) at is =
    kind_only place rest (codes "/resolve") r Get at is.0 ∙ ap (λ b. kind_had b kind.Resolve) is.2
kind_is place rest r (asked.Rotation change) at is =
    kind_only place rest (codes "/anchor-keys") r Post at is.0 ∙ ap (λ b. kind_had b kind.AnchorKeys) is.2

-- what stands behind the node's path, where a request asks for something
pub suffix : (place : Place) (r : Request) (a : Asked) → AsksFor place r a → (rest : List ℕ) × (r.path ≡ place.path ++ rest)
suffix place r asked.Configuration is = (_, is.1)
suffix place r (asked.Fetch sub) is = (_, is.0.1)
suffix place r (asked.List query) is = (_, is.0.1)
suffix place r asked.HistoricalKeys is = (_, is.1)
suffix place r (asked.Status mark) is = (_, is.0.1)
suffix place r (asked.Resolution resolution) is = (_, is.0.1)
suffix place r (asked.Rotation change) is = (_, is.0.1)

-- requests of one method and one path are of one kind
pub one_kind : (place : Place) (r s : Request) (a b : Asked) → r.method ≡ s.method → r.path ≡ s.path → AsksFor place r a → AsksFor place s b → kind_of a ≡ kind_of b
one_kind place r s a b method path first second =
    let at = suffix place r a first in
    sym (kind_is place at.0 r a at.1 first) ∙ ap (λ m. kind_at place.resolves m at.0) method ∙ kind_is place at.0 s b (sym path ∙ at.1) second
