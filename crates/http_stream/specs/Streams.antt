-- Which bytes are which requests on a connection that carries several (RFC 9112 sections 9.3 and 9.6).
use Rattle.std.specs.Prelude.{◌≡◌, ◌<◌, ℕ, zero, suc, ◌||◌, Bool, true, false, List, [], ◌∷◌, ◌++◌, length, nat_eq, MatchBool, Option, IfSome}
use Rattle.http_messages.specs.declared.request.Incoming.{Incoming}
use Rattle.http_messages.specs.declared.request.Incoming.TheVariants.{Asked, NotARequest}
use Rattle.http_messages.specs.Cuts.{IsNoStreamRequest, StreamText}
use Rattle.http_messages.specs.Requests.{EndsEarly}

-- the bytes are the texts of these requests in order and then the rest: none but the final one is last, and one that isn't a request is
-- the final one, with all that follows. `left` is how many requests may come, and the one with which none is left is last too
abbrev pub Stream : ℕ → List ℕ → List Incoming → List ℕ → Type 0
Stream left x [] rest = x ≡ rest
Stream zero x (r ∷ rs) rest = ⊥
Stream (suc left) x (NotARequest ∷ rs) rest = IsNoStreamRequest x × (rs ≡ []) × (rest ≡ [])
Stream (suc left) x (Asked r ∷ rs) rest =
    (text : List ℕ) × (behind : List ℕ) × (closes : Bool) × (x ≡ text ++ behind) × StreamText text r closes
    × MatchBool (closes || nat_eq left 0) ((rs ≡ []) × (behind ≡ rest)) (Stream left behind rs rest)

-- the same, served to its end: the final one is last, or the bytes end behind it
abbrev pub IsWhole : ℕ → List ℕ → List Incoming → Type 0
IsWhole left x [] = x ≡ []
IsWhole zero x (r ∷ rs) = ⊥
IsWhole (suc left) x (NotARequest ∷ rs) = IsNoStreamRequest x × (rs ≡ [])
IsWhole (suc left) x (Asked r ∷ rs) =
    (text : List ℕ) × (behind : List ℕ) × (closes : Bool) × (x ≡ text ++ behind) × StreamText text r closes
    × MatchBool (closes || nat_eq left 0) (rs ≡ []) (IsWhole left behind rs)

-- the bytes end inside a request: the texts of these stand first, none of them last, and then a beginning of one that isn't whole
abbrev pub EndsInside : ℕ → List ℕ → List Incoming → Type 0
EndsInside zero x rs = ⊥
EndsInside (suc left) x [] = EndsEarly x × (0 < length x)
EndsInside (suc left) x (NotARequest ∷ rs) = ⊥
EndsInside (suc left) x (Asked r ∷ rs) =
    (text : List ℕ) × (behind : List ℕ) × (x ≡ text ++ behind) × StreamText text r false × (0 < left) × EndsInside left behind rs

-- where the bytes are told, they are so many requests, served to their end
abbrev pub AreRequests : ℕ → Option (List ℕ) → ℕ → Type 0
AreRequests most left n = IfSome left (λ x. (rs : List Incoming) × (length rs ≡ n) × IsWhole most x rs)

-- where they are told, they end inside one
abbrev pub EndInside : ℕ → Option (List ℕ) → Type 0
EndInside most left = IfSome left (λ x. (rs : List Incoming) × EndsInside most x rs)
