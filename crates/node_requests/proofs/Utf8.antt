-- The values of forms are UTF-8.
use Rattle.std.proofs.Common.{◌≡◌, ℕ, List, [], ◌∷◌, ◌++◌, bytes_eq, true, false, cond, Option, subst, sym}
use Rattle.std.specs.Prelude.{IfSome}
use Rattle.std.specs.List.{AllByRecursion}
use Rattle.std.specs.Str.{IsUtf8}
use Rattle.http_messages.specs.declared.request.Pair.{Pair}
use Rattle.node_requests.specs.Parameters.{once, values_of}
use Rattle.node_requests.specs.Steps.{HasUtf8Value}

pub pushed : {X : Type 0} (P : X → Type 0) (xs : List X) (x : X) → AllByRecursion P xs → P x → AllByRecursion P (xs ++ x ∷ [])
pushed P [] x all last = (last, tt)
pushed P (y ∷ ys) x all last = (all.0, pushed P ys x all.1 last)

values_utf8 : (name : List ℕ) (pairs : List Pair) → AllByRecursion HasUtf8Value pairs → AllByRecursion IsUtf8 (values_of name pairs)
values_utf8 name [] all = tt
values_utf8 name (p ∷ ps) all =
    elim (bytes_eq p.name name) as (λ b. AllByRecursion IsUtf8 (cond b (p.value ∷ values_of name ps) (values_of name ps)))
    [ true ↦ (all.0, values_utf8 name ps all.1) | false ↦ values_utf8 name ps all.1 ]

only_one : (values : List (List ℕ)) → AllByRecursion IsUtf8 values → IfSome (once values) IsUtf8
only_one [] all = tt
only_one (value ∷ []) all = all.0
only_one (value ∷ next ∷ values) all = tt

pub once_utf8 : (name : List ℕ) (pairs : List Pair) (o : Option (List ℕ)) → AllByRecursion HasUtf8Value pairs → o ≡ once (values_of name pairs) → IfSome o IsUtf8
once_utf8 name pairs o all is = subst (λ value. IfSome value IsUtf8) (sym is) (only_one (values_of name pairs) (values_utf8 name pairs all))
