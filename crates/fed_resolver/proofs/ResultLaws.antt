-- What follows of a result that is returned as it is.
use Rattle.std.proofs.Common.{Result, Ok, Err, IfOk, OnOk}

module _ {X E : Type 0} where
  pub ok-on : (r : Result X E) (P Q : Type 0) → OnOk r P → (P → Q) → OnOk r Q
  ok-on (Ok x) P Q is f = f is
  ok-on (Err e) P Q is f = tt

  pub ok-if : (r : Result X E) (P R : X → Type 0) → IfOk r P → ((x : X) → P x → R x) → IfOk r R
  ok-if (Ok x) P R is f = f x is
  ok-if (Err e) P R is f = tt
