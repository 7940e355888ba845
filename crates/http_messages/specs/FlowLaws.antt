-- What is taken from a source adds up.
use Rattle.std.proofs.Common.{◌≡◌, ◌≤◌, ℕ, ◌+◌, Bool, false, List, [], ◌++◌, length, Option, Some, None, Result, Ok, Err, refl, sym, ap, append_assoc, arith, subst}
use Rattle.std.proofs.lemmas.List.{length-append}
use Rattle.fed_ports.specs.Lists.{Gave}
use Rattle.http_messages.specs.declared.inflow.Break.{Break}
use Rattle.http_messages.specs.declared.inflow.Break.TheVariants.{Failed, Memory}
use Rattle.http_messages.specs.Flows.{Given, OnFailed, TakenFew}

gave_none : (a : Option (List ℕ)) → Gave a [] a
gave_none None = refl
gave_none (Some left) = refl

gave_on : (a b c : Option (List ℕ)) (x y : List ℕ) → Gave a x b → Gave b y c → Gave a (x ++ y) c
gave_on a b None x y p q = rw (p, q) refl
gave_on a b (Some left) x y p q = rw (p, q) (ap Some (sym (append_assoc x y left)))

pub given_none : (a : Option (List ℕ)) → Given a a [] false
given_none a = record { gave = gave_none a; at_end = λ e. cc }

pub given_on : (a b c : Option (List ℕ)) (x y : List ℕ) (e : Bool) → Given a b x false → Given b c y e → Given a c (x ++ y) e
given_on a b c x y e p q = record { gave = gave_on a b c x y p.gave q.gave; at_end = q.at_end }

pub few_given : (a b : Option (List ℕ)) (x : List ℕ) (e : Bool) (n : ℕ) → Given a b x e → length x ≤ n → TakenFew a b n
few_given a b x e n p h = record { got = x; few = h; gave = p.gave }

pub few_given_on : (a b c : Option (List ℕ)) (x : List ℕ) (m n : ℕ) → Given a b x false → TakenFew b c m → length x + m ≤ n → TakenFew a c n
few_given_on a b c x m n p t h = record {
  got = x ++ t.got;
  few = omega (arith, length-append x t.got, t.few);
  gave = gave_on a b c x t.got p.gave t.gave;
}

-- what follows where a call failed
pub failed_map : {T : Type 0} {P Q : Type 0} (r : Result T Break) → (P → Q) → OnFailed r P → OnFailed r Q
failed_map (Ok x) f p = tt
failed_map (Err Failed) f p = f p
failed_map (Err Memory) f p = tt

-- the same of an answer that hands the fault on
pub failed_as : (U : Type 0) {T : Type 0} {P Q : Type 0} (r : Result T Break) (e : Break) → r ≡ Err e → (P → Q) → OnFailed {T = U} (Err e) P → OnFailed r Q
failed_as U {T = T} {Q = Q} r Failed is f p = subst (λ x. OnFailed {T = T} x Q) (sym is) (f p)
failed_as U {T = T} {Q = Q} r Memory is f p = subst (λ x. OnFailed {T = T} x Q) (sym is) tt

-- and of two things that hold there
pub failed_both : (U : Type 0) {T : Type 0} {P Q W : Type 0} (r : Result T Break) (e : Break) → r ≡ Err e → (P → Q → W) → OnFailed {T = U} (Err e) P → OnFailed {T = U} (Err e) Q → OnFailed r W
failed_both U {T = T} {W = W} r Failed is f p q = subst (λ x. OnFailed {T = T} x W) (sym is) (f p q)
failed_both U {T = T} {W = W} r Memory is f p q = subst (λ x. OnFailed {T = T} x W) (sym is) tt
