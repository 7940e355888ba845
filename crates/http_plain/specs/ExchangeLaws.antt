-- What is sent and received on one connection adds up.
use Rattle.std.proofs.Common.{◌≡◌, ℕ, ◌||◌, Bool, true, false, List, [], ◌∷◌, ◌++◌, Option, Some, None, option_map, refl, sym, ap, ap₂, ◌∙◌, append_assoc, append-nil}
use Rattle.fed_ports.specs.Exchanges.{Exchange, Changed, change_last, with_failure, with_received}

change_same : (f : Exchange → Exchange) → ((x : Exchange) → x ≡ f x) → (l : List Exchange) → l ≡ change_last f l
unfolding change_last
change_same f e [] = refl
change_same f e (x ∷ []) = ap (λ y. y ∷ []) (e x)
change_same f e (x ∷ y ∷ ys) = ap (λ l. x ∷ l) (change_same f e (y ∷ ys))

change_cons : (f g : Exchange → Exchange) (x y : Exchange) (ys : List Exchange) → change_last g (x ∷ change_last f (y ∷ ys)) ≡ x ∷ change_last g (change_last f (y ∷ ys))
unfolding change_last
change_cons f g x y [] = refl
change_cons f g x y (z ∷ zs) = refl

-- two changes of the last item are one
pub change_twice : (f g h : Exchange → Exchange) → ((x : Exchange) → g (f x) ≡ h x) → (l : List Exchange) → change_last g (change_last f l) ≡ change_last h l
unfolding change_last
change_twice f g h e [] = refl
change_twice f g h e (x ∷ []) = ap (λ y. y ∷ []) (e x)
change_twice f g h e (x ∷ y ∷ ys) = change_cons f g x y ys ∙ ap (λ l. x ∷ l) (change_twice f g h e (y ∷ ys))

pub changed_same : (f : Exchange → Exchange) → ((x : Exchange) → x ≡ f x) → (a : Option (List Exchange)) → Changed a f a
changed_same f e None = refl
changed_same f e (Some l) = ap Some (change_same f e l)

pub changed_on : (f g h : Exchange → Exchange) → ((x : Exchange) → g (f x) ≡ h x) → (a b c : Option (List Exchange)) → Changed a f b → Changed b g c → Changed a h c
changed_on f g h e None b c p q = rw (q, p) refl
changed_on f g h e (Some l) b c p q = rw (q, p) (ap Some (change_twice f g h e l))

-- a change of what was changed
pub changed_of : (f g : Exchange → Exchange) (a c : Option (List Exchange)) → Changed a (λ x. g (f x)) c → Changed (option_map (change_last f) a) g c
changed_of f g None c p = p
changed_of f g (Some l) c p = p ∙ ap Some (sym (change_twice f g (λ x. g (f x)) (λ x. refl) l))

or_false : (b : Bool) → b ≡ (b || false)
or_false true = refl
or_false false = refl

or_on : (b e : Bool) → ((b || false) || e) ≡ (b || e)
or_on true e = refl
or_on false e = refl

abbrev with_parts : Exchange → List ℕ → Bool → Exchange
with_parts x r e = record { to = x.to; sent = x.sent; received = r; ended = e; failed = x.failed }

received_nothing : (x : Exchange) → x ≡ with_received [] false x
received_nothing x = ap₂ (with_parts x) (sym (append-nil x.received)) (or_false x.ended)

received_twice : (r s : List ℕ) (e : Bool) (x : Exchange) → with_received s e (with_received r false x) ≡ with_received (r ++ s) e x
received_twice r s e x = ap₂ (with_parts x) (append_assoc x.received r s) (or_on x.ended e)

pub received_none : (a : Option (List Exchange)) → Changed a (with_received [] false) a
received_none a = changed_same (with_received [] false) received_nothing a

pub received_on : (a b c : Option (List Exchange)) (r s : List ℕ) (e : Bool) → Changed a (with_received r false) b → Changed b (with_received s e) c → Changed a (with_received (r ++ s) e) c
received_on a b c r s e p q = changed_on (with_received r false) (with_received s e) (with_received (r ++ s) e) (received_twice r s e) a b c p q

-- so many bytes were received, and then a call failed
abbrev pub with_broken : List ℕ → Exchange → Exchange
with_broken r x = with_failure (with_received r false x)

pub broken_on : (a b c : Option (List Exchange)) (r s : List ℕ) → Changed a (with_received r false) b → Changed b (with_broken s) c → Changed a (with_broken (r ++ s)) c
broken_on a b c r s p q = changed_on (with_received r false) (with_broken s) (with_broken (r ++ s)) (λ x. ap with_failure (received_twice r s false x)) a b c p q
