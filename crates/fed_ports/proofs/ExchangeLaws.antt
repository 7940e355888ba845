-- The exchange of the open connection, changed by one call after the other.
use Rattle.std.proofs.Common.{◌≡◌, ℕ, ◌||◌, Bool, true, false, List, [], ◌∷◌, ◌++◌, Option, Some, None, option_map, refl, sym, ap, ap₂, ◌∙◌, append_assoc, append-nil}
use Rattle.fed_ports.specs.Exchanges.{Exchange, with_sent, with_received, change_last, Changed}
use Rattle.fed_ports.specs.Lists.{Added}

-- the item behind the others is the last
pub changed_behind : {A : Type 0} (f : A → A) (xs : List A) (x : A) → change_last f (xs ++ x ∷ []) ≡ xs ++ f x ∷ []
unfolding change_last
changed_behind f [] x = refl
changed_behind f (y ∷ []) x = refl
changed_behind f (y ∷ z ∷ zs) x = ap (λ l. y ∷ l) (changed_behind f (z ∷ zs) x)

-- two changes are one
pub changed_twice : {A : Type 0} (f g : A → A) (xs : List A) → change_last g (change_last f xs) ≡ change_last (λ x. g (f x)) xs
unfolding change_last
changed_twice f g [] = refl
changed_twice f g (x ∷ []) = refl
changed_twice f g (x ∷ y ∷ []) = refl
changed_twice f g (x ∷ y ∷ z ∷ zs) = ap (λ l. x ∷ l) (changed_twice f g (y ∷ z ∷ zs))

-- a change is told by what it does to each item
pub changed_as : {A : Type 0} (f g : A → A) (xs : List A) → ((x : A) → f x ≡ g x) → change_last f xs ≡ change_last g xs
unfolding change_last
changed_as f g [] same = refl
changed_as f g (x ∷ []) same = ap (λ y. y ∷ []) (same x)
changed_as f g (x ∷ y ∷ ys) same = ap (λ l. x ∷ l) (changed_as f g (y ∷ ys) same)

pub unchanged : {A : Type 0} (f : A → A) (xs : List A) → ((x : A) → f x ≡ x) → change_last f xs ≡ xs
unfolding change_last
unchanged f [] same = refl
unchanged f (x ∷ []) same = ap (λ y. y ∷ []) (same x)
unchanged f (x ∷ y ∷ ys) same = ap (λ l. x ∷ l) (unchanged f (y ∷ ys) same)

-- no call changes nothing
pub changes_none : (told : Option (List Exchange)) (f : Exchange → Exchange) → ((x : Exchange) → f x ≡ x) → Changed told f told
changes_none None f same = refl
changes_none (Some xs) f same = ap Some (sym (unchanged f xs same))

-- two calls change it by both
pub changes_on : (a b c : Option (List Exchange)) (f g h : Exchange → Exchange) → ((x : Exchange) → g (f x) ≡ h x) → Changed a f b → Changed b g c → Changed a h c
changes_on None b c f g h same first then_ = then_ ∙ ap (option_map (change_last g)) first
changes_on (Some xs) b c f g h same first then_ =
    then_ ∙ ap (option_map (change_last g)) first ∙ ap Some (changed_twice f g xs ∙ changed_as (λ x. g (f x)) h xs same)

-- the last exchange of those that were told
pub changes_last : (before : List Exchange) (last : Exchange) (f : Exchange → Exchange) (new : Option (List Exchange)) → Changed (Some (before ++ last ∷ [])) f new → new ≡ Some (before ++ f last ∷ [])
changes_last before last f new changed = changed ∙ ap Some (changed_behind f before last)

-- an exchange that was added and changed was added as it is now
pub changes_added : (a b c : Option (List Exchange)) (x : Exchange) (f : Exchange → Exchange) → Added a (x ∷ []) b → Changed b f c → Added a (f x ∷ []) c
changes_added None b c x f added changed = changed ∙ ap (option_map (change_last f)) added
changes_added (Some before) b c x f added changed = changed ∙ ap (option_map (change_last f)) added ∙ ap Some (changed_behind f before x)

or_false : (b : Bool) → (b || false) ≡ b
or_false true = refl
or_false false = refl

or_on : (b e : Bool) → ((b || false) || e) ≡ (b || e)
or_on b e = ap (λ c. c || e) (or_false b)

abbrev with_parts : Exchange → List ℕ → Bool → Exchange
with_parts x received ended = record { to = x.to; sent = x.sent; received = received; ended = ended; failed = x.failed }

-- nothing came
pub received_none : (x : Exchange) → with_received [] false x ≡ x
received_none x = ap₂ (with_parts x) (append-nil x.received) (or_false x.ended)

-- bytes came, and then others, or the end
pub received_on : (first then_ : List ℕ) (ended : Bool) (x : Exchange) → with_received then_ ended (with_received first false x) ≡ with_received (first ++ then_) ended x
received_on first then_ ended x = ap₂ (with_parts x) (append_assoc x.received first then_) (or_on x.ended ended)

abbrev with_bytes : Exchange → List ℕ → Exchange
with_bytes x sent = record { to = x.to; sent = sent; received = x.received; ended = x.ended; failed = x.failed }

-- nothing was sent
pub sent_none : (x : Exchange) → with_sent [] x ≡ x
sent_none x = ap (with_bytes x) (append-nil x.sent)

-- bytes were sent, and then others
pub sent_on : (first then_ : List ℕ) (x : Exchange) → with_sent then_ (with_sent first x) ≡ with_sent (first ++ then_) x
sent_on first then_ x = ap (with_bytes x) (append_assoc x.sent first then_)
