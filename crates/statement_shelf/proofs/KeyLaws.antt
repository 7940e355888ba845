-- The keys of an entry, with one more.
use Rattle.std.proofs.Common.{◌≡◌, ◌≤◌, ℕ, zero, suc, Bool, true, false, cond, ◌&&◌, List, [], ◌∷◌, length, take, IsTrue, refl, arith}
use Rattle.std.specs.Prelude.{bytes_eq}
use Rattle.std.specs.List.{list_all, list_any}
use Rattle.sealed.specs.Seals.{pair_of, IsSealed}
use Rattle.sealed.specs.Deciding.{are_sealed, is_sealed}
use Rattle.sealed.proofs.DecidingLaws.{is_sealed-from_IsSealed}
use Rattle.statement_shelf.specs.Entries.{add_key, max_proved}

all-take : {X : Type 0} (p : X → Bool) (n : ℕ) (xs : List X) → list_all p xs ≡ true → list_all p (take n xs) ≡ true
all-take p zero xs h = refl
all-take p (suc n) [] h = h
all-take p (suc n) (x ∷ xs) h = all_by (p x) (list_all p xs) (list_all p (take n xs)) h (λ rest. all-take p n xs rest)
  where
    all_by : (a b c : Bool) → (a && b) ≡ true → (b ≡ true → c ≡ true) → (a && c) ≡ true
    all_by true b c h rest = rest h
    all_by false b c h rest = h

module _ (text key : List ℕ) where
  sealed_by : (keys : List (List ℕ)) (b : Bool) → is_sealed (pair_of text key) ≡ true → are_sealed text keys ≡ true → are_sealed text (cond b keys (take max_proved (key ∷ keys))) ≡ true
  sealed_by keys true one all = all
  sealed_by keys false one all = all-take (λ public. is_sealed (pair_of text public)) 4 (key ∷ keys) (rw one all)

  -- keys under which a text verifies, and one more of them
  pub sealed_added : (keys : List (List ℕ)) → IsSealed (pair_of text key) → IsTrue (are_sealed text keys) → IsTrue (are_sealed text (add_key key keys))
  unfolding add_key
  sealed_added keys seal all = sealed_by keys (list_any (λ k. bytes_eq k key) keys) (is_sealed-from_IsSealed (pair_of text key) seal) all

-- the first n are at most n
pub short : {X : Type 0} (n : ℕ) (xs : List X) → length (take n xs) ≤ n
short zero xs = omega arith
short (suc n) [] = omega arith
short (suc n) (x ∷ xs) = let r = short n xs in omega (arith, r)

few_by : (key : List ℕ) (keys : List (List ℕ)) (b : Bool) → length keys ≤ max_proved → length (cond b keys (take max_proved (key ∷ keys))) ≤ max_proved
few_by key keys true few = few
few_by key keys false few = short 4 (key ∷ keys)

-- they stay few
pub few_added : (key : List ℕ) (keys : List (List ℕ)) → length keys ≤ max_proved → length (add_key key keys) ≤ max_proved
unfolding add_key
few_added key keys few = few_by key keys (list_any (λ k. bytes_eq k key) keys) few
