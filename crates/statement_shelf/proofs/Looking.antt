-- What a look-up finds in a part that a call left.
use Rattle.std.proofs.Common.{◌≡◌, ℕ, zero, suc, Bool, true, false, cond, List, [], ◌∷◌, ◌++◌, take, Some, ◌⊎◌, inl, inr, refl, sym, ap, ◌∙◌, subst}
use Rattle.std.specs.Prelude.{bytes_eq}
use Rattle.fed_json.proofs.Order.{equal-bytes_eq}
use Rattle.statement_shelf.specs.Entries.{Entry, Part, entry_at, without, written}

module _ (u url : List ℕ) where
  -- ---- another entry was taken out

  out_by : (b : Bool) (p : List ℕ × Entry) (part : Part) → bytes_eq u url ≡ false → bytes_eq url p.0 ≡ b → entry_at u (without url part) ≡ entry_at u part
      → entry_at u (cond b part (p ∷ without url part)) ≡ entry_at u (p ∷ part)
  out_by true p part apart same rest = let other : bytes_eq u p.0 ≡ false = subst (λ k. bytes_eq u k ≡ false) (equal-bytes_eq url p.0 same) apart in rw other refl
  out_by false p part apart same rest = ap (λ o. cond (bytes_eq u p.0) (Some p.1) o) rest

  pub entry_at-without : (part : Part) → bytes_eq u url ≡ false → entry_at u (without url part) ≡ entry_at u part
  entry_at-without [] apart = refl
  entry_at-without (p ∷ part) apart = out_by (bytes_eq url p.0) p part apart refl (entry_at-without part apart)

  -- ---- an entry was written

  wrote_by : (b c : Bool) (p : List ℕ × Entry) (part : Part) (w x : Entry) → bytes_eq url p.0 ≡ b → bytes_eq u p.0 ≡ c
      → cond c (Some (cond b w p.1)) (entry_at u (cond b part (written url w part))) ≡ Some x
      → (entry_at u (written url w part) ≡ Some x → (entry_at u part ≡ Some x) ⊎ ((x ≡ w) × (u ≡ url)))
      → (cond c (Some p.1) (entry_at u part) ≡ Some x) ⊎ ((x ≡ w) × (u ≡ url))
  wrote_by true true p part w x same other h rest = let is : w ≡ x = cc in inr (sym is, equal-bytes_eq u p.0 other ∙ sym (equal-bytes_eq url p.0 same))
  wrote_by true false p part w x same other h rest = inl h
  wrote_by false true p part w x same other h rest = inl h
  wrote_by false false p part w x same other h rest = rest h

  split_by : (b c : Bool) (p : List ℕ × Entry) (part : Part) (w : Entry) → bytes_eq u p.0 ≡ c
      → entry_at u (cond b ((p.0, w) ∷ part) (p ∷ written url w part)) ≡ cond c (Some (cond b w p.1)) (entry_at u (cond b part (written url w part)))
  split_by true c p part w other = rw other refl
  split_by false c p part w other = rw other refl

  -- what is found after an entry of a URL was written was there before, or is that entry
  pub entry_at-written : (part : Part) (w x : Entry) → entry_at u (written url w part) ≡ Some x → (entry_at u part ≡ Some x) ⊎ ((x ≡ w) × (u ≡ url))
  entry_at-written [] w x h = cc
  entry_at-written (p ∷ part) w x h =
      wrote_by (bytes_eq url p.0) (bytes_eq u p.0) p part w x refl refl (sym (split_by (bytes_eq url p.0) (bytes_eq u p.0) p part w refl) ∙ h) (entry_at-written part w x)

module _ (u : List ℕ) where
  -- ---- entries were dropped from the back

  front_by : (b : Bool) (p : List ℕ × Entry) (front all : Part) (x : Entry) → cond b (Some p.1) (entry_at u front) ≡ Some x → (entry_at u front ≡ Some x → entry_at u all ≡ Some x)
      → cond b (Some p.1) (entry_at u all) ≡ Some x
  front_by true p front all x h rest = h
  front_by false p front all x h rest = rest h

  pub entry_at-take : (n : ℕ) (part : Part) (x : Entry) → entry_at u (take n part) ≡ Some x → entry_at u part ≡ Some x
  entry_at-take zero part x h = cc
  entry_at-take (suc n) [] x h = h
  entry_at-take (suc n) (p ∷ part) x h = front_by (bytes_eq u p.0) p (take n part) part x h (entry_at-take n part x)

  pub entry_at-append : (part gone : Part) (x : Entry) → entry_at u part ≡ Some x → entry_at u (part ++ gone) ≡ Some x
  entry_at-append [] gone x h = cc
  entry_at-append (p ∷ part) gone x h = front_by (bytes_eq u p.0) p part (part ++ gone) x h (entry_at-append part gone x)

  -- ---- the entry in front

  pub first_is : (url : List ℕ) (e x : Entry) (part : Part) → bytes_eq u url ≡ true → entry_at u ((url, e) ∷ part) ≡ Some x → (x ≡ e) × (u ≡ url)
  first_is url e x part same h = let found : Some e ≡ Some x = sym (ap (λ b. cond b (Some e) (entry_at u part)) same) ∙ h in let is : e ≡ x = cc in (sym is, equal-bytes_eq u url same)

  pub first_not : (url : List ℕ) (e x : Entry) (part : Part) → bytes_eq u url ≡ false → entry_at u ((url, e) ∷ part) ≡ Some x → entry_at u part ≡ Some x
  first_not url e x part apart h = sym (ap (λ b. cond b (Some e) (entry_at u part)) apart) ∙ h
