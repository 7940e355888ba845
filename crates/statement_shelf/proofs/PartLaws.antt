-- Entries of a part, found, put, written and taken away.
use Rattle.std.proofs.Common.{◌≡◌, ◌≤◌, ◌+◌, ℕ, Bool, true, false, cond, List, [], ◌∷◌, length, take, Option, Some, None, refl, sym, ap, ap₂, arith}
use Rattle.std.specs.Prelude.{bytes_eq}
use Rattle.std.specs.Map.{lookup_entry}
use Rattle.std.proofs.lemmas.List.{take_all}
use Rattle.fed_json.proofs.Order.{bytes_eq-itself, equal-bytes_eq}
use Rattle.lru.specs.LruCache.{LruCache, promoted, put_entries}
use Rattle.statement_shelf.specs.Entries.{Entry, Part, entry_at, without, written, max_entries, put_first}

module _ (url : List ℕ) where
  -- ---- an entry that was found, and one that wasn't

  found_by : (b : Bool) (p : List ℕ × Entry) (part : Part) (e : Entry) → bytes_eq url p.0 ≡ b → cond b (Some p.1) (entry_at url part) ≡ Some e
      → (entry_at url part ≡ Some e → lookup_entry (bytes_eq url) part ≡ Some (url, e)) → cond b (Some p) (lookup_entry (bytes_eq url) part) ≡ Some (url, e)
  found_by true p part e same h rest =
      let key : url ≡ p.0 = equal-bytes_eq url p.0 same in
      let value : p.1 ≡ e = cc in
      ap₂ (λ k v. Some (k, v)) (sym key) value
  found_by false p part e same h rest = rest h

  pub found : (part : Part) (e : Entry) → entry_at url part ≡ Some e → lookup_entry (bytes_eq url) part ≡ Some (url, e)
  found [] e h = cc
  found (p ∷ part) e h = found_by (bytes_eq url p.0) p part e refl h (found part e)

  missing_by : (b : Bool) (p : List ℕ × Entry) (part : Part) → cond b (Some p.1) (entry_at url part) ≡ None
      → (entry_at url part ≡ None → (lookup_entry (bytes_eq url) part ≡ None) × (without url part ≡ part))
      → (cond b (Some p) (lookup_entry (bytes_eq url) part) ≡ None) × (cond b part (p ∷ without url part) ≡ p ∷ part)
  missing_by true p part h rest = cc
  missing_by false p part h rest = let r = rest h in (r.0, ap (λ q. p ∷ q) r.1)

  pub missing : (part : Part) → entry_at url part ≡ None → (lookup_entry (bytes_eq url) part ≡ None) × (without url part ≡ part)
  missing [] h = (refl, refl)
  missing (p ∷ part) h = missing_by (bytes_eq url p.0) p part h (missing part)

  shorter_by : (b : Bool) (p : List ℕ × Entry) (part : Part) (e : Entry) → cond b (Some p.1) (entry_at url part) ≡ Some e
      → (entry_at url part ≡ Some e → length (without url part) + 1 ≡ length part)
      → length (cond b part (p ∷ without url part)) + 1 ≡ length (p ∷ part)
  shorter_by true p part e h rest = omega arith
  shorter_by false p part e h rest = let r = rest h in omega (arith, r)

  -- the part without an entry that it has is shorter by one
  pub length-without : (part : Part) (e : Entry) → entry_at url part ≡ Some e → length (without url part) + 1 ≡ length part
  length-without [] e h = cc
  length-without (p ∷ part) e h = shorter_by (bytes_eq url p.0) p part e h (length-without part e)

  -- ---- an entry that is looked at comes first

  pub promoted-first : (part : Part) (e : Entry) → entry_at url part ≡ Some e → promoted (bytes_eq url) part ≡ (url, e) ∷ without url part
  promoted-first part e h = rw (found part e h) refl

  written_by : (b : Bool) (part : Part) (e w : Entry) → bytes_eq url url ≡ b → b ≡ true → cond b ((url, w) ∷ part) ((url, e) ∷ written url w part) ≡ (url, w) ∷ part
  written_by true part e w same is = refl
  written_by false part e w same is = cc is

  -- and is written in its place
  pub written-first : (part : Part) (e w : Entry) → written url w ((url, e) ∷ part) ≡ (url, w) ∷ part
  written-first part e w = written_by (bytes_eq url url) part e w refl (bytes_eq-itself url)

  -- ---- an entry that is put comes first

  put_by : (c : LruCache (List ℕ) Entry) (e : Entry) (o : Option Entry) → c.cap ≡ max_entries → length c.entries ≤ max_entries → entry_at url c.entries ≡ o
      → put_entries bytes_eq c url e ≡ put_first url e c.entries
  unfolding put_first
  put_by c e (Some old) cap size h =
      let shorter = length-without c.entries old h in
      let all : take 31 (without url c.entries) ≡ without url c.entries = take_all 31 (without url c.entries) (omega (arith, shorter, size)) in
      rw (found c.entries old h) (ap (λ q. (url, e) ∷ q) (sym all))
  put_by c e None cap size h = let m = missing c.entries h in rw (m.0, m.1, cap) refl

  pub put-first : (c : LruCache (List ℕ) Entry) (e : Entry) → c.cap ≡ max_entries → length c.entries ≤ max_entries → put_entries bytes_eq c url e ≡ put_first url e c.entries
  put-first c e cap size = put_by c e (entry_at url c.entries) cap size refl
