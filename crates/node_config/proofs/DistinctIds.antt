-- Identifiers that a loop has seen, and those that differ.
use Rattle.std.proofs.Common.{◌≡◌, ◌<◌, ℕ, suc, ◌+◌, List, [], ◌∷◌, ◌++◌, length, map, take, drop, get_or, Bool, true, false, ◌||◌, ◌&&◌, not, cond, bytes_eq, nat_cmp, Ordering, Bor, refl, sym, ap, ap₂, ◌∙◌, take-suc, drop-cons, add-one}
use Rattle.std.specs.BTreeSet.{BTreeSet, contains}
use Rattle.std.specs.Cmp.Lexicographic.{slice_cmp}
use Rattle.std.specs.List.{list_any}
use Rattle.std.specs.Ordering.{is_eq}
use Rattle.std.proofs.lemmas.List.{map-append, take-append-drop}
use Rattle.std.proofs.lemmas.List.Folds.{list_any-append}
use Rattle.std.proofs.lemmas.Map.Text.{is_eq-slice_cmp}
use Rattle.fed_json.proofs.Booleans.{left_true, right_true, both_true, left_false, right_false}
use Rattle.fed_json.proofs.Order.{bytes_eq-back}
use Rattle.entity_statement.specs.Claims.{Identifier}
use Rattle.entity_statement.specs.Forms.{all_differ}

-- the order of a set's keys
abbrev pub key_cmp : Bor Identifier → Bor Identifier → Ordering
key_cmp x y = slice_cmp nat_cmp x.now y.now

not_true : (b : Bool) → not b ≡ true → b ≡ false
not_true true e = cc e
not_true false e = refl

pub negated : (b c : Bool) → not b ≡ not c → b ≡ c
negated true true e = refl
negated true false e = cc e
negated false true e = cc e
negated false false e = refl

-- one more identifier that isn't among those that differ
more_differ : (ids : List Identifier) (id : Identifier) → all_differ ids ≡ true → list_any (bytes_eq id) ids ≡ false → all_differ (ids ++ id ∷ []) ≡ true
more_differ [] id differ new = refl
more_differ (x ∷ ids) id differ new =
    let others = not_true (list_any (bytes_eq x) ids) (left_true _ _ differ) in
    let apart : list_any (bytes_eq x) (ids ++ id ∷ []) ≡ false = list_any-append (bytes_eq x) ids (id ∷ []) ∙ ap₂ (λ a b. a || (b || false)) others (bytes_eq-back false id x (left_false _ _ new)) in
    both_true (ap not apart) (more_differ ids id (right_true _ _ differ) (right_false _ _ new))

-- an identifier that stands again
some_any : (a b : Bool) → a ≡ true → (a || b) ≡ true
some_any true b is = refl
some_any false b is = cc is

behind_any : (a b : Bool) → b ≡ true → (a || b) ≡ true
behind_any true b is = refl
behind_any false b is = is

repeated : (ids rest : List Identifier) (id : Identifier) → list_any (bytes_eq id) ids ≡ true → all_differ (ids ++ id ∷ rest) ≡ false
repeated [] rest id among = cc among
repeated (x ∷ ids) rest id among = by_first (bytes_eq id x) refl (repeated ids rest id) among
  where
    both_false : (a b : Bool) → b ≡ false → (a && b) ≡ false
    both_false true b is = is
    both_false false b is = refl

    by_first : (b : Bool) → bytes_eq id x ≡ b → (list_any (bytes_eq id) ids ≡ true → all_differ (ids ++ id ∷ rest) ≡ false) → (b || list_any (bytes_eq id) ids) ≡ true → (not (list_any (bytes_eq x) (ids ++ id ∷ rest)) && all_differ (ids ++ id ∷ rest)) ≡ false
    by_first true is later among =
        let here : list_any (bytes_eq x) (ids ++ id ∷ rest) ≡ true =
        list_any-append (bytes_eq x) ids (id ∷ rest) ∙ behind_any (list_any (bytes_eq x) ids) _ (some_any (bytes_eq x id) _ (bytes_eq-back true id x is)) in
        ap (λ b. not b && all_differ (ids ++ id ∷ rest)) here
    by_first false is later among = both_false _ (all_differ (ids ++ id ∷ rest)) (later among)

module _ {T : Type 0} (id_of : T → Identifier) where
  -- the set has the identifiers of the first items, which differ
  pub record Seen (items : List T) (i : ℕ) (set : BTreeSet (Bor Identifier)) : Type 0 where
    pub differ : all_differ (map id_of (take i items)) ≡ true
    pub same : (q : Bor Identifier) → contains key_cmp set q ≡ list_any (bytes_eq q.now) (map id_of (take i items))

  pub seen_none : (items : List T) (set : BTreeSet (Bor Identifier)) → set.keys ≡ [] → Seen items 0 set
  seen_none items set none = record { differ = refl; same = λ q. ap (λ keys. list_any (λ k. is_eq (key_cmp q k)) keys) none }

  ids_more : (items : List T) (i : ℕ) (item : T) → i < length items → item ≡ get_or items i item → map id_of (take (i + 1) items) ≡ map id_of (take i items) ++ id_of item ∷ []
  ids_more items i item within at =
      ap (λ n. map id_of (take n items)) (add-one i) ∙ ap (map id_of) (take-suc items i item within ∙ ap (λ x. take i items ++ x ∷ []) (sym at)) ∙ map-append id_of (take i items) (item ∷ [])

  pub seen_more : (items : List T) (i : ℕ) (item : T) (key : Bor Identifier) (set next : BTreeSet (Bor Identifier)) → Seen items i set → i < length items
      → item ≡ get_or items i item → key.now ≡ id_of item → contains key_cmp set key ≡ false
      → ((q : Bor Identifier) → contains key_cmp next q ≡ cond (is_eq (key_cmp key q)) true (contains key_cmp set q)) → Seen items (i + 1) next
  seen_more items i item key set next seen within at is new updates =
      let more = ids_more items i item within at in
      let ids = map id_of (take i items) in
      record {
        differ = ap all_differ more ∙ more_differ ids (id_of item) seen.differ (ap (λ id. list_any (bytes_eq id) ids) (sym is) ∙ sym (seen.same key) ∙ new);
        same = λ q.
            updates q
            ∙ ap₂ (λ b c. cond b true c) (is_eq-slice_cmp key.now q.now ∙ flipped key.now q.now) (seen.same q)
            ∙ as_or (bytes_eq q.now key.now) (list_any (bytes_eq q.now) ids)
            ∙ ap (λ id. list_any (bytes_eq q.now) ids || (bytes_eq q.now id || false)) is
            ∙ sym (list_any-append (bytes_eq q.now) ids (id_of item ∷ []))
            ∙ ap (list_any (bytes_eq q.now)) (sym more);
      }
    where
      flipped : (a b : Identifier) → bytes_eq a b ≡ bytes_eq b a
      flipped a b = sym (bytes_eq-back (bytes_eq a b) a b refl)

      as_or : (a b : Bool) → cond a true b ≡ (b || (a || false))
      as_or true true = refl
      as_or true false = refl
      as_or false true = refl
      as_or false false = refl

  pub seen_again : (items : List T) (i : ℕ) (item : T) (key : Bor Identifier) (set : BTreeSet (Bor Identifier)) → Seen items i set → i < length items
      → item ≡ get_or items i item → key.now ≡ id_of item → contains key_cmp set key ≡ true → all_differ (map id_of items) ≡ false
  seen_again items i item key set seen within at is old =
      let ids = map id_of (take i items) in
      let parts : items ≡ take i items ++ item ∷ drop (suc i) items = sym (take-append-drop i items) ∙ ap (λ rest. take i items ++ rest) (drop-cons items i item within ∙ ap (λ x. x ∷ drop (suc i) items) (sym at)) in
      ap (λ xs. all_differ (map id_of xs)) parts
      ∙ ap all_differ (map-append id_of (take i items) (item ∷ drop (suc i) items))
      ∙ repeated ids (map id_of (drop (suc i) items)) (id_of item) (ap (λ id. list_any (bytes_eq id) ids) (sym is) ∙ sym (seen.same key) ∙ old)
