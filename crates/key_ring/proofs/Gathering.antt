-- The keys of a list of items are read one after the other.
use Rattle.std.proofs.Common.{◌≡◌, ◌<◌, ◌≤◌, ℕ, ◌+◌, List, [], ◌∷◌, ◌++◌, length, drop, get_or, drop-cons, drop_of_length-le, add-one, append_assoc, append-nil, Option, Some, None, option_map, refl, sym, ap, ap₂, ◌∙◌, subst}
use Rattle.std.specs.List.{AllByRecursion}
use Rattle.fed_json.specs.declared.tree.Json.{Json}
use Rattle.fed_json.specs.Trees.{each}
use Rattle.key_ring.specs.declared.key.RingKey.{RingKey}
use Rattle.key_ring.specs.declared.version.Version.{Version}
use Rattle.key_ring.specs.Files.{IsKeyIn}
use Rattle.key_ring.specs.Readings.{key_in}
use Rattle.key_ring.specs.Rings.{Ring}

-- the keys of the first so many items
pub record Gathered (version : Version) (keys : Ring) (items : List Json) (count : ℕ) : Type 0 where
  pub read : each (key_in version) items ≡ option_map (λ rest. keys ++ rest) (each (key_in version) (drop count items))
  pub formed : AllByRecursion (IsKeyIn version) keys

behind_nothing : (o : Option Ring) → option_map (λ rest. [] ++ rest) o ≡ o
behind_nothing None = refl
behind_nothing (Some rest) = refl

pub gathered_none : (version : Version) (keys : Ring) (items : List Json) → keys ≡ [] → Gathered version keys items 0
gathered_none version keys items none = subst (λ ks. Gathered version ks items 0) (sym none) (record { read = sym (behind_nothing (each (key_in version) items)); formed = tt })

next_item : (items : List Json) (i : ℕ) (item : Json) → i < length items → item ≡ get_or items i item → drop i items ≡ item ∷ drop (i + 1) items
next_item items i item within is = drop-cons items i item within ∙ ap₂ (λ k ks. k ∷ ks) (sym is) (ap (λ n. drop n items) (sym (add-one i)))

pub gathered_stop : (version : Version) (keys : Ring) (items : List Json) (i : ℕ) (item : Json) → Gathered version keys items i → i < length items → item ≡ get_or items i item → key_in version item ≡ None
    → each (key_in version) items ≡ None
gathered_stop version keys items i item so_far within is none =
    so_far.read ∙ ap (λ xs. option_map (λ rest. keys ++ rest) (each (key_in version) xs)) (next_item items i item within is) ∙ rw none refl

all-push : (version : Version) (keys : Ring) (key : RingKey) → AllByRecursion (IsKeyIn version) keys → IsKeyIn version key → AllByRecursion (IsKeyIn version) (keys ++ key ∷ [])
all-push version [] key all last = (last, tt)
all-push version (k ∷ keys) key all last = (all.0, all-push version keys key all.1 last)

put_behind : (keys : Ring) (key : RingKey) (o : Option Ring) → option_map (λ rest. keys ++ rest) (option_map (λ ks. key ∷ ks) o) ≡ option_map (λ rest. (keys ++ key ∷ []) ++ rest) o
put_behind keys key None = refl
put_behind keys key (Some rest) = ap Some (sym (append_assoc keys (key ∷ []) rest))

pub gathered_more : (version : Version) (keys new : Ring) (items : List Json) (i : ℕ) (item : Json) (key : RingKey) → Gathered version keys items i → i < length items → item ≡ get_or items i item
    → key_in version item ≡ Some key → IsKeyIn version key → new ≡ keys ++ key ∷ [] → Gathered version new items (i + 1)
gathered_more version keys new items i item key so_far within is some formed more =
    subst (λ ks. Gathered version ks items (i + 1)) (sym more) (record {
      read = so_far.read ∙ ap (λ xs. option_map (λ rest. keys ++ rest) (each (key_in version) xs)) (next_item items i item within is) ∙ rw some (put_behind keys key (each (key_in version) (drop (i + 1) items)));
      formed = all-push version keys key so_far.formed formed;
    })

pub gathered_all : (version : Version) (keys : Ring) (items : List Json) (i : ℕ) → Gathered version keys items i → length items ≤ i → each (key_in version) items ≡ Some keys
gathered_all version keys items i so_far past = so_far.read ∙ ap (λ xs. option_map (λ rest. keys ++ rest) (each (key_in version) xs)) (drop_of_length-le items past) ∙ ap Some (append-nil keys)
