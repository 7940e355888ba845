-- The sets that are published of a ring are sets of keys, and the live one names the signer.
use Rattle.std.proofs.Common.{◌≡◌, ◌<◌, ◌≤◌, ◌^◌, ℕ, suc, ◌+◌, ◌*◌, ◌/◌, List, [], ◌∷◌, ◌++◌, map, filter, find, length, get_or, take, codes, Bool, true, false, ◌||◌, not, cond, nat_lt, bytes_eq, Option, Some, None, option_map, Result, Ok, Err, IfOk, refl, sym, ap, ap₂, ◌∙◌, subst, arith}
use Rattle.std.proofs.lemmas.Bool.{cond_both, or_from}
use Rattle.std.proofs.lemmas.List.{length-map, map-append}
use Rattle.std.proofs.lemmas.List.Elements.{filter_agree, filter_more}
use Rattle.std.proofs.lemmas.List.Folds.{list_any-append}
use Rattle.std.proofs.lemmas.Map.Keys.{IsDistinct-cons, IsDistinct-head, IsDistinct-tail}
use Rattle.std.proofs.lemmas.Slice.Eq.{bytes_eq-Decides}
use Rattle.std.specs.List.{AllByRecursion, IsDistinct, list_all, list_any}
use Rattle.std.specs.Str.{is_utf8}
use Rattle.sha2.proofs.Facts256.{length-sha256}
use Rattle.base64url.specs.Base64url.{base64url}
use Rattle.base64url.proofs.Canonical.{is_utf8-base64url, length-base64url}
use Rattle.fed_base.specs.declared.algorithm.Alg.{Alg}
use Rattle.fed_base.specs.declared.algorithm.Alg.TheVariants.{Small, Fast}
use Rattle.fed_base.specs.declared.faults.Memory.{Memory}
use Rattle.fed_json.specs.declared.tree.Json.{Json, List as ListOf, Object}
use Rattle.fed_json.specs.declared.tree.Member.{Member}
use Rattle.fed_json.specs.Forms.{IsWhole, whole}
use Rattle.fed_json.proofs.Booleans.{both_true}
use Rattle.fed_json.proofs.Layers.{whole-List, whole-Object}
use Rattle.jws_form.specs.Header.{algorithm}
use Rattle.jwk_set.proofs.WrittenKeys.{ascii, whole_text}
use Rattle.jwk_set.specs.declared.jwk.Jwk.{Jwk}
use Rattle.jwk_set.specs.declared.jwk.Jwk.TheVariants.{Own}
use Rattle.jwk_set.specs.Keys.{is_key, key_type}
use Rattle.jwk_set.specs.KeySets.{are_distinct, distinct_after, is_one_algorithm, key_named, repeats_kid}
use Rattle.jwk_set.specs.Thumbprints.{thumbprint_of}
use Rattle.slh_dsa.specs.Keys.{Keys}
use Rattle.sealed.specs.Sealing.{signer_key, signer_name}
use Rattle.sealed.proofs.Headers.{is_utf8-algorithm}
use Rattle.key_ring.specs.declared.key.KeyState.{KeyState}
use Rattle.key_ring.specs.declared.key.KeyState.TheVariants.{Live, Retired, Revoked}
use Rattle.key_ring.specs.declared.key.RingKey.{RingKey}
use Rattle.key_ring.specs.Rings.{IsRing, IsRingKey, IsTimelyState, Ring, is_live, kid_of, live_state, pair_in, public_of}
use Rattle.key_ring.specs.Sets.{IsNamedIn, historical_key, historical_keys, is_historical, is_published, own_key, own_set, plain_members, revoked_members, signer_keys}
use Rattle.key_ring.proofs.RingForms.{revocation_whole, whole_int}

-- ---- names

-- a name is a text that isn't empty
pub name_utf8 : (keys : Keys) → is_utf8 (signer_name keys) ≡ true
unfolding signer_name thumbprint_of
name_utf8 keys = is_utf8-base64url _

name_there : (keys : Keys) → nat_lt 0 (length (signer_name keys)) ≡ true
unfolding signer_name thumbprint_of
name_there keys = ap (nat_lt 0) (length-base64url _ ∙ ap (λ n. (4 * n + 2) / 3) (length-sha256 _))

-- ---- the form of the keys

all_keys : (keys : Ring) → list_all is_key (map own_key keys) ≡ true
all_keys [] = refl
all_keys (key ∷ keys) = both_true (both_true (name_there (pair_in key)) (name_utf8 (pair_in key))) (all_keys keys)

pub own_formed : (retired : Bool) (ring : Ring) → list_all is_key (own_set retired ring) ≡ true
unfolding own_set
own_formed retired ring = all_keys (filter (λ key. is_published retired key.state) ring)

-- ---- how many they are

filter_short : (p : RingKey → Bool) (ring : Ring) → length (filter p ring) ≤ length ring
filter_short p [] = omega arith
filter_short p (key ∷ ring) =
    let rest = filter_short p ring in
    cond_both (p key) (key ∷ filter p ring) (filter p ring) (λ keys. length keys ≤ suc (length ring)) (λ _. omega (arith, rest)) (λ _. omega (arith, rest))

pub own_few : (retired : Bool) (ring : Ring) → length ring ≤ 16 → length (own_set retired ring) ≤ 64
unfolding own_set
own_few retired ring few =
    let test = λ (key : RingKey). is_published retired key.state in
    omega (arith, few, filter_short test ring, length-map (filter test ring) own_key)

-- ---- no two of one name

names_left : (P : List ℕ → Type 0) (p : RingKey → Bool) (ring : Ring) → AllByRecursion P (map kid_of ring) → AllByRecursion P (map kid_of (filter p ring))
names_left P p [] all = tt
names_left P p (key ∷ ring) all =
    let rest = names_left P p ring all.1 in
    cond_both (p key) (key ∷ filter p ring) (filter p ring) (λ keys. AllByRecursion P (map kid_of keys)) (λ _. (all.0, rest)) (λ _. rest)

distinct_left : (p : RingKey → Bool) (ring : Ring) → IsDistinct bytes_eq (map kid_of ring) → IsDistinct bytes_eq (map kid_of (filter p ring))
distinct_left p [] once = once
distinct_left p (key ∷ ring) once =
    let rest = distinct_left p ring (IsDistinct-tail bytes_eq (kid_of key) (map kid_of ring) once) in
    let head = names_left (λ y. bytes_eq (kid_of key) y ≡ false) p ring (IsDistinct-head bytes_eq (kid_of key) (map kid_of ring) once) in
    cond_both (p key) (key ∷ filter p ring) (filter p ring) (λ keys. IsDistinct bytes_eq (map kid_of keys))
    (λ _. IsDistinct-cons bytes_eq (kid_of key) (map kid_of (filter p ring)) head rest) (λ _. rest)

-- one of the keys has that name
abbrev named_among : List ℕ → Ring → Bool
named_among kid keys = list_any (λ key. bytes_eq (kid_of key) kid) keys

repeats_is : (earlier : Ring) (kid : List ℕ) (alg : Alg) (public : List ℕ) → repeats_kid (map own_key earlier) (Own kid alg public) ≡ named_among kid earlier
unfolding repeats_kid
repeats_is [] kid alg public = refl
repeats_is (key ∷ earlier) kid alg public = ap (λ b. bytes_eq (kid_of key) kid || b) (repeats_is earlier kid alg public)

apart_more : (earlier : Ring) (key : RingKey) (kids : List (List ℕ)) → AllByRecursion (λ y. named_among y earlier ≡ false) kids → AllByRecursion (λ y. bytes_eq (kid_of key) y ≡ false) kids
    → AllByRecursion (λ y. named_among y (earlier ++ key ∷ []) ≡ false) kids
apart_more earlier key [] first second = tt
apart_more earlier key (y ∷ kids) first second = (
  list_any-append (λ k. bytes_eq (kid_of k) y) earlier (key ∷ []) ∙ or_from _ _ first.0 (or_from _ _ second.0 refl),
  apart_more earlier key kids first.1 second.1,
)

distinct_behind : (earlier keys : Ring) → AllByRecursion (λ y. named_among y earlier ≡ false) (map kid_of keys) → IsDistinct bytes_eq (map kid_of keys)
    → distinct_after (map own_key earlier) (map own_key keys) ≡ true
distinct_behind earlier [] apart once = refl
distinct_behind earlier (key ∷ keys) apart once =
    let head = IsDistinct-head bytes_eq (kid_of key) (map kid_of keys) once in
    let rest = distinct_behind (earlier ++ key ∷ []) keys (apart_more earlier key (map kid_of keys) apart.1 head) (IsDistinct-tail bytes_eq (kid_of key) (map kid_of keys) once) in
    both_true (ap not (repeats_is earlier (kid_of key) (pair_in key).alg (public_of key) ∙ apart.0))
    (subst (λ ks. distinct_after ks (map own_key keys) ≡ true) (map-append own_key earlier (key ∷ [])) rest)

none_before : (kids : List (List ℕ)) → AllByRecursion (λ y. named_among y [] ≡ false) kids
none_before [] = tt
none_before (y ∷ kids) = (refl, none_before kids)

pub own_distinct : (retired : Bool) (ring : Ring) → IsDistinct bytes_eq (map kid_of ring) → are_distinct (own_set retired ring) ≡ true
unfolding own_set are_distinct
own_distinct retired ring once =
    let test = λ (key : RingKey). is_published retired key.state in
    distinct_behind [] (filter test ring) (none_before (map kid_of (filter test ring))) (distinct_left test ring once)

-- ---- the signer

published_live : (state : KeyState) → is_published false state ≡ live_state state
published_live Live = refl
published_live Retired = refl
published_live (Revoked at reason) = refl

same_keys : (a b : Keys) → Some a ≡ Some b → a ≡ b
same_keys a b e = cc e

itself : (text : List ℕ) → bytes_eq text text ≡ true
itself text = (bytes_eq-Decides text text).1 refl

-- the key of the signer is found under its name and its algorithm
abbrev IsFound : Keys → List Jwk → Type 0
IsFound keys set = key_named (signer_name keys) keys.alg set ≡ Some (signer_key keys)

same_algorithm : (alg : Alg) → is_one_algorithm alg alg ≡ true
same_algorithm Small = refl
same_algorithm Fast = refl

-- the first key is found under its name
first_found : (key : RingKey) (rest : List Jwk) → IsFound (pair_in key) (own_key key ∷ rest)
unfolding key_named
first_found key rest =
    ap (λ b. cond b (Some (public_of key)) (key_named (kid_of key) (pair_in key).alg rest)) (both_true (itself (kid_of key)) (same_algorithm key.alg))

named_case : (b : Bool) (key : RingKey) (found : Option RingKey) (live : Ring) (keys : Keys) → option_map pair_in (cond b (Some key) found) ≡ Some keys
    → (option_map pair_in found ≡ Some keys → IsFound keys (map own_key live)) → IsFound keys (map own_key (cond b (key ∷ live) live))
named_case true key found live keys e rest =
    subst (λ k. IsFound k (own_key key ∷ map own_key live)) (same_keys (pair_in key) keys e) (first_found key (map own_key live))
named_case false key found live keys e rest = rest e

live_named : (ring : Ring) (keys : Keys) → option_map pair_in (find is_live ring) ≡ Some keys → IsFound keys (map own_key (filter is_live ring))
live_named [] keys e = cc e
live_named (key ∷ ring) keys e = named_case (is_live key) key (find is_live ring) (filter is_live ring) keys e (live_named ring keys)

pub signer_named : (ring : Ring) → IsNamedIn (signer_keys ring) (own_set false ring)
unfolding own_set
signer_named ring = λ keys e.
    ap (λ ks. key_named (signer_name keys) keys.alg (map own_key ks)) (filter_agree (λ (key : RingKey). is_published false key.state) is_live (λ key. published_live key.state) ring)
    ∙ live_named ring keys e

-- a ring has a signer
pub never_silent : (ring : Ring) → list_any is_live ring ≡ true → find is_live ring ≡ None → ⊥
never_silent [] live none = cc live
never_silent (key ∷ ring) live none = by_case (is_live key) live none (never_silent ring)
  where
    by_case : (b : Bool) → (b || list_any is_live ring) ≡ true → cond b (Some key) (find is_live ring) ≡ None → (list_any is_live ring ≡ true → find is_live ring ≡ None → ⊥) → ⊥
    by_case true live none rest = cc none
    by_case false live none rest = rest live none

-- ---- the loop

-- the keys of the first so many, of those that pass
one_more : (test : RingKey → Bool) (ring : Ring) (i : ℕ) (key : RingKey) → i < length ring → key ≡ get_or ring i key
    → filter test (take (i + 1) ring) ≡ filter test (take i ring) ++ cond (test key) (key ∷ []) []
one_more test ring i key within is = filter_more test ring i key within ∙ ap (λ k. filter test (take i ring) ++ cond (test k) (k ∷ []) []) (sym is)

pub passing_more : {X : Type 0} (f : RingKey → X) (test : RingKey → Bool) (ring : Ring) (i : ℕ) (key : RingKey) (made new : List X) (x : X) → made ≡ map f (filter test (take i ring))
    → i < length ring → key ≡ get_or ring i key → test key ≡ true → x ≡ f key → new ≡ made ++ x ∷ [] → new ≡ map f (filter test (take (i + 1) ring))
passing_more f test ring i key made new x so_far within is passes same more =
    more ∙ ap₂ (λ a b. a ++ b ∷ []) so_far same ∙ sym (map-append f (filter test (take i ring)) (key ∷ []))
    ∙ ap (map f) (sym (one_more test ring i key within is ∙ ap (λ b. filter test (take i ring) ++ cond b (key ∷ []) []) passes))

nothing_more : {X : Type 0} (xs : List X) → xs ++ [] ≡ xs
nothing_more [] = refl
nothing_more (x ∷ xs) = ap (λ ys. x ∷ ys) (nothing_more xs)

pub failing_more : {X : Type 0} (f : RingKey → X) (test : RingKey → Bool) (ring : Ring) (i : ℕ) (key : RingKey) (made : List X) → made ≡ map f (filter test (take i ring))
    → i < length ring → key ≡ get_or ring i key → test key ≡ false → made ≡ map f (filter test (take (i + 1) ring))
failing_more f test ring i key made so_far within is fails =
    so_far ∙ ap (map f) (sym (one_more test ring i key within is ∙ ap (λ b. filter test (take i ring) ++ cond b (key ∷ []) []) fails ∙ nothing_more (filter test (take i ring))))

-- ---- historical keys have a text

-- what each historical key has
abbrev plain_of : Keys → ℕ → List Member
plain_of keys exp = plain_members keys.alg exp (signer_name keys) (signer_key keys)

historical_whole : (exp : ℕ) (keys : Keys) (state : KeyState) → exp < 2 ^ 64 → IsTimelyState state → whole (Object (plain_of keys exp ++ revoked_members state)) ≡ true
historical_whole exp keys Live small timely =
    whole-Object (plain_of keys exp)
    ∙ rw (
      whole_text (algorithm keys.alg) (is_utf8-algorithm keys.alg),
      whole_int exp small,
      whole_text (signer_name keys) (name_utf8 keys),
      whole_text key_type (ascii key_type refl),
      whole_text (base64url (signer_key keys)) (is_utf8-base64url (signer_key keys)),
      ascii (codes "alg") refl,
      ascii (codes "exp") refl,
      ascii (codes "kid") refl,
      ascii (codes "kty") refl,
      ascii (codes "pub") refl,
    ) refl
historical_whole exp keys Retired small timely =
    whole-Object (plain_of keys exp)
    ∙ rw (
      whole_text (algorithm keys.alg) (is_utf8-algorithm keys.alg),
      whole_int exp small,
      whole_text (signer_name keys) (name_utf8 keys),
      whole_text key_type (ascii key_type refl),
      whole_text (base64url (signer_key keys)) (is_utf8-base64url (signer_key keys)),
      ascii (codes "alg") refl,
      ascii (codes "exp") refl,
      ascii (codes "kid") refl,
      ascii (codes "kty") refl,
      ascii (codes "pub") refl,
    ) refl
historical_whole exp keys (Revoked at reason) small timely =
    whole-Object (plain_of keys exp ++ revoked_members (Revoked at reason))
    ∙ rw (
      whole_text (algorithm keys.alg) (is_utf8-algorithm keys.alg),
      whole_int exp small,
      whole_text (signer_name keys) (name_utf8 keys),
      whole_text key_type (ascii key_type refl),
      whole_text (base64url (signer_key keys)) (is_utf8-base64url (signer_key keys)),
      revocation_whole at reason (omega arith),
      ascii (codes "alg") refl,
      ascii (codes "exp") refl,
      ascii (codes "kid") refl,
      ascii (codes "kty") refl,
      ascii (codes "pub") refl,
      ascii (codes "revoked") refl,
    ) refl

each_whole : (ring : Ring) → AllByRecursion IsRingKey ring → list_all whole (map historical_key (filter (λ key. is_historical key.state) ring)) ≡ true
each_whole [] all = refl
each_whole (key ∷ ring) all =
    let rest = each_whole ring all.1 in
    let small = (all.0).small in
    let old = λ (k : RingKey). is_historical k.state in
    cond_both (old key) (key ∷ filter old ring) (filter old ring) (λ keys. list_all whole (map historical_key keys) ≡ true)
    (λ _. both_true (historical_whole key.exp (pair_in key) key.state (omega (arith, small)) (all.0).state) rest) (λ _. rest)

pub list_whole : (ring : Ring) → AllByRecursion IsRingKey ring → whole (ListOf (historical_keys ring)) ≡ true
unfolding historical_keys
list_whole ring all = whole-List (map historical_key (filter (λ key. is_historical key.state) ring)) ∙ each_whole ring all

pub told_whole : (ring slice : Ring) (r : Result Json Memory) → AllByRecursion IsRingKey ring → slice ≡ ring → IfOk r (λ tree. tree ≡ ListOf (historical_keys slice)) → IfOk r IsWhole
told_whole ring slice (Err e) all same is = tt
told_whole ring slice (Ok tree) all same is = ap whole (is ∙ ap (λ keys. ListOf (historical_keys keys)) same) ∙ list_whole ring all

-- ---- what each set of keys keeps

pub record SetForm (keys : List Jwk) : Type 0 where
  pub few : length keys ≤ 64
  pub formed : list_all is_key keys ≡ true
  pub distinct : are_distinct keys ≡ true

pub set-form : (retired : Bool) (ring slice : Ring) (keys : List Jwk) → IsRing ring → slice ≡ ring → keys ≡ own_set retired slice → SetForm keys
set-form retired ring slice keys is same made =
    subst SetForm (sym (made ∙ ap (own_set retired) same))
    (record { few = own_few retired ring is.form.few; formed = own_formed retired ring; distinct = own_distinct retired ring is.distinct })

pub signer-in : (ring slice view : Ring) (keys : List Jwk) → slice ≡ ring → ring ≡ view → keys ≡ own_set false slice → IsNamedIn (signer_keys view) keys
signer-in ring slice view keys same seen made = subst (λ ks. IsNamedIn (signer_keys view) ks) (sym (made ∙ ap (own_set false) (same ∙ seen))) (signer_named view)
