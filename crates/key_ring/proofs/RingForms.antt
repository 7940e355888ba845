-- The tree of a ring has a text.
use Rattle.std.proofs.Common.{◌≡◌, ◌<◌, ◌≤◌, ◌^◌, ℕ, zero, suc, max, get_or, nat_lt, ℤ, pos, List, [], ◌∷◌, ◌++◌, map, codes, true, not, refl, ap, ap₂, ◌∙◌, lit≤, arith, rules}
use Rattle.std.proofs.lemmas.Bool.{lt-ltb, ltb-true}
use Rattle.std.proofs.lemmas.Str.{IsUtf8-from_ascii, is_utf8-from_IsUtf8}
use Rattle.std.specs.List.{AllByRecursion, list_all}
use Rattle.std.specs.Str.{IsAscii, is_utf8}
use Rattle.hex.specs.Hex.{encode_lower, lower_digits}
use Rattle.hex.proofs.HexLemmas.{IsAscii-encode_with}
use Rattle.fed_json.specs.declared.tree.Json.{Int, List as ListOf, Object, the_lemmas}
use Rattle.fed_json.specs.declared.tree.Member.{Member}
use Rattle.fed_json.specs.Forms.{greatest, has_odd, in_bounds, nesting, well_formed, whole}
use Rattle.fed_json.specs.Members.{number_member, text_member}
use Rattle.fed_json.specs.Reading.{member_of}
use Rattle.fed_json.proofs.Booleans.{both_true, left_true, right_true}
use Rattle.fed_json.proofs.Layers.{whole-Object, whole-List, nesting-Object, nesting-List, nesting-Int, nesting-Text}
use Rattle.fed_base.specs.declared.algorithm.Alg.{Alg}
use Rattle.fed_base.specs.declared.algorithm.Alg.TheVariants.{Small, Fast}
use Rattle.jws_form.specs.Header.{algorithm}
use Rattle.jwk_set.proofs.WrittenKeys.{ascii, whole_text}
use Rattle.key_ring.specs.declared.key.KeyState.{KeyState}
use Rattle.key_ring.specs.declared.key.KeyState.TheVariants.{Live, Retired, Revoked}
use Rattle.key_ring.specs.declared.key.RevokeReason.{RevokeReason}
use Rattle.key_ring.specs.declared.key.RevokeReason.TheVariants.{Unspecified, Compromised, Superseded}
use Rattle.key_ring.specs.declared.key.RingKey.{RingKey}
use Rattle.key_ring.specs.declared.version.Version.{Version}
use Rattle.key_ring.specs.declared.version.Version.TheVariants.{First, Second}
use Rattle.key_ring.specs.Files.{key_members, key_tree, number_of, reason_word, revocation_tree, state_tree, tree_of}
use Rattle.key_ring.specs.Rings.{IsRingKey, IsTimelyState, Ring}

-- ---- numbers and texts

int_formed : (n : ℤ) → well_formed (Int n) ≡ in_bounds n
int_formed n = search (rules, the_lemmas)

int_even : (n : ℤ) → not (has_odd (Int n)) ≡ true
int_even n = search (rules, the_lemmas)

pub whole_int : (n : ℕ) → n < 2 ^ 64 → whole (Int (pos n)) ≡ true
whole_int n small = both_true (int_formed (pos n) ∙ lt-ltb n (2 ^ 64) small) (int_even (pos n))

below_128 : (t : List ℕ) (i : ℕ) → list_all (λ x. nat_lt x 128) t ≡ true → get_or t i 0 < 128
below_128 [] i all = omega arith
below_128 (x ∷ t) zero all = ltb-true x 128 (left_true (nat_lt x 128) _ all)
below_128 (x ∷ t) (suc i) all = below_128 t i (right_true (nat_lt x 128) _ all)

digits_ascii : IsAscii lower_digits
digits_ascii = λ i. below_128 lower_digits i refl

utf8 : (seeds : List ℕ) → is_utf8 (encode_lower seeds) ≡ true
utf8 seeds = is_utf8-from_IsUtf8 _ (IsUtf8-from_ascii _ (IsAscii-encode_with lower_digits seeds digits_ascii))

-- ---- states

reason_utf8 : (reason : RevokeReason) → is_utf8 (reason_word reason) ≡ true
reason_utf8 Unspecified = ascii (codes "unspecified") refl
reason_utf8 Compromised = ascii (codes "compromised") refl
reason_utf8 Superseded = ascii (codes "superseded") refl

abbrev revocation_members : ℕ → RevokeReason → List Member
revocation_members at reason = text_member (codes "reason") (reason_word reason) ∷ number_member (codes "revoked_at") at ∷ []

pub revocation_whole : (at : ℕ) (reason : RevokeReason) → at < 2 ^ 64 → whole (revocation_tree at reason) ≡ true
revocation_whole at reason small =
    whole-Object (revocation_members at reason)
    ∙ rw (whole_text (reason_word reason) (reason_utf8 reason), whole_int at small, ascii (codes "reason") refl, ascii (codes "revoked_at") refl) refl

state_whole : (state : KeyState) → IsTimelyState state → whole (state_tree state) ≡ true
state_whole Live timely = whole_text (codes "live") (ascii (codes "live") refl)
state_whole Retired timely = whole_text (codes "retired") (ascii (codes "retired") refl)
state_whole (Revoked at reason) timely = revocation_whole at reason (omega arith)

-- ---- keys

alg_utf8 : (alg : Alg) → is_utf8 (algorithm alg) ≡ true
alg_utf8 Small = ascii (algorithm Small) refl
alg_utf8 Fast = ascii (algorithm Fast) refl

key_whole : (version : Version) (key : RingKey) → IsRingKey key → whole (key_tree version key) ≡ true
unfolding key_tree
key_whole First key is =
    let order = is.order in
    let small = is.small in
    whole-Object (key_members key)
    ∙ rw (
      whole_int key.exp (omega (arith, small)),
      whole_int key.iat (omega (arith, order, small)),
      whole_text (encode_lower key.seeds) (utf8 key.seeds),
      state_whole key.state is.state,
      ascii (codes "exp") refl,
      ascii (codes "iat") refl,
      ascii (codes "seeds") refl,
      ascii (codes "state") refl,
    ) refl
key_whole Second key is =
    let order = is.order in
    let small = is.small in
    whole-Object (text_member (codes "alg") (algorithm key.alg) ∷ key_members key)
    ∙ rw (
      whole_text (algorithm key.alg) (alg_utf8 key.alg),
      whole_int key.exp (omega (arith, small)),
      whole_int key.iat (omega (arith, order, small)),
      whole_text (encode_lower key.seeds) (utf8 key.seeds),
      state_whole key.state is.state,
      ascii (codes "alg") refl,
      ascii (codes "exp") refl,
      ascii (codes "iat") refl,
      ascii (codes "seeds") refl,
      ascii (codes "state") refl,
    ) refl

keys_whole : (version : Version) (ring : Ring) → AllByRecursion IsRingKey ring → list_all whole (map (key_tree version) ring) ≡ true
keys_whole version [] all = refl
keys_whole version (key ∷ ring) all = both_true (key_whole version key all.0) (keys_whole version ring all.1)

number_small : (version : Version) → number_of version < 2 ^ 64
number_small First = lit≤ tt
number_small Second = lit≤ tt

abbrev ring_members : Version → Ring → List Member
ring_members version ring = member_of (codes "keys") (ListOf (map (key_tree version) ring)) ∷ number_member (codes "version") (number_of version) ∷ []

pub tree_whole : (version : Version) (ring : Ring) → AllByRecursion IsRingKey ring → whole (tree_of version ring) ≡ true
unfolding tree_of
tree_whole version ring all =
    whole-Object (ring_members version ring)
    ∙ rw (
      whole-List (map (key_tree version) ring),
      keys_whole version ring all,
      whole_int (number_of version) (number_small version),
      ascii (codes "keys") refl,
      ascii (codes "version") refl,
    ) refl

-- ---- depth

state_depth : (state : KeyState) → nesting (state_tree state) ≤ 1
state_depth Live = rw (nesting-Text (codes "live")) (lit≤ tt)
state_depth Retired = rw (nesting-Text (codes "retired")) (lit≤ tt)
state_depth (Revoked at reason) =
    rw (nesting-Object (revocation_members at reason), nesting-Text (reason_word reason), nesting-Int (pos at)) (lit≤ tt)

object_depth : (n : ℕ) → n ≤ 1 → suc (max 0 (max 0 (max 0 (max n 0)))) ≤ 2
object_depth n small = omega arith

named_depth : (n : ℕ) → n ≤ 1 → suc (max 0 (max 0 (max 0 (max 0 (max n 0))))) ≤ 2
named_depth n small = omega arith

key_depth : (version : Version) (key : RingKey) → nesting (key_tree version key) ≤ 2
unfolding key_tree
key_depth First key =
    rw (nesting-Object (key_members key), nesting-Int (pos key.exp), nesting-Int (pos key.iat), nesting-Text (encode_lower key.seeds))
    (object_depth (nesting (state_tree key.state)) (state_depth key.state))
key_depth Second key =
    rw (
      nesting-Object (text_member (codes "alg") (algorithm key.alg) ∷ key_members key),
      nesting-Text (algorithm key.alg),
      nesting-Int (pos key.exp),
      nesting-Int (pos key.iat),
      nesting-Text (encode_lower key.seeds),
    ) (named_depth (nesting (state_tree key.state)) (state_depth key.state))

greater : (a b : ℕ) → a ≤ 2 → b ≤ 2 → max a b ≤ 2
greater a b first second = omega arith

depths : (version : Version) (ring : Ring) → greatest (map nesting (map (key_tree version) ring)) ≤ 2
depths version [] = lit≤ tt
depths version (key ∷ ring) =
    greater (nesting (key_tree version key)) (greatest (map nesting (map (key_tree version) ring))) (key_depth version key) (depths version ring)

ring_depth : (n m : ℕ) → n ≤ 2 → m ≡ suc n → suc (max m (max 0 0)) ≤ 127
ring_depth n m few is = omega arith

pub tree_shallow : (version : Version) (ring : Ring) → nesting (tree_of version ring) ≤ 127
unfolding tree_of
tree_shallow version ring =
    rw (nesting-Object (ring_members version ring), nesting-Int (pos (number_of version)))
    (ring_depth (greatest (map nesting (map (key_tree version) ring))) (nesting (ListOf (map (key_tree version) ring))) (depths version ring) (nesting-List (map (key_tree version) ring)))

-- ---- a revocation, member by member

pub revocation-made : (empty one two : List Member) (a b : Member) (at : ℕ) (reason : RevokeReason) → empty ≡ [] → one ≡ empty ++ a ∷ [] → two ≡ one ++ b ∷ []
    → a ≡ text_member (codes "reason") (reason_word reason) → b ≡ number_member (codes "revoked_at") at → Object two ≡ revocation_tree at reason
revocation-made empty one two a b at reason none first second reasoned timed =
    ap Object (second ∙ ap (λ ms. ms ++ b ∷ []) (first ∙ ap (λ ms. ms ++ a ∷ []) none) ∙ ap₂ (λ x y. x ∷ y ∷ []) reasoned timed)
