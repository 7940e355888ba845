-- The keys of a ring are found again in its tree.
use Rattle.std.proofs.Common.{◌≡◌, ◌<◌, ◌≤◌, ◌↔◌, ℕ, pos, List, [], ◌∷◌, ◌++◌, map, codes, cond, Bool, true, false, Option, Some, None, length, refl, sym, ap, ◌∙◌, subst, arith, rules}
use Rattle.std.proofs.lemmas.Bool.{iff_false, lt-ltb}
use Rattle.std.specs.List.{AllByRecursion}
use Rattle.std.specs.Option.{option_and_then}
use Rattle.std.specs.Result.{result_ok}
use Rattle.hex.specs.Hex.{encode_lower, decode_sized, IsBytes}
use Rattle.hex.proofs.HexLemmas.{decode_sized-encode_lower}
use Rattle.fed_base.specs.declared.algorithm.Alg.{Alg}
use Rattle.fed_base.specs.Moments.{moment_limit}
use Rattle.fed_json.specs.declared.tree.Json.{Json, Int, Text, Object, the_lemmas}
use Rattle.fed_json.specs.declared.tree.Member.{Member}
use Rattle.fed_json.specs.Members.{number_member, text_member}
use Rattle.fed_json.specs.Trees.{as_text, count_below, each, if_below}
use Rattle.fed_json.proofs.Accessors.{as_text-Text, as_int-Int, as_list-List, as_object-Object}
use Rattle.jws_form.specs.Header.{algorithm}
use Rattle.jws_form.proofs.Algorithms.{algorithm_of-algorithm}
use Rattle.key_ring.specs.declared.key.KeyState.{KeyState}
use Rattle.key_ring.specs.declared.key.KeyState.TheVariants.{Live, Retired, Revoked}
use Rattle.key_ring.specs.declared.key.RevokeReason.{RevokeReason}
use Rattle.key_ring.specs.declared.key.RevokeReason.TheVariants.{Unspecified, Compromised, Superseded}
use Rattle.key_ring.specs.declared.key.RingKey.{RingKey}
use Rattle.key_ring.specs.declared.version.Version.{Version}
use Rattle.key_ring.specs.declared.version.Version.TheVariants.{First, Second}
use Rattle.key_ring.specs.Files.{IsKeyIn, IsRingTree, IsToldIn, IsTreeIn, alg_members, key_members, key_tree, reason_word, state_tree, tree_of}
use Rattle.key_ring.specs.Readings.{alg_at, key_in, key_of, keys_in, listed_in, reason_in, revocation_in, state_in, version_in}
use Rattle.key_ring.specs.Rings.{HasForm, IsRingKey, IsTimelyState, Ring, has_live, most_keys}

-- a moment is read from its number
counted : (n : ℕ) → n < moment_limit → count_below moment_limit (Int (pos n)) ≡ Some n
counted n small = ap (if_below moment_limit) (as_int-Int (pos n)) ∙ ap (λ b. cond b (Some n) None) (lt-ltb n moment_limit small)

-- and the seeds from their digits
seeded : (seeds : List ℕ) → length seeds ≡ 48 → IsBytes seeds → option_and_then (λ text. result_ok (decode_sized text 48)) (as_text (Text (encode_lower seeds))) ≡ Some seeds
seeded seeds size bytes =
    ap (option_and_then (λ text. result_ok (decode_sized text 48))) (as_text-Text (encode_lower seeds)) ∙ ap result_ok (decode_sized-encode_lower seeds 48 size bytes)

reason-again : (reason : RevokeReason) → reason_in (reason_word reason) ≡ Some reason
reason-again Unspecified = refl
reason-again Compromised = refl
reason-again Superseded = refl

abbrev revocation_members : ℕ → RevokeReason → List Member
revocation_members at reason = text_member (codes "reason") (reason_word reason) ∷ number_member (codes "revoked_at") at ∷ []

revocation-again : (at : ℕ) (reason : RevokeReason) → at < moment_limit → revocation_in (revocation_members at reason) ≡ Some (Revoked at reason)
revocation-again at reason small = rw (counted at small, as_text-Text (reason_word reason), reason-again reason) refl

no-text : (members : List Member) → as_text (Object members) ≡ None
no-text members = search (rules, the_lemmas)

state-again : (state : KeyState) → IsTimelyState state → state_in (state_tree state) ≡ Some state
unfolding state_in
state-again Live timely = rw (as_text-Text (codes "live")) refl
state-again Retired timely = rw (as_text-Text (codes "retired")) refl
state-again (Revoked at reason) timely =
    rw (no-text (revocation_members at reason), as_object-Object (revocation_members at reason)) (revocation-again at reason timely)

-- the algorithm, where the version names it or needs no name
alg-again : (version : Version) (alg : Alg) (rest : List Member) → IsToldIn version alg → alg_at version (alg_members version alg ++ rest) ≡ Some alg
unfolding alg_at
alg-again First alg rest told = ap Some (sym told)
alg-again Second alg rest told = rw (as_text-Text (algorithm alg)) (algorithm_of-algorithm alg)

key-again : (version : Version) (key : RingKey) → IsKeyIn version key → key_in version (key_tree version key) ≡ Some key
unfolding key_in key_of key_tree
key-again First key is =
    let order = is.formed.order in
    let small = is.formed.small in
    rw (
      as_object-Object,
      alg-again First key.alg (key_members key) is.told,
      seeded key.seeds is.formed.size is.formed.octets,
      state-again key.state is.formed.state,
      counted key.iat (omega (arith, order, small)),
      counted key.exp small,
      lt-ltb key.iat key.exp order,
    ) refl
key-again Second key is =
    let order = is.formed.order in
    let small = is.formed.small in
    rw (
      as_object-Object,
      alg-again Second key.alg (key_members key) is.told,
      seeded key.seeds is.formed.size is.formed.octets,
      state-again key.state is.formed.state,
      counted key.iat (omega (arith, order, small)),
      counted key.exp small,
      lt-ltb key.iat key.exp order,
    ) refl

each-again : (version : Version) (ring : Ring) → AllByRecursion (IsKeyIn version) ring → each (key_in version) (map (key_tree version) ring) ≡ Some ring
each-again version [] all = refl
each-again version (key ∷ ring) all = rw (key-again version key all.0, each-again version ring all.1) refl

keys-again : (version : Version) (ring : Ring) → AllByRecursion (IsKeyIn version) ring → keys_in version (tree_of version ring) ≡ Some ring
unfolding keys_in listed_in tree_of
keys-again version ring all = rw (as_object-Object, as_list-List) (each-again version ring all)

version-again : (version : Version) (ring : Ring) → version_in (tree_of version ring) ≡ Some version
unfolding version_in tree_of
version-again First ring = rw (as_object-Object, as_int-Int (pos 1)) refl
version-again Second ring = rw (as_object-Object, as_int-Int (pos 2)) refl

-- a tree of a ring says its version, and has the keys of that ring, and no others
is-version : (version : Version) (tree : Json) (ring : Ring) → IsTreeIn version tree ring → version_in tree ≡ Some version
is-version version tree ring is = ap version_in is.is ∙ version-again version ring

is-found : (version : Version) (tree : Json) (ring : Ring) → IsTreeIn version tree ring → keys_in version tree ≡ Some ring
is-found version tree ring is = ap (keys_in version) is.is ∙ keys-again version ring is.keys

-- ---- which trees and texts are those of a ring

one-version : (a b : Version) → Some a ≡ Some b → a ≡ b
one-version a b e = cc e

some-is : (a b : Ring) → Some a ≡ Some b → a ≡ b
some-is a b e = cc e

pub no-version : (tree : Json) → version_in tree ≡ None → (ring : Ring) → ¬ IsRingTree tree ring
no-version tree none ring (version, is) = let bad : ◌≡◌ {A = Option Version} None (Some version) = sym none ∙ is-version version tree ring is in cc bad

-- the tree is in the version that it says
in-version : (version : Version) (tree : Json) → version_in tree ≡ Some version → (ring : Ring) → IsRingTree tree ring → IsTreeIn version tree ring
in-version version tree says ring (other, is) = subst (λ v. IsTreeIn v tree ring) (one-version other version (sym (is-version other tree ring is) ∙ says)) is

pub no-keys : (version : Version) (tree : Json) → version_in tree ≡ Some version → keys_in version tree ≡ None → (ring : Ring) → ¬ IsRingTree tree ring
no-keys version tree says none ring is =
    let bad : ◌≡◌ {A = Option Ring} None (Some ring) = sym none ∙ is-found version tree ring (in-version version tree says ring is) in cc bad

the-keys : (version : Version) (tree : Json) (keys ring : Ring) → keys_in version tree ≡ Some keys → IsTreeIn version tree ring → ring ≡ keys
the-keys version tree keys ring found is = some-is ring keys (sym (is-found version tree ring is) ∙ found)

pub wrong-size : (version : Version) (tree : Json) (keys slice : Ring) (test : Bool) → version_in tree ≡ Some version → keys_in version tree ≡ Some keys → slice ≡ keys
    → ((test ≡ true) ↔ ((has_live slice ≡ true) × (length slice ≤ most_keys))) → test ≡ false → (ring : Ring) → ¬ IsRingTree tree ring
wrong-size version tree keys slice test said found is says fails ring so =
    let here = in-version version tree said ring so in
    let all = the-keys version tree keys ring found here ∙ sym is in
    iff_false says fails (subst (λ ks. has_live ks ≡ true) all here.form.live, subst (λ ks. length ks ≤ most_keys) all here.form.few)

pub other-tree : (version : Version) (tree written : Json) (keys slice : Ring) (test : Bool) → version_in tree ≡ Some version → keys_in version tree ≡ Some keys → slice ≡ keys
    → written ≡ tree_of version slice → ((test ≡ true) ↔ (tree ≡ written)) → test ≡ false → (ring : Ring) → ¬ IsRingTree tree ring
other-tree version tree written keys slice test said found is made says fails ring so =
    let here = in-version version tree said ring so in
    iff_false says fails (here.is ∙ ap (tree_of version) (the-keys version tree keys ring found here ∙ sym is) ∙ sym made)

-- ---- a tree is that of one ring

formed-of : (version : Version) (keys : Ring) → AllByRecursion (IsKeyIn version) keys → AllByRecursion IsRingKey keys
formed-of version [] all = tt
formed-of version (key ∷ keys) all = (all.0.formed, formed-of version keys all.1)

pub form-of : (version : Version) (keys slice : Ring) (test : Bool) → AllByRecursion (IsKeyIn version) keys → slice ≡ keys
    → ((test ≡ true) ↔ ((has_live slice ≡ true) × (length slice ≤ most_keys))) → test ≡ true → HasForm keys
form-of version keys slice test all is says passes =
    let so = says.0 passes in
    record { keys = formed-of version keys all; live = subst (λ ks. has_live ks ≡ true) is so.0; few = subst (λ ks. length ks ≤ most_keys) is so.1 }

pub that-tree : (version : Version) (tree written : Json) (keys slice : Ring) (test : Bool) → AllByRecursion (IsKeyIn version) keys → HasForm keys → slice ≡ keys → written ≡ tree_of version slice
    → ((test ≡ true) ↔ (tree ≡ written)) → test ≡ true → IsRingTree tree keys
that-tree version tree written keys slice test all form same made says passes =
    (version, record { is = says.0 passes ∙ made ∙ ap (tree_of version) same; keys = all; form = form })

pub one-tree : (tree : Json) (a b : Ring) → IsRingTree tree a → IsRingTree tree b → a ≡ b
one-tree tree a b (version, first) second =
    let other = in-version version tree (is-version version tree a first) b second in
    some-is a b (sym (is-found version tree a first) ∙ is-found version tree b other)

-- no file is one of both versions
pub not-both : (tree : Json) (a b : Ring) → IsTreeIn First tree a → ¬ IsTreeIn Second tree b
not-both tree a b first second = let bad : First ≡ Second = one-version First Second (sym (is-version First tree a first) ∙ is-version Second tree b second) in cc bad
