-- The tests of seals hold exactly where the text is sealed.
use Rattle.std.proofs.Common.{◌≡◌, ℕ, List, length, take, drop, Bool, true, false, nat_eq, bytes_eq, eq-eqb, eqb-true, Option, Some, None, Result, Ok, Err, refl, sym, ◌∙◌, subst, true≢false}
use Rattle.std.specs.List.{All}
use Rattle.std.specs.Option.{option_map_or}
use Rattle.std.specs.Result.{result_ok}
use Rattle.std.proofs.lemmas.List.Sums.{AllPass-from_list_all, list_all-from_AllPass}
use Rattle.std.proofs.lemmas.Slice.Eq.{bytes_eq-Decides}
use Rattle.fed_json.proofs.Booleans.{both_true, left_true, right_true}
use Rattle.jws_form.specs.declared.compact.Compact.{Compact}
use Rattle.jws_form.specs.declared.fault.FormFault.{FormFault}
use Rattle.jws_form.specs.Compact.{IsCompact}
use Rattle.jws_form.specs.Splitting.{splitting}
use Rattle.jws_form.proofs.Laws.{only}
use Rattle.jwk_set.specs.declared.jwk.Jwk.{Jwk}
use Rattle.slh_hash.specs.declared.params.Params.{Params}
use Rattle.slh_dsa.specs.Algorithms.{set_of}
use Rattle.slh_dsa.specs.Verifying.{VerifiesBy, root_from, signature_bytes}
use Rattle.sealed.specs.Seals.{Pair, pair_of, IsSealed, IsUnsealed, IsSealedBy, named_key}
use Rattle.sealed.specs.Deciding.{Splits, verifies_by, has_signature, is_sealed, is_sealed_by, are_sealed}

-- a compact text is taken apart into its parts
pub Splits-from_IsCompact : (text : List ℕ) (compact : Compact) → IsCompact text compact → Splits text
Splits-from_IsCompact text compact is = λ other got. let e = sym (only text compact is) ∙ got in let same : compact ≡ other = cc e in subst (IsCompact text) same is

-- ---- one signature

pub verifies_by-from_VerifiesBy : (p : Params) (public message sig : List ℕ) → VerifiesBy p public message sig → verifies_by p public message sig ≡ true
unfolding verifies_by
verifies_by-from_VerifiesBy p public message sig verifies =
    both_true (eq-eqb (length sig) (signature_bytes p) verifies.size)
    ((bytes_eq-Decides (root_from p (take 16 public) (drop 16 public) message sig) (drop 16 public)).1 verifies.root)

pub VerifiesBy-from_verifies_by : (p : Params) (public message sig : List ℕ) → verifies_by p public message sig ≡ true → VerifiesBy p public message sig
unfolding verifies_by
VerifiesBy-from_verifies_by p public message sig test =
    let root = root_from p (take 16 public) (drop 16 public) message sig in
    record {
      size = eqb-true (length sig) (signature_bytes p) (left_true (nat_eq (length sig) (signature_bytes p)) (bytes_eq root (drop 16 public)) test);
      root = (bytes_eq-Decides root (drop 16 public)).0 (right_true (nat_eq (length sig) (signature_bytes p)) (bytes_eq root (drop 16 public)) test);
    }

-- ---- a text and a key

pub is_sealed-from_IsSealed : (pair : Pair) → IsSealed pair → is_sealed pair ≡ true
unfolding is_sealed
is_sealed-from_IsSealed pair seal = rw (only pair.text seal.compact seal.splits) (verifies_by-from_VerifiesBy (set_of seal.compact.alg) pair.public seal.compact.signed seal.compact.signature seal.verifies)

sealed_by_parts : (pair : Pair) → Splits pair.text → (r : Result Compact FormFault) → splitting pair.text ≡ r
    → option_map_or (λ compact. has_signature compact pair.public) (result_ok r) false ≡ true → IsSealed pair
sealed_by_parts pair splits (Err fault) is test = absurd (true≢false (sym test))
sealed_by_parts pair splits (Ok compact) is test = record {
  compact = compact;
  splits = splits compact is;
  verifies = VerifiesBy-from_verifies_by (set_of compact.alg) pair.public compact.signed compact.signature test;
}

pub IsSealed-from_is_sealed : (pair : Pair) → Splits pair.text → is_sealed pair ≡ true → IsSealed pair
unfolding is_sealed
IsSealed-from_is_sealed pair splits test = sealed_by_parts pair splits (splitting pair.text) refl test

not_true : (b : Bool) → (b ≡ true → ⊥) → b ≡ false
not_true true other = absurd (other refl)
not_true false other = refl

-- a pair that doesn't verify fails the test
pub is_sealed-from_IsUnsealed : (pair : Pair) → IsUnsealed pair → is_sealed pair ≡ false
unfolding is_sealed
is_sealed-from_IsUnsealed pair miss =
    rw (only pair.text miss.compact miss.splits)
    (not_true (has_signature miss.compact pair.public) (λ test. miss.fails (VerifiesBy-from_verifies_by (set_of miss.compact.alg) pair.public miss.compact.signed miss.compact.signature test)))

-- ---- a text and a set

pub is_sealed_by-from_IsSealedBy : (text : List ℕ) (keys : List Jwk) → IsSealedBy text keys → is_sealed_by text keys ≡ true
unfolding is_sealed_by
is_sealed_by-from_IsSealedBy text keys seal =
    rw (only text seal.compact seal.splits, seal.named) (verifies_by-from_VerifiesBy (set_of seal.compact.alg) seal.public seal.compact.signed seal.compact.signature seal.verifies)

named_by_key : (text : List ℕ) (keys : List Jwk) (compact : Compact) → IsCompact text compact → (o : Option (List ℕ)) → named_key compact keys ≡ o
    → option_map_or (has_signature compact) o false ≡ true → IsSealedBy text keys
named_by_key text keys compact splits None named test = absurd (true≢false (sym test))
named_by_key text keys compact splits (Some public) named test = record {
  compact = compact;
  splits = splits;
  public = public;
  named = named;
  verifies = VerifiesBy-from_verifies_by (set_of compact.alg) public compact.signed compact.signature test;
}

named_by_parts : (text : List ℕ) (keys : List Jwk) → Splits text → (r : Result Compact FormFault) → splitting text ≡ r
    → option_map_or (λ compact. option_map_or (has_signature compact) (named_key compact keys) false) (result_ok r) false ≡ true → IsSealedBy text keys
named_by_parts text keys splits (Err fault) is test = absurd (true≢false (sym test))
named_by_parts text keys splits (Ok compact) is test = named_by_key text keys compact (splits compact is) (named_key compact keys) refl test

pub IsSealedBy-from_is_sealed_by : (text : List ℕ) (keys : List Jwk) → Splits text → is_sealed_by text keys ≡ true → IsSealedBy text keys
unfolding is_sealed_by
IsSealedBy-from_is_sealed_by text keys splits test = named_by_parts text keys splits (splitting text) refl test

-- ---- a text and several keys

-- the test of a text under one of the keys
abbrev under : List ℕ → List ℕ → Bool
under text public = is_sealed (pair_of text public)

pub are_sealed-from_All : (text : List ℕ) (keys : List (List ℕ)) → All (λ public. IsSealed (pair_of text public)) keys → are_sealed text keys ≡ true
are_sealed-from_All text keys seals = list_all-from_AllPass (under text) keys (λ k d within. is_sealed-from_IsSealed _ (seals k d within))

pub All-from_are_sealed : (text : List ℕ) (keys : List (List ℕ)) → Splits text → are_sealed text keys ≡ true → All (λ public. IsSealed (pair_of text public)) keys
All-from_are_sealed text keys splits test = λ k d within. IsSealed-from_is_sealed _ splits (AllPass-from_list_all (under text) keys test k d within)
