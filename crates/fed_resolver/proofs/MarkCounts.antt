-- What the good marks of a leaf and their tests have to do with the keys of their issuers.
use Rattle.std.proofs.Common.{◌≡◌, ◌≤◌, ◌+◌, ◌*◌, ℕ, List, [], ◌∷◌, length, map, take, Bool, true, false, Option, Some, None, refl, sym, ap, ap₂, ◌∙◌, inl, inr, arith}
use Rattle.std.specs.Prelude.{if◌then◌else◌, is_some, option_and_then}
use Rattle.std.specs.Option.{option_map_or}
use Rattle.std.proofs.lemmas.List.{length-take}
use Rattle.std.proofs.lemmas.List.Sums.{sum_by-cons}
use Rattle.jwk_set.specs.declared.jwk.Jwk.{Jwk}
use Rattle.entity_statement.specs.Claims.{Claims, Identifier, OwnerClaims}
use Rattle.entity_statement.specs.declared.marks.MarkEntry.{MarkEntry}
use Rattle.sealed.specs.Deciding.{is_sealed_by}
use Rattle.sealed.specs.Tests.{key_in, tests_under}
use Rattle.trust_mark.specs.Conditions.{claims_reason, is_for}
use Rattle.trust_mark.specs.Counts.{delegation_tests, mark_tests, tests_from_signature}
use Rattle.trust_mark.specs.Marks.{Case, delegation_of, mark_of, owner_of}
use Rattle.trust_mark.specs.declared.mark.Mark.{Mark}
use Rattle.resolve_reply.specs.declared.marks.GoodMarks.{GoodMarks}
use Rattle.resolve_reply.specs.Marks.{AreGood, AreThose, IsReturned, IssuerKeys, IssuerTexts, Judging, case_by, config_of, looked_at, tests_by, tests_for, tests_of_marks}

module _ {X Y : Type 0} (P Q : X → Y → Type 0) (there : (x : X) (y : Y) → P x y → Q x y) (back : (x : X) (y : Y) → Q x y → P x y) where
  those-along : (xs : List X) (those : List (X × Y)) → AreThose P xs those → AreThose Q xs those
  those-along [] those none = none
  those-along (x ∷ xs) those (inl (y, rest, is, here, later)) = inl (y, rest, is, there x y here, those-along xs rest later)
  those-along (x ∷ xs) those (inr (fails, later)) = inr (λ y q. fails y (back x y q), those-along xs those later)

-- two ways to tell the keys of issuers that say the same
module _ (leaf : Identifier) (anchor : Claims) (t : ℕ) (one two : IssuerKeys) (same : (issuer : Identifier) → one issuer ≡ two issuer) where
  abbrev by : IssuerKeys → Judging
  by keys = record { leaf = leaf; anchor = anchor; keys = keys; moment = t }

  returned-along : (entry : MarkEntry) (mark : Mark) → IsReturned (by one) entry mark → IsReturned (by two) entry mark
  returned-along entry mark returned = record { keys = returned.keys; found = sym (same mark.iss) ∙ returned.found; good = returned.good }

  returned-back : (entry : MarkEntry) (mark : Mark) → IsReturned (by two) entry mark → IsReturned (by one) entry mark
  returned-back entry mark returned = record { keys = returned.keys; found = same mark.iss ∙ returned.found; good = returned.good }

  pub good-along : (entries : List MarkEntry) (exp : ℕ) (good : GoodMarks) → AreGood (by one) entries exp good → AreGood (by two) entries exp good
  good-along entries exp good are = record {
    marks = are.marks;
    those = those-along (IsReturned (by one)) (IsReturned (by two)) returned-along returned-back entries are.marks are.those;
    entries_are = are.entries_are;
    exp_is = are.exp_is;
  }

  tests-of : (entry : MarkEntry) (o : Option Mark) → option_map_or (tests_by (by one) entry) o 0 ≡ option_map_or (tests_by (by two) entry) o 0
  tests-of entry None = refl
  tests-of entry (Some mark) = ap (λ keys. option_map_or (λ ks. mark_tests (case_by (by one) entry ks)) keys 0) (same mark.iss)

  one-tests : (entry : MarkEntry) → tests_for (by one) entry ≡ tests_for (by two) entry
  unfolding tests_for
  one-tests entry = tests-of entry (mark_of entry.text)

  pub tests-along : (entries : List MarkEntry) → tests_of_marks (by one) entries ≡ tests_of_marks (by two) entries
  tests-along [] = refl
  tests-along (entry ∷ entries) =
      sum_by-cons (tests_for (by one)) entry entries ∙ ap₂ (λ a b. a + b) (one-tests entry) (tests-along entries) ∙ sym (sum_by-cons (tests_for (by two)) entry entries)

-- two ways to tell the configurations of issuers that say the same
module _ (one two : IssuerTexts) (same : (issuer : Identifier) → one issuer ≡ two issuer) where
  config-at : (o : Option Mark) → option_and_then (λ (mark : Mark). one mark.iss) o ≡ option_and_then (λ (mark : Mark). two mark.iss) o
  config-at None = refl
  config-at (Some mark) = same mark.iss

  one-config : (entry : MarkEntry) → config_of one entry ≡ config_of two entry
  unfolding config_of
  one-config entry = config-at (mark_of entry.text)

  pub configs-along : (entries : List MarkEntry) → map (config_of one) entries ≡ map (config_of two) entries
  configs-along [] = refl
  configs-along (entry ∷ entries) = ap₂ (λ o os. o ∷ os) (one-config entry) (configs-along entries)

-- ---- a mark costs two tests at most

module _ (here : Judging) where
  -- what stands in an entry's text costs none, one or two
  if-less : (b : Bool) (x y n : ℕ) → x ≤ n → y ≤ n → (if b then x else y) ≤ n
  if-less true x y n one two = one
  if-less false x y n one two = two

  under-one : (keys : List Jwk) (text : List ℕ) → tests_under keys text ≤ 1
  unfolding tests_under
  under-one keys text = if-less (is_some (key_in keys text)) 1 0 1 (omega arith) (omega arith)

  map-less : {X : Type 0} (f : X → ℕ) (o : Option X) (n : ℕ) → ((x : X) → f x ≤ n) → option_map_or f o 0 ≤ n
  map-less f None n each = omega arith
  map-less f (Some x) n each = each x

  delegation-one : (mark : Mark) (t : ℕ) (owner : OwnerClaims) → delegation_tests mark t owner ≤ 1
  unfolding delegation_tests
  delegation-one mark t owner =
      map-less (λ text. option_map_or (λ d. if is_for mark t owner d then tests_under owner.keys text else 0) (delegation_of text) 0) mark.delegation 1
      (λ text. map-less (λ d. if is_for mark t owner d then tests_under owner.keys text else 0) (delegation_of text) 1
      (λ d. if-less (is_for mark t owner d) (tests_under owner.keys text) 0 1 (under-one owner.keys text) (omega arith)))

  signature-two : (case : Case) (mark : Mark) → tests_from_signature case mark ≤ 2
  unfolding tests_from_signature
  signature-two case mark =
      let own = under-one case.keys case.entry.text in
      let leave = if-less (is_sealed_by case.entry.text case.keys) (option_map_or (delegation_tests mark case.moment) (owner_of case.anchor mark.mark_type) 0) 0 1
      (map-less (delegation_tests mark case.moment) (owner_of case.anchor mark.mark_type) 1 (delegation-one mark case.moment)) (omega arith) in
      omega (arith, own, leave)

  case-two : (case : Case) → mark_tests case ≤ 2
  unfolding mark_tests
  case-two case =
      map-less (λ mark. if is_some (claims_reason case mark) then 0 else tests_from_signature case mark) (mark_of case.entry.text) 2
      (λ mark. if-less (is_some (claims_reason case mark)) 0 (tests_from_signature case mark) 2 (omega arith) (signature-two case mark))

  entry-two : (entry : MarkEntry) → tests_for here entry ≤ 2
  unfolding tests_for
  entry-two entry =
      map-less (tests_by here entry) (mark_of entry.text) 2 (λ mark. map-less (λ keys. mark_tests (case_by here entry keys)) (here.keys mark.iss) 2 (λ keys. case-two (case_by here entry keys)))

  few-tests : (entries : List MarkEntry) → tests_of_marks here entries ≤ 2 * length entries
  few-tests [] = omega arith
  few-tests (entry ∷ entries) =
      let more = sum_by-cons (tests_for here) entry entries in
      let one = entry-two entry in
      let rest = few-tests entries in
      omega (arith, more, one, rest)

  -- those of a leaf cost 32 at most
  pub leaf-tests : (marks : List MarkEntry) → tests_of_marks here (looked_at marks) ≤ 32
  unfolding looked_at
  leaf-tests marks =
      let few = few-tests (take 16 marks) in
      let size = length-take 16 marks in
      omega (arith, few, size)
