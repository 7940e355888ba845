-- Marks that are looked at one after the other.
use Rattle.std.proofs.Common.{◌≡◌, ◌<◌, ◌≤◌, ◌+◌, ℕ, zero, suc, List, [], ◌∷◌, ◌++◌, length, take, drop, map, get_or, Bool, true, false, cond, Option, Some, None, inl, inr, refl, sym, ap, ap₂, ◌∙◌, subst, arith, add-one, true≢false}
use Rattle.std.specs.Prelude.{IfSome, IsSome, sum_by, option_and_then}
use Rattle.std.specs.List.{list_all}
use Rattle.std.specs.Option.{option_map_or}
use Rattle.std.proofs.Math.Seq.{take-suc}
use Rattle.std.proofs.lemmas.List.{get_or-take, length-map, length-take, map-append, take-append-drop}
use Rattle.std.proofs.lemmas.List.Sums.{fold-append, sum_by-append}
use Rattle.fed_json.proofs.Booleans.{both_true, left_true, right_true}
use Rattle.jwk_set.specs.declared.jwk.Jwk.{Jwk}
use Rattle.entity_statement.specs.Claims.{Claims, Identifier, mark_utf8}
use Rattle.entity_statement.specs.declared.marks.MarkEntry.{MarkEntry}
use Rattle.trust_mark.specs.Conditions.{admits, claims_reason}
use Rattle.trust_mark.specs.Counts.{mark_tests}
use Rattle.trust_mark.specs.Marks.{Admits, MarkOk, issuers_of, mark_of}
use Rattle.trust_mark.specs.declared.mark.Mark.{Mark}
use Rattle.trust_mark.specs.declared.verdict.MarkReason.TheVariants.{Kind, Unlisted, Issuer}
use Rattle.trust_mark.specs.declared.verdict.MarkVerdict.{MarkVerdict}
use Rattle.trust_mark.specs.declared.verdict.MarkVerdict.TheVariants.{Good, Bad}
use Rattle.trust_mark.proofs.ConditionLaws.{issuer-exactly, same-exactly}
use Rattle.trust_mark.proofs.CountLaws.{counted-plus, refused-tests}
use Rattle.trust_mark.proofs.VerdictLaws.{claims-pass}
use Rattle.resolve_reply.specs.declared.issuers.Issuer.{Issuer as FoundIssuer}
use Rattle.resolve_reply.specs.declared.marks.GoodMarks.{GoodMarks}
use Rattle.resolve_reply.specs.Looking.{AddsConfig, Decides, IsLookedAt, Takes, TakesBy, tests_with}
use Rattle.resolve_reply.specs.Marks.{AreConfigs, AreGood, AreThose, IsReturned, IssuerTexts, Judging, case_by, config_of, is_searched, issuer_of_mark, issuers_by_mark, looked_at, searched_for, tests_by, tests_for, tests_of_marks, text_of}
use Rattle.resolve_reply.specs.Replies.{least_end, least_with}
use Rattle.fed_base.specs.Counts.{CountsAtMost, counted}

-- ---- lists with one more element

module _ {X Y : Type 0} (P : X → Y → Type 0) where
  pub those-more : (xs : List X) (those : List (X × Y)) (x : X) (y : Y) → AreThose P xs those → P x y → AreThose P (xs ++ x ∷ []) (those ++ (x, y) ∷ [])
  those-more [] those x y none holds = inl (y, [], ap (λ ts. ts ++ (x, y) ∷ []) none, holds, refl)
  those-more (z ∷ xs) those x y (inl (w, rest, is, here, later)) holds =
      inl (w, rest ++ (x, y) ∷ [], ap (λ ts. ts ++ (x, y) ∷ []) is, here, those-more xs rest x y later holds)
  those-more (z ∷ xs) those x y (inr (fails, later)) holds = inr (fails, those-more xs those x y later holds)

  pub those-less : (xs : List X) (those : List (X × Y)) (x : X) → AreThose P xs those → ((y : Y) → ¬ P x y) → AreThose P (xs ++ x ∷ []) those
  those-less [] those x none fails = inr (fails, none)
  those-less (z ∷ xs) those x (inl (w, rest, is, here, later)) fails = inl (w, rest, is, here, those-less xs rest x later fails)
  those-less (z ∷ xs) those x (inr (others, later)) fails = inr (others, those-less xs those x later fails)

-- ---- what is searched for an entry

by_option : {X : Type 0} {P : Type 0} (o : Option X) → (o ≡ None → P) → ((x : X) → o ≡ Some x → P) → P
by_option None none some = none refl
by_option (Some x) none some = some x refl

by_test : {P : Type 0} (b : Bool) → (b ≡ true → P) → (b ≡ false → P) → P
by_test true passes fails = passes refl
by_test false passes fails = fails refl

module _ (here : Judging) (entry : MarkEntry) where
  -- the test on a mark
  abbrev searched : Mark → Bool
  searched mark = is_searched here.anchor entry mark

  abbrev found : Option (List Jwk)
  found = option_and_then here.keys (searched_for here.anchor entry)

  searched-is : (mark : Mark) (b : Bool) → mark_of entry.text ≡ Some mark → searched mark ≡ b → searched_for here.anchor entry ≡ cond b (Some mark.iss) None
  unfolding searched_for
  searched-is mark b reads is = rw (reads, is) refl

  unread : mark_of entry.text ≡ None → searched_for here.anchor entry ≡ None
  unfolding searched_for
  unread none = rw none refl

  found-by : (mark : Mark) → mark_of entry.text ≡ Some mark → searched mark ≡ true → found ≡ here.keys mark.iss
  found-by mark reads is = ap (option_and_then here.keys) (searched-is mark true reads is)

  -- the anchor admits a mark that meets the conditions on its type and its issuer
  admitted : (mark : Mark) → mark.mark_type ≡ entry.mark_type → IsSome (issuers_of here.anchor mark.mark_type) → IfSome (issuers_of here.anchor mark.mark_type) (λ who. Admits who mark.iss) → searched mark ≡ true
  admitted mark kind listed admits_it = both_true ((same-exactly mark.mark_type entry.mark_type).1 kind) (admitted_by (issuers_of here.anchor mark.mark_type) listed admits_it)
    where
      admitted_by : (who : Option (List (List ℕ))) → IsSome who → IfSome who (λ ws. Admits ws mark.iss) → option_map_or (λ ws. admits ws mark.iss) who false ≡ true
      admitted_by None listed may = absurd (true≢false (sym listed))
      admitted_by (Some ws) listed may = (issuer-exactly (Some ws) mark.iss).1 may

  -- ---- keys were found

  pub record Present (keys : List Jwk) : Type 0 where
    pub mark : Mark
    pub reads : mark_of entry.text ≡ Some mark
    pub keys_are : here.keys mark.iss ≡ Some keys

  pub present : (keys : List Jwk) → found ≡ Some keys → Present keys
  present keys is = by_option (mark_of entry.text)
      (λ none. let bad : None ≡ Some keys = sym (ap (option_and_then here.keys) (unread none)) ∙ is in absurd (cc bad))
      (λ mark reads. by_test (searched mark)
      (λ so. record { mark = mark; reads = reads; keys_are = sym (found-by mark reads so) ∙ is })
      (λ not_so. let bad : None ≡ Some keys = sym (ap (option_and_then here.keys) (searched-is mark false reads not_so)) ∙ is in absurd (cc bad)))

  module _ (keys : List Jwk) (there : Present keys) where
    pub present-tests : tests_for here entry ≡ mark_tests (case_by here entry keys)
    unfolding tests_for
    present-tests = rw (there.reads, there.keys_are) refl

    -- a good mark is the one that the text reads as
    pub present-returned : (mark : Mark) → MarkOk (case_by here entry keys) mark → IsReturned here entry mark
    present-returned mark ok =
        let both : Some there.mark ≡ Some mark = sym there.reads ∙ ok.form in
        let same : there.mark ≡ mark = cc both in
        record { keys = keys; found = subst (λ (m : Mark). here.keys m.iss ≡ Some keys) same there.keys_are; good = ok }

    pub present-good : (mark : Mark) → IsReturned here entry mark → MarkOk (case_by here entry keys) mark
    present-good mark returned =
        let both : Some there.mark ≡ Some mark = sym there.reads ∙ returned.good.form in
        let same : there.mark ≡ mark = cc both in
        let found_keys : Some keys ≡ Some returned.keys = sym there.keys_are ∙ ap (λ (m : Mark). here.keys m.iss) same ∙ returned.found in
        let keys_same : returned.keys ≡ keys = cc found_keys in
        subst (λ ks. MarkOk (case_by here entry ks) mark) keys_same returned.good

  -- ---- no keys were found

  module _ (none : found ≡ None) where
    pub absent-returned : (mark : Mark) → ¬ IsReturned here entry mark
    absent-returned mark returned =
        let so = admitted mark returned.good.kind returned.good.listed returned.good.issuer in
        let bad : Some returned.keys ≡ None = sym returned.found ∙ sym (found-by mark returned.good.form so) ∙ none in
        cc bad

    absent-mark : (mark : Mark) → mark_of entry.text ≡ Some mark → tests_by here entry mark ≡ 0
    absent-mark mark reads = by_option (here.keys mark.iss)
        (λ missing. rw missing refl)
        (λ keys there. rw there (by_option (claims_reason (case_by here entry keys) mark)
        (λ pass. let met = claims-pass (case_by here entry keys) mark reads pass in
        let so = admitted mark (met Kind (omega arith)) (met Unlisted (omega arith)) (met Issuer (omega arith)) in
        let bad : Some keys ≡ None = sym there ∙ sym (found-by mark reads so) ∙ none in absurd (cc bad))
        (λ reason first. refused-tests (case_by here entry keys) mark reads reason first)))

    pub absent-tests : tests_for here entry ≡ 0
    unfolding tests_for
    absent-tests = by_option (mark_of entry.text)
        (λ missing. rw missing refl)
        (λ mark reads. rw reads (absent-mark mark reads))

  -- ---- both

  pub looked-tests : (keys : Option (List Jwk)) → keys ≡ found → tests_for here entry ≡ tests_with (case_by here entry) keys
  looked-tests None is = absent-tests (sym is)
  looked-tests (Some keys) is = present-tests keys (present keys (sym is))

  module _ (entries : List MarkEntry) (exp : ℕ) (old new : GoodMarks) (all : AreGood here entries exp old) where
    left : ((mark : Mark) → ¬ IsReturned here entry mark) → new ≡ old → AreGood here (entries ++ entry ∷ []) exp new
    left fails same = subst (AreGood here (entries ++ entry ∷ []) exp) (sym same) (record {
      marks = all.marks;
      those = those-less (IsReturned here) entries all.marks entry all.those fails;
      entries_are = all.entries_are;
      exp_is = all.exp_is;
    })

    taken : (mark : Mark) → IsReturned here entry mark → Takes entry mark.exp old new → AreGood here (entries ++ entry ∷ []) exp new
    taken mark returned takes = record {
      marks = all.marks ++ (entry, mark) ∷ [];
      those = those-more (IsReturned here) entries all.marks entry mark all.those returned;
      entries_are = takes.0 ∙ ap (λ es. es ++ entry ∷ []) all.entries_are ∙ sym (map-append (λ (m : MarkEntry × Mark). m.0) all.marks ((entry, mark) ∷ []));
      exp_is = takes.1 ∙ ap (λ e. least_end e mark.exp) all.exp_is
          ∙ sym (ap (least_with exp) (map-append (λ (m : MarkEntry × Mark). m.1) all.marks ((entry, mark) ∷ [])) ∙ fold-append (λ least (m : Mark). least_end least m.exp) exp (map (λ (m : MarkEntry × Mark). m.1) all.marks) (mark ∷ []));
    }

    decided : (keys : List Jwk) → Present keys → (verdict : MarkVerdict) → Decides (case_by here entry keys) verdict → TakesBy entry verdict old new → AreGood here (entries ++ entry ∷ []) exp new
    decided keys there (Good end) decides takes =
        let good = decides.verdict_is in
        taken good.0 (present-returned keys there good.0 good.1) (subst (λ e. Takes entry e old new) good.2 takes)
    decided keys there (Bad reason) decides takes = left (λ mark returned. true≢false (sym (decides.only.1 (mark, present-good keys there mark returned)))) takes

    pub looked-good : (keys : Option (List Jwk)) → keys ≡ found → IsLookedAt (case_by here entry) keys old new → AreGood here (entries ++ entry ∷ []) exp new
    looked-good None is looked = left (absent-returned (sym is)) looked
    looked-good (Some keys) is looked = decided keys (present keys (sym is)) looked.0 looked.1 looked.2

-- ---- counts

module _ (here : Judging) (entries : List MarkEntry) where
  pub tests-more : (i : ℕ) (d : MarkEntry) → i < length entries → tests_of_marks here (take (i + 1) entries) ≡ tests_of_marks here (take i entries) + tests_for here (get_or entries i d)
  tests-more i d less =
      let more : take (i + 1) entries ≡ take i entries ++ get_or entries i d ∷ [] = ap (λ n. take n entries) (add-one i) ∙ take-suc entries i d less in
      let one : sum_by (tests_for here) (get_or entries i d ∷ []) ≡ tests_for here (get_or entries i d) = omega arith in
      ap (tests_of_marks here) more ∙ sum_by-append (tests_for here) (take i entries) (get_or entries i d ∷ []) ∙ ap (λ n. sum_by (tests_for here) (take i entries) + n) one

  pub tests-within : (i : ℕ) → tests_of_marks here (take i entries) ≤ tests_of_marks here entries
  tests-within i =
      let split = ap (tests_of_marks here) (take-append-drop i entries) in
      let sums = sum_by-append (tests_for here) (take i entries) (drop i entries) in
      omega (arith, split, sums)

pub counted-more : (done tests before mid now all : ℕ) → mid ≡ counted done before → now ≡ counted tests mid → all ≡ done + tests → now ≡ counted all before
counted-more done tests before mid now all first second sum = second ∙ ap (counted tests) first ∙ counted-plus tests done before ∙ ap (λ n. counted n before) (sym sum)

pub at_most-more : (done tests before mid now all : ℕ) → mid ≡ counted done before → CountsAtMost tests mid now → done + tests ≤ all → CountsAtMost all before now
at_most-more done tests before mid now all first most few = record {
  steps = done + most.steps;
  within = let within = most.within in omega (arith, within);
  counts = most.counts ∙ ap (counted most.steps) first ∙ counted-plus most.steps done before;
}

-- ---- at a place of the marks

-- what stands at a place of the marks that are looked at
pub record IsAt (marks : List MarkEntry) (anchor : Claims) (i : ℕ) (entry : MarkEntry) (issuer : Option Identifier) : Type 0 where
  pub less : i < length (looked_at marks)
  pub entry_is : get_or (looked_at marks) i entry ≡ entry
  pub issuer_is : issuer ≡ searched_for anchor entry

map-at : {X Y : Type 0} (f : X → Y) (xs : List X) (i : ℕ) (y : Y) (x : X) → i < length xs → get_or (map f xs) i y ≡ f (get_or xs i x)
map-at f [] i y x less = absurd (omega (arith, less))
map-at f (z ∷ xs) zero y x less = refl
map-at f (z ∷ xs) (suc i) y x less = map-at f xs i y x (omega (arith, less))

looked-short : (marks : List MarkEntry) (i : ℕ) → i < length (looked_at marks) → i < 16
unfolding looked_at
looked-short marks i less = let size = length-take 16 marks in omega (arith, size, less)

looked-at : (marks : List MarkEntry) (i : ℕ) (d : MarkEntry) → i < 16 → get_or (looked_at marks) i d ≡ get_or marks i d
unfolding looked_at
looked-at marks i d less = get_or-take 16 marks i d less

pub at-place : (marks : List MarkEntry) (anchor : Claims) (by_mark : List (Option Identifier)) (i : ℕ) (entry : MarkEntry) (issuer : Option Identifier) → by_mark ≡ issuers_by_mark marks anchor → i < length by_mark
    → entry ≡ get_or marks i entry → issuer ≡ get_or by_mark i issuer → IsAt marks anchor i entry issuer
at-place marks anchor by_mark i entry issuer by less here there =
    let size : length by_mark ≡ length (looked_at marks) = ap length by ∙ length-map (looked_at marks) (searched_for anchor) in
    let short : i < length (looked_at marks) = omega (arith, less, size) in
    let same : get_or (looked_at marks) i entry ≡ entry = looked-at marks i entry (looked-short marks i short) ∙ sym here in
    record {
      less = short;
      entry_is = same;
      issuer_is = there ∙ ap (λ l. get_or l i issuer) by ∙ map-at (searched_for anchor) (looked_at marks) i issuer entry short ∙ ap (searched_for anchor) same;
    }

module _ (here : Judging) (marks : List MarkEntry) (i : ℕ) (entry : MarkEntry) (issuer : Option Identifier) (at : IsAt marks here.anchor i entry issuer) (keys : Option (List Jwk)) (is : keys ≡ option_and_then here.keys issuer) where
  known : keys ≡ option_and_then here.keys (searched_for here.anchor entry)
  known = is ∙ ap (option_and_then here.keys) at.issuer_is

  more : take (i + 1) (looked_at marks) ≡ take i (looked_at marks) ++ entry ∷ []
  more = ap (λ n. take n (looked_at marks)) (add-one i) ∙ take-suc (looked_at marks) i entry at.less ∙ ap (λ e. take i (looked_at marks) ++ e ∷ []) at.entry_is

  more-tests : tests_of_marks here (take (i + 1) (looked_at marks)) ≡ tests_of_marks here (take i (looked_at marks)) + tests_with (case_by here entry) keys
  more-tests =
      tests-more here (looked_at marks) i entry at.less
      ∙ ap (λ e. tests_of_marks here (take i (looked_at marks)) + tests_for here e) at.entry_is
      ∙ ap (λ n. tests_of_marks here (take i (looked_at marks)) + n) (looked-tests here entry keys known)

  pub step-good : (exp : ℕ) (old new : GoodMarks) → AreGood here (take i (looked_at marks)) exp old → IsLookedAt (case_by here entry) keys old new → AreGood here (take (i + 1) (looked_at marks)) exp new
  step-good exp old new all looked = subst (λ es. AreGood here es exp new) (sym more) (looked-good here entry (take i (looked_at marks)) exp old new all keys known looked)

  pub step-counted : (before mid now : ℕ) → mid ≡ counted (tests_of_marks here (take i (looked_at marks))) before → now ≡ counted (tests_with (case_by here entry) keys) mid
      → now ≡ counted (tests_of_marks here (take (i + 1) (looked_at marks))) before
  step-counted before mid now first second = counted-more (tests_of_marks here (take i (looked_at marks))) (tests_with (case_by here entry) keys) before mid now _ first second more-tests

  pub step-at_most : (before mid now : ℕ) → mid ≡ counted (tests_of_marks here (take i (looked_at marks))) before → CountsAtMost (tests_with (case_by here entry) keys) mid now
      → CountsAtMost (tests_of_marks here (looked_at marks)) before now
  step-at_most before mid now first most =
      let sum = more-tests in
      let within = tests-within here (looked_at marks) (i + 1) in
      at_most-more (tests_of_marks here (take i (looked_at marks))) (tests_with (case_by here entry) keys) before mid now (tests_of_marks here (looked_at marks)) first most (omega (arith, sum, within))

-- ---- configurations

config-kept : (texts : IssuerTexts) (mark : Mark) (b : Bool) (config : List ℕ) → option_and_then texts (cond b (Some mark.iss) None) ≡ Some config → texts mark.iss ≡ Some config
config-kept texts mark true config is = is
config-kept texts mark false config is = let bad : None ≡ Some config = is in cc bad

config-read : (anchor : Claims) (entry : MarkEntry) (texts : IssuerTexts) (config : List ℕ) (o : Option Mark) → option_and_then texts (option_and_then (issuer_of_mark anchor entry) o) ≡ Some config
    → option_and_then (λ (mark : Mark). texts mark.iss) o ≡ Some config
config-read anchor entry texts config None is = is
config-read anchor entry texts config (Some mark) is = config-kept texts mark (is_searched anchor entry mark) config is

-- what is kept of the issuer that is searched for a mark is that of the mark's issuer
config-found : (anchor : Claims) (entry : MarkEntry) (texts : IssuerTexts) (config : List ℕ) → option_and_then texts (searched_for anchor entry) ≡ Some config → config_of texts entry ≡ Some config
unfolding searched_for config_of
config-found anchor entry texts config is = config-read anchor entry texts config (mark_of entry.text) is

pub config-step : (marks : List MarkEntry) (anchor : Claims) (i : ℕ) (entry : MarkEntry) (issuer : Option Identifier) → IsAt marks anchor i entry issuer → (found : List FoundIssuer) (text : Option (List ℕ))
    → text ≡ option_and_then (text_of found) issuer → (old new : GoodMarks) → AreConfigs (text_of found) old.entries old.configs → AddsConfig entry text old new → AreConfigs (text_of found) new.entries new.configs
config-step marks anchor i entry issuer at found text is old new are (inl same) = ap (map Some) same.1 ∙ are ∙ sym (ap (map (config_of (text_of found))) same.0)
config-step marks anchor i entry issuer at found text is old new are (inr (config, there, entries, configs)) =
    let known : config_of (text_of found) entry ≡ Some config = config-found anchor entry (text_of found) config (sym (is ∙ ap (option_and_then (text_of found)) at.issuer_is) ∙ there) in
    ap (map Some) configs ∙ map-append Some old.configs (config ∷ []) ∙ ap₂ (λ xs o. xs ++ o ∷ []) are (sym known)
    ∙ sym (ap (map (config_of (text_of found))) entries ∙ map-append (config_of (text_of found)) old.entries (entry ∷ []))

-- each place of the issuers is one of the marks
pub place-within : (marks : List MarkEntry) (anchor : Claims) (by_mark : List (Option Identifier)) (i : ℕ) → by_mark ≡ issuers_by_mark marks anchor → i < length by_mark → i < length marks
unfolding looked_at
place-within marks anchor by_mark i by less =
    let size : length by_mark ≡ length (take 16 marks) = ap length by ∙ length-map (take 16 marks) (searched_for anchor) in
    let short = length-take 16 marks in
    omega (arith, less, size, short)

-- ---- texts of marks

module _ {X Y : Type 0} (P : X → Y → Type 0) (u : X → Bool) where
  those-all : (xs : List X) (those : List (X × Y)) → AreThose P xs those → list_all u xs ≡ true → list_all u (map (λ (m : X × Y). m.0) those) ≡ true
  those-all [] those none all = ap (λ (ts : List (X × Y)). list_all u (map (λ (m : X × Y). m.0) ts)) none
  those-all (x ∷ xs) those (inl (y, rest, is, here, later)) all =
      ap (λ (ts : List (X × Y)). list_all u (map (λ (m : X × Y). m.0) ts)) is ∙ both_true (left_true (u x) _ all) (those-all xs rest later (right_true (u x) _ all))
  those-all (x ∷ xs) those (inr (fails, later)) all = those-all xs those later (right_true (u x) _ all)

all-take : {X : Type 0} (u : X → Bool) (n : ℕ) (xs : List X) → list_all u xs ≡ true → list_all u (take n xs) ≡ true
all-take u zero xs all = refl
all-take u (suc n) [] all = refl
all-take u (suc n) (x ∷ xs) all = both_true (left_true (u x) _ all) (all-take u n xs (right_true (u x) _ all))

-- the entries of good marks are UTF-8 where the leaf's are
pub good-utf8 : (here : Judging) (marks : List MarkEntry) (n exp : ℕ) (good : GoodMarks) → list_all mark_utf8 marks ≡ true → AreGood here (take n (looked_at marks)) exp good → list_all mark_utf8 good.entries ≡ true
unfolding looked_at
good-utf8 here marks n exp good all are =
    ap (list_all mark_utf8) are.entries_are
    ∙ those-all (IsReturned here) mark_utf8 (take n (take 16 marks)) are.marks are.those (all-take mark_utf8 n (take 16 marks) (all-take mark_utf8 16 marks all))
