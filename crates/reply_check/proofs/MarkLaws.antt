-- Of a reply's marks there is one first that doesn't stand, or all stand.
use Rattle.std.proofs.Common.{◌≡◌, ◌<◌, ◌⊎◌, inl, inr, ℕ, List, map, Bool, true, false, Option, Some, None, refl, sym, ap, ap₂, ◌∙◌, subst}
use Rattle.std.specs.Prelude.{slice_get}
use Rattle.std.proofs.lemmas.Bool.{cases_order}
use Rattle.std.proofs.lemmas.Option.{slice_get_within}
use Rattle.entity_statement.specs.Claims.{Claims}
use Rattle.entity_statement.specs.declared.marks.MarkEntry.{MarkEntry}
use Rattle.trust_mark.proofs.Laws.{one_verdict}
use Rattle.trust_mark.specs.Marks.{IsGood}
use Rattle.trust_mark.specs.Verdicts.{IsVerdictOn}
use Rattle.trust_mark.specs.declared.verdict.MarkReason.{MarkReason}
use Rattle.trust_mark.specs.declared.verdict.MarkReason.TheVariants as reason
use Rattle.trust_mark.specs.declared.verdict.MarkVerdict.{MarkVerdict}
use Rattle.trust_mark.specs.declared.verdict.MarkVerdict.TheVariants.{Good, Bad}
use Rattle.resolve_reply.specs.declared.said.Said.{Said}
use Rattle.reply_check.specs.declared.flaw.Flaw.{Flaw}
use Rattle.reply_check.specs.declared.flaw.Flaw.TheVariants.{Bad as Unsound, Late}
use Rattle.reply_check.specs.Marks.{AllStand, FlawsFirst, HasEnds, Here, IsFirstFlaw, IsFlaw, IsUnchecked, MarksStand, Stands, case_in, flaw_by, here_of, is_checked, is_late, reason_by}

module _ (here : Here) (entry : MarkEntry) where
  -- an entry has one flaw, or none
  flaw-one : (f g : Option Flaw) → IsFlaw here entry f → IsFlaw here entry g → f ≡ g
  flaw-one f g first second =
      let same = one_verdict (case_in here entry) second.0 first.0 second.1 first.1 in
      first.2 ∙ ap (λ v. flaw_by (reason_by (is_checked here entry) v) (is_late here entry)) same ∙ sym second.2

  -- what stands has none
  passes-flaw : IsGood (case_in here entry) ⊎ IsUnchecked here entry → (v : MarkVerdict) × IsVerdictOn (case_in here entry) v × (reason_by (is_checked here entry) v ≡ None)
  passes-flaw (inl good) = (Good good.0.exp, (good.0, good.1, refl), refl)
  passes-flaw (inr unchecked) = (Bad reason.Signature, unchecked.before, ap (λ b. reason_by b (Bad reason.Signature)) unchecked.unknown)

  pub stands-flaw : Stands here entry → IsFlaw here entry None
  stands-flaw stands =
      let passes = passes-flaw stands.passes in
      (passes.0, passes.1, sym (ap (λ r. flaw_by r (is_late here entry)) passes.2 ∙ ap (flaw_by None) stands.lasts))

  -- and what has none stands
  passes-by : (checked : Bool) → is_checked here entry ≡ checked → (v : MarkVerdict) → IsVerdictOn (case_in here entry) v → reason_by checked v ≡ None
      → IsGood (case_in here entry) ⊎ IsUnchecked here entry
  passes-by checked is (Good exp) good none = inl ((good.0, good.1))
  passes-by true is (Bad r) first none = let bad : Some r ≡ None = none in cc bad
  passes-by false is (Bad reason.Signature) first none = inr (record { unknown = is; before = first })
  passes-by false is (Bad reason.Form) first none = let bad : Some reason.Form ≡ None = none in cc bad
  passes-by false is (Bad reason.Subject) first none = let bad : Some reason.Subject ≡ None = none in cc bad
  passes-by false is (Bad reason.Kind) first none = let bad : Some reason.Kind ≡ None = none in cc bad
  passes-by false is (Bad reason.Unlisted) first none = let bad : Some reason.Unlisted ≡ None = none in cc bad
  passes-by false is (Bad reason.Issuer) first none = let bad : Some reason.Issuer ≡ None = none in cc bad
  passes-by false is (Bad reason.Times) first none = let bad : Some reason.Times ≡ None = none in cc bad
  passes-by false is (Bad reason.Delegation) first none = let bad : Some reason.Delegation ≡ None = none in cc bad

  none-reason : (r : Option MarkReason) (late : Bool) → None ≡ flaw_by r late → (r ≡ None) × (late ≡ false)
  none-reason (Some r) late none = let bad : None ≡ Some (Unsound r) = none in cc bad
  none-reason None true none = let bad : None ≡ Some Late = none in cc bad
  none-reason None false none = (refl, refl)

  pub none-stands : IsFlaw here entry None → Stands here entry
  none-stands flaw =
      let none = none-reason (reason_by (is_checked here entry) flaw.0) (is_late here entry) flaw.2 in
      record { passes = passes-by (is_checked here entry) refl flaw.0 flaw.1 none.0; lasts = none.1 }

  clash : (f : Flaw) → Stands here entry → IsFlaw here entry (Some f) → ⊥
  clash f stands flaw = let bad = flaw-one None (Some f) (stands-flaw stands) flaw in cc bad

  one-flaw : (f g : Flaw) → IsFlaw here entry (Some f) → IsFlaw here entry (Some g) → f ≡ g
  one-flaw f g first second = let same = flaw-one (Some f) (Some g) first second in cc same

-- ---- among the marks

module _ (here : Here) (marks : List MarkEntry) where
  same-entry : (place : ℕ) (a b : MarkEntry) → slice_get marks place ≡ Some a → slice_get marks place ≡ Some b → a ≡ b
  same-entry place a b first second = let both = sym first ∙ second in cc both

  below-clash : (p q : ℕ) (f g : Flaw) → p < q → FlawsFirst here marks p f → FlawsFirst here marks q g → ⊥
  below-clash p q f g less first second = clash here first.entry f (second.before p less first.entry first.there) first.has

  same-flaw : (p q : ℕ) (f g : Flaw) → FlawsFirst here marks p f → FlawsFirst here marks q g → p ≡ q → f ≡ g
  same-flaw p q f g first second same =
      let entry = same-entry q first.entry second.entry (subst (λ n. slice_get marks n ≡ Some first.entry) same first.there) second.there in
      one-flaw here second.entry f g (subst (λ e. IsFlaw here e (Some f)) entry first.has) second.has

  first-one : (p q : ℕ) (f g : Flaw) → FlawsFirst here marks p f → FlawsFirst here marks q g → (p ≡ q) × (f ≡ g)
  first-one p q f g first second =
      elim (cases_order p q) as (λ _. (p ≡ q) × (f ≡ g)) [
        | inl same ↦ (same, same-flaw p q f g first second same)
        | inr apart ↦ elim apart as (λ _. (p ≡ q) × (f ≡ g)) [
          | inl less ↦ absurd (below-clash p q f g less first second)
          | inr more ↦ absurd (below-clash q p g f more second first)
        ]
      ]

  none-first : (p : ℕ) (f : Flaw) → AllStand here marks → FlawsFirst here marks p f → ⊥
  none-first p f all first = clash here first.entry f (all p (slice_get_within marks p first.entry first.there) first.entry first.there) first.has

-- ---- of a reply

module _ (said : Said) where
  same-leaf : (l m a b : Claims) → HasEnds said l a → HasEnds said m b → l ≡ m
  same-leaf l m a b first second = let both = sym first.leaf_config ∙ second.leaf_config in cc both

  same-anchor : (l m a b : Claims) → HasEnds said l a → HasEnds said m b → a ≡ b
  same-anchor l m a b first second = let both = sym first.anchor_config ∙ second.anchor_config in cc both

  same-here : (l m a b : Claims) → HasEnds said l a → HasEnds said m b → here_of said l a ≡ here_of said m b
  same-here l m a b first second = ap₂ (here_of said) (same-leaf l m a b first second) (same-anchor l m a b first second)

  pub checked-one : (c d : List Bool) → MarksStand said c → MarksStand said d → c ≡ d
  checked-one c d first second =
      first.checked_are ∙ ap (λ here. map (is_checked here) said.marks) (same-here first.leaf second.leaf first.anchor second.anchor first.ends second.ends) ∙ sym second.checked_are

  pub flaws-one : (p q : ℕ) (f g : Flaw) → IsFirstFlaw said p f → IsFirstFlaw said q g → (p ≡ q) × (f ≡ g)
  flaws-one p q f g first second =
      let same = same-here first.leaf second.leaf first.anchor second.anchor first.ends second.ends in
      first-one (here_of said second.leaf second.anchor) said.marks p q f g (subst (λ here. FlawsFirst here said.marks p f) same first.first) second.first

  pub flaws-clash : (c : List Bool) (p : ℕ) (f : Flaw) → MarksStand said c → IsFirstFlaw said p f → ⊥
  flaws-clash c p f stand flaw =
      let same = same-here stand.leaf flaw.leaf stand.anchor flaw.anchor stand.ends flaw.ends in
      none-first (here_of said flaw.leaf flaw.anchor) said.marks p f (subst (λ here. AllStand here said.marks) same stand.stand) flaw.first
