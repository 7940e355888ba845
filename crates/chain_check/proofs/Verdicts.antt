-- A chain has one verdict, and what a verdict on one says of others.
use Rattle.std.proofs.Common.{◌≡◌, ◌<◌, ◌≤◌, ◌+◌, ◌⊎◌, inl, inr, ℕ, List, length, Some, None, Ok, Err, true, false, ⊎_elim, refl, sym, ap, ap₂, ◌∙◌, subst, arith}
use Rattle.std.specs.Prelude.{◌↔◌, Option, is_ok, nat_le, nat_lt, slice_get}
use Rattle.std.specs.Option.{option_and_then, option_map_or}
use Rattle.std.proofs.lemmas.Bool.{and_parts, cases_order, ltb-true}
use Rattle.std.proofs.lemmas.Option.{slice_get_within}
use Rattle.fed_json.specs.declared.tree.Json.{Json}
use Rattle.jwk_set.specs.declared.jwk.Jwk.{Jwk}
use Rattle.jwk_set.specs.KeySets.{key_named}
use Rattle.sealed.specs.Seals.{IsSealedBy}
use Rattle.chain_limits.specs.Limits.{IsVerdict}
use Rattle.chain_limits.specs.declared.verdict.LimitVerdict.{LimitVerdict}
use Rattle.chain_limits.specs.declared.verdict.LimitVerdict.TheVariants as limit
use Rattle.chain_limits.proofs.Verdicts.{IsVerdict-unique}
use Rattle.policy_merge.specs.Policies.{Types}
use Rattle.policy_merge.specs.declared.fault.PolicyFault.{PolicyFault}
use Rattle.policy_merge.specs.declared.fault.PolicyFault.TheVariants as merge
use Rattle.policy_apply.specs.declared.fault.ApplyFault.{ApplyFault}
use Rattle.policy_apply.specs.declared.fault.ApplyFault.TheVariants as apply
use Rattle.entity_statement.specs.Claims.{Claims}
use Rattle.chain_check.specs.declared.reason.Reason.{Reason}
use Rattle.chain_check.specs.declared.reason.Reason.TheVariants.{Form, Names, Times, Signature, PathLength, Name, Conflict, Policy}
use Rattle.chain_check.specs.declared.verdict.Resolved.{Resolved}
use Rattle.chain_check.specs.declared.verdict.Verdict.{Verdict}
use Rattle.chain_check.specs.declared.verdict.Verdict.TheVariants.{Valid, Refused}
use Rattle.fed_base.specs.Places.{HoldsBelow, FailsFirst}
use Rattle.chain_check.specs.Chains.{Texts, HasForm, ReadsAt, places_of, statements_of}
use Rattle.chain_check.specs.Names.{HasNames, NamesFit, subject_at}
use Rattle.chain_check.specs.Signatures.{AreCurrent, AreSigned, CurrentAt, Extends, HasExpired, SignedAt}
use Rattle.chain_check.specs.Policies.{ConflictAt, merged_policy}
use Rattle.chain_check.specs.Metadata.{limited_places}
use Rattle.chain_check.specs.Validity.{Applies, Case, IsValid, IsWithin, Merges, ResolvesTo, applied, case_of, chain_of}
use Rattle.chain_check.specs.Verdicts.{IsResolved, IsVerdictOn, is_valid, least_exp}

-- ---- the first place that fails

first-unique : (P : ℕ → Type 0) (n i j : ℕ) → FailsFirst P n i → FailsFirst P n j → i ≡ j
first-unique P n i j a b =
    ⊎_elim (λ same. same) (λ apart. ⊎_elim (λ below. absurd (a.here (b.before i below))) (λ above. absurd (b.here (a.before j above))) apart) (cases_order i j)

none-fails : (P : ℕ → Type 0) (n j : ℕ) → FailsFirst P n j → HoldsBelow P n → ⊥
none-fails P n j fails holds = fails.here (holds j fails.within)

-- ---- one class after the other

-- the class is passed and the next ones are told, or the verdict is a failure of the class
abbrev Step : Type 0 → (Verdict → Type 0) → (Verdict → Type 0) → Verdict → Type 0
Step P Fails Next v = (P × Next v) ⊎ Fails v

step-unique : (P : Type 0) (Fails Next : Verdict → Type 0) (v w : Verdict) → (Fails v → P → ⊥) → (Fails w → P → ⊥) → (Fails v → Fails w → v ≡ w) → (Next v → Next w → v ≡ w)
    → Step P Fails Next v → Step P Fails Next w → v ≡ w
step-unique P Fails Next v w apart_v apart_w fails next at_v at_w =
    ⊎_elim (λ passed_v. ⊎_elim (λ passed_w. next passed_v.1 passed_w.1) (λ failed_w. absurd (apart_w failed_w passed_v.0)) at_w)
    (λ failed_v. ⊎_elim (λ passed_w. absurd (apart_v failed_v passed_w.0)) (λ failed_w. fails failed_v failed_w) at_w) at_v

-- a place fails first, for a reason that is told by its class alone
abbrev FailsAt : (ℕ → Type 0) → ℕ → Reason → Verdict → Type 0
FailsAt P n reason v = (place : ℕ) × (v ≡ Refused place reason) × FailsFirst P n place

place-unique : (P : ℕ → Type 0) (n : ℕ) (reason : Reason) (v w : Verdict) → FailsAt P n reason v → FailsAt P n reason w → v ≡ w
place-unique P n reason v w a b = a.1 ∙ ap (λ place. Refused place reason) (first-unique P n a.0 b.0 a.2 b.2) ∙ sym b.1

place-apart : (P : ℕ → Type 0) (n : ℕ) (reason : Reason) (v : Verdict) → FailsAt P n reason v → HoldsBelow P n → ⊥
place-apart P n reason v a holds = none-fails P n a.0 a.2 holds

-- the verdict that a limit, a conflict and a refusal give
abbrev limit_verdict : LimitVerdict → Option Verdict
limit_verdict limit.Met = None
limit_verdict (limit.PathLength place) = Some (Refused place PathLength)
limit_verdict (limit.Name place) = Some (Refused place Name)

abbrev conflict_verdict : ℕ → PolicyFault → Option Verdict
conflict_verdict place (merge.Conflict t p f s) = Some (Refused place (Conflict t p f s))
conflict_verdict place merge.Memory = None

abbrev refusal_verdict : ApplyFault → Option Verdict
refusal_verdict (apply.Refused t p o) = Some (Refused 0 (Policy t p o))
refusal_verdict apply.Memory = None

module _ (case : Case) where
  abbrev chain : List Claims
  chain = chain_of case

  abbrev Formless : Verdict → Type 0
  Formless = FailsAt (ReadsAt case.texts) (places_of case.texts) Form

  abbrev Misnamed : Verdict → Type 0
  Misnamed = FailsAt (NamesFit chain case.anchor) (length chain) Names

  abbrev Mistimed : Verdict → Type 0
  Mistimed = FailsAt (CurrentAt chain case.moment) (length chain) Times

  abbrev Unsigned : Verdict → Type 0
  Unsigned = FailsAt (SignedAt case.texts chain case.keys) (length chain) Signature

  abbrev Unlimited : Verdict → Type 0
  Unlimited v = (verdict : LimitVerdict) × IsVerdict (limited_places chain) verdict × (limit_verdict verdict ≡ Some v)

  abbrev Conflicting : Verdict → Type 0
  Conflicting v = (conflict : ConflictAt) × (merged_policy chain ≡ Err conflict) × (conflict_verdict conflict.place conflict.conflict ≡ Some v)

  abbrev Refusing : Verdict → Type 0
  Refusing v = (policy : Types) × (fault : ApplyFault) × (merged_policy chain ≡ Ok policy) × (applied chain policy ≡ Err fault) × (refusal_verdict fault ≡ Some v)

  abbrev Resolving : Verdict → Type 0
  Resolving v = (resolved : Resolved) × (v ≡ Valid resolved) × IsResolved chain resolved

  abbrev AtApply : Verdict → Type 0
  AtApply = Step (Applies chain) Refusing Resolving

  abbrev AtMerge : Verdict → Type 0
  AtMerge = Step (Merges chain) Conflicting AtApply

  abbrev AtLimits : Verdict → Type 0
  AtLimits = Step (IsWithin chain) Unlimited AtMerge

  abbrev AtSignatures : Verdict → Type 0
  AtSignatures = Step (AreSigned case.texts chain case.keys) Unsigned AtLimits

  abbrev AtTimes : Verdict → Type 0
  AtTimes = Step (AreCurrent chain case.moment) Mistimed AtSignatures

  abbrev AtNames : Verdict → Type 0
  AtNames = Step (HasNames chain case.anchor) Misnamed AtTimes

  abbrev AtForm : Verdict → Type 0
  AtForm = Step (HasForm case.texts) Formless AtNames

  merges-ok : (policy : Types) → merged_policy chain ≡ Ok policy → Merges chain
  merges-ok policy ok = ap is_ok ok

  staged : (v : Verdict) → IsVerdictOn case v → AtForm v
  staged (Valid resolved) (valid, is) =
      inl ((valid.form, inl ((valid.names, inl ((valid.current, inl ((valid.signed, inl ((valid.within, inl ((valid.merges, inl ((valid.applies, (resolved, refl, is)))))))))))))))
  staged (Refused place Form) fails = inr ((place, refl, fails))
  staged (Refused place Names) (to, fails) = inl ((to, inr ((place, refl, fails))))
  staged (Refused place Times) (to, fails) = inl ((to.0, inl ((to.1, inr ((place, refl, fails))))))
  staged (Refused place Signature) (to, fails) = inl ((to.0.0, inl ((to.0.1, inl ((to.1, inr ((place, refl, fails))))))))
  staged (Refused place PathLength) (to, fails) = inl ((to.0.0.0, inl ((to.0.0.1, inl ((to.0.1, inl ((to.1, inr ((limit.PathLength place, fails, refl))))))))))
  staged (Refused place Name) (to, fails) = inl ((to.0.0.0, inl ((to.0.0.1, inl ((to.0.1, inl ((to.1, inr ((limit.Name place, fails, refl))))))))))
  staged (Refused place (Conflict t p f s)) (to, (within, fails)) =
      inl ((to.0.0.0, inl ((to.0.0.1, inl ((to.0.1, inl ((to.1, inl ((within, inr ((record { place = place; conflict = merge.Conflict t p f s }, fails, refl))))))))))))
  staged (Refused place (Policy t p o)) (to, (within, (policy, merged, (zeroth, refused)))) =
      inl ((
        to.0.0.0,
        inl ((
          to.0.0.1,
          inl ((
            to.0.1,
            inl ((
              to.1,
              inl ((
                within,
                inl ((
                  merges-ok policy merged,
                  inr ((policy, apply.Refused t p o, merged, refused, ap (λ n. Some (Refused n (Policy t p o))) (sym zeroth))),
                )),
              )),
            )),
          )),
        )),
      ))

  resolves-unique : (a b : Json) → ResolvesTo chain a → ResolvesTo chain b → a ≡ b
  resolves-unique a b is_a is_b =
      let one = sym is_a.merged ∙ is_b.merged in
      let policy : is_a.policy ≡ is_b.policy = cc one in
      let same = sym is_a.resolved ∙ ap (applied chain) policy ∙ is_b.resolved in
      cc same

  pub resolved-unique : (a b : Resolved) → IsResolved chain a → IsResolved chain b → a ≡ b
  resolved-unique a b is_a is_b =
      ap₂ (λ leaf exp. record { leaf = leaf; exp = exp; metadata = a.metadata }) (is_a.leaf ∙ sym is_b.leaf) (is_a.exp ∙ sym is_b.exp)
      ∙ ap (λ metadata. record { leaf = b.leaf; exp = b.exp; metadata = metadata }) (resolves-unique a.metadata b.metadata is_a.metadata is_b.metadata)

  resolving-unique : (v w : Verdict) → Resolving v → Resolving w → v ≡ w
  resolving-unique v w a b = a.1 ∙ ap Valid (resolved-unique a.0 b.0 a.2 b.2) ∙ sym b.1

  refusing-unique : (v w : Verdict) → Refusing v → Refusing w → v ≡ w
  refusing-unique v w a b =
      let one = sym a.2 ∙ b.2 in
      let policy : a.0 ≡ b.0 = cc one in
      let fault = sym a.3 ∙ ap (applied chain) policy ∙ b.3 in
      let is : a.1 ≡ b.1 = cc fault in
      let same : Some v ≡ Some w = sym a.4 ∙ ap refusal_verdict is ∙ b.4 in
      cc same

  refusing-apart : (v : Verdict) → Refusing v → Applies chain → ⊥
  refusing-apart v a applies =
      let one = sym a.2 ∙ applies.resolves.merged in
      let policy : a.0 ≡ applies.resolves.policy = cc one in
      let bad = sym a.3 ∙ ap (applied chain) policy ∙ applies.resolves.resolved in
      cc bad

  conflicting-unique : (v w : Verdict) → Conflicting v → Conflicting w → v ≡ w
  conflicting-unique v w a b =
      let one = sym a.1 ∙ b.1 in
      let conflict : a.0 ≡ b.0 = cc one in
      let same : Some v ≡ Some w = sym a.2 ∙ ap (λ c. conflict_verdict c.place c.conflict) conflict ∙ b.2 in
      cc same

  conflicting-apart : (v : Verdict) → Conflicting v → Merges chain → ⊥
  conflicting-apart v a merges = let bad : false ≡ true = sym (ap is_ok a.1) ∙ merges in cc bad

  unlimited-unique : (v w : Verdict) → Unlimited v → Unlimited w → v ≡ w
  unlimited-unique v w a b =
      let one = IsVerdict-unique (limited_places chain) a.0 b.0 a.1 b.1 in
      let same : Some v ≡ Some w = sym a.2 ∙ ap limit_verdict one ∙ b.2 in
      cc same

  unlimited-apart : (v : Verdict) → Unlimited v → IsWithin chain → ⊥
  unlimited-apart v a within =
      let one = IsVerdict-unique (limited_places chain) limit.Met a.0 within a.1 in
      let bad = ap limit_verdict one ∙ a.2 in
      cc bad

  one-apply : (v w : Verdict) → AtApply v → AtApply w → v ≡ w
  one-apply v w = step-unique (Applies chain) Refusing Resolving v w (refusing-apart v) (refusing-apart w) (refusing-unique v w) (resolving-unique v w)

  one-merge : (v w : Verdict) → AtMerge v → AtMerge w → v ≡ w
  one-merge v w = step-unique (Merges chain) Conflicting AtApply v w (conflicting-apart v) (conflicting-apart w) (conflicting-unique v w) (one-apply v w)

  one-limits : (v w : Verdict) → AtLimits v → AtLimits w → v ≡ w
  one-limits v w = step-unique (IsWithin chain) Unlimited AtMerge v w (unlimited-apart v) (unlimited-apart w) (unlimited-unique v w) (one-merge v w)

  one-signatures : (v w : Verdict) → AtSignatures v → AtSignatures w → v ≡ w
  one-signatures v w =
      step-unique (AreSigned case.texts chain case.keys) Unsigned AtLimits v w (place-apart _ _ Signature v) (place-apart _ _ Signature w) (place-unique _ _ Signature v w) (one-limits v w)

  one-times : (v w : Verdict) → AtTimes v → AtTimes w → v ≡ w
  one-times v w = step-unique (AreCurrent chain case.moment) Mistimed AtSignatures v w (place-apart _ _ Times v) (place-apart _ _ Times w) (place-unique _ _ Times v w) (one-signatures v w)

  one-names : (v w : Verdict) → AtNames v → AtNames w → v ≡ w
  one-names v w = step-unique (HasNames chain case.anchor) Misnamed AtTimes v w (place-apart _ _ Names v) (place-apart _ _ Names w) (place-unique _ _ Names v w) (one-times v w)

  -- a chain has one verdict
  pub one_verdict : (v w : Verdict) → IsVerdictOn case v → IsVerdictOn case w → v ≡ w
  one_verdict v w is_v is_w =
      step-unique (HasForm case.texts) Formless AtNames v w (place-apart _ _ Form v) (place-apart _ _ Form w) (place-unique _ _ Form v w) (one-names v w) (staged v is_v) (staged w is_w)

  -- a valid chain has what it resolves to
  pub verdict-valid : IsValid case → (resolved : Resolved) × IsVerdictOn case (Valid resolved)
  verdict-valid valid =
      (record { leaf = subject_at chain 0; exp = least_exp chain; metadata = valid.applies.metadata }, (valid, record { leaf = refl; exp = refl; metadata = valid.applies.resolves }))

  -- the verdict says whether it is valid
  pub valid-exactly : (v : Verdict) → IsVerdictOn case v → (is_valid v ≡ true) ↔ IsValid case
  valid-exactly (Valid resolved) is = (λ _. is.0, λ _. refl)
  valid-exactly (Refused place reason) is =
      (λ bad. cc bad, λ valid. let found = verdict-valid valid in ap is_valid (one_verdict (Refused place reason) (Valid found.0) is found.1))

-- ---- more keys, later moments, other keys

sealed-more : (text : List ℕ) (keys more : List Jwk) → Extends keys more → IsSealedBy text keys → IsSealedBy text more
sealed-more text keys more extends seal = record {
  compact = seal.compact;
  splits = seal.splits;
  public = seal.public;
  named = named-more seal.compact.kid seal.named;
  verifies = seal.verifies;
}
  where
    named-more : (kid : Option (List ℕ)) → option_and_then (λ k. key_named k seal.compact.alg keys) kid ≡ Some seal.public
        → option_and_then (λ k. key_named k seal.compact.alg more) kid ≡ Some seal.public
    named-more None e = cc e
    named-more (Some kid) e = extends kid seal.compact.alg seal.public e

above-more : (text : List ℕ) (next : Option Claims) (keys more : List Jwk) → Extends keys more → IsSealedBy text (option_map_or (λ s. s.keys) next keys) → IsSealedBy text (option_map_or (λ s. s.keys) next more)
above-more text (Some s) keys more extends seal = seal
above-more text None keys more extends seal = sealed-more text keys more extends seal

pub valid-more_keys : (texts : Texts) (anchor : List ℕ) (keys more : List Jwk) (t : ℕ) (resolved : Resolved) → Extends keys more
    → IsVerdictOn (case_of texts anchor keys t) (Valid resolved) → IsVerdictOn (case_of texts anchor more t) (Valid resolved)
valid-more_keys texts anchor keys more t resolved extends (valid, is) = (
  record {
    form = valid.form;
    names = valid.names;
    current = valid.current;
    signed = λ j short.
        let here = valid.signed j short in
        record { by_itself = here.by_itself; by_superior = above-more _ (slice_get (statements_of texts) (j + 1)) keys more extends here.by_superior };
    within = valid.within;
    merges = valid.merges;
    applies = valid.applies;
  },
  is,
)

pub never-revived : (texts : Texts) (anchor : List ℕ) (keys : List Jwk) (t later : ℕ) → HasExpired (statements_of texts) t → t ≤ later → ¬ IsValid (case_of texts anchor keys later)
never-revived texts anchor keys t later expired after valid =
    let current = valid.current expired.place (slice_get_within _ expired.place expired.statement expired.there) expired.statement expired.there in
    let before : later < expired.statement.exp = ltb-true later expired.statement.exp (and_parts (nat_le expired.statement.iat (later + 60)) (nat_lt later expired.statement.exp) current).1 in
    absurd (omega (arith, before, expired.ended, after))

pub resolved-alone : (case other : Case) (resolved same : Resolved) → other.texts ≡ case.texts → IsVerdictOn case (Valid resolved) → IsVerdictOn other (Valid same) → resolved ≡ same
resolved-alone case other resolved same texts is is_other = resolved-unique case resolved same is.1 (subst (λ ts. IsResolved (statements_of ts) same) texts is_other.1)
