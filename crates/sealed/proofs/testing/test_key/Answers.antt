use Rattle.std.proofs.Common.{◌≡◌, ℕ, List, sym, ap, ◌∙◌, subst}
use Rattle.fed_base.specs.declared.algorithm.Alg.{Alg}
use Rattle.jws_form.specs.Compact.{IsCompact}
use Rattle.slh_dsa.specs.Verifying.{Verifies}
use Rattle.sealed.specs.Seals.{pair_of}
use Rattle.sealed.proofs.testing.test_key.Goals as goal

-- what verifies is what was given
verifies_same : (alg : Alg) (public m n s t : List ℕ) → m ≡ n → s ≡ t → Verifies alg public m s → Verifies alg public n t
verifies_same alg public m n s t e f verifies = subst (λ x. Verifies alg public x t) e (subst (λ x. Verifies alg public m x) f verifies)

pub of-requires : goal.of-requires
of-requires g c = record {
  compact = c.args.compact.now;
  splits = subst (λ text. IsCompact text c.args.compact.now) (sym c.in_ok-text.ensures) c.requires;
  verifies = verifies_same c.args.compact.now.alg c.args.public.now _ _ _ _ c.as_slice-signed.ensures c.as_slice-signature.ensures (c.verify.ensures.value.0 c.if-verify.true);
}

pub of-requires-else-verify : goal.of-requires-else-verify
of-requires-else-verify g c = record {
  compact = c.args.compact.now;
  splits = subst (λ text. IsCompact text c.args.compact.now) (sym c.in_ok-text.ensures) c.requires;
  fails = λ verifies.
      let bad = sym c.if-verify.false ∙ c.verify.ensures.value.1 (verifies_same c.args.compact.now.alg c.args.public.now _ _ _ _ (sym c.as_slice-signed.ensures) (sym c.as_slice-signature.ensures) verifies) in
      cc bad;
}

pub returns-then-verify-clause-tested : goal.returns-then-verify-clause-tested
returns-then-verify-clause-tested g c = (
  c.of.ensures ∙ ap (λ text. pair_of text c.args.public.now) c.in_ok-text.ensures,
  verifies_same c.args.compact.now.alg c.args.public.now _ _ _ _ c.as_slice-signed.ensures c.as_slice-signature.ensures (c.verify.ensures.value.0 c.if-verify.true),
)

pub returns-else-verify-clause-tested : goal.returns-else-verify-clause-tested
returns-else-verify-clause-tested g c = (
  c.of-else-verify.ensures ∙ ap (λ text. pair_of text c.args.public.now) c.in_ok-text.ensures,
  λ verifies.
      let bad = sym c.if-verify.false ∙ c.verify.ensures.value.1 (verifies_same c.args.compact.now.alg c.args.public.now _ _ _ _ (sym c.as_slice-signed.ensures) (sym c.as_slice-signature.ensures) verifies) in
      cc bad,
)

pub returns-then-verify-clause-counted : goal.returns-then-verify-clause-counted
returns-then-verify-clause-counted g c = c.verify.ensures.counted
