use Rattle.std.proofs.Common.{◌<◌, ◌≤◌, length, get_or, refl, sym, ap, ◌∙◌, subst}
use Rattle.std.proofs.lemmas.Slice.Eq.{bytes_eq-Decides}
use Rattle.sealed.specs.Seals.{IsSealed}
use Rattle.chain_check.proofs.JudgingLaws.{pair-found, pair-none, pair-other, pair-same}
use Rattle.chain_check.proofs.known.has_seal.Goals as goal

pub returns-then-eq-clause-stands : goal.returns-then-eq-clause-stands
returns-then-eq-clause-stands c =
    let items = c.as_slice-seal-items.ensures in
    let within = subst (λ xs. c.loop-seal.seal-index < length xs) items c.loop-seal-test.true in
    let item = c.seal-item.is ∙ ap (λ xs. get_or xs c.loop-seal.seal-index c.seal-item.result) items in
    let key = sym c.public.ensures.public ∙ (bytes_eq-Decides c.public.result c.args.public.now).0 (sym c.eq.ensures ∙ c.if-eq.true) in
    (λ _. pair-found c.args.tried.now.seals c.args.tried.now.text c.args.public.now c.requires.seals c.loop-seal.seal-index c.seal-item.result within item key, λ _. refl)

pub returns-then-eq-clause-sealed : goal.returns-then-eq-clause-sealed
returns-then-eq-clause-sealed c =
    let items = c.as_slice-seal-items.ensures in
    let within = subst (λ xs. c.loop-seal.seal-index < length xs) items c.loop-seal-test.true in
    let item = c.seal-item.is ∙ ap (λ xs. get_or xs c.loop-seal.seal-index c.seal-item.result) items in
    let key = sym c.public.ensures.public ∙ (bytes_eq-Decides c.public.result c.args.public.now).0 (sym c.eq.ensures ∙ c.if-eq.true) in
    λ _. subst IsSealed (pair-same c.args.tried.now.seals c.args.tried.now.text c.args.public.now c.requires.seals c.loop-seal.seal-index c.seal-item.result within item key) c.public.ensures.sealed

pub loop-seal-preserved : goal.loop-seal-preserved
loop-seal-preserved c =
    let items = c.as_slice-seal-items.ensures in
    let within = subst (λ xs. c.loop-seal.seal-index < length xs) items c.loop-seal-test.true in
    let item = c.seal-item.is ∙ ap (λ xs. get_or xs c.loop-seal.seal-index c.seal-item.result) items in
    pair-other c.args.tried.now.seals c.args.tried.now.text c.args.public.now c.requires.seals c.loop-seal.seal-index c.seal-item.result within item
    (λ same. let bad = sym c.if-eq.false ∙ c.eq.ensures ∙ (bytes_eq-Decides c.public.result c.args.public.now).1 (c.public.ensures.public ∙ same) in cc bad) c.loop-seal.invariant

pub returns-clause-stands : goal.returns-clause-stands
returns-clause-stands c = (
  λ bad. cc bad,
  λ at. absurd (pair-none c.args.tried.now.seals c.args.tried.now.text c.args.public.now c.loop-seal.seal-index (subst (λ xs. length xs ≤ c.loop-seal.seal-index) c.as_slice-seal-items.ensures c.loop-seal-test.false) c.loop-seal.invariant at),
)
