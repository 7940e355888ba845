use Rattle.std.proofs.Common.{◌<◌, ◌≤◌, length, get_or, refl, sym, ap, ◌∙◌, subst}
use Rattle.std.proofs.lemmas.Slice.Eq.{bytes_eq-Decides}
use Rattle.sealed.specs.Seals.{IsUnsealed}
use Rattle.chain_check.proofs.JudgingLaws.{pair-found, pair-none, pair-other, pair-same}
use Rattle.chain_check.proofs.known.has_miss.Goals as goal

pub returns-then-eq-clause-stands : goal.returns-then-eq-clause-stands
returns-then-eq-clause-stands c =
    let items = c.as_slice-miss-items.ensures in
    let within = subst (λ xs. c.loop-miss.miss-index < length xs) items c.loop-miss-test.true in
    let item = c.miss-item.is ∙ ap (λ xs. get_or xs c.loop-miss.miss-index c.miss-item.result) items in
    let key = sym c.public.ensures.public ∙ (bytes_eq-Decides c.public.result c.args.public.now).0 (sym c.eq.ensures ∙ c.if-eq.true) in
    (λ _. pair-found c.args.tried.now.misses c.args.tried.now.text c.args.public.now c.requires.misses c.loop-miss.miss-index c.miss-item.result within item key, λ _. refl)

pub returns-then-eq-clause-unsealed : goal.returns-then-eq-clause-unsealed
returns-then-eq-clause-unsealed c =
    let items = c.as_slice-miss-items.ensures in
    let within = subst (λ xs. c.loop-miss.miss-index < length xs) items c.loop-miss-test.true in
    let item = c.miss-item.is ∙ ap (λ xs. get_or xs c.loop-miss.miss-index c.miss-item.result) items in
    let key = sym c.public.ensures.public ∙ (bytes_eq-Decides c.public.result c.args.public.now).0 (sym c.eq.ensures ∙ c.if-eq.true) in
    λ _. subst IsUnsealed (pair-same c.args.tried.now.misses c.args.tried.now.text c.args.public.now c.requires.misses c.loop-miss.miss-index c.miss-item.result within item key) c.public.ensures.unsealed

pub loop-miss-preserved : goal.loop-miss-preserved
loop-miss-preserved c =
    let items = c.as_slice-miss-items.ensures in
    let within = subst (λ xs. c.loop-miss.miss-index < length xs) items c.loop-miss-test.true in
    let item = c.miss-item.is ∙ ap (λ xs. get_or xs c.loop-miss.miss-index c.miss-item.result) items in
    pair-other c.args.tried.now.misses c.args.tried.now.text c.args.public.now c.requires.misses c.loop-miss.miss-index c.miss-item.result within item
    (λ same. let bad = sym c.if-eq.false ∙ c.eq.ensures ∙ (bytes_eq-Decides c.public.result c.args.public.now).1 (c.public.ensures.public ∙ same) in cc bad) c.loop-miss.invariant

pub returns-clause-stands : goal.returns-clause-stands
returns-clause-stands c = (
  λ bad. cc bad,
  λ at. absurd (pair-none c.args.tried.now.misses c.args.tried.now.text c.args.public.now c.loop-miss.miss-index (subst (λ xs. length xs ≤ c.loop-miss.miss-index) c.as_slice-miss-items.ensures c.loop-miss-test.false) c.loop-miss.invariant at),
)
