use Rattle.std.proofs.Common.{◌<◌, ◌∷◌, [], ◌++◌, length, get_or, sym, ap, ◌∙◌, subst}
use Rattle.sealed.specs.Seals.{IsSealed, pair_of}
use Rattle.resolve_search.proofs.ChainLaws.{item-there, sealed-more, text-at}
use Rattle.resolve_search.proofs.judging.with_seal.Goals as goal

pub bounds-as_slice-place : goal.bounds-as_slice-place
bounds-as_slice-place c = subst (λ l. c.args.place < length l) (sym c.as_slice.ensures) c.requires.place

pub known-requires : goal.known-requires
known-requires c =
    let at = c.index-as_slice-place.is ∙ ap (λ l. get_or l c.args.place c.index-as_slice-place.result) c.as_slice.ensures in
    subst (λ t. IsSealed (pair_of t c.args.public.now)) (text-at c.args.chain c.args.place c.index-as_slice-place.result c.requires.place at) c.requires.sealed

pub returns : goal.returns
returns c =
    let item = c.index-as_slice-place.result in
    let at = c.index-as_slice-place.is ∙ ap (λ l. get_or l c.args.place item) c.as_slice.ensures in
    let seals = c.in_ok-push.ensures.ok ∙ ap (λ l. l ++ c.in_ok-known.field-0 ∷ []) c.in_ok-seals.ensures ∙ ap (λ s. item.seals ++ s ∷ []) c.in_ok-known.ensures in
    sealed-more c.args.chain c.args.place c.args.public.now item c.in_ok-text.text c.push.new.self c.in_ok-misses.misses c.set.new.self (item-there c.args.chain c.args.place item c.requires.place at)
    c.in_ok-text.ensures seals c.in_ok-misses.ensures c.set.ensures
