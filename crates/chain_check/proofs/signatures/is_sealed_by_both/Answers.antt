use Rattle.std.proofs.Common.{refl, sym, ap, ◌∙◌, arith}
use Rattle.std.specs.Prelude.{is_some}
use Rattle.std.proofs.lemmas.Result.{err_from_is_err_and}
use Rattle.chain_check.proofs.SignatureLaws.{AtMost-is, AtMost-within, key_in-compact, leaf-both, leaf-first, leaf-none, leaf-one, sealed-named, sealed-same}
use Rattle.chain_check.proofs.signatures.is_sealed_by_both.Goals as goal

pub returns-then-not-names_both-clause-sealed : goal.returns-then-not-names_both-clause-sealed
returns-then-not-names_both-clause-sealed g c =
    let own = key_in-compact c.args.own.now.keys c.args.compact.now.whole c.args.compact.now c.requires in
    let superior = key_in-compact c.args.superior.now.keys c.args.compact.now.whole c.args.compact.now c.requires in
    (λ bad. cc bad, λ both. let bad = sym c.if-not-names_both.true ∙ c.names_both.ensures.1 ((sym (ap is_some own) ∙ sealed-named _ _ both.0, sym (ap is_some superior) ∙ sealed-named _ _ both.1)) in cc bad)

pub returns-then-not-names_both-clause-counted : goal.returns-then-not-names_both-clause-counted
returns-then-not-names_both-clause-counted g c =
    let own = key_in-compact c.args.own.now.keys c.args.compact.now.whole c.args.compact.now c.requires in
    let superior = key_in-compact c.args.superior.now.keys c.args.compact.now.whole c.args.compact.now c.requires in
    leaf-none c.args.compact.now.whole c.args.own.now.keys c.args.superior.now.keys _ _ (λ named. let bad = sym c.if-not-names_both.true ∙ c.names_both.ensures.1 ((sym (ap is_some own) ∙ named.0, sym (ap is_some superior) ∙ named.1)) in cc bad) refl

pub returns-in_err-is_sealed-clause-counted : goal.returns-in_err-is_sealed-clause-counted
returns-in_err-is_sealed-clause-counted g c =
    let p = err_from_is_err_and c.from_residual.result c.from_residual.ensures.1 in rw p.1 (AtMost-within 1 (omega arith) (AtMost-is 0 _ _ c.in_err-is_sealed.ensures.counted))

pub returns-then-not-branch-clause-counted : goal.returns-then-not-branch-clause-counted
returns-then-not-branch-clause-counted g c =
    let own = key_in-compact c.args.own.now.keys c.args.compact.now.whole c.args.compact.now c.requires in
    let superior = key_in-compact c.args.superior.now.keys c.args.compact.now.whole c.args.compact.now c.requires in
    let named = c.names_both.ensures.0 c.if-not-names_both.false in
    leaf-first c.args.compact.now.whole c.args.own.now.keys c.args.superior.now.keys _ _ (ap is_some own ∙ named.0, ap is_some superior ∙ named.1)
    (λ sealed. let bad = sym c.if-not-branch.true ∙ c.in_ok-is_sealed.ensures.sealed.1 sealed in cc bad) c.in_ok-is_sealed.ensures.counted

pub returns-then-name_one_key-clause-sealed : goal.returns-then-name_one_key-clause-sealed
returns-then-name_one_key-clause-sealed g c =
    let own = c.in_ok-is_sealed.ensures.sealed.0 c.if-not-branch.false in
    (λ _. (own, sealed-same c.args.compact.now c.args.own.now.keys c.args.superior.now.keys c.requires (c.name_one_key.ensures.0 c.if-name_one_key.true) own), λ _. refl)

pub returns-then-name_one_key-clause-counted : goal.returns-then-name_one_key-clause-counted
returns-then-name_one_key-clause-counted g c =
    let own = key_in-compact c.args.own.now.keys c.args.compact.now.whole c.args.compact.now c.requires in
    let superior = key_in-compact c.args.superior.now.keys c.args.compact.now.whole c.args.compact.now c.requires in
    leaf-one c.args.compact.now.whole c.args.own.now.keys c.args.superior.now.keys _ _ (c.in_ok-is_sealed.ensures.sealed.0 c.if-not-branch.false) (own ∙ c.name_one_key.ensures.0 c.if-name_one_key.true ∙ sym superior) c.in_ok-is_sealed.ensures.counted

pub returns-clause-counted : goal.returns-clause-counted
returns-clause-counted g c =
    let own = key_in-compact c.args.own.now.keys c.args.compact.now.whole c.args.compact.now c.requires in
    let superior = key_in-compact c.args.superior.now.keys c.args.compact.now.whole c.args.compact.now c.requires in
    let named = c.names_both.ensures.0 c.if-not-names_both.false in
    leaf-both c.args.compact.now.whole c.args.own.now.keys c.args.superior.now.keys _ _ c.is_sealed-2.result _ (ap is_some own ∙ named.0, ap is_some superior ∙ named.1) (c.in_ok-is_sealed.ensures.sealed.0 c.if-not-branch.false)
    (λ one. let bad = sym c.if-name_one_key.false ∙ c.name_one_key.ensures.1 (sym own ∙ one ∙ superior) in cc bad)
    c.in_ok-is_sealed.ensures.counted c.is_sealed-2.ensures.counted
