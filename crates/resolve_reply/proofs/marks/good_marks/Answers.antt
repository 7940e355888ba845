use Rattle.std.proofs.Common.{◌<◌, length, get_or, sym, ap, ◌∙◌, subst, arith, rules}
use Rattle.std.specs.Prelude.{option_and_then}
use Rattle.std.specs.Option.{option_copied}
use Rattle.std.proofs.lemmas.Result.{err_from_is_err_and}
use Rattle.entity_statement.specs.Told.{told}
use Rattle.resolve_reply.specs.Looking.{keys_in, text_in}
use Rattle.resolve_reply.specs.Marks.{judging_by, keys_of, text_of}
use Rattle.resolve_reply.proofs.MarkLaws.{at-place, config-step, good-utf8, place-within, step-at_most, step-counted, step-good}
use Rattle.resolve_reply.proofs.marks.good_marks.Goals as goal

pub bounds-as_slice-place : goal.bounds-as_slice-place
bounds-as_slice-place g c =
    let test = c.loop-place-test.true in
    let len = c.len-place-end.ensures in
    subst (λ l. c.loop-place.place < length l) (sym c.as_slice.ensures)
    (place-within c.args.leaf.now.marks (told c.args.anchor.now) c.args.issuers.now.by_mark c.loop-place.place c.requires (omega (arith, test, len)))

pub offset_bounds-as_slice-place : goal.offset_bounds-as_slice-place
offset_bounds-as_slice-place g c =
    let test = c.loop-place-test.true in
    let len = c.len-place-end.ensures in
    let less : c.loop-place.place < length c.as_slice.result.now =
    subst (λ l. c.loop-place.place < length l) (sym c.as_slice.ensures)
    (place-within c.args.leaf.now.marks (told c.args.anchor.now) c.args.issuers.now.by_mark c.loop-place.place c.requires (omega (arith, test, len))) in
    search rules

pub returns-in_err-look_at-clause-counted : goal.returns-in_err-look_at-clause-counted
returns-in_err-look_at-clause-counted g c =
    let here = judging_by c.args.leaf.now.sub (told c.args.anchor.now) c.args.issuers.now.found c.args.t in
    let entry = c.index-as_slice-place.result in
    let issuer = c.index-as_slice-place-in-loop-place.result in
    let keys = keys_in (option_copied c.issuer_of-issuer.result) in
    let test = c.loop-place-test.true in
    let len = c.len-place-end.ensures in
    let at = at-place c.args.leaf.now.marks (told c.args.anchor.now) c.args.issuers.now.by_mark c.loop-place.place entry issuer c.requires (omega (arith, test, len))
    (c.index-as_slice-place.is ∙ ap (λ l. get_or l c.loop-place.place entry) c.as_slice.ensures)
    (c.index-as_slice-place-in-loop-place.is ∙ ap (λ l. get_or l c.loop-place.place issuer) c.as_slice-in-loop-place-2.ensures) in
    let is = c.issuer_of-issuer.ensures.keys ∙ ap (λ l. option_and_then (keys_of l) issuer) c.as_slice-in-loop-place.ensures in
    let p = err_from_is_err_and c.from_residual.result c.from_residual.ensures.1 in
    rw p.1 (step-at_most here c.args.leaf.now.marks c.loop-place.place entry issuer at keys is _ _ _ c.loop-place.invariant.counted c.in_err-look_at.ensures.counted)

pub loop-place-preserved : goal.loop-place-preserved
loop-place-preserved g c =
    let here = judging_by c.args.leaf.now.sub (told c.args.anchor.now) c.args.issuers.now.found c.args.t in
    let entry = c.index-as_slice-place.result in
    let issuer = c.index-as_slice-place-in-loop-place.result in
    let keys = keys_in (option_copied c.issuer_of-issuer.result) in
    let test = c.loop-place-test.true in
    let len = c.len-place-end.ensures in
    let at = at-place c.args.leaf.now.marks (told c.args.anchor.now) c.args.issuers.now.by_mark c.loop-place.place entry issuer c.requires (omega (arith, test, len))
    (c.index-as_slice-place.is ∙ ap (λ l. get_or l c.loop-place.place entry) c.as_slice.ensures)
    (c.index-as_slice-place-in-loop-place.is ∙ ap (λ l. get_or l c.loop-place.place issuer) c.as_slice-in-loop-place-2.ensures) in
    let is = c.issuer_of-issuer.ensures.keys ∙ ap (λ l. option_and_then (keys_of l) issuer) c.as_slice-in-loop-place.ensures in
    record {
      good = step-good here c.args.leaf.now.marks c.loop-place.place entry issuer at keys is c.args.exp c.loop-place.good c.look_at.new.self c.loop-place.invariant.good c.in_ok-look_at.ensures.looked;
      configs = config-step c.args.leaf.now.marks (told c.args.anchor.now) c.loop-place.place entry issuer at c.args.issuers.now.found (text_in (option_copied c.issuer_of-issuer.result))
          (c.issuer_of-issuer.ensures.text ∙ ap (λ l. option_and_then (text_of l) issuer) c.as_slice-in-loop-place.ensures) c.loop-place.good c.look_at.new.self c.loop-place.invariant.configs c.in_ok-look_at.ensures.configs;
      counted = step-counted here c.args.leaf.now.marks c.loop-place.place entry issuer at keys is _ _ _ c.loop-place.invariant.counted c.in_ok-look_at.ensures.counted;
    }

pub returns-clause-utf8 : goal.returns-clause-utf8
returns-clause-utf8 g c =
    good-utf8 (judging_by c.args.leaf.now.sub (told c.args.anchor.now) c.args.issuers.now.found c.args.t) c.args.leaf.now.marks c.loop-place.place c.args.exp c.loop-place.good c.args.leaf.now.marks_utf8
    c.loop-place.invariant.good
