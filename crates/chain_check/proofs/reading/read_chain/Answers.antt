use Rattle.std.proofs.Common.{◌≡◌, ◌<◌, Some, arith, map, length, get_or, sym, ◌∙◌, ap}
use Rattle.std.proofs.lemmas.List.{length-map, get_or-map}
use Rattle.entity_statement.specs.Signed.{IsReading}
use Rattle.chain_check.proofs.ReadChains.{ReadUpTo-more, ReadUpTo-none}
use Rattle.chain_check.proofs.reading.read_chain.Goals as goal

pub loop-j-init : goal.loop-j-init
loop-j-init g c = rw c.new-entries.ensures (ReadUpTo-none (map g.T.HoldsText.text_of c.args.texts.now))

pub loop-j-preserved : goal.loop-j-preserved
loop-j-preserved g c =
    let text_of = g.T.HoldsText.text_of in
    let texts = map text_of c.args.texts.now in
    let text = c.text.result.now in
    let short : c.loop-j.j < length c.args.texts.now = omega arith in
    let shorter : c.loop-j.j < length texts = omega (arith, short, length-map c.args.texts.now text_of) in
    let is : text ≡ get_or texts c.loop-j.j text = c.text.ensures ∙ ap text_of c.index-texts-j.is ∙ sym (get_or-map text_of c.args.texts.now c.loop-j.j c.index-texts-j.result text short) in
    let reading : IsReading text (Some c.in-Some.entry) = rw c.in-Some.is at c.in_ok-entry.ensures in
    ReadUpTo-more texts c.loop-j.entries c.loop-j.j text shorter is c.in-Some.entry c.push.new.self (omega (arith, c.if-j-ge-MAX_STATEMENTS.false)) reading
    c.in_ok-push-in-Some.ensures.ok c.loop-j.invariant
