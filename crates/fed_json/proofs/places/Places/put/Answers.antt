use Rattle.std.proofs.Common.{◌∙◌, ap, not, Some, refl}
use Rattle.std.specs.Option.{is_some}
use Rattle.std.specs.Vec.{with_item}
use Rattle.fed_json.specs.Codes.{code_of}
use Rattle.fed_json.proofs.PlaceLaws.{code-new, code-still, none-of, places-code, places-slot, read-at}
use Rattle.fed_json.proofs.places.Places.put.Goals as goal

pub returns-then-is_none-clause-put : goal.returns-then-is_none-clause-put
returns-then-is_none-clause-put c list part stands known =
    let old = c.args.self.now in
    let free = read-at old.slots.items c.args.slot c.index.result.now c.requires.within c.index.ensures ∙ none-of c.index.result.now (c.is_none.ensures ∙ ap not c.if-is_none.true) in
    places-slot old (record old { slots = with_item old.slots c.args.slot (Some c.args.place) }) list part c.args.tree.now c.args.slot c.args.place refl refl c.requires.slot c.requires.within free
    stands known

pub returns-clause-put : goal.returns-clause-put
returns-clause-put c list part stands known =
    let old = c.args.self.now in
    let taken = ap is_some (read-at old.slots.items c.args.slot c.index.result.now c.requires.within c.index.ensures) ∙ c.is_none.ensures ∙ ap not c.if-is_none.false in
    let key = c.in_ok-code_of.field-0 in
    places-code old (record old { by_code = c.insert.new.self }) list part c.args.tree.now c.args.slot refl
    (λ code. code-still old.by_code c.insert.new.self key c.args.place code c.in_ok-insert.ensures.entries)
    (code-new old.by_code c.insert.new.self key c.args.place (code_of c.args.tree.now) c.in_ok-insert.ensures.entries c.in_ok-code_of.ensures) c.requires.slot taken known
