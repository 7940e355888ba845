use Rattle.std.proofs.Common.{◌∙◌, sym, true, false, true≢false, refl}
use Rattle.fed_json.proofs.Among.{among_from_contains}
use Rattle.fed_json.proofs.PlaceLaws.{read-at, slot-free, stands-there}
use Rattle.fed_json.proofs.places.Places.finds.Goals as goal

pub returns-in_default : goal.returns-in_default
returns-in_default c =
    let free = read-at c.args.self.now.slots.items c.args.slot c.index.result.now c.requires.within c.index.ensures ∙ c.in_default.is in
    among_from_contains c.args.list.now c.args.tree.now false (λ wrong. absurd (true≢false (sym wrong)), λ there. absurd (slot-free c.args.self.now c.args.list.now c.args.tree.now c.args.slot c.requires.slot free c.requires.have there))

pub returns-then-is_at : goal.returns-then-is_at
returns-then-is_at c =
    among_from_contains c.args.list.now c.args.tree.now true (λ _. stands-there c.args.list.now c.in-Some.place c.args.tree.now (c.is_at.ensures.0 c.if-is_at.true), λ _. refl)
