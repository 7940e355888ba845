use Rattle.std.proofs.Common.{sym, ap, true, false, true≢false, refl}
use Rattle.std.specs.Option.{is_some}
use Rattle.fed_json.proofs.Among.{among_from_contains}
use Rattle.fed_json.proofs.PlaceLaws.{stands-there}
use Rattle.fed_json.proofs.places.is_there.Goals as goal

pub returns-in_default : goal.returns-in_default
returns-in_default c =
    among_from_contains c.args.list.now c.args.tree.now false (λ wrong. absurd (true≢false (sym wrong)), λ there. absurd (c.requires (ap is_some c.in_default.is) there))

pub returns-then-is_at : goal.returns-then-is_at
returns-then-is_at c =
    let there = stands-there c.args.list.now _ c.args.tree.now (c.is_at.ensures.0 c.if-is_at.true) in
    among_from_contains c.args.list.now c.args.tree.now true (λ _. there, λ _. refl)
