use Rattle.std.proofs.Common.{◌≡◌, ◌<◌, ◌∙◌, ℕ, Some, refl, sym, ap, subst, length, take, take_all}
use Rattle.std.specs.List.{slice_get}
use Rattle.std.proofs.lemmas.Option.{slice_get_read}
use Rattle.fed_json.specs.Codes.{HavePlaces}
use Rattle.fed_json.proofs.PlaceLaws.{places-next, places-none}
use Rattle.fed_json.proofs.places.Places.put_all.Goals as goal

pub loop-place-init : goal.loop-place-init
loop-place-init c = record {
  some = (c.requires c.if-self.false).0;
  have = places-none c.args.self.now c.args.list.now;
}

pub loop-place-preserved : goal.loop-place-preserved
loop-place-preserved c =
    let list = c.args.list.now in
    let items = c.as_slice-tree-items.result.now in
    let place = c.loop-place.place in
    let tree = c.tree-item.result in
    let here : slice_get list place ≡ Some tree =
    subst (λ xs. slice_get xs place ≡ Some tree) c.as_slice-tree-items.ensures (slice_get_read items (length items) place tree refl c.loop-place-test.true c.tree-item.is) in
    record {
      some = subst (λ (n : ℕ). 0 < n) (sym c.in_ok-put.ensures.stays.1) c.loop-place.invariant.some;
      have = places-next c.put.new.self list items place tree c.as_slice-tree-items.ensures c.loop-place-test.true c.tree-item.is
          (c.in_ok-put.ensures.put list (take place list) here c.loop-place.invariant.have);
    }

pub returns : goal.returns
returns c kept =
    let all = ap (take c.loop-place.place) (sym c.as_slice-tree-items.ensures) ∙ take_all _ _ c.loop-place-test.false ∙ c.as_slice-tree-items.ensures in
    (c.loop-place.invariant.some, subst (HavePlaces c.loop-place.self c.args.list.now) all c.loop-place.invariant.have)
