use Rattle.std.proofs.Common.{◌≡◌, ◌<◌, ◌++◌, ◌∷◌, [], ℕ, Some, sym, subst}
use Rattle.std.specs.List.{slice_get}
use Rattle.fed_json.proofs.PlaceLaws.{places-longer, stands-last}
use Rattle.fed_json.proofs.places.Places.note.Goals as goal

pub returns-clause-known : goal.returns-clause-known
returns-clause-known c new kept =
    let list = c.args.list.now in
    let tree = c.args.tree.now in
    let known = c.requires c.if-self.false in (
      subst (λ (n : ℕ). 0 < n) (sym c.in_ok-put.ensures.stays.1) known.0,
      c.in_ok-put.ensures.put (list ++ tree ∷ []) list (subst (λ n. slice_get (list ++ tree ∷ []) n ≡ Some tree) (sym c.len.ensures) (stands-last list tree))
          (places-longer c.args.self.now list (tree ∷ []) list known.1),
    )
