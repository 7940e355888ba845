use Rattle.std.proofs.Common.{◌≡◌, ◌++◌, ◌∙◌, [], ap}
use Rattle.std.proofs.lemmas.List.Elements.{All-append}
use Rattle.fed_json.specs.Forms.{IsWellFormed}
use Rattle.fed_json.specs.Sets.{once, union_of}
use Rattle.fed_json.proofs.Onces.{Contains-union_of, AllPairs-once, All-once}
use Rattle.fed_json.proofs.sets.union.Goals as goal

list_is : (c : goal.After-drop-places-3) → c.add_all-2.new.list ≡ union_of c.args.a.now c.args.b.now
list_is c =
    c.in_ok-add_all-2.ensures.list c.args.a.now (c.in_ok-add_all.ensures.list [] c.new-list.ensures ∙ ap once c.as_slice.ensures) ∙ ap (λ b. once (c.args.a.now ++ b)) c.as_slice-2.ensures

pub returns-clause-list : goal.returns-clause-list
returns-clause-list c = list_is c

pub returns-clause-members : goal.returns-clause-members
returns-clause-members c x = rw (list_is c) (Contains-union_of c.args.a.now c.args.b.now x)

pub returns-clause-distinct : goal.returns-clause-distinct
returns-clause-distinct c = rw (list_is c) (AllPairs-once (c.args.a.now ++ c.args.b.now))

pub returns-clause-well_formed : goal.returns-clause-well_formed
returns-clause-well_formed c left right =
    rw (list_is c) (All-once IsWellFormed (c.args.a.now ++ c.args.b.now) (All-append IsWellFormed c.args.a.now c.args.b.now left right))
