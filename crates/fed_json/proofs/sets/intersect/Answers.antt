use Rattle.std.proofs.Common.{◌≡◌, ◌∙◌, ap, filter}
use Rattle.std.proofs.lemmas.List.Elements.{All-filter}
use Rattle.fed_json.specs.Forms.{IsWellFormed}
use Rattle.fed_json.specs.Sets.{is_among, intersection_of}
use Rattle.fed_json.proofs.Onces.{Contains-intersection_of, AllPairs-once, All-once}
use Rattle.fed_json.proofs.sets.intersect.Goals as goal

list_is : (c : goal.After-drop-within-3) → c.add_common.new.list ≡ intersection_of c.args.a.now c.args.b.now
list_is c = c.in_ok-add_common.ensures c.new-list.ensures ∙ ap (λ a. intersection_of a c.args.b.now) c.as_slice.ensures

pub returns-clause-members : goal.returns-clause-members
returns-clause-members c x = rw (list_is c) (Contains-intersection_of c.args.a.now c.args.b.now x)

pub returns-clause-distinct : goal.returns-clause-distinct
returns-clause-distinct c = rw (list_is c) (AllPairs-once (filter (is_among c.args.b.now) c.args.a.now))

pub returns-clause-well_formed : goal.returns-clause-well_formed
returns-clause-well_formed c all = rw (list_is c) (All-once IsWellFormed (filter (is_among c.args.b.now) c.args.a.now) (All-filter (is_among c.args.b.now) IsWellFormed c.args.a.now all))
