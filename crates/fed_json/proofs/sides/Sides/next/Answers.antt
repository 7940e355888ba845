use Rattle.std.proofs.Common.{◌∙◌, refl, [], None}
use Rattle.fed_json.proofs.SideBySide.{next-none, next-upper, next-lower, next-less, next-greater, next-equal}
use Rattle.fed_json.proofs.sides.Sides.next.Goals as goal

pub returns-in-None-None-clause-side : goal.returns-in-None-None-clause-side
returns-in-None-None-clause-side g c =
    next-none g.U.HasName.name_of g.L.HasName.name_of _ _ c.requires.upper_rises c.requires.lower_rises [] None None c.in-None-None.ensures.cases c.in-None-None.ensures'.cases

pub returns-in-None-Some-clause-side : goal.returns-in-None-Some-clause-side
returns-in-None-Some-clause-side g c =
    next-lower g.U.HasName.name_of g.L.HasName.name_of _ _ c.requires.upper_rises c.requires.lower_rises _ _ _ _ _
    c.in-None-Some.ensures'.cases.0 c.in-None-Some.ensures.cases c.only_lower.ensures.name c.only_lower.ensures.upper c.only_lower.ensures.lower

pub returns-in-Some-None-clause-side : goal.returns-in-Some-None-clause-side
returns-in-Some-None-clause-side g c =
    next-upper g.U.HasName.name_of g.L.HasName.name_of _ _ c.requires.upper_rises c.requires.lower_rises _ _ _ _ _
    c.in-Some-None.ensures.cases.0 c.in-Some-None.ensures'.cases c.only_upper.ensures.name c.only_upper.ensures.upper c.only_upper.ensures.lower

pub returns-in-Less-clause-side : goal.returns-in-Less-clause-side
returns-in-Less-clause-side g c =
    let s = c.in-Some-Some in
    next-less g.U.HasName.name_of g.L.HasName.name_of _ _ c.requires.upper_rises c.requires.lower_rises _ _ _ _ _ _ _
    s.ensures.cases.0 s.ensures'.cases.0 _ _ (c.as_slice.ensures ∙ c.name.ensures) (c.as_slice-in-Some-Some.ensures ∙ c.name-in-Some-Some.ensures)
    c.in-Less.ensures c.only_upper-in-Less.ensures.name c.only_upper-in-Less.ensures.upper c.only_upper-in-Less.ensures.lower

pub returns-in-Greater-clause-side : goal.returns-in-Greater-clause-side
returns-in-Greater-clause-side g c =
    let s = c.in-Some-Some in
    next-greater g.U.HasName.name_of g.L.HasName.name_of _ _ c.requires.upper_rises c.requires.lower_rises _ _ _ _ _ _ _
    s.ensures.cases.0 s.ensures'.cases.0 _ _ (c.as_slice.ensures ∙ c.name.ensures) (c.as_slice-in-Some-Some.ensures ∙ c.name-in-Some-Some.ensures)
    c.in-Greater.ensures c.only_lower-in-Greater.ensures.name c.only_lower-in-Greater.ensures.upper c.only_lower-in-Greater.ensures.lower

pub returns-in-Equal-clause-side : goal.returns-in-Equal-clause-side
returns-in-Equal-clause-side g c =
    let s = c.in-Some-Some in
    next-equal g.U.HasName.name_of g.L.HasName.name_of _ _ c.requires.upper_rises c.requires.lower_rises _ _ _ _ _ _ _
    s.ensures.cases.0 s.ensures'.cases.0 _ _ (c.as_slice.ensures ∙ c.name.ensures) (c.as_slice-in-Some-Some.ensures ∙ c.name-in-Some-Some.ensures)
    c.in-Equal.ensures c.name-in-Equal.ensures refl refl
