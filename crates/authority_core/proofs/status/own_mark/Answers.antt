use Rattle.std.proofs.Common.{◌∙◌, refl, sym}
use Rattle.authority_core.specs.Nodes.{node_of}
use Rattle.authority_core.proofs.StatusLaws.{mark-none, own-none, parts-some, tests-none}
use Rattle.authority_core.proofs.status.own_mark.Goals as goal

pub own_mark_in-requires-clause-parts : goal.own_mark_in-requires-clause-parts
own_mark_in-requires-clause-parts g c = (parts-some c.args.text.now _ c.in-Some.compact c.in-Some.is c.in_ok-compact.ensures.exact c.in_ok-compact.ensures.found).0

pub own_mark_in-requires-clause-is : goal.own_mark_in-requires-clause-is
own_mark_in-requires-clause-is g c = (parts-some c.args.text.now _ c.in-Some.compact c.in-Some.is c.in_ok-compact.ensures.exact c.in_ok-compact.ensures.found).1

pub returns-in-Some-clause-mark : goal.returns-in-Some-clause-mark
returns-in-Some-clause-mark g c =
    rw (parts-some c.args.text.now _ c.in-Some.compact c.in-Some.is c.in_ok-compact.ensures.exact c.in_ok-compact.ensures.found).2 at c.own_mark_in.ensures.mark

pub returns-in-Some-clause-counted : goal.returns-in-Some-clause-counted
returns-in-Some-clause-counted g c =
    rw (parts-some c.args.text.now _ c.in-Some.compact c.in-Some.is c.in_ok-compact.ensures.exact c.in_ok-compact.ensures.found).2 at c.own_mark_in.ensures.counted

pub returns-in-None-clause-mark : goal.returns-in-None-clause-mark
returns-in-None-clause-mark g c =
    own-none (node_of c.args.node.now c.args.ring.now) c.args.text.now (mark-none c.args.node.now.id c.args.text.now (sym c.in-None.is ∙ c.in_ok-compact.ensures.exact))

pub returns-in-None-clause-counted : goal.returns-in-None-clause-counted
returns-in-None-clause-counted g c =
    tests-none (node_of c.args.node.now c.args.ring.now) c.args.text.now _ _ (mark-none c.args.node.now.id c.args.text.now (sym c.in-None.is ∙ c.in_ok-compact.ensures.exact)) refl
