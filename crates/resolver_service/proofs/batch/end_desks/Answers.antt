use Rattle.std.proofs.Common.{◌≡◌, [], sym, ◌∙◌}
use Rattle.std.specs.Vec.Iter.{into_iter_items}
use Rattle.std.proofs.lemmas.List.{nil_from_length}
use Rattle.resolver_service.proofs.DeskLaws.{done_first, done_rest}
use Rattle.resolver_service.proofs.StopLaws.{ended_if_worn, ending_all, ending_next}
use Rattle.resolver_service.proofs.batch.end_desks.Goals as goal

pub end_desk-ended-requires-clause-done : goal.end_desk-ended-requires-clause-done
end_desk-ended-requires-clause-done g c = λ lives within. done_first c.args.server.now.part.now _ c.in-Some.desk _ c.in-Some.ensures.steps.0 c.loop-desk.invariant.1

pub loop-desk-preserved : goal.loop-desk-preserved
loop-desk-preserved g c =
    let inv = c.loop-desk.invariant in (
      c.end_desk-ended.ensures.of,
      done_rest c.args.server.now.part.now _ c.in-Some.desk _ c.in-Some.ensures.steps.0 inv.1,
      ending_next c.in-Some.desk _ _ _ _ _ _ c.loop-desk.ended c.end_desk-ended.result c.in-Some.ensures.steps.0 inv.2 c.end_desk-ended.ensures.ends,
      c.end_desk-ended.ensures.callers ∙ inv.3,
      c.end_desk-ended.ensures.port ∙ inv.4,
      c.end_desk-ended.ensures.exchanges ∙ inv.5,
      c.end_desk-ended.ensures.faults ∙ inv.6,
    )

pub returns-clause-ends : goal.returns-clause-ends
returns-clause-ends g c =
    let none : into_iter_items c.loop-desk.desk-iterator ≡ [] = nil_from_length (into_iter_items c.loop-desk.desk-iterator) (sym c.loop-desk.desk-iterator.rest.ok.0 ∙ c.in-None.ensures.steps.0) in
    ending_all (into_iter_items c.loop-desk.desk-iterator) _ _ _ c.loop-desk.ended none c.loop-desk.invariant.2

pub returns-clause-worn : goal.returns-clause-worn
returns-clause-worn g c =
    let none : into_iter_items c.loop-desk.desk-iterator ≡ [] = nil_from_length (into_iter_items c.loop-desk.desk-iterator) (sym c.loop-desk.desk-iterator.rest.ok.0 ∙ c.in-None.ensures.steps.0) in
    ended_if_worn c.args.server.now.part.now _ _ _ c.loop-desk.ended c.requires.done (ending_all (into_iter_items c.loop-desk.desk-iterator) _ _ _ c.loop-desk.ended none c.loop-desk.invariant.2)
