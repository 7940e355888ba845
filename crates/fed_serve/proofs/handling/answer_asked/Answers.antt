use Rattle.std.proofs.Common.{refl, ap, ◌∙◌, None}
use Rattle.node_requests.specs.declared.kind.Kind.{Kind}
use Rattle.fed_serve.proofs.Asking.{entity_answered, if_some, issued_answered, keys_answered, others_issued}
use Rattle.fed_serve.proofs.Causes.{issued_made}
use Rattle.fed_serve.proofs.handling.answer_asked.Goals as goal

pub returns-in-Resolution-clause-answer : goal.returns-in-Resolution-clause-answer
returns-in-Resolution-clause-answer g c =
    rw c.in-Resolution.is (entity_answered c.args.node.now _ c.args.context.now.t _ _ c.in-Resolution.request c.resolve_entity.result c.resolve_entity.ensures.answer)

pub returns-in-Rotation-clause-answer : goal.returns-in-Rotation-clause-answer
returns-in-Rotation-clause-answer g c =
    rw c.in-Rotation.is (keys_answered c.args.node.now _ c.args.context.now.t _ _ c.in-Rotation.change c.change_keys.result (record { web = refl; calls = refl; faults = refl }) c.change_keys.ensures.answer)

pub returns-in_default : goal.returns-in_default
returns-in_default g c =
    let made = c.issue-response.result in
    record {
      kept = if_some c.args.node.now.resolver (λ part of. record { of = of; whole = λ owns. owns }) c.requires.of;
      answer = issued_answered c.args.node.now _ c.args.context.now.t _ _ c.args.asked made c.plain.result
          (record { known = refl; link = record { web = refl; calls = refl; faults = refl } })
          (others_issued c.args.asked c.in_default.not-Resolution c.in_default.not-Rotation)
          (c.plain.ensures ∙ ap (λ (k : Kind). record { kind = k; response = made; trace = None }) c.kind.ensures)
          (issued_made c.args.node.now.registry c.args.context.now.t c.args.asked _ _ made c.issue-response.ensures.response c.issue-response.ensures.counted);
    }
