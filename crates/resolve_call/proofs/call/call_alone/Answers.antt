use Rattle.turn_log.specs.Groups.{known}
use Rattle.fed_resolver.specs.Told.{situation_of}
use Rattle.resolve_call.proofs.FaultLaws.{unavailable}
use Rattle.resolve_call.proofs.KeyLaws.{has-keys}
use Rattle.resolve_call.proofs.PassLaws.{history-opened, legal-book, seen-only}
use Rattle.resolve_call.proofs.call.call_alone.Goals as goal

pub returns-clause-told : goal.returns-clause-told
returns-clause-told g c = λ anchors fresh.
    let events = c.resolve-outcome.result.trace.events in
    let all = seen-only c.args.asked.now.commons.now anchors c.args.pass.now c.resolve-outcome.new.pass fresh events c.resolve-outcome.ensures.kept c.resolve-outcome.ensures.resolves.events in
    let history = history-opened c.args.asked.now.commons.now anchors c.args.pass.now c.resolve-outcome.new.pass fresh c.is_history.ensures in
    record {
      alone = record {
        unseen = known c.args.pass.now;
        nothing = record { parts = fresh.unused.parts_unused; book = fresh.unused.book_unused };
        last = known c.resolve-outcome.new.pass;
        resolves = c.resolve-outcome.ensures.resolves;
        all = all;
        history = history;
      };
      keys =
          has-keys anchors (situation_of c.args.asked.now.request.now c.args.asked.now.signer.now c.args.asked.now.moment) c.args.asked.now.signer.now c.resolve-outcome.result
          (legal-book c.args.asked.now.commons.now anchors c.args.pass.now c.resolve-outcome.new.pass fresh events all history)
          c.resolve-outcome.ensures.resolves.tells;
      sealed = c.resolve-outcome.ensures.sealed;
      reads = c.resolve-outcome.ensures.reads;
    }

pub returns-clause-fails : goal.returns-clause-fails
returns-clause-fails g c = record {
  faults = c.resolve-outcome.ensures.link.faults;
  unavailable = unavailable (situation_of c.args.asked.now.request.now c.args.asked.now.signer.now c.args.asked.now.moment) c.args.asked.now.signer.now c.resolve-outcome.result _ _ c.resolve-outcome.ensures.resolves.tells c.resolve-outcome.ensures.link.faults;
}
