use Rattle.std.proofs.Common.{rules, ◌∙◌}
use Rattle.turn_log.proofs.Steps.{joins, learns}
use Rattle.turn_log.proofs.AfterCalls.{after_join}
use Rattle.turn_log.proofs.kept.Kept+T.join.Goals as goal

pub join_seat-requires : goal.join_seat-requires
join_seat-requires g c = (search rules, search rules, search rules, search rules, joins g.T.Sequential.steps _ _ _ _ c.args.pass.now.idle.holds c.args.other.idle.holds)

pub load-requires : goal.load-requires
load-requires g c = (search rules, search rules, learns g.T.Sequential.steps _ _ _)

pub invariant_of-pass : goal.invariant_of-pass
invariant_of-pass g c =
    let a = after_join g.T.Sequential.steps c.args.pass.now.seat.me.0 c.args.other.seat.me.0 c.args.pass.now.seat.me c.join_seat.new.seat.me c.load.new.seat.me c.args.pass.now.idle c.args.pass.now.own.share c.args.other.own.share c.join_seat.ensures.2 c.load.ensures.2.0 c.load.ensures.2.1 in
    record { idle = a.idle; own = a.own }

pub returns-clause-joined : goal.returns-clause-joined
returns-clause-joined g c =
    let a = after_join g.T.Sequential.steps c.args.pass.now.seat.me.0 c.args.other.seat.me.0 c.args.pass.now.seat.me c.join_seat.new.seat.me c.load.new.seat.me c.args.pass.now.idle c.args.pass.now.own.share c.args.other.own.share c.join_seat.ensures.2 c.load.ensures.2.0 c.load.ensures.2.1 in
    record { seen = a.seen; mine = a.mine; share = a.share; begins = a.begins; begins_other = a.begins_other; apart = a.apart }

pub returns-clause-object : goal.returns-clause-object
returns-clause-object g c =
    let a = after_join g.T.Sequential.steps c.args.pass.now.seat.me.0 c.args.other.seat.me.0 c.args.pass.now.seat.me c.join_seat.new.seat.me c.load.new.seat.me c.args.pass.now.idle c.args.pass.now.own.share c.args.other.own.share c.join_seat.ensures.2 c.load.ensures.2.0 c.load.ensures.2.1 in
    record {
      table = c.load.ensures.0 ∙ (c.join_seat.ensures.0 ∙ c.requires.pass.table);
      origin = a.first ∙ c.requires.pass.origin;
      legal = a.legal _ c.requires.pass.origin;
    }
