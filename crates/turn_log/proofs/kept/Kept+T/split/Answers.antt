use Rattle.std.proofs.Common.{rules, sym, ap, subst, ◌∙◌}
use Rattle.turn_log.specs.Runs.{IsAccount}
use Rattle.turn_log.proofs.Places.{account_in, given_account, kept_account}
use Rattle.turn_log.proofs.Steps.{splits}
use Rattle.turn_log.proofs.kept.Kept+T.split.Goals as goal

pub split_seat-seat-requires : goal.split_seat-seat-requires
split_seat-seat-requires g c = (search rules, search rules, splits g.T.Sequential.steps _ _)

pub invariant_of-pass : goal.invariant_of-pass
invariant_of-pass g c =
    let p = c.args.pass.now in
    let e = c.split_seat-seat.ensures.2 in
    record {
      idle = record { hands = ap (λ m. m.1) e ∙ p.idle.hands; holds = ap (λ m. m.0.holds) e ∙ p.idle.holds };
      own = subst (λ m. IsAccount (account_in m.0)) (sym e) (kept_account p.seat.me.0 p.own);
    }

pub invariant_of-result : goal.invariant_of-result
invariant_of-result g c =
    let p = c.args.pass.now in
    let e = c.split_seat-seat.ensures.4 in
    record {
      idle = record { hands = ap (λ m. m.1) e; holds = ap (λ m. m.0.holds) e };
      own = subst (λ m. IsAccount (account_in m.0)) (sym e) (given_account p.seat.me.0 p.own);
    }
