use Rattle.std.proofs.Common.{◌≡◌, ap, rules, arith, length, take, drop, ◌-◌, take_all, refl, List, ℕ}
use Rattle.std.proofs.lemmas.List.{length-drop}
use Rattle.http_plain.proofs.Exchanging.{left_if, sent_broken, sent_none, sent_on}
use Rattle.http_plain.proofs.exchange.send_all.Goals as goal

whole : (x : List ℕ) (i : ℕ) → take (length x - i) (drop i x) ≡ drop i x
whole x i = take_all (length x - i) (drop i x) (omega (arith, length-drop i x))

pub loop-at-init : goal.loop-at-init
loop-at-init g c = record {
  at = omega arith;
  open_still = c.requires;
  sent = sent_none _;
  count = refl;
  still = refl;
}

pub loop-at-preserved : goal.loop-at-preserved
loop-at-preserved g c = record {
  at = omega (arith, c.in_ok-at.ensures.within.1, ap length (whole c.args.message.now c.loop-at.at), length-drop c.loop-at.at c.args.message.now);
  open_still = c.send.ensures.open;
  sent = sent_on _ _ _ c.args.message.now _ c.loop-at.at c.in_ok-at.field-0 (whole c.args.message.now c.loop-at.at) c.loop-at.invariant.sent c.in_ok-at.ensures.sent;
  count = search rules;
  still = search rules;
}

pub returns-in_err-at-clause-part : goal.returns-in_err-at-clause-part
returns-in_err-at-clause-part g c =
    left_if c.from_residual.result (sent_broken _ _ _ c.args.message.now c.loop-at.at c.loop-at.invariant.at c.loop-at.invariant.sent c.in_err-at.ensures.none)
