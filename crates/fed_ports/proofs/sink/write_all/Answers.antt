use Rattle.std.proofs.Common.{◌≡◌, ap, rules, arith, length, take, drop, ◌-◌, take_all, List, ℕ}
use Rattle.std.proofs.lemmas.List.{length-drop}
use Rattle.fed_ports.proofs.Appending.{appends_on}
use Rattle.fed_ports.proofs.sink.write_all.Goals as goal

whole : (x : List ℕ) (i : ℕ) → take (length x - i) (drop i x) ≡ drop i x
whole x i = take_all (length x - i) (drop i x) (omega (arith, length-drop i x))

pub loop-at-preserved : goal.loop-at-preserved
loop-at-preserved g c = record {
  at = omega (arith, c.in_ok-at.ensures.within.1, ap length (whole c.args.bytes.now c.loop-at.at), length-drop c.loop-at.at c.args.bytes.now);
  gave = appends_on _ _ _ c.args.bytes.now _ c.loop-at.at c.in_ok-at.field-0 (whole c.args.bytes.now c.loop-at.at) c.loop-at.invariant.gave c.in_ok-at.ensures.bytes;
  count = search rules;
  side = search rules;
}
