use Rattle.std.proofs.Common.{◌≡◌, ◌∙◌, ap, sym, arith, [], subst, refl, length, drop, true, inr, ◌++◌, append_assoc, append-nil}
use Rattle.http_messages.specs.Heads.{head_end, behind}
use Rattle.http_messages.proofs.Ends.{skip}
use Rattle.http_messages.proofs.inflow.pour_head_on.Goals as goal

pub loop-text-init : goal.loop-text-init
loop-text-init g c = record {
  ready = c.requires.ready;
  comes = record { got = []; came = g.I.Inflow.came_none c.args.from.now; adds = sym (append-nil c.args.text.now.items) };
  bound = c.requires.small;
  none = c.requires.none;
  asked = refl;
  still = refl;
  count = refl;
}

pub returns-then-branch-clause-comes : goal.returns-then-branch-clause-comes
returns-then-branch-clause-comes g c =
    let flow = g.I.Inflow in
    let e = c.if-branch.true in
    let old = c.loop-text.invariant.comes in
    let p = c.in_ok-pour.ensures.comes in
    let same = c.in_ok-pour.ensures.stays e in
    let came = flow.came_on c.args.from.now c.loop-text.from c.pour.new.from old.got p.got true old.came (subst (flow.came c.loop-text.from c.pour.new.from p.got) e p.came) in
    let all = p.adds ∙ ap (λ t. t ++ p.got) old.adds ∙ append_assoc c.args.text.now.items old.got p.got in
    (true, record { got = old.got ++ p.got; came = came; adds = all }, omega (arith, ap length same, c.loop-text.invariant.bound), ap head_end same ∙ c.loop-text.invariant.none, inr refl)

pub head_end-requires-clause-before : goal.head_end-requires-clause-before
head_end-requires-clause-before g c =
    let p = c.in_ok-pour.ensures.comes in
    let whole = c.deref.ensures.value ∙ p.adds in
    subst (λ t. head_end t ≡ behind c.saturating_sub.result (head_end (drop c.saturating_sub.result t))) (sym whole)
    (skip c.saturating_sub.result c.loop-text.text.items p.got (omega arith) c.loop-text.invariant.none)
