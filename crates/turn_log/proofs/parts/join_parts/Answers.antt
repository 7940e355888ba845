use Rattle.std.proofs.Common.{rules, ℕ, ◌≡◌, ◌<◌, length, get_or, sym, subst, arith}
use Rattle.turn_log.specs.Passes.{account, IsJoined}
use Rattle.turn_log.specs.Objects.{IsOf}
use Rattle.turn_log.specs.Parts.{AreTaken, ChangesAt}
use Rattle.turn_log.proofs.PartLists.{popped, taken_more}
use Rattle.turn_log.proofs.parts.join_parts.Goals as goal

pub join_at-requires-clause-other : goal.join_at-requires-clause-other
join_at-requires-clause-other g c = λ k.
    let all = c.args.others.items in
    let rest = c.pop.new.self.items in
    let q = c.in-Some.other in
    let p = popped all c.loop-other.others.items rest q c.loop-other.invariant.1 c.in-Some.ensures.items in
    let e : c.len-at.result ≡ length rest = search rules in
    let l = p.2 in
    let n = c.requires.others.count in
    let less : length rest < length c.args.objects.now.items = omega arith in
    subst (λ (m : ℕ). IsOf g.T.Sequential.steps (get_or c.args.objects.now.items m k) q) (sym e) (subst (λ z. IsOf g.T.Sequential.steps (get_or c.args.objects.now.items (length rest) k) z) (sym p.1) (c.requires.others.each (length rest) k q less))

pub loop-other-preserved : goal.loop-other-preserved
loop-other-preserved g c =
    let all = c.args.others.items in
    let rest = c.pop.new.self.items in
    let q = c.in-Some.other in
    let p = popped all c.loop-other.others.items rest q c.loop-other.invariant.1 c.in-Some.ensures.items in
    let e : c.len-at.result ≡ length rest = search rules in
    let l = p.2 in
    let n = c.requires.others.count in
    let less : length rest < length c.args.objects.now.items = omega arith in
    let s = subst (λ (m : ℕ). AreTaken g.T.Sequential.steps g.T.Opening.opening c.args.objects.now.items c.args.passes.now.items all c.loop-other.passes.items m) p.3 c.loop-other.invariant.0 in
    let change = subst (λ (m : ℕ). ChangesAt c.loop-other.passes.items m (λ a b. IsJoined (account a) (account q) (account b)) c.join_at.new.passes.items) e c.join_at.ensures.joined in
    (taken_more g.T.Sequential.steps g.T.Opening.opening c.args.objects.now.items c.args.passes.now.items all c.loop-other.passes.items c.join_at.new.passes.items q (length rest) s less l p.1 c.join_at.ensures.passes change, p.0)
