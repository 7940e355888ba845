use Rattle.std.proofs.Common.{rules, ◌≡◌, ◌<◌, ◌+◌, ℕ, List, [], ◌∷◌, ◌++◌, false, length, sym, subst, arith}
use Rattle.turn_log.specs.Passes.{is_alone}
use Rattle.turn_log.specs.Parts.{AreSplit}
use Rattle.turn_log.proofs.PartLists.{split_more, split_none, split_same}
use Rattle.turn_log.proofs.parts.split_parts.Goals as goal

pub returns-in_err-push-clause-same : goal.returns-in_err-push-clause-same
returns-in_err-push-clause-same g c =
    let less : c.loop-at.at < length c.args.objects.now.items = search rules in
    let s = split_more g.T.Sequential.steps g.T.Opening.opening c.args.objects.now.items c.args.passes.now.items c.loop-at.passes.items c.split_at-pass.new.passes.items c.loop-at.made.items c.split_at-pass.result c.loop-at.at (is_alone c.split_at-pass.result ≡ false) c.loop-at.invariant less c.split_at-pass.ensures.passes c.split_at-pass.ensures.same c.split_at-pass.ensures.new in
    split_same g.T.Sequential.steps g.T.Opening.opening c.args.objects.now.items c.args.passes.now.items c.split_at-pass.new.passes.items (c.loop-at.made.items ++ c.split_at-pass.result ∷ []) (c.loop-at.at + 1) s

pub loop-at-preserved : goal.loop-at-preserved
loop-at-preserved g c =
    let less : c.loop-at.at < length c.args.objects.now.items = search rules in
    let s = split_more g.T.Sequential.steps g.T.Opening.opening c.args.objects.now.items c.args.passes.now.items c.loop-at.passes.items c.split_at-pass.new.passes.items c.loop-at.made.items c.split_at-pass.result c.loop-at.at (is_alone c.split_at-pass.result ≡ false) c.loop-at.invariant less c.split_at-pass.ensures.passes c.split_at-pass.ensures.same c.split_at-pass.ensures.new in
    subst (λ (l : List _). AreSplit g.T.Sequential.steps g.T.Opening.opening c.args.objects.now.items c.args.passes.now.items c.split_at-pass.new.passes.items l (c.loop-at.at + 1)) (sym c.in_ok-push.ensures.items) s

pub loop-at-init : goal.loop-at-init
loop-at-init g c =
    subst (λ (l : List _). AreSplit g.T.Sequential.steps g.T.Opening.opening c.args.objects.now.items c.args.passes.now.items c.args.passes.now.items l 0) (sym c.requires.made)
    (split_none g.T.Sequential.steps g.T.Opening.opening c.args.objects.now.items c.args.passes.now.items c.requires.passes)

pub returns-clause-split : goal.returns-clause-split
returns-clause-split g c =
    let all : c.loop-at.at ≡ length c.args.objects.now.items = omega (arith, c.loop-at-test.false, c.loop-at.auto.at-end) in
    subst (λ (n : ℕ). AreSplit g.T.Sequential.steps g.T.Opening.opening c.args.objects.now.items c.args.passes.now.items c.loop-at.passes.items c.loop-at.made.items n) all c.loop-at.invariant

pub returns-clause-same : goal.returns-clause-same
returns-clause-same g c =
    split_same g.T.Sequential.steps g.T.Opening.opening c.args.objects.now.items c.args.passes.now.items c.loop-at.passes.items c.loop-at.made.items c.loop-at.at c.loop-at.invariant
