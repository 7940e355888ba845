use Rattle.std.proofs.Common.{◌≡◌, ℕ, ◌+◌, List, [], ◌∷◌, ◌++◌, length, length-append, sym, subst, ap, ◌∙◌, arith}
use Rattle.turn_log.specs.Parts.{AllOwned, ArePasses, account_at}
use Rattle.turn_log.specs.Passes.{unused}
use Rattle.turn_log.proofs.PartLists.{are_more, new_more, owned_more}
use Rattle.turn_log.proofs.parts.open_parts.Goals as goal

pub loop-preserved : goal.loop-preserved
loop-preserved g c =
    let ks = c.loop.objects.items in
    let ps = c.loop.passes.items in
    let k = c.in_ok-object.object in
    let p = c.in_ok-object.pass in
    let inv = c.loop.invariant in
    let of = c.in_ok-object.ensures in
    let a = are_more g.T.Sequential.steps g.T.Opening.opening ks ps k p inv.0 (of.first ∙ c.in_ok-open.ensures) of.pass in
    let many = length-append ks (k ∷ []) in
    let size = inv.2 in
    let n : length (ks ++ k ∷ []) ≡ c.loop.counter + 1 = omega arith in
    let ek = c.in_ok-push.ensures.items in
    let ep = c.in_ok-push-2.ensures.items in (
      subst (λ (l : List _). ArePasses g.T.Sequential.steps g.T.Opening.opening l c.push-in-loop.new.self.items) (sym ek) (subst (λ (l : List _). ArePasses g.T.Sequential.steps g.T.Opening.opening (ks ++ k ∷ []) l) (sym ep) a),
      subst (λ (l : List _). AllOwned l) (sym ep) (owned_more ps p inv.1 of.whole),
      ap length ek ∙ n,
      subst (λ (l : List _). (m : ℕ) → account_at l m ≡ unused) (sym ep) (new_more ps p inv.3 of.unseen),
    )
