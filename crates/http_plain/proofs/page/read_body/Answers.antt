use Rattle.std.proofs.Common.{◌≡◌, ◌-◌, ℕ, List, length, take, drop, take_all, IfOk, sym, ap, ◌∙◌, subst, arith}
use Rattle.std.proofs.lemmas.List.{length-drop}
use Rattle.http_messages.specs.FlowLaws.{failed_map}
use Rattle.http_messages.specs.Flows.{OnFailed}
use Rattle.http_plain.specs.Shown.{LacksBody, LacksRest, ShowsBody, ShowsRest}
use Rattle.http_plain.proofs.Showing.{body_shown, lacks_chunks}
use Rattle.http_plain.proofs.page.read_body.Goals as goal

whole : (x : List ℕ) (i : ℕ) → take (length x - i) (drop i x) ≡ drop i x
whole x i = take_all (length x - i) (drop i x) (omega (arith, length-drop i x))

pub returns-in-Chunked-clause-page : goal.returns-in-Chunked-clause-page
returns-in-Chunked-clause-page g c =
    let flow = g.I.Inflow.came c.args.from.now c.read_chunks.new.from in
    let text = c.args.text.now.items in
    let rest = ap (λ y. take (length y - c.args.len) (drop c.args.len y)) c.deref.ensures.value ∙ whole text c.args.len in
    let page = subst (λ s. IfOk c.read_chunks.result (λ p. ShowsRest flow s p)) rest c.read_chunks.ensures.page in
    subst (λ f. IfOk c.read_chunks.result (λ p. ShowsBody flow text c.args.len f p)) (sym c.in-Chunked.is) (body_shown flow text c.args.len c.read_chunks.result c.requires.head.inside (omega (arith, c.requires.head.inside, c.requires.head.small)) page)

pub returns-in-Chunked-clause-broke : goal.returns-in-Chunked-clause-broke
returns-in-Chunked-clause-broke g c =
    let broke = g.I.Inflow.broke c.args.from.now c.read_chunks.new.from in
    let text = c.args.text.now.items in
    let rest = ap (λ y. take (length y - c.args.len) (drop c.args.len y)) c.deref.ensures.value ∙ whole text c.args.len in
    subst (λ f. OnFailed c.read_chunks.result (LacksBody broke text c.args.len f)) (sym c.in-Chunked.is)
    (failed_map c.read_chunks.result (λ h. lacks_chunks broke text c.args.len c.requires.head.inside (subst (LacksRest broke) rest h)) c.read_chunks.ensures.broke)
