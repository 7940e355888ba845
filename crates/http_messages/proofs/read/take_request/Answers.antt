use Rattle.std.proofs.Common.{◌≡◌, ◌≤◌, ◌<◌, ◌+◌, ◌-◌, ◌∙◌, ap, ap₂, refl, sym, subst, arith, rules, ℕ, Bool, Option, Err, length, take, drop, slice_range}
use Rattle.std.proofs.lemmas.List.{length-take-le}
use Rattle.http_messages.specs.Plans.{SaysPlan}
use Rattle.http_messages.specs.Readings.{Taken}
use Rattle.http_messages.specs.Requests.{IsRefused}
use Rattle.http_messages.proofs.Ends.{end_inside}
use Rattle.http_messages.proofs.Takings.{asked_as, broke_body, broke_early, came_on, cut_body, none_came, not_false, one_came, refused, wanting, whole_request}
use Rattle.http_messages.proofs.read.take_request.Goals as goal

pub returns-in_default-clause-taken : goal.returns-in_default-clause-taken
returns-in_default-clause-taken g c =
    let source = g.P.Source in
    let a = c.args.from.now in
    let b = c.pour_head.new.from in
    let size : c.len.result ≡ length c.pour_head.new.text.items = search rules in
    subst (Taken (source.left a) (source.left b)) (sym c.without_head.ensures)
    (none_came (source.left a) (source.left b) (source.source_side a) (source.source_side b) c.pour_head.new.text.items c.in-Ok.end c.len.result c.in_default.is size c.in-Ok.ensures.comes)

pub slice_bounds-read_plan-end : goal.slice_bounds-read_plan-end
slice_bounds-read_plan-end g c =
    let source = g.P.Source in
    let h = one_came (source.left c.args.from.now) (source.left c.pour_head.new.from) (source.source_side c.args.from.now) (source.source_side c.pour_head.new.from) c.pour_head.new.text.items c.in-Ok.end c.in-Some.len c.in-Some.is c.in-Ok.ensures.comes in
    let t = c.pour_head.new.text.items in
    sym (ap (λ y. length (take c.in-Some.len y)) c.deref.ensures.value ∙ length-take-le c.in-Some.len t (end_inside t c.in-Some.len h.2))

pub returns-in_default-read_plan-clause-taken : goal.returns-in_default-read_plan-clause-taken
returns-in_default-read_plan-clause-taken g c =
    let source = g.P.Source in
    let h = one_came (source.left c.args.from.now) (source.left c.pour_head.new.from) (source.source_side c.args.from.now) (source.source_side c.pour_head.new.from) c.pour_head.new.text.items c.in-Ok.end c.in-Some.len c.in-Some.is c.in-Ok.ensures.comes in
    refused _ _ c.pour_head.new.text.items c.in-Some.len h.0 h.1 h.2 (subst (λ y. IsRefused (take c.in-Some.len y)) c.deref.ensures.value c.in_default-read_plan.ensures)

pub overflow_add-until : goal.overflow_add-until
overflow_add-until g c =
    let source = g.P.Source in
    let h = one_came (source.left c.args.from.now) (source.left c.pour_head.new.from) (source.source_side c.args.from.now) (source.source_side c.pour_head.new.from) c.pour_head.new.text.items c.in-Ok.end c.in-Some.len c.in-Some.is c.in-Ok.ensures.comes in
    let inside = end_inside c.pour_head.new.text.items c.in-Some.len h.2 in
    omega (arith, inside, h.1, c.in-Some-read_plan.ensures.small)

pub returns-in-Err-clause-taken : goal.returns-in-Err-clause-taken
returns-in-Err-clause-taken g c =
    let source = g.P.Source in
    let a = c.args.from.now in
    let b = c.pour_head.new.from in
    subst (λ e. Taken (source.left a) (source.left b) (Err e)) (sym c.end_of.ensures)
    (broke_early (Option ℕ) (source.left a) (source.left b) (source.source_side a) (source.source_side b) c.pour_head.new.text.items c.in-Err.fault c.in-Err.ensures.broke c.in-Err.ensures.few.0)

pub returns-in-Err-pour_to-clause-taken : goal.returns-in-Err-pour_to-clause-taken
returns-in-Err-pour_to-clause-taken g c =
    let source = g.P.Source in
    let h = one_came (source.left c.args.from.now) (source.left c.pour_head.new.from) (source.source_side c.args.from.now) (source.source_side c.pour_head.new.from) c.pour_head.new.text.items c.in-Ok.end c.in-Some.len c.in-Some.is c.in-Ok.ensures.comes in
    let t = c.pour_head.new.text.items in
    let says = subst (λ y. SaysPlan (take c.in-Some.len y) c.in-Some-read_plan.plan) c.deref.ensures.value c.in-Some-read_plan.ensures in
    subst (λ e. Taken (source.left c.args.from.now) (source.left c.pour_to.new.from) (Err e)) (sym c.end_of-in-Err-pour_to.ensures)
    (broke_body Bool _ _ _ (source.source_side c.pour_head.new.from) (source.source_side c.pour_to.new.from) t c.pour_to.new.text.items c.in-Some.len (c.in-Some.len + c.in-Some-read_plan.plan.size) c.in-Err-pour_to.fault c.in-Some-read_plan.plan
    h.0 h.1 h.2 says refl c.in-Err-pour_to.ensures.broke c.in-Err-pour_to.ensures.short c.in-Err-pour_to.ensures.few.0)

pub returns-then-len-until-clause-taken : goal.returns-then-len-until-clause-taken
returns-then-len-until-clause-taken g c =
    let source = g.P.Source in
    let h = one_came (source.left c.args.from.now) (source.left c.pour_head.new.from) (source.source_side c.args.from.now) (source.source_side c.pour_head.new.from) c.pour_head.new.text.items c.in-Ok.end c.in-Some.len c.in-Some.is c.in-Ok.ensures.comes in
    let t = c.pour_head.new.text.items in
    let u = c.pour_to.new.text.items in
    let p = c.in-Ok-pour_to.ensures.comes in
    let says = subst (λ y. SaysPlan (take c.in-Some.len y) c.in-Some-read_plan.plan) c.deref.ensures.value c.in-Some-read_plan.ensures in
    let short : length u < c.in-Some.len + c.in-Some-read_plan.plan.size = omega (arith, c.len-in-Ok-pour_to.ensures, c.if-len-until.true) in
    cut_body _ _ t u p.got c.in-Some.len c.in-Ok-pour_to.field-0 c.in-Some-read_plan.plan (came_on _ _ _ t u p.got _ h.0 p.came.0 p.adds) p.adds h.1 h.2 says short
    (not_false c.in-Ok-pour_to.field-0 (λ e. let full = c.in-Ok-pour_to.ensures.full e in omega (arith, full, short)))

pub returns-in-Ok-asked-clause-taken : goal.returns-in-Ok-asked-clause-taken
returns-in-Ok-asked-clause-taken g c =
    let source = g.P.Source in
    let h = one_came (source.left c.args.from.now) (source.left c.pour_head.new.from) (source.source_side c.args.from.now) (source.source_side c.pour_head.new.from) c.pour_head.new.text.items c.in-Ok.end c.in-Some.len c.in-Some.is c.in-Ok.ensures.comes in
    let t = c.pour_head.new.text.items in
    let u = c.pour_to.new.text.items in
    let p = c.in-Ok-pour_to.ensures.comes in
    let plan = c.in-Some-read_plan.plan in
    let inside = end_inside t c.in-Some.len h.2 in
    let small = c.in-Some-read_plan.ensures.small in
    let says = subst (λ y. SaysPlan (take c.in-Some.len y) plan) c.deref.ensures.value c.in-Some-read_plan.ensures in
    let enough : c.in-Some.len + plan.size ≤ length u = omega (arith, c.len-in-Ok-pour_to.ensures, c.if-len-until.false) in
    let target = c.of-target.ensures ∙ ap (λ y. slice_range (take c.in-Some.len y) plan.target.start plan.target.end) c.deref-else-len-until.ensures.value in
    let size : (c.in-Some.len + plan.size) - c.in-Some.len ≡ plan.size = omega arith in
    let body = ap₂ (λ n y. take n (drop c.in-Some.len y)) size c.deref-else-len-until-2.ensures.value in
    whole_request _ _ t u p.got c.in-Some.len c.in-Ok-pour_to.field-0 plan c.in-Ok-asked.request (came_on _ _ _ t u p.got _ h.0 p.came.0 p.adds) p.adds h.1 h.2 says enough
    (omega (arith, c.in-Ok-pour_to.ensures.count, inside, h.1, small)) (asked_as c.in-Ok-asked.request plan.method _ _ _ _ target body c.in-Ok-asked.ensures)

pub returns-clause-taken : goal.returns-clause-taken
returns-clause-taken g c =
    let source = g.P.Source in
    let h = one_came (source.left c.args.from.now) (source.left c.pour_head.new.from) (source.source_side c.args.from.now) (source.source_side c.pour_head.new.from) c.pour_head.new.text.items c.in-Ok.end c.in-Some.len c.in-Some.is c.in-Ok.ensures.comes in
    let t = c.pour_head.new.text.items in
    let u = c.pour_to.new.text.items in
    let p = c.in-Ok-pour_to.ensures.comes in
    let inside = end_inside t c.in-Some.len h.2 in
    let small = c.in-Some-read_plan.ensures.small in
    wanting _ _ u c.in-Ok-pour_to.field-0 (came_on _ _ _ t u p.got _ h.0 p.came.0 p.adds) (omega (arith, c.in-Ok-pour_to.ensures.count, inside, h.1, small))
