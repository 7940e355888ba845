use Rattle.std.proofs.Common.{rules, sym, ap, subst, ◌<◌, List, [], ◌∷◌, ◌++◌, length, Some, None, true, false, ◌∙◌}
use Rattle.turn_log.proofs.AfterCalls.{after_act, after_none, released, legal_more}
use Rattle.turn_log.specs.Views.{view, event_of, value_of}
use Rattle.turn_log.specs.declared.view.Share.{Share}
use Rattle.turn_log.proofs.Steps.{counts, commits, releases, counted, handed, swapped, first_value, some_same}
use mathlib.Core.Option.{none}
use Rattle.atomic_table.specs.Table.{step}
use Rattle.turn_log.proofs.kept.Kept+T.act.Goals as goal

pub load-count-requires : goal.load-count-requires
load-count-requires g c = (search rules, search rules, counts g.T.Sequential.steps _ _ _)

pub store-requires : goal.store-requires
store-requires g c =
    let S = g.T.Sequential.steps in
    let k = counted S (step 0 0 0 0 none) c.args.pass.now.seat.me c.take.new.seat.me c.load-count.new.seat.me c.load-count.result c.args.pass.now.idle.hands c.take.ensures.taken c.load-count.ensures.2 in
    (search rules, search rules, releases S _ _ c.load-count.new.seat.me k.stored (ap (λ m. m.0.holds) k.is) (ap (λ m. m.1) k.is) (k.value ∙ sym (ap (λ m. m.0.now) k.is)))

pub exchange-requires : goal.exchange-requires
exchange-requires g c = (search rules, (_, handed g.T.Sequential.steps _ _ _ (ap (λ m. m.1) c.exchange-value.ensures.3)))

pub fetch_add-requires : goal.fetch_add-requires
fetch_add-requires g c =
    let S = g.T.Sequential.steps in
    let k = counted S (step 0 0 0 0 none) c.args.pass.now.seat.me c.take.new.seat.me c.load-count.new.seat.me c.load-count.result c.args.pass.now.idle.hands c.take.ensures.taken c.load-count.ensures.2 in
    let v = view k.log c.args.pass.now.seat.me.0.mine c.args.pass.now.seat.me.0.share c.args.pass.now.seat.me.0.alone c.args.pass.now.seat.me.0.first true true (Some k.x) in
    let m3 = swapped S c.load-count.new.seat.me c.exchange-value.new.seat.me v _ k.stored k.is c.exchange-value.ensures.3 in
    let m4 = swapped S c.exchange-value.new.seat.me c.exchange.new.seat.me v _ _ m3 c.exchange.ensures.3 in
    let same = some_same _ _ (sym c.in-Some.is ∙ (first_value S c.load-count.new.seat.me.1 _ k.stored _ [] c.exchange-value.ensures.2 (ap (λ m. m.1) k.is) ∙ k.value)) in
    let n = k.count in
    let small : length k.log < 4611686018427387904 = search (rules, n) in (
      search rules,
      search rules,
      commits S _ _ c.exchange.new.seat.me k.x c.act-reply.new.self c.args.call c.act-reply.result (ap (λ m. m.0.holds) m4) (ap (λ m. m.0.fresh) m4) (ap (λ m. m.0.now) m4)
          (subst (λ (s : Share). 0 < s.units) (sym (ap (λ m. m.0.share) m4)) c.args.pass.now.own.share.some)
          (subst (λ (l : List _). length l < 4611686018427387904) (sym (ap (λ m. m.0.seen) m4)) small)
          (ap (λ m. event_of m.1) m4 ∙ (λ i. (c.of-made.ensures i, c.of.ensures i) ∷ []))
          (ap (λ m. value_of m.1) m4)
          (subst (λ x. S x c.args.call c.act-reply.result c.act-reply.new.self) same c.act-reply.ensures),
    )

pub store-requires-2 : goal.store-requires-2
store-requires-2 g c =
    let S = g.T.Sequential.steps in
    let k = counted S (step 0 0 0 0 none) c.args.pass.now.seat.me c.take.new.seat.me c.load-count.new.seat.me c.load-count.result c.args.pass.now.idle.hands c.take.ensures.taken c.load-count.ensures.2 in
    let v = view k.log c.args.pass.now.seat.me.0.mine c.args.pass.now.seat.me.0.share c.args.pass.now.seat.me.0.alone c.args.pass.now.seat.me.0.first true true (Some k.x) in
    let m3 = swapped S c.load-count.new.seat.me c.exchange-value.new.seat.me v _ k.stored k.is c.exchange-value.ensures.3 in
    let m4 = swapped S c.exchange-value.new.seat.me c.exchange.new.seat.me v _ _ m3 c.exchange.ensures.3 in
    let m5 = c.fetch_add.ensures.2 in (
      search rules,
      search rules,
      releases S _ _ c.fetch_add.new.seat.me _ (ap (λ m. m.0.holds) m5) (ap (λ m. m.1) m5 ∙ ap (λ m. m.1) m4) (sym (ap (λ m. m.0.now) m5 ∙ ap (λ m. value_of m.1) m4)),
    )

pub invariant_of-pass : goal.invariant_of-pass
invariant_of-pass g c =
    let S = g.T.Sequential.steps in
    let p = c.args.pass.now in
    let v = p.seat.me.0 in
    let k = counted S (step 0 0 0 0 none) p.seat.me c.take.new.seat.me c.load-count.new.seat.me c.load-count.result p.idle.hands c.take.ensures.taken c.load-count.ensures.2 in
    let a = after_none S v k.log true (Some k.x) (0, k.stored) c.load-count.new.seat.me c.store.new.seat.me p.own k.begins k.only k.covered k.is c.store.ensures.2 in
    record { idle = a.idle; own = a.own }

pub invariant_of-pass-2 : goal.invariant_of-pass-2
invariant_of-pass-2 g c =
    let S = g.T.Sequential.steps in
    let p = c.args.pass.now in
    let v = p.seat.me.0 in
    let k = counted S (step 0 0 0 0 none) p.seat.me c.take.new.seat.me c.load-count.new.seat.me c.load-count.result p.idle.hands c.take.ensures.taken c.load-count.ensures.2 in
    let w = view k.log v.mine v.share v.alone v.first true true (Some k.x) in
    let m3 = swapped S c.load-count.new.seat.me c.exchange-value.new.seat.me w _ k.stored k.is c.exchange-value.ensures.3 in
    let m4 = swapped S c.exchange-value.new.seat.me c.exchange.new.seat.me w _ _ m3 c.exchange.ensures.3 in
    let m6 = released S w _ c.exchange.new.seat.me c.fetch_add.new.seat.me c.store-2.new.seat.me m4 c.fetch_add.ensures.2 c.store-2.ensures.2 in
    let is = m6 ∙ (λ i. (view (k.log ++ (c.of-made.ensures i, c.of.ensures i) ∷ []) (v.mine ++ length k.log ∷ []) v.share v.alone v.first false false None, [])) in
    let a = after_act S v k.log c.args.call c.act-reply.result c.store-2.new.seat.me p.own k.begins k.only k.covered is in
    record { idle = a.idle; own = a.own }

pub returns-clause-told : goal.returns-clause-told
returns-clause-told g c =
    let S = g.T.Sequential.steps in
    let p = c.args.pass.now in
    let v = p.seat.me.0 in
    let k = counted S (step 0 0 0 0 none) p.seat.me c.take.new.seat.me c.load-count.new.seat.me c.load-count.result p.idle.hands c.take.ensures.taken c.load-count.ensures.2 in
    let w = view k.log v.mine v.share v.alone v.first true true (Some k.x) in
    let m3 = swapped S c.load-count.new.seat.me c.exchange-value.new.seat.me w _ k.stored k.is c.exchange-value.ensures.3 in
    let m4 = swapped S c.exchange-value.new.seat.me c.exchange.new.seat.me w _ _ m3 c.exchange.ensures.3 in
    let m6 = released S w _ c.exchange.new.seat.me c.fetch_add.new.seat.me c.store-2.new.seat.me m4 c.fetch_add.ensures.2 c.store-2.ensures.2 in
    let is = m6 ∙ (λ i. (view (k.log ++ (c.of-made.ensures i, c.of.ensures i) ∷ []) (v.mine ++ length k.log ∷ []) v.share v.alone v.first false false None, [])) in
    let a = after_act S v k.log c.args.call c.act-reply.result c.store-2.new.seat.me p.own k.begins k.only k.covered is in
    let log_is = k.begins.1 in
    let n = k.count in
    let small : length k.log < 4611686018427387904 = search (rules, n) in
    record {
      between = k.begins.0;
      room = subst (λ (l : List _). length l < 4611686018427387904) log_is small;
      seen = a.seen ∙ ap (λ (l : List _). l ++ (c.args.call, c.act-reply.result) ∷ []) log_is;
      mine = a.mine ∙ ap (λ (l : List _). v.mine ++ length l ∷ []) log_is;
      alone = a.alone;
      whole = a.whole;
      share = a.share;
    }

pub returns-clause-object : goal.returns-clause-object
returns-clause-object g c =
    let S = g.T.Sequential.steps in
    let p = c.args.pass.now in
    let v = p.seat.me.0 in
    let k = counted S (step 0 0 0 0 none) p.seat.me c.take.new.seat.me c.load-count.new.seat.me c.load-count.result p.idle.hands c.take.ensures.taken c.load-count.ensures.2 in
    let w = view k.log v.mine v.share v.alone v.first true true (Some k.x) in
    let m3 = swapped S c.load-count.new.seat.me c.exchange-value.new.seat.me w _ k.stored k.is c.exchange-value.ensures.3 in
    let m4 = swapped S c.exchange-value.new.seat.me c.exchange.new.seat.me w _ _ m3 c.exchange.ensures.3 in
    let m6 = released S w _ c.exchange.new.seat.me c.fetch_add.new.seat.me c.store-2.new.seat.me m4 c.fetch_add.ensures.2 c.store-2.ensures.2 in
    let is = m6 ∙ (λ i. (view (k.log ++ (c.of-made.ensures i, c.of.ensures i) ∷ []) (v.mine ++ length k.log ∷ []) v.share v.alone v.first false false None, [])) in
    let a = after_act S v k.log c.args.call c.act-reply.result c.store-2.new.seat.me p.own k.begins k.only k.covered is in
    let same = some_same _ _ (sym c.in-Some.is ∙ (first_value S c.load-count.new.seat.me.1 _ k.stored _ [] c.exchange-value.ensures.2 (ap (λ m. m.1) k.is) ∙ k.value)) in
    record {
      table = c.store-2.ensures.0 ∙ (c.fetch_add.ensures.0 ∙ (c.exchange.ensures.0 ∙ (c.exchange-value.ensures.0 ∙ (c.load-count.ensures.0 ∙ (c.take.ensures.object.0 ∙ c.requires.table)))));
      origin = a.first ∙ c.requires.origin;
      legal = legal_more S _ k.x c.act-reply.new.self k.log _ c.args.call c.act-reply.result a.seen (k.runs _ c.requires.origin) (subst (λ x. S x c.args.call c.act-reply.result c.act-reply.new.self) same c.act-reply.ensures);
    }

pub returns-then-count-ge-CALL_LIMIT-clause-whole : goal.returns-then-count-ge-CALL_LIMIT-clause-whole
returns-then-count-ge-CALL_LIMIT-clause-whole g c = λ h.
    let S = g.T.Sequential.steps in
    let p = c.args.pass.now in
    let v = p.seat.me.0 in
    let k = counted S (step 0 0 0 0 none) p.seat.me c.take.new.seat.me c.load-count.new.seat.me c.load-count.result p.idle.hands c.take.ensures.taken c.load-count.ensures.2 in
    let a = after_none S v k.log true (Some k.x) (0, k.stored) c.load-count.new.seat.me c.store.new.seat.me p.own k.begins k.only k.covered k.is c.store.ensures.2 in
    (a.alone ∙ h.0, a.whole h.0)

pub returns-clause-whole : goal.returns-clause-whole
returns-clause-whole g c = λ h.
    let S = g.T.Sequential.steps in
    let p = c.args.pass.now in
    let v = p.seat.me.0 in
    let k = counted S (step 0 0 0 0 none) p.seat.me c.take.new.seat.me c.load-count.new.seat.me c.load-count.result p.idle.hands c.take.ensures.taken c.load-count.ensures.2 in
    let w = view k.log v.mine v.share v.alone v.first true true (Some k.x) in
    let m3 = swapped S c.load-count.new.seat.me c.exchange-value.new.seat.me w _ k.stored k.is c.exchange-value.ensures.3 in
    let m4 = swapped S c.exchange-value.new.seat.me c.exchange.new.seat.me w _ _ m3 c.exchange.ensures.3 in
    let m6 = released S w _ c.exchange.new.seat.me c.fetch_add.new.seat.me c.store-2.new.seat.me m4 c.fetch_add.ensures.2 c.store-2.ensures.2 in
    let is = m6 ∙ (λ i. (view (k.log ++ (c.of-made.ensures i, c.of.ensures i) ∷ []) (v.mine ++ length k.log ∷ []) v.share v.alone v.first false false None, [])) in
    let a = after_act S v k.log c.args.call c.act-reply.result c.store-2.new.seat.me p.own k.begins k.only k.covered is in
    (a.alone ∙ h.0, a.whole h.0)
