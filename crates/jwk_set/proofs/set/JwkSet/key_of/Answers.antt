use Rattle.std.proofs.Common.{◌≡◌, ◌<◌, ◌≤◌, length, get_or, bytes_eq, false, ◌&&◌, Option, List, ℕ, Some, ◌↔◌, Contains, sym, ap, ap₂, ◌∙◌, subst}
use Rattle.jwk_set.specs.declared.jwk.Jwk.TheVariants.{Own}
use Rattle.jwk_set.specs.KeySets.{is_one_algorithm}
use Rattle.jwk_set.proofs.Names.{key_named-iff, named_here, named_past_own, named_past_foreign, named_none, same_is}
use Rattle.jwk_set.proofs.set.JwkSet.key_of.Goals as goal
use Rattle.jwk_set.proofs.set.JwkSet.key_of.Goals.{in-Foreign, in-Own+else-eq, else-eq-via-then-eq+else-eq-2, else-eq-via-else-eq}

pub returns-then-eq-2-clause-exact : goal.returns-then-eq-2-clause-exact
returns-then-eq-2-clause-exact c =
    let items = c.as_slice-key-items.ensures in
    named_here c.args.kid.now c.in-Own.name c.args.alg c.in-Own.own c.in-Own.public c.args.self.now.keys c.loop-key.key-index c.key-item.result c.loop-key.invariant
    (subst (λ xs. c.loop-key.key-index < length xs) items c.loop-key-test.true) (c.key-item.is ∙ ap (λ xs. get_or xs c.loop-key.key-index c.key-item.result) items) c.in-Own.is
    (ap₂ (λ a b. a && b) (c.if-eq.ensures ∙ ap₂ bytes_eq c.as_slice.ensures c.as_slice-in-Own.ensures) (c.if-eq-2.ensures ∙ same_is c.in-Own.own c.args.alg))

pub returns-then-eq-2-clause-named : goal.returns-then-eq-2-clause-named
returns-then-eq-2-clause-named c public =
    let P : Option (List ℕ) → Type 0 = λ o. (o ≡ Some public) ↔ Contains c.args.self.now.keys (Own c.args.kid.now c.args.alg public) in
    subst P (sym (returns-then-eq-2-clause-exact c)) (key_named-iff c.args.kid.now c.args.alg public c.args.self.now.keys c.args.self.now.distinct)

pub loop-key-preserved : goal.loop-key-preserved
loop-key-preserved c =
    let items = c.as_slice-key-items.ensures in
    let within = subst (λ xs. c.loop-key.key-index < length xs) items c.loop-key-test.true in
    let item = c.key-item.is ∙ ap (λ xs. get_or xs c.loop-key.key-index c.key-item.result) items in
    elim c.match-key.branch [
      | in-Foreign w ↦ named_past_foreign c.args.kid.now c.args.alg w.in-Foreign.field-0 c.args.self.now.keys c.loop-key.key-index c.key-item.result c.loop-key.invariant within item w.in-Foreign.is
      | in-Own+else-eq w ↦
          let name = ap₂ bytes_eq w.as_slice.ensures w.as_slice-in-Own.ensures in
          let other : false ≡ (bytes_eq w.in-Own.name c.args.kid.now && is_one_algorithm w.in-Own.own c.args.alg) = elim w.else-eq.branch [
            | else-eq-via-then-eq+else-eq-2 v ↦ ap₂ (λ a b. a && b) (v.if-eq.ensures ∙ name) (v.if-eq-2.ensures ∙ same_is w.in-Own.own c.args.alg)
            | else-eq-via-else-eq v ↦ ap (λ b. b && is_one_algorithm w.in-Own.own c.args.alg) (v.if-eq.ensures ∙ name)
          ] in
          named_past_own c.args.kid.now w.in-Own.name c.args.alg w.in-Own.own w.in-Own.public c.args.self.now.keys c.loop-key.key-index c.key-item.result c.loop-key.invariant within item w.in-Own.is other
    ]

pub returns-clause-exact : goal.returns-clause-exact
returns-clause-exact c =
    named_none c.args.kid.now c.args.alg c.args.self.now.keys c.loop-key.key-index c.loop-key.invariant
    (subst (λ xs. length xs ≤ c.loop-key.key-index) c.as_slice-key-items.ensures c.loop-key-test.false)

pub returns-clause-named : goal.returns-clause-named
returns-clause-named c public =
    let P : Option (List ℕ) → Type 0 = λ o. (o ≡ Some public) ↔ Contains c.args.self.now.keys (Own c.args.kid.now c.args.alg public) in
    subst P (sym (returns-clause-exact c)) (key_named-iff c.args.kid.now c.args.alg public c.args.self.now.keys c.args.self.now.distinct)
