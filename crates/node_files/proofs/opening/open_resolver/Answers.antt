use Rattle.std.proofs.Common.{◌≡◌, Bor, Option, Some, None, true, false, ⊎_elim, ap, sym, ◌∙◌, subst}
use Rattle.std.specs.Prelude.{IsSome, is_some, not, option_copied, option_map}
use Rattle.std.proofs.lemmas.Result.{err_from_is_err_and}
use Rattle.node_files.specs.NodeFiles.{IsResolver}
use Rattle.node_files.proofs.NodeLaws.{answers_on, one_node}
use Rattle.node_files.proofs.opening.open_resolver.Goals as goal

absent : {X Y : Type 0} (f : X → Y) (o : Option (Bor X)) (told : Option Y) → option_map f (option_copied o) ≡ told → is_some o ≡ false → ¬ IsSome told
absent f (Some x) told made none = cc none
absent f None told made none = λ some. let gone : false ≡ true = subst IsSome (sym made) some in cc gone

pub returns-in_err-registry-clause-node : goal.returns-in_err-registry-clause-node
returns-in_err-registry-clause-node g c =
    let p = err_from_is_err_and c.from_residual.result c.from_residual.ensures.1 in
    rw (p.1, p.2) (answers_on (g.D.Store.files c.args.store.now) _ _ c.in_err-registry.field-0.0 (λ node it. (node, it.0)) c.in_err-registry.ensures.node)

pub returns-then-is_none-clause-node : goal.returns-then-is_none-clause-node
returns-then-is_none-clause-node g c = λ node it. ⊎_elim (λ untold. untold)
    (λ same. absurd (absent _ _ _ c.resolver_config.ensures (c.is_none.ensures ∙ ap not c.if-is_none.true) (subst IsResolver same it.1)))
    (one_node (g.D.Store.files c.args.store.now) c.args.config.now node c.in_ok-registry.registry it.0 c.in_ok-registry.ensures.node)
