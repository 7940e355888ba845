use Rattle.std.proofs.Common.{◌≡◌, ◌∙◌, IfOk, map, ap, subst}
use Rattle.fed_json.specs.declared.tree.Json.{List as ListOf}
use Rattle.node_config.specs.Told.{told_subordinate}
use Rattle.authority_core.specs.Answers.{list_response}
use Rattle.authority_core.specs.Issued.{ids_of}
use Rattle.authority_core.specs.Nodes.{node_of}
use Rattle.authority_core.proofs.ListLaws.{list-is}
use Rattle.authority_core.proofs.registry.Registry.list.Goals as goal

pub returns : goal.returns
returns c =
    let node = node_of c.self.inside.config c.self.inside.ring in
    subst (λ n. IfOk c.json.result (λ x. x ≡ list_response n c.args.query.now)) c.self.view_is
    (subst (λ y. IfOk c.json.result (λ x. x ≡ y))
    (list-is node c.args.query.now c.in_ok-ids.ids (c.in_ok-ids.ensures.tree ∙ ap (λ l. ListOf (ids_of c.args.query.now (map told_subordinate l))) c.as_slice.ensures)) c.json.ensures)
