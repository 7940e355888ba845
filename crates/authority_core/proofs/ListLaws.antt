-- The list of subordinates.
use Rattle.std.proofs.Common.{◌≡◌, ap}
use Rattle.fed_json.specs.Compact.{compact}
use Rattle.fed_json.specs.declared.tree.Json.{Json, List as ListOf}
use Rattle.http_messages.specs.declared.response.Media.TheVariants.{Json as JsonMedia}
use Rattle.authority_core.specs.Answers.{good, list_response}
use Rattle.authority_core.specs.Issued.{ids_of, list_tree}
use Rattle.authority_core.specs.Nodes.{Node}
use Rattle.authority_core.specs.declared.query.ListQuery.{ListQuery}

pub list-is : (node : Node) (query : ListQuery) (tree : Json) → tree ≡ ListOf (ids_of query node.settings.subordinates) → good JsonMedia (compact tree) ≡ list_response node query
unfolding list_response list_tree
list-is node query tree is = ap (λ x. good JsonMedia (compact x)) is
