use Rattle.std.proofs.Common.{◌≡◌, ◌∷◌, [], List, ℕ, ◌∙◌, ap, codes, rules}
use Rattle.fed_json.specs.Compact.{compact}
use Rattle.fed_json.specs.Members.{text_member}
use Rattle.fed_json.specs.declared.tree.Json.{Object}
use Rattle.http_messages.specs.declared.response.Media.TheVariants.{Json}
use Rattle.http_messages.specs.declared.response.Response.{Response}
use Rattle.authority_core.proofs.Wholes.{refusal_whole}
use Rattle.authority_core.proofs.answers.not_found.Goals as goal

refused : List ℕ → Response
refused body = record { status = 404; media = Json; body = body }

pub write_tree-requires : goal.write_tree-requires
write_tree-requires c =
    let is : c.push-2.new.self ≡ text_member (codes "error") (codes "not_found") ∷ text_member (codes "error_description") (codes "no such entity") ∷ [] = search rules in
    refusal_whole c.push-2.new.self is

pub returns : goal.returns
unfolding refused
returns c =
    let is : c.push-2.new.self ≡ text_member (codes "error") (codes "not_found") ∷ text_member (codes "error_description") (codes "no such entity") ∷ [] = search rules in
    ap refused (c.in_ok-body.ensures.text ∙ ap (λ ms. compact (Object ms)) is)
