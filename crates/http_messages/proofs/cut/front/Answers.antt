use Rattle.std.proofs.Common.{◌≡◌, ◌∙◌, ap, length, min, rules, take}
use Rattle.std.proofs.lemmas.List.{take_min}
use Rattle.http_messages.specs.Heads.{head_end, head_limit}
use Rattle.http_messages.proofs.Cutting.{front_within}
use Rattle.http_messages.proofs.cut.front.Goals as goal

pub returns-clause-found : goal.returns-clause-found
returns-clause-found c =
    let x = c.args.bytes.now in
    let n : c.min.result ≡ min head_limit (length x) = search rules in
    c.head_end.ensures ∙ ap (λ k. head_end (take k x)) n ∙ ap head_end (take_min head_limit x)

pub returns-clause-within : goal.returns-clause-within
returns-clause-within c =
    let x = c.args.bytes.now in
    let n : c.min.result ≡ min head_limit (length x) = search rules in
    front_within x c.head_end.result (c.head_end.ensures ∙ ap (λ k. head_end (take k x)) n ∙ ap head_end (take_min head_limit x))
