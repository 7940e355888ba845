use Rattle.std.proofs.Common.{arith, ap, ◌+◌, ◌∷◌, [], codes}
use Rattle.fed_json.specs.Members.{text_member}
use Rattle.node_config.specs.Told.{told}
use Rattle.authority_core.specs.Issued.{last_moment}
use Rattle.authority_core.specs.Lengths.{members_length}
use Rattle.authority_core.proofs.LengthLaws.{then-fits}
use Rattle.authority_core.proofs.StatementLengths.{issue-length}
use Rattle.authority_core.proofs.lengths.after_issue.Goals as goal

pub returns : goal.returns
returns c =
    then-fits c.after_keys.result c.args.room c.in_ok-rest.rest (84 + members_length (text_member (codes "iss") c.text.result.now ∷ [])) _ _ c.after_keys.ensures
    (omega (arith, c.in_ok-left.ensures.0, c.in_ok-left.ensures.1, c.in_ok-rest.ensures))
    (omega (arith, issue-length (told c.args.node.now) c.args.keys.now.keys last_moment (omega arith), ap (λ id. members_length (text_member (codes "iss") id ∷ [])) c.text.ensures.text))
