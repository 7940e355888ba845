use Rattle.std.proofs.Common.{◌∙◌}
use Rattle.fed_json.proofs.Texts.{is_ok-from_utf8}
use Rattle.fed_json.proofs.forms.is_utf8.Goals as goal

pub returns : goal.returns
returns c = c.is_ok.ensures.value ∙ is_ok-from_utf8 _ _ c.args.bytes.now c.from_utf8.result c.from_utf8.ensures.cases
