use Rattle.std.proofs.Common.{◌∙◌, sym}
use Rattle.http_plain.proofs.WebUrls.{none_in, some_in}
use Rattle.http_plain.proofs.target.web_url.Goals as goal

pub returns-in_default : goal.returns-in_default
returns-in_default c = none_in c.args.text.now c.in_default.ensures.cases.0

pub returns-then-is_web : goal.returns-then-is_web
returns-then-is_web c =
    some_in c.args.text.now c.in-Ok.text.now c.in-Ok-parse.url c.in-Ok.ensures.cases.1 c.in-Ok.ensures.cases.0 c.in-Ok-parse.ensures (sym c.is_web.ensures ∙ c.if-is_web.true)
