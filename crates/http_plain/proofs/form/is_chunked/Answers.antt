use Rattle.std.proofs.Common.{rules}
use Rattle.http_plain.proofs.form.is_chunked.Goals as goal

pub returns-in-Once : goal.returns-in-Once
returns-in-Once c = search rules
