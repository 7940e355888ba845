use Rattle.std.proofs.Common.{rules}
use Rattle.fed_json.proofs.forms.in_bounds.Goals as goal

pub returns-then-n-ge-LEAST : goal.returns-then-n-ge-LEAST
returns-then-n-ge-LEAST c = search rules
