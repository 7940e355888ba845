use Rattle.std.proofs.Common.{rules}
use Rattle.fed_json.proofs.read.number.Goals as goal

pub returns-in_default-as_i64-clause-value : goal.returns-in_default-as_i64-clause-value
returns-in_default-as_i64-clause-value c = search rules
