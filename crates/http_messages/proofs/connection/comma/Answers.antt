use Rattle.std.proofs.Common.{length, sym, arith, rules}
use Rattle.std.proofs.lemmas.List.Sums.{position_or_len_is}
use Rattle.http_messages.specs.Connections.{is_comma}
use Rattle.http_messages.proofs.connection.comma.Goals as goal

pub returns-in-Some-clause-value : goal.returns-in-Some-clause-value
returns-in-Some-clause-value c = sym (position_or_len_is is_comma c.args.text.now c.in-Some.at 0 (search rules) (search rules) (search rules))

pub returns-in-None-clause-value : goal.returns-in-None-clause-value
returns-in-None-clause-value c =
    let x = c.args.text.now in
    sym (position_or_len_is is_comma x (length x) 0 (omega arith) (search rules) (search rules))
