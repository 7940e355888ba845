use Rattle.http_stream.proofs.OneStream.{is_stream, not_both, one_part, one_whole}
use Rattle.http_stream.proofs.laws.one_stream.Goals as goal

pub returns : goal.returns
returns c = record { whole = one_whole; part = one_part; either = not_both; stream = is_stream }
