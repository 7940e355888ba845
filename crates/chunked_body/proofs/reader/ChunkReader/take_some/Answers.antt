use Rattle.std.proofs.Common.{◌∙◌}
use Rattle.chunked_body.specs.Readers.{reading}
use Rattle.chunked_body.proofs.Running.{run_first}
use Rattle.chunked_body.proofs.reader.ChunkReader.take_some.Goals as goal

pub returns-in_ok-take_one-in_default-clause-read : goal.returns-in_ok-take_one-in_default-clause-read
returns-in_ok-take_one-in_default-clause-read c =
    c.in_ok-take_one-in_default.ensures ∙ run_first (reading c.args.self.now) c.args.piece.now c.requires.piece c.requires.goes_on
