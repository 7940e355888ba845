use Rattle.std.proofs.Common.{ap}
use Rattle.chunked_body.specs.declared.place.Place.TheVariants.{Line}
use Rattle.chunked_body.specs.Grammar.{form_limit}
use Rattle.chunked_body.specs.Readings.{run}
use Rattle.chunked_body.proofs.Reached.{at}
use Rattle.chunked_body.proofs.reader.ChunkReader.new.Goals as goal

pub returns : goal.returns
unfolding run
returns c = ap (λ b. at Line form_limit b) c.new.ensures
