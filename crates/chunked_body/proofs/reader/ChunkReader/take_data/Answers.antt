use Rattle.std.proofs.Common.{◌≡◌, ◌≤◌, ◌<◌, ◌+◌, ◌-◌, ◌++◌, length, take, sym, ap, ◌∙◌, arith}
use Rattle.std.proofs.lemmas.List.{length-take-le}
use Rattle.chunked_body.specs.Readings.{data_place, run}
use Rattle.chunked_body.proofs.Reached.{at}
use Rattle.chunked_body.proofs.Running.{run_data}
use Rattle.chunked_body.proofs.reader.ChunkReader.take_data.Goals as goal

pub returns-clause-read : goal.returns-clause-read
returns-clause-read c =
    let old = c.args.self.now in
    let n = 1 + c.min-n.result in
    let y = take n c.args.piece.now in
    let inside : n ≤ length c.args.piece.now = omega (arith, c.min-n.ensures, c.requires.piece) in
    let size : length y ≡ n = length-take-le n c.args.piece.now inside in
    let few : length y ≤ c.args.more + 1 = omega (arith, size, c.min-n.ensures, c.min.ensures) in
    let fits : length y ≤ old.room = omega (arith, size, c.min-n.ensures, c.min.ensures, c.requires.room) in
    let some : 0 < length y = omega (arith, size) in
    ap (λ p. at p (old.room - n) c.append.new.self) c.behind-self.ensures
    ∙ ap (λ b. at (data_place c.args.more n) (old.room - n) b) c.in_ok-append.ensures.ok
    ∙ ap (λ m. at (data_place c.args.more m) (old.room - m) (old.body ++ y)) (sym size)
    ∙ sym (ap (λ p. run (at p old.room old.body) y) c.requires.place ∙ run_data c.args.more old.room old.body y some few fits)
