use Rattle.std.proofs.Common.{◌≡◌, ◌≤◌, ◌-◌, ℕ, List, length, take, drop, true, false, rules, sym, ap, ◌∙◌, arith, drop_of_length-le, take_all}
use Rattle.std.proofs.lemmas.List.{drop-drop, length-drop, length-take-le}
use Rattle.chunked_body.specs.Readers.{is_over, reading}
use Rattle.chunked_body.specs.Readings.{is_final, run, start}
use Rattle.chunked_body.proofs.Running.{run_append, run_falls, run_final, run_open, run_parts}
use Rattle.chunked_body.proofs.reader.ChunkReader.take.Goals as goal

whole : (x : List ℕ) (i : ℕ) → take (length x - i) (drop i x) ≡ drop i x
whole x i = take_all (length x - i) (drop i x) (omega (arith, length-drop i x))

pub loop-at-preserved : goal.loop-at-preserved
loop-at-preserved c =
    let old = c.loop-at.invariant in
    let n = c.in_ok-at.field-0 in
    let rest = drop c.loop-at.at c.args.piece.now in
    let all = whole c.args.piece.now c.loop-at.at in
    let read = c.in_ok-at.ensures.read ∙ ap (λ y. run (reading c.loop-at.self) (take n y)) all in
    let within = c.in_ok-at.ensures.within in
    let left = length-drop c.loop-at.at c.args.piece.now in
    let inside : n ≤ length rest = omega (arith, within.1, ap length all) in
    let size : length (take n rest) ≡ n = length-take-le n rest inside in
    let going : is_over c.loop-at.self ≡ false = search rules in
    let before = old.room going in
    let falls = run_falls (reading c.loop-at.self) (take n rest) in
    let room = ap (λ d. d.room) read in
    record {
      inside = omega (arith, inside, left, old.inside);
      rest = ap (run (reading c.take_some.new.self)) (sym (drop-drop n c.loop-at.at c.args.piece.now)) ∙ run_parts (reading c.loop-at.self) (reading c.take_some.new.self) rest n read ∙ old.rest;
      least = omega (arith, room, falls, old.least);
      room = λ e. let went = run_open (reading c.loop-at.self) (take n rest) (sym (ap (λ d. is_final d.place) read) ∙ e) in omega (arith, room, went, size, before);
    }

pub returns-else-not-is_over-clause-read : goal.returns-else-not-is_over-clause-read
returns-else-not-is_over-clause-read c x h =
    let done : is_final c.loop-at.self.place ≡ true = search rules in
    sym (run_final (reading c.loop-at.self) (drop c.loop-at.at c.args.piece.now) done) ∙ c.loop-at.invariant.rest ∙ ap (λ d. run d c.args.piece.now) h ∙ sym (run_append start x c.args.piece.now)

pub returns-after-loop-at-clause-read : goal.returns-after-loop-at-clause-read
unfolding run
returns-after-loop-at-clause-read c x h =
    let all = drop_of_length-le c.args.piece.now (search rules) in
    sym (ap (run (reading c.loop-at.self)) all) ∙ c.loop-at.invariant.rest ∙ ap (λ d. run d c.args.piece.now) h ∙ sym (run_append start x c.args.piece.now)
