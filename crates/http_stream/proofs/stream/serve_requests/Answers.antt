use Rattle.std.proofs.Common.{arith, ◌≡◌, ◌∙◌, ◌-◌, ◌||◌, Err, Ok, ap, false, inl, inr, nat_eq, refl, rules, subst, sym, true}
use Rattle.std.proofs.lemmas.Result.{err_from_is_err_and}
use Rattle.http_messages.specs.Cuts.{IsCut}
use Rattle.http_stream.specs.Conversations.{AnswersOne, Serves, stream_at}
use Rattle.http_stream.proofs.Serving.{SoFar, one_left, serves_broken, serves_cut, serves_end, serves_last, sides, so_answered, so_read, used_within}
use Rattle.http_stream.proofs.stream.serve_requests.Goals.{else-is_empty, else-last, then-is_empty, then-last}
use Rattle.http_stream.proofs.stream.serve_requests.Goals as goal

pub returns-in_err-asked-clause-served : goal.returns-in_err-asked-clause-served
returns-in_err-asked-clause-served g c =
    let source = g.P.Source in
    let sink = g.P.Sink in
    let law = g.met.P.Peer.source_side_is in
    let a = c.loop-inbox.peer in
    let b = c.next_cut.new.from in
    let same = sides _ _ _ _ _ _ (law a) (law b) c.next_cut.ensures.side in
    let p = err_from_is_err_and c.from_residual.result c.from_residual.ensures.1 in
    let start = stream_at (source.left c.args.peer.now) (sink.held c.args.peer.now) (source.read_faults c.args.peer.now) (sink.write_faults c.args.peer.now) (g.A.Answerer.at c.args.answerer.now) in
    let before = stream_at (source.left a) (sink.held a) (source.read_faults a) (sink.write_faults a) (g.A.Answerer.at c.loop-inbox.answerer) in
    let after = stream_at (source.left b) (sink.held b) (source.read_faults b) (sink.write_faults b) (g.A.Answerer.at c.loop-inbox.answerer) in
    subst (λ r. Serves g.A.Answerer.step g.A.Answerer.gives_up c.args.most start after r) (sym (p.1 ∙ ap Err p.2))
    (serves_cut g.A.Answerer.step g.A.Answerer.gives_up c.args.most c.loop-inbox.left start before after
    c.loop-inbox.inbox c.next_cut.new.inbox c.in_err-asked.field-0.0 c.loop-inbox.invariant.some c.loop-inbox.invariant.so_far c.in_err-asked.ensures.cuts same.0 refl c.loop-inbox.invariant.reads
    c.in_err-asked.ensures.cause (same.1 ∙ c.loop-inbox.invariant.writes))

pub returns-in_default-clause-served : goal.returns-in_default-clause-served
returns-in_default-clause-served g c =
    let source = g.P.Source in
    let sink = g.P.Sink in
    let law = g.met.P.Peer.source_side_is in
    let a = c.loop-inbox.peer in
    let b = c.next_cut.new.from in
    let same = sides _ _ _ _ _ _ (law a) (law b) c.next_cut.ensures.side in
    serves_end g.A.Answerer.step g.A.Answerer.gives_up c.args.most c.loop-inbox.left
    (stream_at (source.left c.args.peer.now) (sink.held c.args.peer.now) (source.read_faults c.args.peer.now) (sink.write_faults c.args.peer.now) (g.A.Answerer.at c.args.answerer.now))
    (stream_at (source.left a) (sink.held a) (source.read_faults a) (sink.write_faults a) (g.A.Answerer.at c.loop-inbox.answerer))
    (stream_at (source.left b) (sink.held b) (source.read_faults b) (sink.write_faults b) (g.A.Answerer.at c.loop-inbox.answerer))
    c.loop-inbox.inbox c.next_cut.new.inbox c.in_ok-asked.field-0 c.if-is_empty.result c.loop-inbox.invariant.some c.loop-inbox.invariant.so_far c.in_ok-asked.ensures.cuts c.in_default.is same.0 refl
    (c.in_ok-asked.ensures.cause ∙ c.loop-inbox.invariant.reads) (same.1 ∙ c.loop-inbox.invariant.writes)
    (elim c.if-is_empty.branch [ then-is_empty w ↦ inl (search rules, w.result-is) | else-is_empty w ↦ inr (search rules, w.result-is) ])

pub skip-requires : goal.skip-requires
skip-requires g c = used_within c.next_cut.new.inbox c.in-Whole.asked c.in-Whole.last c.in-Whole.used (subst (IsCut c.next_cut.new.inbox) c.in-Whole.is c.in_ok-asked.ensures.cuts.is_cut)

pub returns-in_err-answer_one-clause-served : goal.returns-in_err-answer_one-clause-served
returns-in_err-answer_one-clause-served g c =
    let source = g.P.Source in
    let sink = g.P.Sink in
    let a = c.loop-inbox.peer in
    let b = c.next_cut.new.from in
    let d = c.answer_one.new.to in
    let same = sides _ _ _ _ _ _ (g.met.P.Peer.source_side_is a) (g.met.P.Peer.source_side_is b) c.next_cut.ensures.side in
    let other = sides _ _ _ _ _ _ (g.met.P.Peer.sink_side_is b) (g.met.P.Peer.sink_side_is d) c.answer_one.ensures.side in
    let start = stream_at (source.left c.args.peer.now) (sink.held c.args.peer.now) (source.read_faults c.args.peer.now) (sink.write_faults c.args.peer.now) (g.A.Answerer.at c.args.answerer.now) in
    let before = stream_at (source.left a) (sink.held a) (source.read_faults a) (sink.write_faults a) (g.A.Answerer.at c.loop-inbox.answerer) in
    let read = stream_at (source.left b) (sink.held b) (source.read_faults b) (sink.write_faults b) (g.A.Answerer.at c.loop-inbox.answerer) in
    let after = stream_at (source.left d) (sink.held d) (source.read_faults d) (sink.write_faults d) (g.A.Answerer.at c.answer_one.new.answerer) in
    let cuts = c.in_ok-asked.ensures.cuts in
    let is = subst (IsCut c.next_cut.new.inbox) c.in-Whole.is cuts.is_cut in
    let so = so_read g.A.Answerer.step c.args.most c.loop-inbox.left start before read c.loop-inbox.inbox c.next_cut.new.inbox cuts.got c.loop-inbox.invariant.some c.loop-inbox.invariant.so_far cuts.gave same.0 refl cuts.adds cuts.few in
    let word : c.if-last.is_last ≡ (c.in-Whole.last || nat_eq c.loop-inbox.left 1) = elim c.if-last.branch [ then-last w ↦ search rules | else-last w ↦ search rules ] in
    let p = err_from_is_err_and c.from_residual-in_err-answer_one.result c.from_residual-in_err-answer_one.ensures.1 in
    subst (λ r. Serves g.A.Answerer.step g.A.Answerer.gives_up c.args.most start after r) (sym (p.1 ∙ ap Err p.2))
    (serves_broken g.A.Answerer.step g.A.Answerer.gives_up c.args.most c.loop-inbox.left start read after c.next_cut.new.inbox c.in-Whole.asked c.in-Whole.last c.if-last.is_last c.in-Whole.used c.in_err-answer_one.field-0.0 so is word
    other.0 c.in_err-answer_one.ensures.answers (other.1 ∙ c.in_ok-asked.ensures.cause ∙ c.loop-inbox.invariant.reads) (same.1 ∙ c.loop-inbox.invariant.writes) c.in_err-answer_one.ensures.cause)

pub returns-then-is_last-clause-served : goal.returns-then-is_last-clause-served
returns-then-is_last-clause-served g c =
    let source = g.P.Source in
    let sink = g.P.Sink in
    let a = c.loop-inbox.peer in
    let b = c.next_cut.new.from in
    let d = c.answer_one.new.to in
    let same = sides _ _ _ _ _ _ (g.met.P.Peer.source_side_is a) (g.met.P.Peer.source_side_is b) c.next_cut.ensures.side in
    let other = sides _ _ _ _ _ _ (g.met.P.Peer.sink_side_is b) (g.met.P.Peer.sink_side_is d) c.answer_one.ensures.side in
    let start = stream_at (source.left c.args.peer.now) (sink.held c.args.peer.now) (source.read_faults c.args.peer.now) (sink.write_faults c.args.peer.now) (g.A.Answerer.at c.args.answerer.now) in
    let before = stream_at (source.left a) (sink.held a) (source.read_faults a) (sink.write_faults a) (g.A.Answerer.at c.loop-inbox.answerer) in
    let read = stream_at (source.left b) (sink.held b) (source.read_faults b) (sink.write_faults b) (g.A.Answerer.at c.loop-inbox.answerer) in
    let after = stream_at (source.left d) (sink.held d) (source.read_faults d) (sink.write_faults d) (g.A.Answerer.at c.answer_one.new.answerer) in
    let cuts = c.in_ok-asked.ensures.cuts in
    let is = subst (IsCut c.next_cut.new.inbox) c.in-Whole.is cuts.is_cut in
    let so = so_read g.A.Answerer.step c.args.most c.loop-inbox.left start before read c.loop-inbox.inbox c.next_cut.new.inbox cuts.got c.loop-inbox.invariant.some c.loop-inbox.invariant.so_far cuts.gave same.0 refl cuts.adds cuts.few in
    let word : c.if-last.is_last ≡ (c.in-Whole.last || nat_eq c.loop-inbox.left 1) = elim c.if-last.branch [ then-last w ↦ search rules | else-last w ↦ search rules ] in
    serves_last g.A.Answerer.step g.A.Answerer.gives_up c.args.most c.loop-inbox.left _ start read after c.next_cut.new.inbox c.in-Whole.asked c.in-Whole.last c.in-Whole.used c.loop-inbox.invariant.some so is
    (sym word ∙ c.if-is_last.true) other.0 refl c.loop-inbox.invariant.within
    (subst (λ b. AnswersOne g.A.Answerer.step g.A.Answerer.gives_up b read.held after.held read.at c.in-Whole.asked after.at (Ok tt)) c.if-is_last.true c.in_ok-answer_one.ensures.answers)
    (other.1 ∙ c.in_ok-asked.ensures.cause ∙ c.loop-inbox.invariant.reads) (c.in_ok-answer_one.ensures.cause ∙ same.1 ∙ c.loop-inbox.invariant.writes)

pub loop-inbox-preserved-else-is_last : goal.loop-inbox-preserved-else-is_last
loop-inbox-preserved-else-is_last g c =
    let source = g.P.Source in
    let sink = g.P.Sink in
    let a = c.loop-inbox.peer in
    let b = c.next_cut.new.from in
    let d = c.answer_one.new.to in
    let same = sides _ _ _ _ _ _ (g.met.P.Peer.source_side_is a) (g.met.P.Peer.source_side_is b) c.next_cut.ensures.side in
    let other = sides _ _ _ _ _ _ (g.met.P.Peer.sink_side_is b) (g.met.P.Peer.sink_side_is d) c.answer_one.ensures.side in
    let start = stream_at (source.left c.args.peer.now) (sink.held c.args.peer.now) (source.read_faults c.args.peer.now) (sink.write_faults c.args.peer.now) (g.A.Answerer.at c.args.answerer.now) in
    let before = stream_at (source.left a) (sink.held a) (source.read_faults a) (sink.write_faults a) (g.A.Answerer.at c.loop-inbox.answerer) in
    let read = stream_at (source.left b) (sink.held b) (source.read_faults b) (sink.write_faults b) (g.A.Answerer.at c.loop-inbox.answerer) in
    let after = stream_at (source.left d) (sink.held d) (source.read_faults d) (sink.write_faults d) (g.A.Answerer.at c.answer_one.new.answerer) in
    let cuts = c.in_ok-asked.ensures.cuts in
    let is = subst (IsCut c.next_cut.new.inbox) c.in-Whole.is cuts.is_cut in
    let so = so_read g.A.Answerer.step c.args.most c.loop-inbox.left start before read c.loop-inbox.inbox c.next_cut.new.inbox cuts.got c.loop-inbox.invariant.some c.loop-inbox.invariant.so_far cuts.gave same.0 refl cuts.adds cuts.few in
    let word : c.if-last.is_last ≡ (c.in-Whole.last || nat_eq c.loop-inbox.left 1) = elim c.if-last.branch [ then-last w ↦ search rules | else-last w ↦ search rules ] in
    let kept = sym word ∙ c.if-is_last.false in
    let h = subst (λ b. AnswersOne g.A.Answerer.step g.A.Answerer.gives_up b read.held after.held read.at c.in-Whole.asked after.at (Ok tt)) c.if-is_last.false c.in_ok-answer_one.ensures.answers in
    record {
      ready = c.answer_one.ensures.ready;
      some = one_left c.in-Whole.last c.loop-inbox.left kept c.loop-inbox.invariant.some;
      within = let within = c.loop-inbox.invariant.within in omega (arith, within);
      reads = other.1 ∙ c.in_ok-asked.ensures.cause ∙ c.loop-inbox.invariant.reads;
      writes = c.in_ok-answer_one.ensures.cause ∙ same.1 ∙ c.loop-inbox.invariant.writes;
      so_far = subst (λ x. SoFar g.A.Answerer.step c.args.most (c.loop-inbox.left - 1) (c.loop-inbox.left - 1) start after x) (sym c.skip.ensures)
          (so_answered g.A.Answerer.step c.args.most c.loop-inbox.left start read after c.next_cut.new.inbox c.in-Whole.asked c.in-Whole.last c.in-Whole.used c.loop-inbox.invariant.some so is kept other.0 h.0 h.1 h.2 h.3 h.4);
    }

pub loop-inbox-preserved-else-is_last-2 : goal.loop-inbox-preserved-else-is_last-2
loop-inbox-preserved-else-is_last-2 g c =
    let source = g.P.Source in
    let sink = g.P.Sink in
    let a = c.loop-inbox.peer in
    let b = c.next_cut.new.from in
    let d = c.answer_one.new.to in
    let same = sides _ _ _ _ _ _ (g.met.P.Peer.source_side_is a) (g.met.P.Peer.source_side_is b) c.next_cut.ensures.side in
    let other = sides _ _ _ _ _ _ (g.met.P.Peer.sink_side_is b) (g.met.P.Peer.sink_side_is d) c.answer_one.ensures.side in
    let start = stream_at (source.left c.args.peer.now) (sink.held c.args.peer.now) (source.read_faults c.args.peer.now) (sink.write_faults c.args.peer.now) (g.A.Answerer.at c.args.answerer.now) in
    let before = stream_at (source.left a) (sink.held a) (source.read_faults a) (sink.write_faults a) (g.A.Answerer.at c.loop-inbox.answerer) in
    let read = stream_at (source.left b) (sink.held b) (source.read_faults b) (sink.write_faults b) (g.A.Answerer.at c.loop-inbox.answerer) in
    let after = stream_at (source.left d) (sink.held d) (source.read_faults d) (sink.write_faults d) (g.A.Answerer.at c.answer_one.new.answerer) in
    let cuts = c.in_ok-asked.ensures.cuts in
    let is = subst (IsCut c.next_cut.new.inbox) c.in-Whole.is cuts.is_cut in
    let so = so_read g.A.Answerer.step c.args.most c.loop-inbox.left start before read c.loop-inbox.inbox c.next_cut.new.inbox cuts.got c.loop-inbox.invariant.some c.loop-inbox.invariant.so_far cuts.gave same.0 refl cuts.adds cuts.few in
    let word : c.if-last.is_last ≡ (c.in-Whole.last || nat_eq c.loop-inbox.left 1) = elim c.if-last.branch [ then-last w ↦ search rules | else-last w ↦ search rules ] in
    let kept = sym word ∙ c.if-is_last.false in
    let h = subst (λ b. AnswersOne g.A.Answerer.step g.A.Answerer.gives_up b read.held after.held read.at c.in-Whole.asked after.at (Ok tt)) c.if-is_last.false c.in_ok-answer_one.ensures.answers in
    record {
      ready = c.answer_one.ensures.ready;
      some = one_left c.in-Whole.last c.loop-inbox.left kept c.loop-inbox.invariant.some;
      within = let within = c.loop-inbox.invariant.within in omega (arith, within);
      reads = other.1 ∙ c.in_ok-asked.ensures.cause ∙ c.loop-inbox.invariant.reads;
      writes = c.in_ok-answer_one.ensures.cause ∙ same.1 ∙ c.loop-inbox.invariant.writes;
      so_far = subst (λ x. SoFar g.A.Answerer.step c.args.most (c.loop-inbox.left - 1) (c.loop-inbox.left - 1) start after x) (sym c.skip.ensures)
          (so_answered g.A.Answerer.step c.args.most c.loop-inbox.left start read after c.next_cut.new.inbox c.in-Whole.asked c.in-Whole.last c.in-Whole.used c.loop-inbox.invariant.some so is kept other.0 h.0 h.1 h.2 h.3 h.4);
    }
