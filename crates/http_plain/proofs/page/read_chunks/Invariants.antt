use Rattle.std.proofs.Common.{◌≡◌, ◌≤◌, ℕ, ◌+◌, false, List, ◌++◌, length, cond}
use Rattle.chunked_body.specs.Grammar.{form_limit}
use Rattle.chunked_body.specs.Readers.{HasRead, is_over, room_of}
use Rattle.http_messages.specs.Asked.{asked_of}
use Rattle.http_plain.specs.Pages.{chunks_limit}
use Rattle.http_plain.proofs.page.read_chunks.Given as goal

abbrev pub invariant-loop-ended : goal.invariant-loop-ended
invariant-loop-ended g l = let flow = g.I.Inflow in record {
  ready : flow.ready l.from;
  came : (got : List ℕ) × flow.came l.fn.from l.from got l.ended × HasRead l.chunks (l.text ++ got)
      × (is_over l.chunks ≡ false → length (l.text ++ got) + room_of l.chunks ≤ form_limit) × (length (l.text ++ got) ≤ chunks_limit);
  room : length l.buffer ≡ length l.fn.buffer;
  asked : asked_of (flow.told l.from) ≡ asked_of (flow.told l.fn.from);
  still : flow.fixed_of l.from ≡ flow.fixed_of l.fn.from;
  faults : flow.in_faults l.from ≡ flow.in_faults l.fn.from;
}

abbrev pub decreases-loop-ended : goal.decreases-loop-ended
decreases-loop-ended g l = cond l.ended 0 (1 + cond (is_over l.chunks) 0 (1 + room_of l.chunks))
