use Rattle.std.proofs.Common.{◌≡◌, ◌≤◌, ◌⊎◌, ◌∙◌, Err, ap, inl, inr, Bool, true, false, [], ◌++◌, length, append_assoc, append-nil, arith, refl, rules, sym, subst}
use Rattle.std.proofs.lemmas.Result.{err_from_is_err_and}
use Rattle.http_messages.specs.FlowLaws.{failed_as}
use Rattle.chunked_body.specs.Readers.{HasRead, is_over}
use Rattle.http_plain.specs.Pages.{piece_limit}
use Rattle.http_plain.specs.Shown.{ShowsRest}
use Rattle.http_plain.proofs.Exchanging.{ok_part}
use Rattle.http_plain.proofs.Showing.{begun, lacks_rest, rest_shown, spent_on}
use Rattle.http_plain.proofs.page.read_chunks.Goals.{then-loop-ended-test+else-not-is_over, else-loop-ended-test}
use Rattle.http_plain.proofs.page.read_chunks.Goals as goal

pub returns-clause-page : goal.returns-clause-page
returns-clause-page g c =
    let flow = g.I.Inflow.came c.args.from.now c.loop-ended.from in
    let so_far = c.loop-ended.invariant.came in
    let done : (is_over c.loop-ended.chunks ≡ true) ⊎ (c.loop-ended.ended ≡ true) =
    elim c.loop-ended-test.branch [ then-loop-ended-test+else-not-is_over w ↦ inl (search rules) | else-loop-ended-test w ↦ inr (search rules) ] in
    subst (ShowsRest flow c.args.text.now) (sym c.chunked_page.ensures) (rest_shown flow c.args.text.now so_far.0 c.loop-ended.ended c.loop-ended.chunks c.end.result so_far.1 so_far.2 so_far.4 c.end.ensures done)

pub loop-ended-init : goal.loop-ended-init
loop-ended-init g c =
    let text = c.args.text.now in
    let no_error = sym c.if-is_err.ensures.value in
    let limits = begun c.new-chunks.result c.take.new.self text c.new-chunks.ensures c.requires.short (ok_part c.take.result no_error c.take.ensures.room) in
    record {
      ready = search rules;
      came = (
        [],
        g.I.Inflow.came_none c.args.from.now,
        subst (HasRead c.take.new.self) (sym (append-nil text)) (ok_part c.take.result no_error c.take.ensures.read [] c.new-chunks.ensures),
        limits.0,
        limits.1,
      );
      room = refl;
      asked = refl;
      still = refl;
      faults = refl;
    }

pub loop-ended-preserved : goal.loop-ended-preserved
loop-ended-preserved g c =
    let flow = g.I.Inflow in
    let text = c.args.text.now in
    let so_far = c.loop-ended.invariant.came in
    let more = c.in_ok-ended.ensures.comes in
    let goes : c.loop-ended.ended ≡ false = search rules in
    let unended : is_over c.loop-ended.chunks ≡ false = search rules in
    let piece : length c.loop-ended.buffer ≤ piece_limit = omega (arith, c.requires.piece, c.loop-ended.invariant.room) in
    let limits = spent_on c.loop-ended.chunks c.pour_chunks.new.chunks text so_far.0 more.got (length c.loop-ended.buffer) unended piece more.few more.spends so_far.3 in
    record {
      ready = search rules;
      came = (
        so_far.0 ++ more.got,
        flow.came_on c.args.from.now c.loop-ended.from c.pour_chunks.new.from so_far.0 more.got c.in_ok-ended.ended
            (subst (flow.came c.args.from.now c.loop-ended.from so_far.0) goes so_far.1) more.came,
        subst (HasRead c.pour_chunks.new.chunks) (append_assoc text so_far.0 more.got) (more.reads (text ++ so_far.0) so_far.2),
        limits.0,
        limits.1,
      );
      room = search rules;
      asked = search rules;
      still = search rules;
      faults = search rules;
    }

pub returns-in_err-ended-clause-broke : goal.returns-in_err-ended-clause-broke
returns-in_err-ended-clause-broke g c =
    let flow = g.I.Inflow in
    let text = c.args.text.now in
    let so_far = c.loop-ended.invariant.came in
    let goes : c.loop-ended.ended ≡ false = search rules in
    let unended : is_over c.loop-ended.chunks ≡ false = search rules in
    let broke = flow.broke c.args.from.now c.pour_chunks.new.from in
    let before = subst (flow.came c.args.from.now c.loop-ended.from so_far.0) goes so_far.1 in
    let p = err_from_is_err_and c.from_residual.result c.from_residual.ensures.1 in
    failed_as Bool c.from_residual.result _ (p.1 ∙ ap Err p.2)
    (λ h. lacks_rest broke text so_far.0 c.loop-ended.chunks
    (subst broke (append-nil so_far.0) (flow.broke_on c.args.from.now c.loop-ended.from c.pour_chunks.new.from so_far.0 [] before h)) so_far.2 unended)
    c.in_err-ended.ensures.broke
