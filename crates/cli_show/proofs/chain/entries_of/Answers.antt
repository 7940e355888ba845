use Rattle.std.proofs.Common.{◌++◌, ◌+◌, ap, ◌∙◌}
use Rattle.cli_show.specs.Views.{entry}
use Rattle.cli_show.proofs.ChainLaws.{entries-more, refused-more}
use Rattle.cli_show.proofs.chain.entries_of.Goals as goal

pub loop-text-preserved : goal.loop-text-preserved
loop-text-preserved c =
    let text = c.as_slice.result.now in
    let item = c.text-item.result in
    let is = c.as_slice.ensures ∙ c.text-item.is in
    record {
      shown = entries-more c.args.texts.now c.loop-text.text-index text item c.loop-text.out c.append_entry.new.out c.loop-text-test.true is c.loop-text.invariant.shown
          (c.in_ok-refused.ensures.appended ∙ ap (λ p. c.loop-text.out ++ entry p text) c.loop-text.invariant.counted);
      refused = refused-more c.args.texts.now c.loop-text.text-index text item c.loop-text.any c.in_ok-refused.refused c.either-any.result c.loop-text-test.true is
          c.loop-text.invariant.refused c.in_ok-refused.ensures.refused c.either-any.ensures;
      counted = ap (λ n. n + 1) c.loop-text.invariant.counted;
    }
